use Rattle.std.proofs.Common.{◌∙◌, ap}
use Rattle.wac_lexer.specs.Device.{Kept}
use Rattle.wac_calls.specs.Feed.{Reading}
use Rattle.wac_calls.proofs.Failing.{fails_of, writes_of}
use Rattle.wac_calls.proofs.commands.written_by.Goals as goal

pub returns-in-Ok-clause-ok : goal.returns-in-Ok-clause-ok
returns-in-Ok-clause-ok c =
    let written = c.in-Ok.ensures.answers.1 in
    let is = ap (λ (r : Reading). r.left) c.new-reader.ensures ∙ c.as_bytes.ensures.value in
    let empty = ap (λ (k : Kept). k.bytes) c.new-writer.ensures in
    writes_of c.args.command c.args.source.now _ _ _ _ c.into_vec.result.items written.0 c.in-Ok.ensures.reads_all is empty written.2 c.into_vec.ensures
    written.1

pub returns-in-Err-clause-err : goal.returns-in-Err-clause-err
returns-in-Err-clause-err c =
    let is = ap (λ (r : Reading). r.left) c.new-reader.ensures ∙ c.as_bytes.ensures.value in
    fails_of c.args.command c.args.source.now _ _ _ _ c.in-Err.error is c.in-Err.ensures.reads_all c.in-Err.ensures.answers c.in-Err.ensures.input
