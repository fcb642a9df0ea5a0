use Rattle.std.proofs.Common.{string_bytes, subst}
use Rattle.wac_comments.specs.Tidied.{IsPlain}
use Rattle.wac_calls.proofs.tidying.tidied.Goals as goal

pub returns-in-Ok : goal.returns-in-Ok
returns-in-Ok c =
    let plain = subst (λ o. IsPlain o c.args.source.now (string_bytes c.in-Ok.text)) c.default.ensures c.in-Ok.ensures.plain in
    rw c.into_bytes.ensures.value
    (record {
      comments = c.in-Ok.ensures.comments;
      kept = c.in-Ok.ensures.kept;
      tree = c.in-Ok.ensures.formatted;
      docs = c.in-Ok.ensures.docs;
      plain = plain;
    })

pub returns-in-Err : goal.returns-in-Err
returns-in-Err c = c.untidied.ensures c.args.source.now c.in-Err.ensures.only
