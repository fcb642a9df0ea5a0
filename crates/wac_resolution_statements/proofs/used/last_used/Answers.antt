use Rattle.wac_resolution_statements.proofs.Common.{◌∙◌, List, ap, string_bytes, option_or, InterfaceId, by_name}
use Rattle.wac_resolution_statements.specs.Used.{last_of}
use Rattle.wac_resolution_statements.proofs.Last.{interface_in, each_interface, look_further, looked}
use Rattle.wac_resolution_statements.proofs.used.last_used.Goals as goal

pub loop-used-preserved : goal.loop-used-preserved
loop-used-preserved c =
    look_further interface_in c.args.types.now c.args.id.now (by_name c.args.uses.now.entries) c.args.before _ (by_name c.next.new.self) (string_bytes c.in-Some.field-0-0.now, c.in-Some.used.now) c.loop-used.last c.found_or-last.result
    (ap by_name c.in-Some.ensures.steps) c.found_or-last.ensures c.loop-used.invariant

pub returns : goal.returns
returns c =
    looked interface_in c.args.types.now c.args.id.now (by_name c.args.uses.now.entries) c.args.before (by_name c.loop-used.used-iterator) c.loop-used.last (ap by_name c.in-None.ensures.steps.0) c.loop-used.invariant
    ∙ ap (λ (l : List InterfaceId). option_or (last_of c.args.types.now c.args.id.now l) c.args.before) (each_interface (by_name c.args.uses.now.entries))
