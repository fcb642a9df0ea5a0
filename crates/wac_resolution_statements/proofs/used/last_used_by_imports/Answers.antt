use Rattle.wac_resolution_statements.proofs.Common.{ap, string_bytes, by_name}
use Rattle.wac_resolution_statements.proofs.Last.{of_import, look_further, looked}
use Rattle.wac_resolution_statements.proofs.used.last_used_by_imports.Goals as goal

pub loop-import-preserved : goal.loop-import-preserved
loop-import-preserved c =
    look_further (of_import c.args.types.now) c.args.types.now c.args.id.now (by_name c.args.imports.now.entries) c.args.before _ (by_name c.next.new.self) (string_bytes c.in-Some.field-0-0.now, c.in-Some.import.now) c.loop-import.last c.last_used_by-last.result
    (ap by_name c.in-Some.ensures.steps) c.last_used_by-last.ensures c.loop-import.invariant

pub returns : goal.returns
returns c = looked (of_import c.args.types.now) c.args.types.now c.args.id.now (by_name c.args.imports.now.entries) c.args.before (by_name c.loop-import.import-iterator) c.loop-import.last (ap by_name c.in-None.ensures.steps.0) c.loop-import.invariant
