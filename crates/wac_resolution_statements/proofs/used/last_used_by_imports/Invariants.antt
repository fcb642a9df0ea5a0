use Rattle.wac_resolution_statements.proofs.Common.{by_name}
use Rattle.wac_resolution_statements.proofs.Last.{Looking, of_import}
use Rattle.wac_resolution_statements.proofs.used.last_used_by_imports.Given as goal

abbrev pub invariant-loop-import : goal.invariant-loop-import
invariant-loop-import l = Looking (of_import l.types) l.types l.id (by_name l.imports.entries) l.fn.before (by_name l.import-iterator) l.last
