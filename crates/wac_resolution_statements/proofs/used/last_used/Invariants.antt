use Rattle.wac_resolution_statements.proofs.Common.{by_name}
use Rattle.wac_resolution_statements.proofs.Last.{Looking, interface_in}
use Rattle.wac_resolution_statements.proofs.used.last_used.Given as goal

abbrev pub invariant-loop-used : goal.invariant-loop-used
invariant-loop-used l = Looking interface_in l.types l.id (by_name l.uses.entries) l.fn.before (by_name l.used-iterator) l.last
