use Rattle.wac_resolution_worlds.proofs.Common.{by_name}
use Rattle.wac_resolution_worlds.specs.Taking.{clause_of}
use Rattle.wac_resolution_worlds.proofs.Taken.{TakenTo}
use Rattle.wac_resolution_worlds.proofs.inclusion.Inclusion.take_names.Given as goal

abbrev pub invariant-loop-name : goal.invariant-loop-name
invariant-loop-name l = TakenTo (clause_of l.self) (by_name l.fn.entries.entries) (by_name l.entries.entries) (by_name l.fn.there.entries) (by_name l.there.entries) (by_name l.names.entries) (by_name l.name-iterator)
