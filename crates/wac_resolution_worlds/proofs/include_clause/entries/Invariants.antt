use Rattle.wac_resolution_worlds.proofs.Common.{by_name}
use Rattle.wac_resolution_worlds.proofs.Read.{AreRead}
use Rattle.wac_resolution_worlds.proofs.include_clause.entries.Given as goal

abbrev pub invariant-loop-item : goal.invariant-loop-item
invariant-loop-item l = AreRead l.items l.item-index (by_name l.all.entries)
