use Rattle.wac_resolution.proofs.Common.{take, map, flat_map, statement_of, statement_mentions}
use Rattle.wac_resolution.specs.Noted.{Notes}
use Rattle.wac_resolution.proofs.mentions_in_statements.statements.Given as goal

abbrev pub invariant-loop-next : goal.invariant-loop-next
invariant-loop-next l = Notes l.fn.mentions l.mentions (flat_map (statement_mentions l.fn.mentions.own) (map statement_of (take l.next-index l.statements)))
