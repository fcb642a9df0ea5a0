use Rattle.wac_resolution.proofs.Common.{take, map, flat_map, argument_of, argument_mentions}
use Rattle.wac_resolution.specs.Noted.{Notes}
use Rattle.wac_resolution.proofs.mentions_in_expressions.+expression.Given as goal

abbrev pub invariant-arguments-loop-one : goal.invariant-arguments-loop-one
invariant-arguments-loop-one l = Notes l.fn.mentions l.mentions (flat_map (argument_mentions l.fn.mentions.own) (map argument_of (take l.one-index l.arguments)))
