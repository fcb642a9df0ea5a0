use Rattle.std.proofs.Common.{take, map, flat_map}
use Rattle.wac_ast.specs.Statements.{statement_of}
use Rattle.wac_names.specs.Steps.{statement_steps}
use Rattle.wac_names.specs.Traced.{Takes}
use Rattle.wac_names.proofs.documents.statements.Given as goal

abbrev pub invariant-loop-next : goal.invariant-loop-next
invariant-loop-next l = Takes l.fn.finder l.finder (flat_map statement_steps (map statement_of (take l.next-index l.statements)))
