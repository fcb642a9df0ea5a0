use Rattle.std.proofs.Common.{take, map, flat_map}
use Rattle.wac_ast_types.specs.Declarations.{variant_case_of}
use Rattle.wac_names.specs.Steps.{case_steps}
use Rattle.wac_names.specs.Traced.{Takes}
use Rattle.wac_names.proofs.declarations.cases.Given as goal

abbrev pub invariant-loop-one : goal.invariant-loop-one
invariant-loop-one l = Takes l.fn.finder l.finder (flat_map (case_steps l.here.level) (map variant_case_of (take l.one-index l.cases)))
