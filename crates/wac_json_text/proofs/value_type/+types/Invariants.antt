use Rattle.wac_json_text.proofs.Common.{◌+◌, ◌*◌, ty_of, IsSoFar}
use Rattle.wac_json_forms.specs.Forms.{ty_json}
use denote.Param.Weighed.{most}
use Rattle.wac_ast_types.specs.declared.types.«Type».{size-Type}
use Rattle.wac_ast_types.specs.declared.types.«Type».TheShapes.{weighed-Type-Result-0}
use Rattle.wac_ast_types.specs.declared.types.«Type».TheVariants.{the_data}
use Rattle.wac_json_text.specs.Pieces.{after_comma, pieces}
use Rattle.wac_json_text.proofs.value_type.+types.Given as goal

abbrev pub invariant-further_types-loop-held : goal.invariant-further_types-loop-held
invariant-further_types-loop-held g l = IsSoFar (λ source depth x. after_comma (pieces (ty_json (ty_of x)))) l.types l.held-index l.fn.out l.out

abbrev pub decreases-ty : goal.decreases-ty
decreases-ty g l = 8 * size-Type l.tree.now + 0

abbrev pub decreases-further_type : goal.decreases-further_type
decreases-further_type g l = 8 * size-Type l.held.now + 1

abbrev pub decreases-holding : goal.decreases-holding
decreases-holding g l = 8 * size-Type l.held.now + 1

abbrev pub decreases-payload : goal.decreases-payload
decreases-payload g l = 8 * weighed-Type-Result-0.weight the_data size-Type l.held.now + 1

abbrev pub decreases-perhaps_holding : goal.decreases-perhaps_holding
decreases-perhaps_holding g l = 8 * weighed-Type-Result-0.weight the_data size-Type l.held.now + 2

abbrev pub decreases-failure : goal.decreases-failure
decreases-failure g l = 8 * weighed-Type-Result-0.weight the_data size-Type l.err.now + 2

abbrev pub decreases-success : goal.decreases-success
decreases-success g l = 8 * weighed-Type-Result-0.weight the_data size-Type l.ok.now + 2

abbrev pub decreases-further_types : goal.decreases-further_types
decreases-further_types g l = 8 * most size-Type l.types.now + 2

abbrev pub decreases-joined_types : goal.decreases-joined_types
decreases-joined_types g l = 8 * most size-Type l.types.now + 3

abbrev pub decreases-tuple : goal.decreases-tuple
decreases-tuple g l = 8 * most size-Type l.types.now + 5
