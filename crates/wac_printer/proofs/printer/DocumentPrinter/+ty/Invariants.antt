use Rattle.wac_ast_grammar.specs.Walk.{walk_ty}
use Rattle.wac_printer_layout.specs.Bare.{bare}
use Rattle.wac_printer.proofs.Common.{◌+◌, ◌*◌, [], ◌∷◌, ◌++◌, codes, ty_of, token, space, ty_layout, IsSoFar}
use denote.Param.Weighed.{most}
use Rattle.wac_ast_types.specs.declared.types.«Type».{size-Type}
use Rattle.wac_printer.proofs.printer.DocumentPrinter.+ty.Given as goal

abbrev pub invariant-further_types-loop-ty : goal.invariant-further_types-loop-ty
invariant-further_types-loop-ty g l = IsSoFar (λ source depth x. (token (codes ",") ∷ space ∷ []) ++ ty_layout (walk_ty (bare source) (ty_of x))) l.types l.ty-index l.fn.self l.self

abbrev pub decreases-ty : goal.decreases-ty
decreases-ty g l = 6 * size-Type l.ty.now + 0

abbrev pub decreases-bracketed : goal.decreases-bracketed
decreases-bracketed g l = 6 * size-Type l.ty.now + 1

abbrev pub decreases-failing : goal.decreases-failing
decreases-failing g l = 6 * size-Type l.err.now + 1

abbrev pub decreases-first_side : goal.decreases-first_side
decreases-first_side g l = 6 * size-Type l.ok.now + 1

abbrev pub decreases-second_side : goal.decreases-second_side
decreases-second_side g l = 6 * size-Type l.err.now + 1

abbrev pub decreases-further_type : goal.decreases-further_type
decreases-further_type g l = 6 * size-Type l.ty.now + 1

abbrev pub decreases-further_types : goal.decreases-further_types
decreases-further_types g l = 6 * most size-Type l.types.now + 2

abbrev pub decreases-types : goal.decreases-types
decreases-types g l = 6 * most size-Type l.types.now + 3

abbrev pub decreases-tuple : goal.decreases-tuple
decreases-tuple g l = 6 * most size-Type l.types.now + 4
