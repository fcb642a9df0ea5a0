use Rattle.std.proofs.Common.{◌∙◌, List, ap, map, subst, sym}
use Rattle.std.specs.Prelude.{OnOk}
use Rattle.wac_ast_grammar.specs.Tree.{Ty, types_from}
use Rattle.wac_ast_types.specs.Types.{ty_of}
use Rattle.wac_ast_types.specs.declared.types.«Type».{«Type»}
use Rattle.wac_ast_types.proofs.TypeParts.{tuple_is}
use Rattle.wac_names.specs.Steps.{type_steps, types_steps}
use Rattle.wac_names.specs.Traced.{Takes}
use Rattle.wac_names.proofs.Arguments.{types_in_a_row}
use Rattle.wac_names.proofs.Taking.{none, next, all}
use Rattle.wac_names.proofs.types.+types.Goals as goal

pub value_type-returns-in-Tuple : goal.value_type-returns-in-Tuple
value_type-returns-in-Tuple t c =
    subst (λ (x : Ty). OnOk c.value_types.result (Takes c.args.finder.now c.value_types.new.finder (type_steps c.args.here.level x))) (sym (ap ty_of c.in-Tuple.is ∙ tuple_is c.in-Tuple.types c.in-Tuple.field-1))
    (subst (λ (l : List «Type»). OnOk c.value_types.result (Takes c.args.finder.now c.value_types.new.finder (types_steps c.args.here.level (types_from (map ty_of l))))) c.deref.ensures.value c.value_types.ensures)

pub value_types-loop-ty-init : goal.value_types-loop-ty-init
value_types-loop-ty-init t c = none c.args.finder.now

pub value_types-loop-ty-preserved : goal.value_types-loop-ty-preserved
value_types-loop-ty-preserved t c =
    next ty_of (type_steps c.args.here.level) c.args.types.now c.loop-ty.ty-index c.ty-item.result c.args.finder.now c.loop-ty.finder c.value_type.new.finder c.loop-ty-test.true c.ty-item.is c.loop-ty.invariant c.in_ok-value_type.ensures

pub value_types-returns : goal.value_types-returns
value_types-returns t c =
    subst (Takes c.args.finder.now c.loop-ty.finder) (sym (types_in_a_row c.args.here.level c.args.types.now))
    (all ty_of (type_steps c.args.here.level) c.args.types.now c.loop-ty.ty-index c.args.finder.now c.loop-ty.finder c.loop-ty-test.false c.loop-ty.invariant)
