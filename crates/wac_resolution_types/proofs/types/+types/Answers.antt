use Rattle.wac_resolution_types.proofs.Common.{◌≡◌, List, map, take, sym, ap, subst, arith, inl, err_from_is_err_and, take_all, Ty, Types, types_from, ValueType, ident_of, ty_of, TypeBroken, error_model, scope_of, values_of, reports, memory_model, still_named, child_named}
use Rattle.wac_graph_types.specs.declared.kind.ValueType.TheVariants as values
use Rattle.wac_ast_types.specs.declared.types.«Type».{«Type», size-Type}
use Rattle.wac_ast_types.specs.declared.types.«Type».TheViews.{sized-Result}
use Rattle.wac_resolution_types.specs.Types.{TypesAre}
use Rattle.wac_resolution_state.proofs.Sizes.{most_at}
use Rattle.wac_resolution_types.proofs.TypeParts.{as_ty, value_type_is, no_types, types_step, types_break, tuple_type_is, tuple_breaks, result_type_is, result_breaks, result_breaks_later, stream_breaks, future_breaks}
use Rattle.wac_resolution_types.proofs.types.+types.Goals as goal

-- ---- tuples

pub value_type-returns-in_err-values-in-Tuple-clause-err : goal.value_type-returns-in_err-values-in-Tuple-clause-err
value_type-returns-in_err-values-in-Tuple-clause-err t c =
    let p = err_from_is_err_and c.from_residual.result c.from_residual.ensures.1 in
    rw (p.1, p.2) (reports c.in_err-values-in-Tuple.ensures.err (tuple_breaks c.args.state.now.graph (values_of c.args.names.now) c.args.ty.now c.in-Tuple.types c.in-Tuple.field-1 c.deref.result.now (error_model c.in_err-values-in-Tuple.field-0.0) c.in-Tuple.is c.deref.ensures.value))

pub value_type-returns-in_ok-add_defined-in-Tuple-clause-ok : goal.value_type-returns-in_ok-add_defined-in-Tuple-clause-ok
value_type-returns-in_ok-add_defined-in-Tuple-clause-ok t c =
    tuple_type_is c.args.state.now.graph c.value_types.new.state.graph c.add_defined.new.self.graph (values_of c.args.names.now) c.args.ty.now c.in-Tuple.types c.in-Tuple.field-1 c.deref.result.now c.in_ok-values-in-Tuple.values c.in_ok-add_defined-in-Tuple.field-0
    c.in-Tuple.is c.deref.ensures.value c.in_ok-values-in-Tuple.ensures.ok c.in_ok-add_defined-in-Tuple.ensures

-- ---- results

pub value_type-returns-in_err-ok-in-Result-clause-err : goal.value_type-returns-in_err-ok-in-Result-clause-err
value_type-returns-in_err-ok-in-Result-clause-err t c =
    let p = err_from_is_err_and c.from_residual-in_err-ok-in-Result.result c.from_residual-in_err-ok-in-Result.ensures.1 in
    rw (p.1, p.2) (reports c.in_err-ok-in-Result.ensures.err (λ err. result_breaks c.args.state.now.graph (values_of c.args.names.now) c.args.ty.now c.in-Result.ok c.in-Result.err c.in-Result.span (error_model c.in_err-ok-in-Result.field-0.0) c.in-Result.is err))

pub value_type-optional-requires-in-Result : goal.value_type-optional-requires-in-Result
value_type-optional-requires-in-Result t c =
    (omega (arith, c.decreases, ap size-Type c.in-Result.is, sized-Result c.in-Result.ok c.in-Result.err c.in-Result.span), still_named c.args.state.now.graph c.optional.new.state.graph (values_of c.args.names.now) c.in_ok-ok-in-Result.ensures.ok.grows.grows c.requires)

pub value_type-returns-in_err-err-in-Result-clause-err : goal.value_type-returns-in_err-err-in-Result-clause-err
value_type-returns-in_err-err-in-Result-clause-err t c =
    let p = err_from_is_err_and c.from_residual-in_err-err-in-Result.result c.from_residual-in_err-err-in-Result.ensures.1 in
    rw (p.1, p.2) (reports c.in_err-err-in-Result.ensures.err (λ err. result_breaks_later c.args.state.now.graph c.optional.new.state.graph (values_of c.args.names.now) c.args.ty.now c.in-Result.ok c.in-Result.err c.in-Result.span c.in_ok-ok-in-Result.ok (error_model c.in_err-err-in-Result.field-0.0)
    c.in-Result.is c.requires c.in_ok-ok-in-Result.ensures.ok err))

pub value_type-add_defined-requires-in-Result : goal.value_type-add_defined-requires-in-Result
value_type-add_defined-requires-in-Result t c =
    (child_named c.optional.new.state.graph c.optional-in-Result.new.state.graph _ c.in_ok-err-in-Result.ensures.ok.grows.grows c.in_ok-ok-in-Result.ensures.ok.named, (c.in_ok-err-in-Result.ensures.ok.named, tt))

pub value_type-returns-in_ok-add_defined-in-Result-clause-ok : goal.value_type-returns-in_ok-add_defined-in-Result-clause-ok
value_type-returns-in_ok-add_defined-in-Result-clause-ok t c =
    result_type_is c.args.state.now.graph c.optional.new.state.graph c.optional-in-Result.new.state.graph c.add_defined-in-Result.new.self.graph (values_of c.args.names.now) c.args.ty.now c.in-Result.ok c.in-Result.err c.in-Result.span
    c.in_ok-ok-in-Result.ok c.in_ok-err-in-Result.err c.in_ok-add_defined-in-Result.field-0 c.in-Result.is c.requires c.in_ok-ok-in-Result.ensures.ok c.in_ok-err-in-Result.ensures.ok c.in_ok-add_defined-in-Result.ensures

-- ---- streams and futures

pub value_type-returns-in_err-value-in-Stream-clause-err : goal.value_type-returns-in_err-value-in-Stream-clause-err
value_type-returns-in_err-value-in-Stream-clause-err t c =
    let p = err_from_is_err_and c.from_residual-in_err-value-in-Stream.result c.from_residual-in_err-value-in-Stream.ensures.1 in
    rw (p.1, p.2) (reports c.in_err-value-in-Stream.ensures.err (stream_breaks c.args.state.now.graph (values_of c.args.names.now) c.args.ty.now c.in-Stream.inner c.in-Stream.field-1 (error_model c.in_err-value-in-Stream.field-0.0) c.in-Stream.is))

pub value_type-returns-in_err-value-in-Future-clause-err : goal.value_type-returns-in_err-value-in-Future-clause-err
value_type-returns-in_err-value-in-Future-clause-err t c =
    let p = err_from_is_err_and c.from_residual-in_err-value-in-Future.result c.from_residual-in_err-value-in-Future.ensures.1 in
    rw (p.1, p.2) (reports c.in_err-value-in-Future.ensures.err (future_breaks c.args.state.now.graph (values_of c.args.names.now) c.args.ty.now c.in-Future.inner c.in-Future.field-1 (error_model c.in_err-value-in-Future.field-0.0) c.in-Future.is))

-- ---- borrows

pub value_type-returns-in_err-named_resource-in-Borrow-clause-err : goal.value_type-returns-in_err-named_resource-in-Borrow-clause-err
value_type-returns-in_err-named_resource-in-Borrow-clause-err t c =
    let p = err_from_is_err_and c.from_residual-in_err-named_resource-in-Borrow.result c.from_residual-in_err-named_resource-in-Borrow.ensures.1 in
    rw (p.1, p.2) (reports c.in_err-named_resource-in-Borrow.ensures.err (λ err numbering. subst (λ (x : «Type»). TypeBroken (scope_of numbering c.args.state.now.graph (values_of c.args.names.now)) (ty_of x) (error_model c.in_err-named_resource-in-Borrow.field-0.0)) (sym c.in-Borrow.is)
    (err numbering c.args.state.now.graph c.in-Borrow.field-1)))

pub value_type-returns-in_ok-named_resource-in-Borrow-clause-ok : goal.value_type-returns-in_ok-named_resource-in-Borrow-clause-ok
value_type-returns-in_ok-named_resource-in-Borrow-clause-ok t c =
    let g = c.args.state.now.graph in
    let v : ValueType = values.Borrow c.in_ok-named_resource-in-Borrow.field-0 in
    let borrowed : Ty = Ty.borrow (ident_of c.in-Borrow.id) c.in-Borrow.field-1 in
    as_ty g g (values_of c.args.names.now) v c.args.ty.now borrowed (ap ty_of c.in-Borrow.is) (value_type_is g (values_of c.args.names.now) borrowed v c.requires (c.in_ok-named_resource-in-Borrow.ensures.ok c.in-Borrow.field-1))

-- ---- several types

pub value_types-loop-ty-init : goal.value_types-loop-ty-init
value_types-loop-ty-init t c = subst (TypesAre c.args.state.now.graph c.args.state.now.graph (values_of c.args.names.now) Types.none) (sym c.new-values.ensures.items) (no_types c.args.state.now.graph (values_of c.args.names.now))

pub value_types-value_type-requires : goal.value_types-value_type-requires
value_types-value_type-requires t c = (omega (arith, c.decreases, most_at size-Type c.args.types.now c.loop-ty.ty-index c.ty-item.result c.loop-ty-test.true, ap size-Type c.ty-item.is), still_named c.args.state.now.graph c.loop-ty.state.graph (values_of c.args.names.now) c.loop-ty.invariant.grows.grows c.requires)

pub value_types-returns-in_err-value-clause-err : goal.value_types-returns-in_err-value-clause-err
value_types-returns-in_err-value-clause-err t c =
    let p = err_from_is_err_and c.from_residual.result c.from_residual.ensures.1 in
    rw (p.1, p.2) (reports c.in_err-value.ensures.err (types_break c.args.state.now.graph c.loop-ty.state.graph (values_of c.args.names.now) c.args.types.now c.loop-ty.ty-index c.ty-item.result c.loop-ty.values.items (error_model c.in_err-value.field-0.0)
    c.loop-ty-test.true c.ty-item.is c.requires c.loop-ty.invariant))

pub value_types-returns-in_err-push-clause-err : goal.value_types-returns-in_err-push-clause-err
value_types-returns-in_err-push-clause-err t c =
    let p = err_from_is_err_and c.from_residual-in_err-push.result c.from_residual-in_err-push.ensures.1 in
    rw p.1 (inl (memory_model p.0 p.2))

pub value_types-loop-ty-preserved : goal.value_types-loop-ty-preserved
value_types-loop-ty-preserved t c =
    types_step c.args.state.now.graph c.loop-ty.state.graph c.value_type.new.state.graph (values_of c.args.names.now) c.args.types.now c.loop-ty.ty-index c.ty-item.result c.loop-ty.values.items c.push.new.self.items c.in_ok-value.value
    c.loop-ty-test.true c.ty-item.is c.in_ok-push.ensures.items c.requires c.loop-ty.invariant c.in_ok-value.ensures.ok

pub value_types-returns-clause-ok : goal.value_types-returns-clause-ok
value_types-returns-clause-ok t c =
    let all : take c.loop-ty.ty-index c.args.types.now ≡ c.args.types.now = take_all c.loop-ty.ty-index c.args.types.now (omega arith) in
    subst (λ (l : List «Type»). TypesAre c.args.state.now.graph c.loop-ty.state.graph (values_of c.args.names.now) (types_from (map ty_of l)) c.loop-ty.values.items) all c.loop-ty.invariant
