use Rattle.wac_json_text.proofs.Common.{◌≡◌, ◌≤◌, [], Err, ap, arith, codes, length, refl, rules, sym, flat_map, ident_of, argument_name_of, argument_of, expr_of, new_expr_of, postfix_expr_of, size-InstantiationArgument, most_rest, first_goes, first_stops, goes_at, none_is, starts, stops_at, first, last, printed_at, variant, arguments_items, items_of-map}
use Rattle.wac_json_forms.specs.Forms.{argument_json, expr_json, ident_json, list_json, postfix_expr_json, primary_expr_json, span_json}
use Rattle.json.specs.Print.{escape_byte}
use Rattle.wac_ast_statements.specs.declared.expr.NestedExpr.{out-NestedExpr}
use Rattle.wac_ast_statements.proofs.ExprViews.{nested_out, new_is}
use Rattle.wac_printer_pieces.proofs.Progress as list
use Rattle.wac_json_text.specs.Contents.{named_json, nested_json}
use Rattle.wac_json_text.specs.Pieces.{after_comma, joined_pieces, pieces}
use Rattle.wac_json_text.proofs.ExpressionTrees.{as_argument, as_primary}
use Rattle.wac_json_text.proofs.Joined.{as_form, as_pieces, ends, form, list_then, put, then}
use Rattle.wac_json_text.proofs.Texts.{none_left}
use Rattle.wac_json_text.proofs.expression.+expressions.Goals as goal

-- ---- lists of arguments

pub further_arguments-loop-tree-init : goal.further_arguments-loop-tree-init
further_arguments-loop-tree-init g t c = starts _ _ _ _ _ c.in_ok-ready.ensures

pub further_arguments-returns-in_err-ready : goal.further_arguments-returns-in_err-ready
further_arguments-returns-in_err-ready g t c =
    let e : c.from_residual.result ≡ Err c.in_err-ready.field-0.0 = search rules in
    first_stops _ _ _ _ (flat_map (λ x. after_comma (pieces (argument_json (argument_of x)))) c.args.arguments.now) [] _ refl e c.in_err-ready.ensures

pub further_arguments-returns-in_err-further_argument : goal.further_arguments-returns-in_err-further_argument
further_arguments-returns-in_err-further_argument g t c =
    let e : c.from_residual-in_err-further_argument.result ≡ Err c.in_err-further_argument.field-0.0 = search rules in
    stops_at (λ source depth x. after_comma (pieces (argument_json (argument_of x)))) c.args.arguments.now _ _ c.args.out.now _ _ _ _ c.loop-tree.invariant c.loop-tree-test.true c.tree-item.is e c.in_err-further_argument.ensures

pub further_arguments-loop-tree-preserved : goal.further_arguments-loop-tree-preserved
further_arguments-loop-tree-preserved g t c =
    goes_at (λ source depth x. after_comma (pieces (argument_json (argument_of x)))) c.args.arguments.now _ _ c.args.out.now c.loop-tree.out c.further_argument.new.out c.in_ok-further_argument.field-0 c.loop-tree.invariant c.loop-tree-test.true c.tree-item.is c.in_ok-further_argument.ensures

pub further_arguments-returns : goal.further_arguments-returns
further_arguments-returns g t c =
    let h : length c.args.arguments.now ≤ c.loop-tree.tree-index = search rules in
    list.ends (λ source depth x. after_comma (pieces (argument_json (argument_of x)))) c.args.arguments.now _ c.args.out.now _ _ c.loop-tree.invariant h

pub further_argument-returns : goal.further_argument-returns
further_argument-returns g t c = last c.and.ensures (first c.blank.ensures) c.argument.ensures

pub joined_arguments-further_arguments-requires : goal.joined_arguments-further_arguments-requires
joined_arguments-further_arguments-requires g t c κs within =
    (omega (arith, c.decreases, most_rest size-InstantiationArgument c.args.arguments.now c.in-Some.first.now c.in-Some.rest.now c.in-Some.ensures.cases.0), search rules)

pub joined_arguments-returns-in_err-argument-in-Some : goal.joined_arguments-returns-in_err-argument-in-Some
joined_arguments-returns-in_err-argument-in-Some g t c =
    let e : c.from_residual.result ≡ Err c.in_err-argument-in-Some.field-0.0 = search rules in
    first_stops _ _ _ _ _ _ _ (ap (joined_pieces (λ x. pieces (argument_json (argument_of x)))) c.in-Some.ensures.cases.0) e c.in_err-argument-in-Some.ensures

pub joined_arguments-returns-in-None : goal.joined_arguments-returns-in-None
joined_arguments-returns-in-None g t c =
    let none : c.args.arguments.now ≡ [] = none_left c.args.arguments.now c.in-None.ensures.cases in
    none_is _ _ _ (ap (joined_pieces (λ x. pieces (argument_json (argument_of x)))) none) c.ready.ensures

pub joined_arguments-returns-in_ok-argument-in-Some : goal.joined_arguments-returns-in_ok-argument-in-Some
joined_arguments-returns-in_ok-argument-in-Some g t c =
    first_goes _ _ _ _ _ _ _ (λ source depth. flat_map (λ x. after_comma (pieces (argument_json (argument_of x)))) c.in-Some.rest.now) (ap (joined_pieces (λ x. pieces (argument_json (argument_of x)))) c.in-Some.ensures.cases.0)
    c.in_ok-argument-in-Some.ensures c.further_arguments.ensures

-- ---- arguments

pub named-returns : goal.named-returns
unfolding escape_byte
named-returns g t c =
    as_form (named_json (expr_of c.args.value.now) (argument_name_of c.args.name.now))
    (ends c.and-4.ensures (then c.and-3.ensures (then c.and-2.ensures (then c.and.ensures (put c.blank.ensures) (form _ c.expr.ensures)) (put c.blank-2.ensures)) (form _ c.write.ensures)) c.blank-3.ensures)

pub argument-returns-in-Inferred : goal.argument-returns-in-Inferred
unfolding argument_json ident_json span_json escape_byte
argument-returns-in-Inferred g t c =
    as_argument c.in-Inferred.is (as_pieces (variant (codes "inferred") (ident_json (ident_of c.in-Inferred.id))) (λ space fresh. refl) c.enclosed.ensures)

pub argument-returns-in-Spread : goal.argument-returns-in-Spread
unfolding argument_json ident_json span_json escape_byte
argument-returns-in-Spread g t c =
    as_argument c.in-Spread.is (as_pieces (variant (codes "spread") (ident_json (ident_of c.in-Spread.id))) (λ space fresh. refl) c.enclosed-in-Spread.ensures)

pub argument-returns-in-Named : goal.argument-returns-in-Named
unfolding argument_json escape_byte
argument-returns-in-Named g t c = as_argument c.in-Named.is c.named.ensures

pub argument-returns-in-Fill : goal.argument-returns-in-Fill
unfolding argument_json span_json escape_byte
argument-returns-in-Fill g t c =
    as_argument c.in-Fill.is (as_pieces (variant (codes "fill") (span_json c.in-Fill.span)) (λ space fresh. refl) c.enclosed-in-Fill.ensures)

-- ---- expressions

pub expr-returns : goal.expr-returns
unfolding expr_json list_json span_json escape_byte
expr-returns g t c =
    as_form (expr_json (expr_of c.args.tree.now))
    (ends c.and-6.ensures
    (then c.and-5.ensures
    (then c.and-4.ensures
    (then c.and-3.ensures (list_then (λ x. postfix_expr_json (postfix_expr_of x)) _ (sym (items_of-map postfix_expr_json postfix_expr_of _)) c.and.ensures c.and-2.ensures (put c.blank.ensures) c.write_inside.ensures c.blank-2.ensures) (form _ c.primary.ensures))
    (put c.blank-3.ensures))
    (put c.write_inside-2.ensures))
    c.blank-4.ensures)

pub nested-returns : goal.nested-returns
unfolding span_json escape_byte
nested-returns g t c =
    as_form (nested_json (expr_of c.args.inner.now) c.args.span.now)
    (ends c.and-4.ensures (then c.and-3.ensures (then c.and-2.ensures (then c.and.ensures (put c.blank.ensures) (form _ c.expr.ensures)) (put c.blank-2.ensures)) (put c.write_inside.ensures)) c.blank-3.ensures)

pub new_expr-returns : goal.new_expr-returns
unfolding primary_expr_json span_json escape_byte
new_expr-returns g t c =
    let arguments = printed_at (λ xs. joined_pieces (λ x. pieces (argument_json (argument_of x))) xs) c.deref.ensures.value c.joined_arguments.ensures in
    as_form (primary_expr_json (new_expr_of c.args.tree.now))
    (ends c.and-6.ensures
    (then c.and-5.ensures
    (then c.and-4.ensures
    (then c.and-3.ensures (list_then (λ x. argument_json (argument_of x)) _ (arguments_items argument_of c.args.tree.now.arguments.items) c.and.ensures c.and-2.ensures (put c.blank.ensures) arguments c.blank-2.ensures) (form _ c.write.ensures))
    (put c.blank-3.ensures))
    (put c.write_inside.ensures))
    c.blank-4.ensures)

pub primary-returns-in-New : goal.primary-returns-in-New
primary-returns-in-New g t c =
    as_primary c.in-New.is (printed_at (λ x. pieces (primary_expr_json x)) (sym (new_is c.in-New.tree)) c.new_expr.ensures)

pub primary-returns-in-Nested : goal.primary-returns-in-Nested
unfolding primary_expr_json
primary-returns-in-Nested g t c =
    let x = c.deref.result.now in
    let v : x ≡ (out-NestedExpr c.in-Nested.tree).inner.value = search rules in
    as_primary c.in-Nested.is
    (printed_at (λ y. pieces (primary_expr_json y)) (sym (nested_out c.in-Nested.tree))
    (printed_at (λ y. pieces (nested_json (expr_of y) (out-NestedExpr c.in-Nested.tree).span)) v c.nested.ensures))

pub primary-returns-in-Ident : goal.primary-returns-in-Ident
unfolding primary_expr_json ident_json span_json escape_byte
primary-returns-in-Ident g t c =
    as_primary c.in-Ident.is (as_pieces (variant (codes "ident") (ident_json (ident_of c.in-Ident.id))) (λ space fresh. refl) c.enclosed.ensures)
