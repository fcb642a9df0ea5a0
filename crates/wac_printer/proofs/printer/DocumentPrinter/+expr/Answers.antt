use Rattle.wac_ast_grammar.specs.Walk.{walk_arguments, walk_expr, walk_instantiation_argument, walk_postfix_expr, walk_primary_expr}
use Rattle.wac_printer.specs.Sliced.{printable}
use Rattle.wac_printer_layout.specs.Bare.{bare}
use Rattle.wac_printer.proofs.Common.{arith, rules, ap, refl, sym, subst, map, ◌∙◌, ◌≡◌, ◌≤◌, ◌<◌, ◌++◌, ◌∷◌, [], codes, length, true, false, Err, flat_map, arguments_from, argument_of, expr_of, primary_expr_of, postfix_expr_of, size-InstantiationArgument, size-PrimaryExpr, out-NestedExpr, new_is, token, line, deeper, space, postfix_expr_layout, ending_layout, Prints, part_at, starts, goes_at, stops_at, ends, first_stops, first_goes, none_is, deeper_part, fail, fails, parts, piece, printed_as, printed_at, there, slice}
use Rattle.wac_printer_layout.specs.ExpressionLayout.{argument_layout, arguments_layout, expr_layout, primary_expr_layout}
use Rattle.wac_ast_statements.specs.declared.expr.InstantiationArgument.TheViews.{sized-New}
use Rattle.wac_printer.specs.Arguments.{braces_layout}
use Rattle.wac_printer.proofs.Arguments.{bared, its_line, arguments_lines, no_arguments, braces_none, braces_lone, braces_lines, ending_bare, front_sliced, last_sliced, most_front, most_last, named_is, nested_layout}
use Rattle.wac_printer.proofs.PartsOf.{no_items}
use Rattle.wac_printer.proofs.Trees.{most_at}
use Rattle.wac_printer.proofs.printer.DocumentPrinter.+expr.Goals as goal

-- ---- the lines of arguments

pub front_arguments-loop-argument-init : goal.front_arguments-loop-argument-init
front_arguments-loop-argument-init g t c = starts _ _ _ _ _ c.in_ok-ready.ensures

pub front_arguments-argument_line-requires : goal.front_arguments-argument_line-requires
front_arguments-argument_line-requires g t c κs within =
    let sliced : walk_instantiation_argument (printable c.loop-argument.self.source) (argument_of c.argument-item.result) =
    part_at (λ source x. walk_instantiation_argument (printable source) (argument_of x)) (its_line false) c.args.arguments.now c.loop-argument.argument-index c.argument-item.result c.args.self.now c.loop-argument.self c.loop-argument.invariant c.loop-argument-test.true c.argument-item.is c.requires in
    (omega (arith, c.decreases, most_at size-InstantiationArgument c.args.arguments.now c.loop-argument.argument-index c.argument-item.result c.loop-argument-test.true, ap size-InstantiationArgument c.argument-item.is), (search rules, sliced))

pub front_arguments-returns-in_err-argument_line : goal.front_arguments-returns-in_err-argument_line
front_arguments-returns-in_err-argument_line g t c =
    let e : c.from_residual-in_err-argument_line.result ≡ Err c.in_err-argument_line.field-0.0 = search rules in
    stops_at (its_line false) c.args.arguments.now _ _ c.args.self.now _ _ _ _ c.loop-argument.invariant c.loop-argument-test.true c.argument-item.is e c.in_err-argument_line.ensures

pub front_arguments-loop-argument-preserved : goal.front_arguments-loop-argument-preserved
front_arguments-loop-argument-preserved g t c =
    goes_at (its_line false) c.args.arguments.now _ _ c.args.self.now c.loop-argument.self c.argument_line.new.self c.in_ok-argument_line.field-0 c.loop-argument.invariant c.loop-argument-test.true c.argument-item.is c.in_ok-argument_line.ensures

pub front_arguments-returns : goal.front_arguments-returns
front_arguments-returns g t c =
    let h : length c.args.arguments.now ≤ c.loop-argument.argument-index = search rules in
    ends (its_line false) c.args.arguments.now _ c.args.self.now _ _ c.loop-argument.invariant h

pub argument_line-returns : goal.argument_line-returns
argument_line-returns g t c =
    let x = argument_of c.args.argument.now in
    let s = c.argument.new.self in
    first_goes _ _ _ _ _ _ (line c.args.self.now.depth ∷ []) (λ source depth. argument_layout depth (walk_instantiation_argument (bare source) x) ++ ending_layout c.args.is_last (walk_instantiation_argument (bare source) x)) refl c.in_ok-line.ensures
    (first_goes _ _ _ _ _ _ _ (λ source depth. ending_layout c.args.is_last (walk_instantiation_argument (bare source) x)) refl c.in_ok-argument.ensures
    (subst (Prints s c.ending.result c.ending.new.self) (sym (ending_bare s.source c.args.is_last x)) c.ending.ensures))

pub arguments-front_arguments-requires : goal.arguments-front_arguments-requires
arguments-front_arguments-requires g t c κs within =
    let s = c.args.self.now.source in
    let f = c.in-Some in (
      omega (arith, c.decreases, most_front size-InstantiationArgument c.args.arguments.now f.front.now f.last.now f.ensures.cases.0),
      (search rules, front_sliced s c.args.arguments.now f.front.now f.last.now f.ensures.cases.0 c.requires),
    )

pub arguments-returns-in_err-front_arguments-in-Some : goal.arguments-returns-in_err-front_arguments-in-Some
arguments-returns-in_err-front_arguments-in-Some g t c =
    let s = c.args.self.now in
    let f = c.in-Some in
    let e : c.from_residual.result ≡ Err c.in_err-front_arguments-in-Some.field-0.0 = search rules in
    first_stops _ _ _ _ _ _ _ (arguments_lines s.source s.depth c.args.arguments.now f.front.now f.last.now f.ensures.cases.0) e c.in_err-front_arguments-in-Some.ensures

pub arguments-argument_line-requires : goal.arguments-argument_line-requires
arguments-argument_line-requires g t c κs within =
    let f = c.in-Some in
    let sliced = subst (λ s. walk_instantiation_argument (printable s) (argument_of f.last.now)) (sym c.in_ok-front_arguments-in-Some.ensures.keeps.0) (last_sliced c.args.self.now.source c.args.arguments.now f.front.now f.last.now f.ensures.cases.0 c.requires) in
    (omega (arith, c.decreases, most_last size-InstantiationArgument c.args.arguments.now f.front.now f.last.now f.ensures.cases.0), (search rules, sliced))

pub arguments-returns-in-None : goal.arguments-returns-in-None
arguments-returns-in-None g t c =
    let s = c.args.self.now in
    let none : c.args.arguments.now ≡ [] = no_items c.args.arguments.now c.in-None.ensures.cases in
    none_is _ _ _ (no_arguments s.source s.depth c.args.arguments.now none) c.ready.ensures

pub arguments-returns-in_ok-front_arguments-in-Some : goal.arguments-returns-in_ok-front_arguments-in-Some
arguments-returns-in_ok-front_arguments-in-Some g t c =
    let s = c.args.self.now in
    let f = c.in-Some in
    first_goes _ _ _ _ _ _ _ (λ source depth. its_line true source depth f.last.now) (arguments_lines s.source s.depth c.args.arguments.now f.front.now f.last.now f.ensures.cases.0)
    c.in_ok-front_arguments-in-Some.ensures c.argument_line.ensures

pub deeper_arguments-returns : goal.deeper_arguments-returns
deeper_arguments-returns g t c =
    deeper_part _ _ _ _ _ _ (λ source depth. arguments_layout depth (bared source c.args.arguments.now)) c.indent-depth.ensures.0 c.indent-depth.ensures.1 c.arguments-printed.ensures c.dedent.ensures

-- ---- the braces

pub braced-returns-then-is_empty : goal.braced-returns-then-is_empty
braced-returns-then-is_empty g t c =
    let s = c.args.self.now in
    let none : length c.args.arguments.now ≡ 0 = search rules in
    none_is _ _ _ (braces_none s.source s.depth c.args.arguments.now none) c.ready.ensures

pub braced-returns-then-is_lone_fill : goal.braced-returns-then-is_lone_fill
braced-returns-then-is_lone_fill g t c =
    let s = c.args.self.now in
    subst (Prints s c.fill_alone.result c.fill_alone.new.self) (sym (braces_lone s.source s.depth c.args.arguments.now (sym c.is_lone_fill.ensures ∙ c.if-is_lone_fill.true))) c.fill_alone.ensures

pub braced-returns : goal.braced-returns
braced-returns g t c =
    let s = c.args.self.now in
    let some : 0 < length c.args.arguments.now = search rules in
    subst (Prints s c.argument_lines.result c.argument_lines.new.self) (sym (braces_lines s.source s.depth c.args.arguments.now some (sym c.is_lone_fill.ensures ∙ c.if-is_lone_fill.false))) c.argument_lines.ensures

-- ---- one argument, and what an expression begins with

pub argument-returns-in_ok-blank-in-Named : goal.argument-returns-in_ok-blank-in-Named
argument-returns-in_ok-blank-in-Named g t c =
    let s = c.args.self.now in
    let a = c.in-Named.argument in
    first_goes _ _ _ _ _ _ _ (λ source depth. token (codes ":") ∷ space ∷ expr_layout depth (walk_expr (bare source) (expr_of a.expr))) (named_is s.source s.depth c.args.argument.now a c.in-Named.is) c.in_ok-argument_name-in-Named.ensures
    (first_goes _ _ _ _ _ _ (token (codes ":") ∷ []) (λ source depth. space ∷ expr_layout depth (walk_expr (bare source) (expr_of a.expr))) refl c.in_ok-token-in-Named.ensures
    (first_goes _ _ _ _ _ _ (space ∷ []) (λ source depth. expr_layout depth (walk_expr (bare source) (expr_of a.expr))) refl c.in_ok-blank-in-Named.ensures c.expr.ensures))

pub primary_expr-new_expr-requires : goal.primary_expr-new_expr-requires
primary_expr-new_expr-requires g t c κs within =
    let s = c.args.self.now.source in
    let sliced = subst (walk_primary_expr (printable s)) (ap primary_expr_of c.in-New.is ∙ new_is c.in-New.expr) c.requires in
    (omega (arith, c.decreases, ap size-PrimaryExpr c.in-New.is, sized-New c.in-New.expr), (search rules, sliced))

pub primary_expr-returns-in-New : goal.primary_expr-returns-in-New
primary_expr-returns-in-New g t c =
    let s = c.args.self.now in
    subst (λ x. Prints s c.new_expr.result c.new_expr.new.self (primary_expr_layout s.depth (walk_primary_expr (bare s.source) x))) (sym (ap primary_expr_of c.in-New.is ∙ new_is c.in-New.expr)) c.new_expr.ensures

pub primary_expr-returns-in_err-token-in-Nested : goal.primary_expr-returns-in_err-token-in-Nested
primary_expr-returns-in_err-token-in-Nested g t c =
    let s = c.args.self.now in
    let x = (out-NestedExpr c.in-Nested.expr).inner.value in
    let e : c.from_residual.result ≡ Err c.in_err-token-in-Nested.field-0.0 = search rules in
    first_stops _ _ _ _ _ (token (codes "(") ∷ []) (expr_layout s.depth (walk_expr (bare s.source) (expr_of x)) ++ token (codes ")") ∷ []) (nested_layout s.source s.depth c.args.expr.now c.in-Nested.expr c.in-Nested.is) e c.in_err-token-in-Nested.ensures

pub primary_expr-returns-in_err-expr-in-Nested : goal.primary_expr-returns-in_err-expr-in-Nested
primary_expr-returns-in_err-expr-in-Nested g t c =
    let s = c.args.self.now in
    let m = c.token.new.self in
    let x = c.deref.result.now in
    let v : x ≡ (out-NestedExpr c.in-Nested.expr).inner.value = search rules in
    let e : c.from_residual-in_err-expr-in-Nested.result ≡ Err c.in_err-expr-in-Nested.field-0.0 = search rules in
    let whole = nested_layout s.source s.depth c.args.expr.now c.in-Nested.expr c.in-Nested.is ∙ ap (λ y. token (codes "(") ∷ (expr_layout s.depth (walk_expr (bare s.source) (expr_of y)) ++ token (codes ")") ∷ [])) (sym v) in
    first_goes _ _ _ _ _ _ (token (codes "(") ∷ []) (λ source depth. expr_layout depth (walk_expr (bare source) (expr_of x)) ++ token (codes ")") ∷ []) whole c.in_ok-token-in-Nested.ensures
    (first_stops _ _ _ _ _ (expr_layout m.depth (walk_expr (bare m.source) (expr_of x))) (token (codes ")") ∷ []) refl e c.in_err-expr-in-Nested.ensures)

pub primary_expr-returns-in_ok-expr-in-Nested : goal.primary_expr-returns-in_ok-expr-in-Nested
primary_expr-returns-in_ok-expr-in-Nested g t c =
    let s = c.args.self.now in
    let m = c.token.new.self in
    let x = c.deref.result.now in
    let v : x ≡ (out-NestedExpr c.in-Nested.expr).inner.value = search rules in
    let whole = nested_layout s.source s.depth c.args.expr.now c.in-Nested.expr c.in-Nested.is ∙ ap (λ y. token (codes "(") ∷ (expr_layout s.depth (walk_expr (bare s.source) (expr_of y)) ++ token (codes ")") ∷ [])) (sym v) in
    first_goes _ _ _ _ _ _ (token (codes "(") ∷ []) (λ source depth. expr_layout depth (walk_expr (bare source) (expr_of x)) ++ token (codes ")") ∷ []) whole c.in_ok-token-in-Nested.ensures
    (first_goes _ _ _ _ _ _ (expr_layout m.depth (walk_expr (bare m.source) (expr_of x))) (λ source depth. token (codes ")") ∷ []) refl c.in_ok-expr-in-Nested.ensures c.token-in-Nested.ensures)

-- ---- errors on the way, and the other ends

pub argument_line-returns-in_err-line : goal.argument_line-returns-in_err-line
argument_line-returns-in_err-line g t c = fail c.from_residual.ensures.1 c.in_err-line.ensures

pub argument_line-returns-in_err-argument : goal.argument_line-returns-in_err-argument
argument_line-returns-in_err-argument g t c = piece c.in_ok-line.ensures (fails _ c.from_residual-in_err-argument.ensures.1 (there (λ source depth. argument_layout depth (walk_instantiation_argument (bare source) (argument_of c.args.argument.now))) (c.in_ok-line.ensures.keeps.0) (c.in_ok-line.ensures.keeps.2) c.in_err-argument.ensures))

pub argument_lines-returns-in_err-blank : goal.argument_lines-returns-in_err-blank
argument_lines-returns-in_err-blank g t c = fail c.from_residual.ensures.1 c.in_err-blank.ensures

pub argument_lines-returns-in_err-deeper_arguments : goal.argument_lines-returns-in_err-deeper_arguments
argument_lines-returns-in_err-deeper_arguments g t c = piece c.in_ok-blank.ensures (fails _ c.from_residual-in_err-deeper_arguments.ensures.1 (there (λ source depth. arguments_layout (deeper depth) (walk_arguments (bare source) (arguments_from (map argument_of c.args.arguments.now)))) (c.in_ok-blank.ensures.keeps.0) (c.in_ok-blank.ensures.keeps.2) c.in_err-deeper_arguments.ensures))

pub argument_lines-returns : goal.argument_lines-returns
argument_lines-returns g t c = piece c.in_ok-blank.ensures (parts (there (λ source depth. arguments_layout (deeper depth) (walk_arguments (bare source) (arguments_from (map argument_of c.args.arguments.now)))) (c.in_ok-blank.ensures.keeps.0) (c.in_ok-blank.ensures.keeps.2) c.in_ok-deeper_arguments.ensures) (printed_at (λ depth. line depth ∷ []) (c.in_ok-deeper_arguments.ensures.keeps.2 ∙ c.in_ok-blank.ensures.keeps.2) c.line.ensures))

pub expr-returns-in_err-primary_expr : goal.expr-returns-in_err-primary_expr
unfolding expr_layout
expr-returns-in_err-primary_expr g t c = fails _ c.from_residual.ensures.1 c.in_err-primary_expr.ensures

pub expr-returns : goal.expr-returns
unfolding expr_layout
expr-returns g t c = parts c.in_ok-primary_expr.ensures (printed_at (λ xs. flat_map postfix_expr_layout (map (walk_postfix_expr (bare c.args.self.now.source)) (map postfix_expr_of xs))) c.deref.ensures.value (printed_at (λ source. flat_map postfix_expr_layout (map (walk_postfix_expr (bare source)) (map postfix_expr_of c.deref.result.now))) (c.in_ok-primary_expr.ensures.keeps.0) c.postfixes.ensures))

pub new_expr-returns-in_err-new_head : goal.new_expr-returns-in_err-new_head
unfolding primary_expr_layout
new_expr-returns-in_err-new_head g t c = fails _ c.from_residual.ensures.1 c.in_err-new_head.ensures

pub new_expr-returns-in_err-braced : goal.new_expr-returns-in_err-braced
unfolding primary_expr_layout
new_expr-returns-in_err-braced g t c = parts c.in_ok-new_head.ensures (fails _ c.from_residual-in_err-braced.ensures.1 (printed_at (λ xs. braces_layout c.args.self.now.depth (walk_arguments (bare c.args.self.now.source) (arguments_from (map argument_of xs)))) c.deref.ensures.value (there (λ source depth. braces_layout depth (walk_arguments (bare source) (arguments_from (map argument_of c.deref.result.now)))) (c.in_ok-new_head.ensures.keeps.0) (c.in_ok-new_head.ensures.keeps.2) c.in_err-braced.ensures)))

pub new_expr-returns : goal.new_expr-returns
unfolding primary_expr_layout
new_expr-returns g t c = parts c.in_ok-new_head.ensures (parts (printed_at (λ xs. braces_layout c.args.self.now.depth (walk_arguments (bare c.args.self.now.source) (arguments_from (map argument_of xs)))) c.deref.ensures.value (there (λ source depth. braces_layout depth (walk_arguments (bare source) (arguments_from (map argument_of c.deref.result.now)))) (c.in_ok-new_head.ensures.keeps.0) (c.in_ok-new_head.ensures.keeps.2) c.in_ok-braced.ensures)) (c.token.ensures))

pub argument-returns-in-Inferred : goal.argument-returns-in-Inferred
unfolding argument_layout
argument-returns-in-Inferred g t c = printed_at (λ z. argument_layout c.args.self.now.depth (walk_instantiation_argument (bare c.args.self.now.source) (argument_of z))) (sym c.in-Inferred.is) c.ident.ensures

pub argument-returns-in-Fill : goal.argument-returns-in-Fill
unfolding argument_layout
argument-returns-in-Fill g t c = printed_at (λ z. argument_layout c.args.self.now.depth (walk_instantiation_argument (bare c.args.self.now.source) (argument_of z))) (sym c.in-Fill.is) c.token-in-Fill.ensures

pub argument-returns-in_err-token-in-Spread : goal.argument-returns-in_err-token-in-Spread
unfolding argument_layout
argument-returns-in_err-token-in-Spread g t c = printed_at (λ z. argument_layout c.args.self.now.depth (walk_instantiation_argument (bare c.args.self.now.source) (argument_of z))) (sym c.in-Spread.is) (fail c.from_residual.ensures.1 c.in_err-token-in-Spread.ensures)

pub argument-returns-in_ok-token-in-Spread : goal.argument-returns-in_ok-token-in-Spread
unfolding argument_layout
argument-returns-in_ok-token-in-Spread g t c = printed_at (λ z. argument_layout c.args.self.now.depth (walk_instantiation_argument (bare c.args.self.now.source) (argument_of z))) (sym c.in-Spread.is)
    (piece c.in_ok-token-in-Spread.ensures (printed_at (λ source. token (slice source c.in-Spread.id.span) ∷ []) c.in_ok-token-in-Spread.ensures.keeps.0 c.ident-in-Spread.ensures))

pub argument-returns-in_err-argument_name-in-Named : goal.argument-returns-in_err-argument_name-in-Named
argument-returns-in_err-argument_name-in-Named g t c = printed_as (sym (named_is c.args.self.now.source c.args.self.now.depth c.args.argument.now c.in-Named.argument c.in-Named.is)) (fails _ c.from_residual-in_err-argument_name-in-Named.ensures.1 c.in_err-argument_name-in-Named.ensures)

pub argument-returns-in_err-token-in-Named : goal.argument-returns-in_err-token-in-Named
argument-returns-in_err-token-in-Named g t c = printed_as (sym (named_is c.args.self.now.source c.args.self.now.depth c.args.argument.now c.in-Named.argument c.in-Named.is))
    (parts c.in_ok-argument_name-in-Named.ensures (fail c.from_residual-in_err-token-in-Named.ensures.1 c.in_err-token-in-Named.ensures))

pub argument-returns-in_err-blank-in-Named : goal.argument-returns-in_err-blank-in-Named
argument-returns-in_err-blank-in-Named g t c = printed_as (sym (named_is c.args.self.now.source c.args.self.now.depth c.args.argument.now c.in-Named.argument c.in-Named.is))
    (parts c.in_ok-argument_name-in-Named.ensures (piece c.in_ok-token-in-Named.ensures (fail c.from_residual-in_err-blank-in-Named.ensures.1 c.in_err-blank-in-Named.ensures)))

pub primary_expr-returns-in-Ident : goal.primary_expr-returns-in-Ident
unfolding primary_expr_layout
primary_expr-returns-in-Ident g t c = printed_at (λ z. primary_expr_layout c.args.self.now.depth (walk_primary_expr (bare c.args.self.now.source) (primary_expr_of z))) (sym c.in-Ident.is) c.ident.ensures
