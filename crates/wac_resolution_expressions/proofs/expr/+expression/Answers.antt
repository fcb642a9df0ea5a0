use Rattle.wac_resolution_expressions.proofs.Common.{◌≡◌, ◌∙◌, ◌-◌, suc, List, map, sym, ap, subst, length, arith, rules, inr, IfOk, IfErr, OnOk, nat_eq, err_from_is_err_and, IfOk-weaker, IfErr-weaker, on_ok_weaker, Span, PrimaryExpr, arguments_from, by_name, ident_of, package_name_of, argument_of, argument_name_of, expr_of, new_expr_of, primary_expr_of, postfix_expr_of, size_is-NewExpr, Reports, error_model, rules_of, reports, if_reports, AccessSteps, numbers_of, NodeIs, packages_in}
use denote.Param.Weighed.{most}
use Rattle.wac_ast_grammar.specs.Tree.{InstantiationArgument}
use Rattle.wac_ast_statements.specs.declared.expr.InstantiationArgument.{InstantiationArgument as CodeArgument, size-InstantiationArgument}
use Rattle.wac_ast_statements.specs.declared.expr.NestedExpr.{out-NestedExpr}
use Rattle.wac_ast_statements.specs.declared.expr.PostfixExpr.{PostfixExpr as CodePostfixExpr}
use Rattle.wac_ast_statements.proofs.ExprViews.{nested_out, new_is}
use Rattle.wac_resolution_rules.specs.BrokenTypes.{IsUndefined}
use Rattle.wac_resolution_state.proofs.Sizes.{most_at}
use Rattle.wac_resolution_expressions.specs.Spreads.{GivenThere}
use Rattle.wac_resolution_expressions.specs.Completing.{Completes, FailsToComplete}
use Rattle.wac_resolution_expressions.specs.Giving.{ArgumentStep, ArgumentBreaks, ArgumentSteps, ArgumentsBreak}
use Rattle.wac_resolution_expressions.specs.Growth.{ExprStep, ExprBreaks}
use Rattle.wac_resolution_expressions.specs.Primaries.{PrimaryStep, PrimaryBreaks}
use Rattle.wac_resolution_expressions.proofs.Extending.{agrees_extended, world_extended}
use Rattle.wac_resolution_expressions.proofs.Standing as stand
use Rattle.wac_resolution_expressions.proofs.expr.+expression.Goals as goal

-- ---- accesses

pub expression-returns-in_err-node-clause-err : goal.expression-returns-in_err-node-clause-err
expression-returns-in_err-node-clause-err g t c =
    let p = err_from_is_err_and c.from_residual.result c.from_residual.ensures.1 in
    rw (p.1, p.2) (reports c.in_err-node.ensures.err (stand.expr_breaks_first c.args.scope.now.context.now (rules_of g.R.Rules c.args.scope.now.rules.now) c.args.state.now.graph (numbers_of c.args.scope.now.root.now.nodes) c.args.expr.now.span
    (primary_expr_of c.args.expr.now.primary) (map postfix_expr_of c.args.expr.now.postfix.items) (error_model c.in_err-node.field-0.0)))

pub expression-accesses-requires-clause-agrees : goal.expression-accesses-requires-clause-agrees
expression-accesses-requires-clause-agrees g t c = c.in_ok-node.ensures.ok.extends.stand

pub expression-accesses-requires-clause-there : goal.expression-accesses-requires-clause-there
expression-accesses-requires-clause-there g t c = c.in_ok-node.ensures.ok.there

pub expression-returns-clause-ok : goal.expression-returns-clause-ok
expression-returns-clause-ok g t c =
    let s = c.args.scope.now.context.now in
    let rules = rules_of g.R.Rules c.args.scope.now.rules.now in
    let declared = numbers_of c.args.scope.now.root.now.nodes in
    let go = subst (λ (l : List CodePostfixExpr). IfOk c.accesses.result (λ m. AccessSteps c.primary.new.state.graph c.accesses.new.state.graph c.in_ok-node.node.0 (map postfix_expr_of l) m.0)) c.deref.ensures.value c.accesses.ensures.ok in
    IfOk-weaker c.accesses.result (λ m. AccessSteps c.primary.new.state.graph c.accesses.new.state.graph c.in_ok-node.node.0 (map postfix_expr_of c.args.expr.now.postfix.items) m.0)
    (λ m. ExprStep s rules c.args.state.now.graph c.accesses.new.state.graph declared (expr_of c.args.expr.now) m.0)
    (λ m a. stand.expr_goes s rules c.args.state.now.graph c.primary.new.state.graph c.accesses.new.state.graph declared c.args.expr.now.span (primary_expr_of c.args.expr.now.primary) (map postfix_expr_of c.args.expr.now.postfix.items) c.in_ok-node.node.0 m.0 c.in_ok-node.ensures.ok a) go

pub expression-returns-clause-err : goal.expression-returns-clause-err
expression-returns-clause-err g t c =
    let s = c.args.scope.now.context.now in
    let rules = rules_of g.R.Rules c.args.scope.now.rules.now in
    let there = subst (λ (l : List CodePostfixExpr). IfErr c.accesses.result (λ e. Reports (error_model e) (stand.AccessesBreak s rules c.primary.new.state.graph c.span.result c.in_ok-node.node.0 (map postfix_expr_of l) (error_model e)))) c.deref.ensures.value c.accesses.ensures.err in
    let spanned = subst (λ (x : Span). IfErr c.accesses.result (λ e. Reports (error_model e) (stand.AccessesBreak s rules c.primary.new.state.graph x c.in_ok-node.node.0 (map postfix_expr_of c.args.expr.now.postfix.items) (error_model e)))) c.span.ensures there in
    if_reports _ _
    (λ r. stand.expr_breaks_later s rules c.args.state.now.graph c.primary.new.state.graph (numbers_of c.args.scope.now.root.now.nodes) c.args.expr.now.span (primary_expr_of c.args.expr.now.primary) (map postfix_expr_of c.args.expr.now.postfix.items) c.in_ok-node.node.0 r c.in_ok-node.ensures.ok)
    c.accesses.result spanned

-- ---- what comes first

pub primary-returns-in-New-clause-ok : goal.primary-returns-in-New-clause-ok
primary-returns-in-New-clause-ok g t c =
    subst (λ (x : PrimaryExpr). IfOk c.instantiation.result (λ n. PrimaryStep c.args.scope.now.context.now (rules_of g.R.Rules c.args.scope.now.rules.now) c.args.state.now.graph c.instantiation.new.state.graph (numbers_of c.args.scope.now.root.now.nodes) x n.0))
    (sym (ap primary_expr_of c.in-New.is ∙ new_is c.in-New.part)) c.instantiation.ensures.ok

pub primary-returns-in-New-clause-err : goal.primary-returns-in-New-clause-err
primary-returns-in-New-clause-err g t c =
    subst (λ (x : PrimaryExpr). IfErr c.instantiation.result (λ e. Reports (error_model e) (PrimaryBreaks c.args.scope.now.context.now (rules_of g.R.Rules c.args.scope.now.rules.now) c.args.state.now.graph (numbers_of c.args.scope.now.root.now.nodes) x (error_model e))))
    (sym (ap primary_expr_of c.in-New.is ∙ new_is c.in-New.part)) c.instantiation.ensures.err

pub primary-returns-in-Ident-clause-ok : goal.primary-returns-in-Ident-clause-ok
primary-returns-in-Ident-clause-ok g t c =
    let s = c.args.scope.now.context.now in
    let rules = rules_of g.R.Rules c.args.scope.now.rules.now in
    let graph = c.args.state.now.graph in
    subst (λ (x : PrimaryExpr). IfOk c.node.result (λ n. PrimaryStep s rules graph graph (numbers_of c.args.scope.now.root.now.nodes) x n.0)) (sym (ap primary_expr_of c.in-Ident.is))
    (IfOk-weaker c.node.result (λ n. NodeIs c.args.scope.now.root.now (ident_of c.in-Ident.id) n) (λ n. PrimaryStep s rules graph graph (numbers_of c.args.scope.now.root.now.nodes) (PrimaryExpr.ident (ident_of c.in-Ident.id)) n.0)
    (λ n is. stand.ident_goes s rules graph c.args.scope.now.root.now (ident_of c.in-Ident.id) n c.requires.agrees c.requires.supplied is) c.node.ensures.ok)

pub primary-returns-in-Ident-clause-err : goal.primary-returns-in-Ident-clause-err
primary-returns-in-Ident-clause-err g t c =
    let s = c.args.scope.now.context.now in
    let rules = rules_of g.R.Rules c.args.scope.now.rules.now in
    let graph = c.args.state.now.graph in
    subst (λ (x : PrimaryExpr). IfErr c.node.result (λ e. Reports (error_model e) (PrimaryBreaks s rules graph (numbers_of c.args.scope.now.root.now.nodes) x (error_model e)))) (sym (ap primary_expr_of c.in-Ident.is))
    (IfErr-weaker c.node.result (λ e. Reports (error_model e) (IsUndefined (numbers_of c.args.scope.now.root.now.nodes) (ident_of c.in-Ident.id) (error_model e))) (λ e. Reports (error_model e) (PrimaryBreaks s rules graph (numbers_of c.args.scope.now.root.now.nodes) (PrimaryExpr.ident (ident_of c.in-Ident.id)) (error_model e)))
    (λ e h. reports h (λ b numbering one. b)) c.node.ensures.err)

pub primary-returns-in-Nested-clause-ok : goal.primary-returns-in-Nested-clause-ok
primary-returns-in-Nested-clause-ok g t c =
    let s = c.args.scope.now.context.now in
    let rules = rules_of g.R.Rules c.args.scope.now.rules.now in
    let old = c.args.state.now.graph in
    let new = c.expression.new.state.graph in
    let declared = numbers_of c.args.scope.now.root.now.nodes in
    let span = (out-NestedExpr c.in-Nested.nested).span in
    let inner : c.deref.result.now ≡ (out-NestedExpr c.in-Nested.nested).inner.value = search rules in
    let is : primary_expr_of c.args.expr.now ≡ PrimaryExpr.nested span (expr_of c.deref.result.now) = ap primary_expr_of c.in-Nested.is ∙ nested_out c.in-Nested.nested ∙ ap (λ y. PrimaryExpr.nested span (expr_of y)) (sym inner) in
    subst (λ (x : PrimaryExpr). IfOk c.expression.result (λ n. PrimaryStep s rules old new declared x n.0)) (sym is)
    (IfOk-weaker c.expression.result (λ n. ExprStep s rules old new declared (expr_of c.deref.result.now) n.0) (λ n. PrimaryStep s rules old new declared (PrimaryExpr.nested span (expr_of c.deref.result.now)) n.0)
    (λ n p. stand.nested_goes s rules old new declared span (expr_of c.deref.result.now) n.0 p) c.expression.ensures.ok)

pub primary-returns-in-Nested-clause-err : goal.primary-returns-in-Nested-clause-err
primary-returns-in-Nested-clause-err g t c =
    let s = c.args.scope.now.context.now in
    let rules = rules_of g.R.Rules c.args.scope.now.rules.now in
    let old = c.args.state.now.graph in
    let declared = numbers_of c.args.scope.now.root.now.nodes in
    let span = (out-NestedExpr c.in-Nested.nested).span in
    let inner : c.deref.result.now ≡ (out-NestedExpr c.in-Nested.nested).inner.value = search rules in
    let is : primary_expr_of c.args.expr.now ≡ PrimaryExpr.nested span (expr_of c.deref.result.now) = ap primary_expr_of c.in-Nested.is ∙ nested_out c.in-Nested.nested ∙ ap (λ y. PrimaryExpr.nested span (expr_of y)) (sym inner) in
    subst (λ (x : PrimaryExpr). IfErr c.expression.result (λ e. Reports (error_model e) (PrimaryBreaks s rules old declared x (error_model e)))) (sym is)
    (IfErr-weaker c.expression.result (λ e. Reports (error_model e) (ExprBreaks s rules old declared (expr_of c.deref.result.now) (error_model e))) (λ e. Reports (error_model e) (PrimaryBreaks s rules old declared (PrimaryExpr.nested span (expr_of c.deref.result.now)) (error_model e))) (λ e h. h) c.expression.ensures.err)

-- ---- an instance

pub instantiation-returns-in_err-of-clause-err : goal.instantiation-returns-in_err-of-clause-err
instantiation-returns-in_err-of-clause-err g t c =
    let p = err_from_is_err_and c.from_residual.result c.from_residual.ensures.1 in
    rw (p.1, p.2) (reports c.in_err-of.ensures.err (stand.unknown_breaks c.args.scope.now.context.now (rules_of g.R.Rules c.args.scope.now.rules.now) c.args.state.now.graph (numbers_of c.args.scope.now.root.now.nodes) c.args.new.now.span (package_name_of c.args.new.now.«package»)
    (arguments_from (map argument_of c.args.new.now.arguments.items)) (error_model c.in_err-of.field-0.0)))

pub instantiation-returns-in_err-arguments-clause-err : goal.instantiation-returns-in_err-arguments-clause-err
instantiation-returns-in_err-arguments-clause-err g t c =
    let s = c.args.scope.now.context.now in
    let rules = rules_of g.R.Rules c.args.scope.now.rules.now in
    let declared = numbers_of c.args.scope.now.root.now.nodes in
    let loaded = c.instantiable.new.state.graph in
    let e = error_model c.in_err-arguments.field-0.0 in
    let none = ap by_name c.new-given.ensures.empty in
    let p = err_from_is_err_and c.from_residual-in_err-arguments.result c.from_residual-in_err-arguments.ensures.1 in
    rw (p.1, p.2) (reports c.in_err-arguments.ensures.err (λ err.
    let broken = subst (λ (l : List CodeArgument). ArgumentsBreak s rules loaded (by_name c.new-given.result.entries) declared c.in_ok-of.of.world (arguments_from (map argument_of l)) e) c.deref.ensures.value err in
    stand.arguments_break s rules c.args.state.now.graph loaded declared c.args.new.now.span (package_name_of c.args.new.now.«package») (arguments_from (map argument_of c.args.new.now.arguments.items)) c.in_ok-of.of e c.in_ok-of.ensures.ok (rw none at broken)))

pub instantiation-complete-requires-clause-agrees : goal.instantiation-complete-requires-clause-agrees
instantiation-complete-requires-clause-agrees g t c =
    let s = packages_in c.args.scope.now.context.now in
    agrees_extended s c.instantiable.new.state.graph c.arguments.new.state.graph c.in_ok-arguments.ensures.ok.extends c.args.scope.now.root.now
    (agrees_extended s c.args.state.now.graph c.instantiable.new.state.graph c.in_ok-of.ensures.ok.extends c.args.scope.now.root.now c.requires.agrees)

pub instantiation-complete-requires-clause-loaded : goal.instantiation-complete-requires-clause-loaded
instantiation-complete-requires-clause-loaded g t c =
    let l = c.in_ok-of.ensures.ok in
    (l.held, stand.loaded_still c.args.scope.now.context.now (rules_of g.R.Rules c.args.scope.now.rules.now) c.instantiable.new.state.graph c.arguments.new.state.graph c.in_ok-of.of l.held c.in_ok-arguments.ensures.ok.extends l.loaded)

pub instantiation-complete-requires-clause-stand : goal.instantiation-complete-requires-clause-stand
instantiation-complete-requires-clause-stand g t c =
    let s = c.args.scope.now.context.now in
    let rules = rules_of g.R.Rules c.args.scope.now.rules.now in
    let declared = numbers_of c.args.scope.now.root.now.nodes in
    let loaded = c.instantiable.new.state.graph in
    let gave = subst (λ (l : List CodeArgument). ArgumentSteps s rules loaded c.arguments.new.state.graph (by_name c.new-given.result.entries) (by_name c.arguments.new.given.entries) declared c.in_ok-of.of.world (arguments_from (map argument_of l))) c.deref.ensures.value c.in_ok-arguments.ensures.ok in
    stand.themselves s rules c.args.state.now.graph loaded c.arguments.new.state.graph declared c.args.new.now.span (package_name_of c.args.new.now.«package») (arguments_from (map argument_of c.args.new.now.arguments.items)) c.in_ok-of.of (by_name c.arguments.new.given.entries) c.in_ok-of.ensures.ok
    (rw (ap by_name c.new-given.ensures.empty) at gave)

pub instantiation-returns-clause-ok : goal.instantiation-returns-clause-ok
instantiation-returns-clause-ok g t c =
    let s = c.args.scope.now.context.now in
    let rules = rules_of g.R.Rules c.args.scope.now.rules.now in
    let declared = numbers_of c.args.scope.now.root.now.nodes in
    let old = c.args.state.now.graph in
    let loaded = c.instantiable.new.state.graph in
    let mid = c.arguments.new.state.graph in
    let name = package_name_of c.args.new.now.«package» in
    let args = arguments_from (map argument_of c.args.new.now.arguments.items) in
    let given = by_name c.arguments.new.given.entries in
    let gave = subst (λ (l : List CodeArgument). ArgumentSteps s rules loaded mid (by_name c.new-given.result.entries) given declared c.in_ok-of.of.world (arguments_from (map argument_of l))) c.deref.ensures.value c.in_ok-arguments.ensures.ok in
    IfOk-weaker c.complete.result (λ n. Completes rules mid c.complete.new.state.graph declared c.in_ok-of.of args given n.0) (λ n. PrimaryStep s rules old c.complete.new.state.graph declared (new_expr_of c.args.new.now) n.0)
    (λ n. stand.new_goes s rules old loaded mid declared c.args.new.now.span name args c.in_ok-of.of given c.in_ok-of.ensures.ok (rw (ap by_name c.new-given.ensures.empty) at gave) c.complete.new.state.graph n.0) c.complete.ensures.ok

pub instantiation-returns-clause-err : goal.instantiation-returns-clause-err
instantiation-returns-clause-err g t c =
    let s = c.args.scope.now.context.now in
    let rules = rules_of g.R.Rules c.args.scope.now.rules.now in
    let declared = numbers_of c.args.scope.now.root.now.nodes in
    let old = c.args.state.now.graph in
    let loaded = c.instantiable.new.state.graph in
    let mid = c.arguments.new.state.graph in
    let name = package_name_of c.args.new.now.«package» in
    let args = arguments_from (map argument_of c.args.new.now.arguments.items) in
    let given = by_name c.arguments.new.given.entries in
    let gave = subst (λ (l : List CodeArgument). ArgumentSteps s rules loaded mid (by_name c.new-given.result.entries) given declared c.in_ok-of.of.world (arguments_from (map argument_of l))) c.deref.ensures.value c.in_ok-arguments.ensures.ok in
    IfErr-weaker c.complete.result (λ e. Reports (error_model e) (FailsToComplete rules mid declared c.in_ok-of.of.world name args given (error_model e))) (λ e. Reports (error_model e) (PrimaryBreaks s rules old declared (new_expr_of c.args.new.now) (error_model e)))
    (λ e h. reports h (stand.completing_breaks s rules old loaded mid declared c.args.new.now.span name args c.in_ok-of.of given c.in_ok-of.ensures.ok (rw (ap by_name c.new-given.ensures.empty) at gave) (error_model e))) c.complete.ensures.err

pub instantiation-arguments-requires : goal.instantiation-arguments-requires
instantiation-arguments-requires g t c κs within =
    let l = c.in_ok-of.ensures.ok in (
      omega (arith, c.decreases, size_is-NewExpr c.args.new.now, ap (most size-InstantiationArgument) c.deref.ensures.value),
      (
        search rules,
        (
          agrees_extended (packages_in c.args.scope.now.context.now) c.args.state.now.graph c.instantiable.new.state.graph l.extends c.args.scope.now.root.now c.requires.agrees,
          (l.extends.supplied, (l.loaded.named, subst (GivenThere c.instantiable.new.state.graph) (sym (ap by_name c.new-given.ensures.empty)) tt)),
        ),
      ),
    )

-- ---- arguments in order

pub arguments-loop-one-init : goal.arguments-loop-one-init
arguments-loop-one-init g t c = record {
  so_far = stand.none_yet c.args.scope.now.context.now (rules_of g.R.Rules c.args.scope.now.rules.now) c.args.state.now.graph (by_name c.args.given.now.entries) (numbers_of c.args.scope.now.root.now.nodes) c.args.world c.args.arguments.now
      c.requires.agrees.nodes c.requires.supplied c.requires.there;
  left = omega arith;
}

pub arguments-argument-requires : goal.arguments-argument-requires
arguments-argument-requires g t c κs within =
    let f = c.loop-one.invariant.so_far in (
      omega (arith, c.decreases, most_at size-InstantiationArgument c.args.arguments.now c.loop-one.one-index c.one-item.result c.loop-one-test.true, ap size-InstantiationArgument c.one-item.is),
      (
        search rules,
        (
          agrees_extended (packages_in c.args.scope.now.context.now) c.args.state.now.graph c.loop-one.state.graph f.extends c.args.scope.now.root.now c.requires.agrees,
          (f.extends.supplied, (world_extended (packages_in c.args.scope.now.context.now) c.args.state.now.graph c.loop-one.state.graph f.extends c.args.world c.requires.world, f.there)),
        ),
      ),
    )

pub arguments-returns-in_err-argument-clause-err : goal.arguments-returns-in_err-argument-clause-err
arguments-returns-in_err-argument-clause-err g t c =
    let p = err_from_is_err_and c.from_residual.result c.from_residual.ensures.1 in
    let last : c.loop-one.left - 1 ≡ length c.args.arguments.now - suc c.loop-one.one-index = omega (arith, c.loop-one.invariant.left) in
    rw (p.1, p.2) (reports c.in_err-argument.ensures.err (stand.argument_breaks c.args.scope.now.context.now (rules_of g.R.Rules c.args.scope.now.rules.now) c.args.state.now.graph (by_name c.args.given.now.entries) (numbers_of c.args.scope.now.root.now.nodes) c.args.world
    c.loop-one.state.graph (by_name c.loop-one.given.entries) c.args.arguments.now c.loop-one.one-index c.one-item.result c.loop-one-test.true c.one-item.is c.requires.world c.loop-one.invariant.so_far
    (nat_eq (c.loop-one.left - 1) 0) (error_model c.in_err-argument.field-0.0) (ap (λ k. nat_eq k 0) last)))

pub arguments-loop-one-preserved : goal.arguments-loop-one-preserved
arguments-loop-one-preserved g t c =
    let last : c.loop-one.left - 1 ≡ length c.args.arguments.now - suc c.loop-one.one-index = omega (arith, c.loop-one.invariant.left) in
    record {
      so_far = stand.arguments_next c.args.scope.now.context.now (rules_of g.R.Rules c.args.scope.now.rules.now) c.args.state.now.graph (by_name c.args.given.now.entries) (numbers_of c.args.scope.now.root.now.nodes) c.args.world
          c.loop-one.state.graph (by_name c.loop-one.given.entries) c.args.arguments.now c.loop-one.one-index c.one-item.result c.loop-one-test.true c.one-item.is c.requires.world c.loop-one.invariant.so_far
          c.argument.new.state.graph (by_name c.argument.new.given.entries) (nat_eq (c.loop-one.left - 1) 0) (ap (λ k. nat_eq k 0) last) c.in_ok-argument.ensures.ok;
      left = omega (arith, c.loop-one.invariant.left);
    }

pub arguments-returns-clause-ok : goal.arguments-returns-clause-ok
arguments-returns-clause-ok g t c =
    stand.arguments_end c.args.scope.now.context.now (rules_of g.R.Rules c.args.scope.now.rules.now) c.args.state.now.graph (by_name c.args.given.now.entries) (numbers_of c.args.scope.now.root.now.nodes) c.args.world
    c.loop-one.state.graph (by_name c.loop-one.given.entries) c.args.arguments.now c.loop-one.one-index (omega arith) c.loop-one.invariant.so_far

-- ---- an argument

pub argument-returns-in-Spread-clause-ok : goal.argument-returns-in-Spread-clause-ok
argument-returns-in-Spread-clause-ok g t c =
    let s = c.args.scope.now.context.now in
    let rules = rules_of g.R.Rules c.args.scope.now.rules.now in
    let graph = c.args.state.now.graph in
    let given = by_name c.args.given.now.entries in
    subst (λ (x : CodeArgument). ArgumentStep s rules graph graph given given (numbers_of c.args.scope.now.root.now.nodes) c.args.world c.args.next.now.is_last (argument_of x)) (sym c.in-Spread.is)
    (stand.spread_goes s rules graph given (numbers_of c.args.scope.now.root.now.nodes) c.args.world c.args.next.now.is_last (ident_of c.in-Spread.field-0) c.requires.agrees.nodes c.requires.supplied c.requires.there)

pub argument-returns-in-Fill-clause-ok : goal.argument-returns-in-Fill-clause-ok
argument-returns-in-Fill-clause-ok g t c =
    let s = c.args.scope.now.context.now in
    let rules = rules_of g.R.Rules c.args.scope.now.rules.now in
    let graph = c.args.state.now.graph in
    let given = by_name c.args.given.now.entries in
    let declared = numbers_of c.args.scope.now.root.now.nodes in
    subst (λ (x : CodeArgument). OnOk c.check_last.result (ArgumentStep s rules graph graph given given declared c.args.world c.args.next.now.is_last (argument_of x))) (sym c.in-Fill.is)
    (on_ok_weaker c.check_last.result (stand.fill_goes s rules graph given declared c.args.world c.args.next.now.is_last c.in-Fill.span c.requires.agrees.nodes c.requires.supplied c.requires.there) c.check_last.ensures.ok)

pub argument-returns-in-Fill-clause-err : goal.argument-returns-in-Fill-clause-err
argument-returns-in-Fill-clause-err g t c =
    let s = c.args.scope.now.context.now in
    let rules = rules_of g.R.Rules c.args.scope.now.rules.now in
    let graph = c.args.state.now.graph in
    let given = by_name c.args.given.now.entries in
    let declared = numbers_of c.args.scope.now.root.now.nodes in
    subst (λ (x : CodeArgument). IfErr c.check_last.result (λ e. Reports (error_model e) (ArgumentBreaks s rules graph given declared c.args.world c.args.next.now.is_last (argument_of x) (error_model e)))) (sym c.in-Fill.is)
    (IfErr-weaker c.check_last.result (λ e. ArgumentBreaks s rules graph given declared c.args.world c.args.next.now.is_last (InstantiationArgument.fill c.in-Fill.span) (error_model e)) (λ e. Reports (error_model e) (ArgumentBreaks s rules graph given declared c.args.world c.args.next.now.is_last (InstantiationArgument.fill c.in-Fill.span) (error_model e)))
    (λ e b. inr b) (stand.fill_breaks s rules graph given declared c.args.world c.args.next.now.is_last c.in-Fill.span c.check_last.result c.check_last.ensures.err))

pub argument-returns-in-Inferred-clause-ok : goal.argument-returns-in-Inferred-clause-ok
argument-returns-in-Inferred-clause-ok g t c =
    let s = c.args.scope.now.context.now in
    let rules = rules_of g.R.Rules c.args.scope.now.rules.now in
    let graph = c.args.state.now.graph in
    let before = by_name c.args.given.now.entries in
    let after = by_name c.give_inferred.new.given.entries in
    let declared = numbers_of c.args.scope.now.root.now.nodes in
    subst (λ (x : CodeArgument). OnOk c.give_inferred.result (ArgumentStep s rules graph graph before after declared c.args.world c.args.next.now.is_last (argument_of x))) (sym c.in-Inferred.is)
    (on_ok_weaker c.give_inferred.result (stand.inferred_goes_on s rules graph before declared c.args.world after c.args.next.now.is_last (ident_of c.in-Inferred.id) c.requires.supplied) c.give_inferred.ensures.ok)

pub argument-returns-in-Inferred-clause-err : goal.argument-returns-in-Inferred-clause-err
argument-returns-in-Inferred-clause-err g t c =
    let s = c.args.scope.now.context.now in
    let rules = rules_of g.R.Rules c.args.scope.now.rules.now in
    let graph = c.args.state.now.graph in
    let before = by_name c.args.given.now.entries in
    let declared = numbers_of c.args.scope.now.root.now.nodes in
    subst (λ (x : CodeArgument). IfErr c.give_inferred.result (λ e. Reports (error_model e) (ArgumentBreaks s rules graph before declared c.args.world c.args.next.now.is_last (argument_of x) (error_model e)))) (sym c.in-Inferred.is)
    (if_reports _ _ (stand.inferred_breaks_on s rules graph before declared c.args.world c.args.next.now.is_last (ident_of c.in-Inferred.id)) c.give_inferred.result c.give_inferred.ensures.err)

pub argument-returns-in_err-node-in-Named-clause-err : goal.argument-returns-in_err-node-in-Named-clause-err
argument-returns-in_err-node-in-Named-clause-err g t c =
    let s = c.args.scope.now.context.now in
    let rules = rules_of g.R.Rules c.args.scope.now.rules.now in
    let graph = c.args.state.now.graph in
    let before = by_name c.args.given.now.entries in
    let declared = numbers_of c.args.scope.now.root.now.nodes in
    let e = error_model c.in_err-node-in-Named.field-0.0 in
    let p = err_from_is_err_and c.from_residual.result c.from_residual.ensures.1 in
    rw (p.1, p.2) (reports c.in_err-node-in-Named.ensures.err (λ err. subst (λ (x : CodeArgument). ArgumentBreaks s rules graph before declared c.args.world c.args.next.now.is_last (argument_of x) e) (sym c.in-Named.is)
    (stand.named_breaks_first s rules graph before declared c.args.world c.args.next.now.is_last (argument_name_of c.in-Named.named.name) (expr_of c.in-Named.named.expr) e err)))

pub argument-give_named-requires : goal.argument-give_named-requires
argument-give_named-requires g t c = world_extended (packages_in c.args.scope.now.context.now) c.args.state.now.graph c.expression.new.state.graph c.in_ok-node-in-Named.ensures.ok.extends c.args.world c.requires.world

pub argument-returns-in_ok-node-in-Named-clause-ok : goal.argument-returns-in_ok-node-in-Named-clause-ok
argument-returns-in_ok-node-in-Named-clause-ok g t c =
    let s = c.args.scope.now.context.now in
    let rules = rules_of g.R.Rules c.args.scope.now.rules.now in
    let graph = c.args.state.now.graph in
    let mid = c.expression.new.state.graph in
    let before = by_name c.args.given.now.entries in
    let after = by_name c.give_named.new.given.entries in
    let declared = numbers_of c.args.scope.now.root.now.nodes in
    subst (λ (x : CodeArgument). OnOk c.give_named.result (ArgumentStep s rules graph mid before after declared c.args.world c.args.next.now.is_last (argument_of x))) (sym c.in-Named.is)
    (on_ok_weaker c.give_named.result (stand.named_goes s rules graph before declared c.args.world mid after c.args.next.now.is_last (argument_name_of c.in-Named.named.name) (expr_of c.in-Named.named.expr) c.in_ok-node-in-Named.node c.requires.world c.requires.there c.in_ok-node-in-Named.ensures.ok) c.give_named.ensures.ok)

pub argument-returns-in_ok-node-in-Named-clause-err : goal.argument-returns-in_ok-node-in-Named-clause-err
argument-returns-in_ok-node-in-Named-clause-err g t c =
    let s = c.args.scope.now.context.now in
    let rules = rules_of g.R.Rules c.args.scope.now.rules.now in
    let graph = c.args.state.now.graph in
    let mid = c.expression.new.state.graph in
    let before = by_name c.args.given.now.entries in
    let declared = numbers_of c.args.scope.now.root.now.nodes in
    subst (λ (x : CodeArgument). IfErr c.give_named.result (λ e. Reports (error_model e) (ArgumentBreaks s rules graph before declared c.args.world c.args.next.now.is_last (argument_of x) (error_model e)))) (sym c.in-Named.is)
    (if_reports _ _
    (λ r. stand.named_breaks_later s rules graph before declared c.args.world mid c.args.next.now.is_last (argument_name_of c.in-Named.named.name) (expr_of c.in-Named.named.expr) c.in_ok-node-in-Named.node.0 r c.requires.world c.in_ok-node-in-Named.ensures.ok)
    c.give_named.result c.give_named.ensures.err)
