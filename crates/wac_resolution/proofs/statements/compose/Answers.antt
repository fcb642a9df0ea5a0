use Rattle.wac_resolution.proofs.Common.{List, map, arith, subst, err_from_is_err_and, statement_of, error_model, rules_of, reports}
use Rattle.std.proofs.lemmas.List.{take_all, length-map}
use Rattle.wac_ast_grammar.specs.Tree.{Statement}
use Rattle.wac_resolution.specs.Sequences.{StatementsRun}
use Rattle.wac_resolution.proofs.Sequences.{none_went, next_went, next_breaks}
use Rattle.wac_resolution.proofs.statements.compose.Goals as goal

pub loop-next-init : goal.loop-next-init
loop-next-init g c = none_went c.args.given.now.context.now (rules_of g.R.Rules c.args.given.now.rules.now) c.args.state.now.graph c.args.root.now c.args.externs.now c.requires

pub statement-requires : goal.statement-requires
statement-requires g c = c.loop-next.invariant.stand

pub returns-in_err-statement-clause-err : goal.returns-in_err-statement-clause-err
returns-in_err-statement-clause-err g c =
    let p = err_from_is_err_and c.from_residual.result c.from_residual.ensures.1 in
    rw (p.1, p.2)
    (reports c.in_err-statement.ensures.err
    (next_breaks c.args.given.now.context.now (rules_of g.R.Rules c.args.given.now.rules.now) c.args.state.now.graph c.loop-next.state.graph c.args.root.now c.loop-next.root c.args.externs.now c.loop-next.externs c.args.statements.now c.loop-next.next-index c.next-item.result
    (error_model c.in_err-statement.field-0.0) c.loop-next-test.true c.next-item.is c.loop-next.invariant))

pub loop-next-preserved : goal.loop-next-preserved
loop-next-preserved g c =
    next_went c.args.given.now.context.now (rules_of g.R.Rules c.args.given.now.rules.now) c.args.state.now.graph c.loop-next.state.graph c.statement.new.state.graph c.args.root.now c.loop-next.root c.statement.new.root c.args.externs.now c.loop-next.externs c.statement.new.externs
    c.args.statements.now c.loop-next.next-index c.next-item.result c.loop-next-test.true c.next-item.is c.loop-next.invariant c.in_ok-statement.ensures.ok

pub returns-clause-ok : goal.returns-clause-ok
returns-clause-ok g c =
    subst (λ (all : List Statement). StatementsRun c.args.given.now.context.now (rules_of g.R.Rules c.args.given.now.rules.now) c.args.state.now.graph c.loop-next.state.graph c.args.root.now c.loop-next.root c.args.externs.now c.loop-next.externs all)
    (take_all c.loop-next.next-index (map statement_of c.args.statements.now) (omega (arith, length-map c.args.statements.now statement_of))) c.loop-next.invariant
