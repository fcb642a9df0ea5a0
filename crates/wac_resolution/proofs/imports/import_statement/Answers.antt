use Rattle.wac_resolution.proofs.Common.{◌∙◌, sym, inl, err_from_is_err_and, on_ok_weaker, IfErr-weaker, import_statement_of, error_model, rules_of, reports, memory_model, agrees_kept, placed_kept}
use Rattle.wac_resolution_errors.proofs.Promoted.{promoted_named}
use Rattle.wac_resolution.proofs.Imported.{type_breaks, name_breaks, statement_went}
use Rattle.wac_resolution.proofs.imports.import_statement.Goals as goal

pub returns-in_err-kind-clause-err : goal.returns-in_err-kind-clause-err
returns-in_err-kind-clause-err g c =
    let p = err_from_is_err_and c.from_residual.result c.from_residual.ensures.1 in
    rw (p.1, p.2)
    (reports c.in_err-kind.ensures.err
    (type_breaks c.args.given.now.context.now (rules_of g.R.Rules c.args.given.now.rules.now) c.args.state.now.graph c.args.root.now c.args.externs.now (import_statement_of c.args.statement.now) (error_model c.in_err-kind.field-0.0)))

pub import_kind-requires-clause-agrees : goal.import_kind-requires-clause-agrees
import_kind-requires-clause-agrees g c = c.requires.agrees

pub import_kind-requires-clause-supplied : goal.import_kind-requires-clause-supplied
import_kind-requires-clause-supplied g c = c.requires.supplied

pub import_name-requires : goal.import_name-requires
import_name-requires g c = c.in_ok-kind.ensures.ok.named

pub returns-in_err-text-clause-err : goal.returns-in_err-text-clause-err
returns-in_err-text-clause-err g c =
    let p = err_from_is_err_and c.from_residual-in_err-text.result c.from_residual-in_err-text.ensures.1 in
    rw p.1 (inl (memory_model p.0 p.2))

pub import_as-requires-clause-agrees : goal.import_as-requires-clause-agrees
import_as-requires-clause-agrees g c = agrees_kept c.args.state.now.graph c.import_kind.new.state.graph c.args.root.now c.in_ok-kind.ensures.ok.grows c.requires.agrees

pub import_as-requires-clause-placed : goal.import_as-requires-clause-placed
import_as-requires-clause-placed g c = placed_kept c.args.state.now.graph c.import_kind.new.state.graph c.args.externs.now c.in_ok-kind.ensures.ok.grows c.requires.placed

pub import_as-requires-clause-kind : goal.import_as-requires-clause-kind
import_as-requires-clause-kind g c = rw c.promote-item.ensures (promoted_named c.import_kind.new.state.graph.types c.in_ok-kind.kind c.in_ok-kind.ensures.ok.named)

pub returns-clause-ok : goal.returns-clause-ok
returns-clause-ok g c =
    on_ok_weaker c.import_as.result
    (λ i. statement_went c.args.given.now.context.now (rules_of g.R.Rules c.args.given.now.rules.now) c.args.state.now.graph c.import_kind.new.state.graph c.args.root.now c.args.externs.now (import_statement_of c.args.statement.now)
    c.as_str.result.now c.in_ok-kind.kind c.requires c.in_ok-kind.ensures.ok (λ numbering. c.as_str.ensures.value ∙ c.in_ok-text.ensures numbering)
    c.import_as.new.state.graph c.import_as.new.root c.import_as.new.externs (rw (sym c.promote-item.ensures) i))
    c.import_as.ensures.ok

pub returns-clause-err : goal.returns-clause-err
returns-clause-err g c =
    IfErr-weaker c.import_as.result _ _
    (λ e h. reports h (name_breaks c.args.given.now.context.now (rules_of g.R.Rules c.args.given.now.rules.now) c.args.state.now.graph c.import_kind.new.state.graph c.args.root.now c.args.externs.now (import_statement_of c.args.statement.now)
    c.as_str.result.now c.in_ok-kind.kind c.requires c.in_ok-kind.ensures.ok (λ numbering. c.as_str.ensures.value ∙ c.in_ok-text.ensures numbering) (error_model e)))
    c.import_as.ensures.err
