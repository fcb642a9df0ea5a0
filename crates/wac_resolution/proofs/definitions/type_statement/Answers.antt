use Rattle.wac_resolution.proofs.Common.{subst, err_from_is_err_and, Ident, type_statement_of, Numbering, error_model, DefinitionBroken, composed, places_in, IsDefined, reports, agrees_kept, placed_kept}
use Rattle.wac_resolution.proofs.Leading.{went, kind_breaks, definition_breaks}
use Rattle.wac_resolution.proofs.definitions.type_statement.Goals as goal

pub returns-in_err-kind-clause-err : goal.returns-in_err-kind-clause-err
returns-in_err-kind-clause-err c =
    let p = err_from_is_err_and c.from_residual.result c.from_residual.ensures.1 in
    rw (p.1, p.2) (reports c.in_err-kind.ensures.err (kind_breaks c.args.context.now c.args.state.now.graph c.args.root.now c.args.externs.now (type_statement_of c.args.statement.now) (error_model c.in_err-kind.field-0.0)))

pub define-requires-clause-agrees : goal.define-requires-clause-agrees
define-requires-clause-agrees c = agrees_kept c.args.state.now.graph c.declared_kind.new.state.graph c.args.root.now c.in_ok-kind.ensures.ok.grows c.requires.agrees

pub define-requires-clause-placed : goal.define-requires-clause-placed
define-requires-clause-placed c = placed_kept c.args.state.now.graph c.declared_kind.new.state.graph c.args.externs.now c.in_ok-kind.ensures.ok.grows c.requires.placed

pub define-requires-clause-kind : goal.define-requires-clause-kind
define-requires-clause-kind c = c.in_ok-kind.ensures.ok.named

pub returns-in_err-define-clause-err : goal.returns-in_err-define-clause-err
returns-in_err-define-clause-err c =
    let p = err_from_is_err_and c.from_residual-in_err-define.result c.from_residual-in_err-define.ensures.1 in
    rw (p.1, p.2)
    (reports c.in_err-define.ensures.err
    (λ err. definition_breaks c.args.context.now c.args.state.now.graph c.declared_kind.new.state.graph c.args.root.now c.args.externs.now (type_statement_of c.args.statement.now) c.in_ok-kind.kind (error_model c.in_err-define.field-0.0) c.requires c.in_ok-kind.ensures.ok
    (subst (λ (x : Ident). (numbering : Numbering) → DefinitionBroken (composed numbering c.declared_kind.new.state.graph c.args.root.now) (places_in c.args.root.now c.args.externs.now) x (error_model c.in_err-define.field-0.0)) c.identifier.ensures err)))

pub returns-clause-ok : goal.returns-clause-ok
returns-clause-ok c =
    went c.args.context.now c.args.state.now.graph c.declared_kind.new.state.graph c.define.new.state.graph c.args.root.now c.define.new.root c.args.externs.now c.define.new.externs (type_statement_of c.args.statement.now) c.in_ok-kind.kind
    c.requires c.in_ok-kind.ensures.ok
    (subst (λ (x : Ident). IsDefined c.declared_kind.new.state.graph c.define.new.state.graph c.args.root.now c.define.new.root c.args.externs.now c.define.new.externs x c.in_ok-kind.kind) c.identifier.ensures c.in_ok-define.ensures.ok)
