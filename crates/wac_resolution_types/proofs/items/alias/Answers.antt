use Rattle.wac_resolution_types.proofs.Common.{inl, inr, err_from_is_err_and, ItemTypeDecl, type_alias_of, means, declared_count, reports}
use Rattle.wac_resolution_types.specs.Lists.{lists_of}
use Rattle.wac_resolution_types.proofs.Declared.{alias_declared}
use Rattle.wac_resolution_types.proofs.items.alias.Goals as goal

pub returns-in_err-kind-clause-err : goal.returns-in_err-kind-clause-err
returns-in_err-kind-clause-err c =
    let p = err_from_is_err_and c.from_residual.result c.from_residual.ensures.1 in
    rw (p.1, p.2) (reports c.in_err-kind.ensures.err (λ err numbering. inl (err numbering)))

pub returns-in_err-declare-clause-err : goal.returns-in_err-declare-clause-err
returns-in_err-declare-clause-err c =
    let p = err_from_is_err_and c.from_residual-in_err-declare.result c.from_residual-in_err-declare.ensures.1 in
    rw (p.1, p.2) (reports c.in_err-declare.ensures.err (λ err numbering. inr (means numbering c.alias.new.state.graph c.in_ok-kind.kind, declared_count c.alias.new.state.graph, c.in_ok-kind.ensures.ok.is numbering, err numbering c.args.state.now.graph)))

pub returns-clause-ok : goal.returns-clause-ok
returns-clause-ok c =
    alias_declared c.args.section.now.side c.args.state.now.graph c.alias.new.state.graph (lists_of c.args.body.now) (lists_of c.declare.new.body) (ItemTypeDecl.alias (type_alias_of c.args.decl.now)) _ c.in_ok-kind.kind
    c.requires c.in_ok-kind.ensures.ok c.in_ok-declare.ensures.ok (λ numbering m n after h d. (m, n, h, d))
