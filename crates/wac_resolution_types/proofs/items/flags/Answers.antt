use Rattle.wac_resolution_types.proofs.Common.{inr, inl, err_from_is_err_and, ItemTypeDecl, flags_decl_of, means, reports}
use Rattle.wac_graph_types.specs.declared.kind.ItemKind.TheVariants as kinds
use Rattle.wac_graph_types.specs.declared.kind.«Type».TheVariants as types
use Rattle.wac_resolution_types.specs.Lists.{lists_of}
use Rattle.wac_resolution_types.proofs.Declared.{value_declared}
use Rattle.wac_resolution_types.proofs.items.flags.Goals as goal

pub returns-in_err-value-clause-err : goal.returns-in_err-value-clause-err
returns-in_err-value-clause-err c =
    let p = err_from_is_err_and c.from_residual.result c.from_residual.ensures.1 in
    rw (p.1, p.2) (reports c.in_err-value.ensures.err (λ err numbering. inl err))

pub returns-in_err-declare-clause-err : goal.returns-in_err-declare-clause-err
returns-in_err-declare-clause-err c =
    let p = err_from_is_err_and c.from_residual-in_err-declare.result c.from_residual-in_err-declare.ensures.1 in
    rw (p.1, p.2) (reports c.in_err-declare.ensures.err (λ err numbering. inr (means numbering c.flags.new.state.graph (kinds.Ty (types.Value c.in_ok-value.value)), c.in_ok-value.ensures.ok.is numbering, err numbering c.args.state.now.graph)))

pub returns-clause-ok : goal.returns-clause-ok
returns-clause-ok c =
    value_declared c.args.section.now.side c.args.state.now.graph c.flags.new.state.graph (lists_of c.args.body.now) (lists_of c.declare.new.body) (ItemTypeDecl.flags (flags_decl_of c.args.decl.now)) _ c.in_ok-value.value
    c.requires c.in_ok-value.ensures.ok c.in_ok-declare.ensures.ok (λ numbering m after h d. (m, h, d))
