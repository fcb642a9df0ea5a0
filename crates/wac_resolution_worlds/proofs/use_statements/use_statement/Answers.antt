use Rattle.wac_resolution_worlds.proofs.Common.{ℕ, List, map, subst, err_from_is_err_and, Fails, use_item_of, use_of, use_path_of, means, Numbering, error_model, UsesItem, UseItemBroken, values_of, body_of, lists_of, reports}
use Rattle.wac_graph_types.specs.declared.kind.ItemKind.TheVariants as kinds
use Rattle.wac_ast_uses.specs.declared.uses.UseItem.{UseItem}
use Rattle.wac_resolution_worlds.specs.Used.{UseSteps}
use Rattle.wac_resolution_worlds.proofs.UseStatements.{body_there, statement_goes, none_named, uses_broken}
use Rattle.wac_resolution_worlds.proofs.use_statements.use_statement.Goals as goal

pub returns-in_err-interface-clause-err : goal.returns-in_err-interface-clause-err
returns-in_err-interface-clause-err c =
    let p = err_from_is_err_and c.from_residual.result c.from_residual.ensures.1 in
    rw (p.1, p.2) (reports c.in_err-interface.ensures.err (none_named c.args.outer.now.context.now c.args.side c.args.state.now.graph (values_of c.args.outer.now.root.now) (lists_of c.args.body.now) (use_of c.args.statement.now) (error_model c.in_err-interface.field-0.0)))

pub use_items-requires-clause-body : goal.use_items-requires-clause-body
use_items-requires-clause-body c =
    body_there c.args.outer.now.context.now c.args.side c.args.state.now.graph c.used_interface.new.state.graph (values_of c.args.outer.now.root.now) (lists_of c.args.body.now) (use_path_of c.args.statement.now.path) c.in_ok-interface.interface c.requires.body c.in_ok-interface.ensures.ok

pub use_items-requires-clause-interface : goal.use_items-requires-clause-interface
use_items-requires-clause-interface c = c.in_ok-interface.ensures.ok.named

pub returns-in_err-use_items-clause-err : goal.returns-in_err-use_items-clause-err
returns-in_err-use_items-clause-err c =
    let p = err_from_is_err_and c.from_residual-in_err-use_items.result c.from_residual-in_err-use_items.ensures.1 in
    let g = c.used_interface.new.state.graph in
    let i = c.in_ok-interface.interface in
    rw (p.1, p.2) (reports c.in_err-use_items.ensures.err (λ err.
    let items = subst (λ (l : List UseItem). (numbering : Numbering) → Fails (UsesItem c.args.side (means numbering g (kinds.Instance i))) (UseItemBroken c.args.side (means numbering g (kinds.Instance i)) c.path_name-path.result.now (error_model c.in_err-use_items.field-0.0)) (body_of numbering g c.args.body.now) (map use_item_of l)) c.deref.ensures.value err in
    let h = subst (λ (t : List ℕ). (numbering : Numbering) → Fails (UsesItem c.args.side (means numbering g (kinds.Instance i))) (UseItemBroken c.args.side (means numbering g (kinds.Instance i)) t (error_model c.in_err-use_items.field-0.0)) (body_of numbering g c.args.body.now) (use_of c.args.statement.now).items) c.path_name-path.ensures items in
    uses_broken c.args.outer.now.context.now c.args.side c.args.state.now.graph g (values_of c.args.outer.now.root.now) (lists_of c.args.body.now) (use_of c.args.statement.now) i (error_model c.in_err-use_items.field-0.0) c.requires.body c.in_ok-interface.ensures.ok h))

pub returns-clause-ok : goal.returns-clause-ok
returns-clause-ok c =
    let go = subst (λ (l : List UseItem). UseSteps c.args.side c.used_interface.new.state.graph c.in_ok-interface.interface (lists_of c.args.body.now) (lists_of c.use_items.new.body) (map use_item_of l)) c.deref.ensures.value c.in_ok-use_items.ensures.ok in
    statement_goes c.args.outer.now.context.now c.args.side c.args.state.now.graph c.used_interface.new.state.graph (values_of c.args.outer.now.root.now) (lists_of c.args.body.now) (lists_of c.use_items.new.body) (use_of c.args.statement.now) c.in_ok-interface.interface c.requires.body c.in_ok-interface.ensures.ok go
