use Rattle.wac_resolution_worlds.proofs.Common.{List, map, subst, IfOk, IfErr, world_item_of, declared_count, Numbering, Reports, error_model, WorldBroken, values_of, scope_of, context_of}
use Rattle.wac_ast_worlds.specs.declared.world.WorldItem.{WorldItem}
use Rattle.wac_resolution_worlds.specs.Declarations.{WorldDeclared}
use Rattle.wac_resolution_worlds.proofs.declared.world_decl.Goals as goal

pub returns-clause-ok : goal.returns-clause-ok
returns-clause-ok c =
    subst (λ (l : List WorldItem). IfOk c.world_of.result (λ k. WorldDeclared c.args.outer.now.context.now c.args.state.now.graph c.world_of.new.state.graph (values_of c.args.outer.now.root.now) c.args.decl.now.id.string.now (map world_item_of l) k)) c.items_of.ensures c.world_of.ensures.ok

pub returns-clause-err : goal.returns-clause-err
returns-clause-err c =
    let g = c.args.state.now.graph in
    subst (λ (l : List WorldItem). IfErr c.world_of.result (λ e. Reports (error_model e) ((numbering : Numbering) → WorldBroken (context_of numbering c.args.outer.now.context.now) (scope_of numbering g (values_of c.args.outer.now.root.now)) c.args.decl.now.id.string.now (declared_count g) (map world_item_of l) (error_model e)))) c.items_of.ensures c.world_of.ensures.err
