use Rattle.wac_resolution_state.proofs.Common.{sym, subst, IfOk, IfErr, ident_of, world_ref_of, Numbering, Reports, error_model, WorldNames, if_reports}
use Rattle.wac_resolution_state.specs.Bindings.{values_of}
use Rattle.wac_resolution_state.specs.Named.{scope_of}
use Rattle.wac_ast_uses.specs.declared.includes.WorldRef.{WorldRef}
use Rattle.wac_resolution_rules.specs.BrokenWorlds.{WorldRefBroken}
use Rattle.wac_resolution_state.specs.Expands.{Found}
use Rattle.wac_resolution_state.specs.Context.{packages_in, context_of}
use Rattle.wac_resolution_state.proofs.Finding.{ident_broken}
use Rattle.wac_resolution_state.proofs.paths.world_ref.Goals as goal

pub returns-in-Package-clause-ok : goal.returns-in-Package-clause-ok
returns-in-Package-clause-ok c =
    subst (λ (x : WorldRef). IfOk c.path.result (λ k. Found (packages_in c.args.context.now) c.args.state.now.graph c.path.new.state.graph
    (λ numbering m. WorldNames (context_of numbering c.args.context.now) (scope_of numbering c.args.state.now.graph (values_of c.args.root.now)) (world_ref_of x) m) k))
    (sym c.in-Package.is) c.path.ensures.ok

pub returns-in-Ident-clause-err : goal.returns-in-Ident-clause-err
returns-in-Ident-clause-err c =
    subst (λ (x : WorldRef). IfErr c.kind_of.result (λ e. Reports (error_model e) ((numbering : Numbering) → WorldRefBroken (context_of numbering c.args.context.now) (scope_of numbering c.args.state.now.graph (values_of c.args.root.now)) (world_ref_of x) (error_model e))))
    (sym c.in-Ident.is) (if_reports _ _ (ident_broken c.args.state.now.graph (values_of c.args.root.now) (ident_of c.in-Ident.id)) c.kind_of.result c.kind_of.ensures.err)
