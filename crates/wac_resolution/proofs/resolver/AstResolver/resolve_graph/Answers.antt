use Rattle.wac_resolution.proofs.Common.{◌∙◌, refl, rules_of}
use Rattle.wac_resolution_errors.specs.declared.error.Error.TheVariants as errors
use Rattle.wac_resolution.proofs.Resolving.{ran_out, resolves}
use Rattle.wac_resolution.proofs.resolver.AstResolver.resolve_graph.Goals as goal

pub returns-in-Ok : goal.returns-in-Ok
returns-in-Ok g c =
    resolves c.args.self c.new.result c.new-in-Ok.result c.args.packages.entries c.in-Ok.kept.entries (rules_of g.R.Rules c.args.rules.now) c.graph_over.result (c.new.ensures ∙ c.self.view_is) (c.new-in-Ok.ensures ∙ c.self.view_is)
    c.in-Ok.ensures c.graph_over.ensures

pub returns-in-Err : goal.returns-in-Err
returns-in-Err g c = ran_out c.args.self c.args.packages.entries (rules_of g.R.Rules c.args.rules.now) (errors.Memory c.in-Err.error) refl
