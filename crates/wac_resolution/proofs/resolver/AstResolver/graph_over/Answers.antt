use Rattle.wac_resolution.proofs.Common.{rules_of}
use Rattle.wac_resolution.proofs.Resolving.{resolved_over}
use Rattle.wac_resolution.proofs.resolver.AstResolver.graph_over.Goals as goal

pub returns : goal.returns
returns g c =
    resolved_over c.context-context.result (rules_of g.R.Rules c.args.rules.now) c.args.packages.now.entries c.self.inside.document.now c.args.self c.deref.result.now c.composed.result
    (record { same = c.self.view_is; own = c.context-context.ensures.own; version = c.context-context.ensures.version; packages_are = c.context-context.ensures.packages; statements_are = c.deref.ensures.value })
    c.composed.ensures.ok c.composed.ensures.err
