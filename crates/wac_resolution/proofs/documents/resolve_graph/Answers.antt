use Rattle.wac_resolution.proofs.Common.{subst, rules_of}
use Rattle.wac_ast.specs.declared.document.Document.{Document}
use Rattle.wac_resolution.specs.Resolved.{in_resolution}
use Rattle.wac_resolution.specs.Resolves.{Resolves}
use Rattle.wac_resolution.proofs.documents.resolve_graph.Goals as goal

pub returns : goal.returns
returns g c =
    subst (λ (d : Document). Resolves c.args.packages.entries (rules_of g.R.Rules c.args.rules.now) d (in_resolution d c.resolve_graph.result)) c.new.ensures c.resolve_graph.ensures
