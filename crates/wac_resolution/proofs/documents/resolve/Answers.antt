use Rattle.wac_resolution.proofs.Common.{subst, rules_of}
use Rattle.wac_ast.specs.declared.document.Document.{Document}
use Rattle.wac_resolution.specs.Resolves.{Resolves}
use Rattle.wac_resolution.proofs.documents.resolve.Goals as goal

pub returns : goal.returns
returns g c =
    subst (λ (d : Document). Resolves c.args.packages.entries (rules_of g.R.Rules c.args.rules.now) d c.resolve.result) c.new.ensures c.resolve.ensures
