use Rattle.wac_resolution.proofs.Common.{IfOk, subst, document_of, mentions}
use Rattle.wac_resolution.specs.Noted.{mentions_in}
use Rattle.wac_resolution.specs.Packages.{AreFirst}
use Rattle.wac_ast.specs.declared.document.Document.{Document}
use Rattle.wac_resolution.proofs.resolver.AstResolver.first_mentions.Goals as goal

pub returns-clause-first : goal.returns-clause-first
returns-clause-first c = subst (λ (d : Document). IfOk c.packages.result (λ m. AreFirst (mentions (document_of d)) (mentions_in m.entries))) c.self.view_is c.packages.ensures.first
