use Rattle.wac_declared_packages.proofs.Common.{[], subst, document_of}
use Rattle.wac_ast.specs.declared.document.Document.{Document}
use Rattle.wac_declared_packages.specs.Declaring.{IsGraphOf, IsUnresolved}
use Rattle.wac_declared_packages.proofs.Refuses.{unresolved}
use Rattle.wac_declared_packages.proofs.declaration.graph_of.Goals as goal

pub returns-in-Ok-clause-ok : goal.returns-in-Ok-clause-ok
returns-in-Ok-clause-ok c =
    subst (λ (d : Document). IsGraphOf c.args.packages.entries (document_of d) c.in-Ok.graph) c.page.view_is c.in-Ok.ensures.graph

pub returns-in-Err-clause-err : goal.returns-in-Err-clause-err
returns-in-Err-clause-err c =
    subst (λ (d : Document). IsUnresolved c.args.packages.entries (document_of d) c.of_resolving.result) c.page.view_is
    (unresolved c.args.packages.entries (document_of c.page.inside.document.now) c.in-Err.error c.of_resolving.result (λ numbering one. c.in-Err.ensures.first [] numbering one) c.of_resolving.ensures)
