use Rattle.wac_declared_packages.proofs.Common.{subst, option_map, document_of, key_of}
use Rattle.wac_ast.specs.declared.document.Document.{Document}
use Rattle.wac_declared_packages.specs.Declaring.{IsGraphOf}
use Rattle.wac_declared_packages.specs.Refusing.{IsDeclaration}
use Rattle.wac_declared_packages.specs.Together.{declared_key}
use Rattle.wac_declared_packages.proofs.Declares.{declared_with, holds_anyway, keyed_as}
use Rattle.wac_declared_packages.proofs.Refuses.{refused_unmade, refused_unresolved}
use Rattle.wac_declared_packages.proofs.declaration.package_with_key.Goals as goal

pub returns-in-Ok-clause-key : goal.returns-in-Ok-clause-key
returns-in-Ok-clause-key c = keyed_as c.package_of_graph.result (key_of c.args.key) (declared_key (document_of c.args.page)) c.package_of_graph.ensures.key c.requires.key

pub returns-in-Ok-clause-is : goal.returns-in-Ok-clause-is
returns-in-Ok-clause-is c =
    declared_with c.args.packages.entries (document_of c.args.page) (option_map (λ s. s.now) c.args.world) c.in-Ok.graph c.package_of_graph.result
    (subst (λ (d : Document). IsGraphOf c.args.packages.entries (document_of d) c.in-Ok.graph) c.page.view_is c.in-Ok.ensures.ok) c.package_of_graph.ensures.definitions
    c.package_of_graph.ensures.means c.package_of_graph.ensures.world

pub returns-in-Ok-clause-fits : goal.returns-in-Ok-clause-fits
returns-in-Ok-clause-fits c = holds_anyway c.package_of_graph.result (IsDeclaration (document_of c.args.page)) c.requires.fits

pub returns-in-Ok-clause-err : goal.returns-in-Ok-clause-err
returns-in-Ok-clause-err c = refused_unmade c.args.packages.entries c.page.inside.document.now c.args.page c.package_of_graph.result c.page.view_is c.requires.fits c.package_of_graph.ensures.err

pub returns-in-Err-clause-err : goal.returns-in-Err-clause-err
returns-in-Err-clause-err c =
    refused_unresolved c.args.packages.entries c.page.inside.document.now c.args.page c.in-Err.error c.page.view_is c.requires.fits c.in-Err.ensures.err
