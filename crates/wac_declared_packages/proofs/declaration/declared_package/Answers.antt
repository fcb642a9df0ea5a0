use Rattle.wac_declared_packages.proofs.Common.{◌≡◌, subst, option_map, IfErr, IfOk, document_of, key_of}
use Rattle.wac_ast.specs.declared.document.Document.{Document}
use Rattle.wac_declared_packages.specs.Declaring.{IsDeclaredBy, IsRefused}
use Rattle.wac_declared_packages.specs.Refusing.{IsDeclaration}
use Rattle.wac_declared_packages.specs.Together.{declared_key}
use Rattle.wac_declared_packages.proofs.Refuses.{refused_unread}
use Rattle.wac_declared_packages.proofs.declaration.declared_package.Goals as goal

pub returns-in-Ok-clause-key : goal.returns-in-Ok-clause-key
returns-in-Ok-clause-key c =
    subst (λ (d : Document). IfOk c.package_with_key.result (λ p. key_of p.0 ≡ declared_key (document_of d))) c.page.view_is c.package_with_key.ensures.key

pub returns-in-Ok-clause-is : goal.returns-in-Ok-clause-is
returns-in-Ok-clause-is c =
    subst (λ (d : Document). IfOk c.package_with_key.result (λ p. IsDeclaredBy c.args.packages.entries (document_of d) (option_map (λ s. s.now) c.args.world) p.1)) c.page.view_is
    c.package_with_key.ensures.is

pub returns-in-Ok-clause-fits : goal.returns-in-Ok-clause-fits
returns-in-Ok-clause-fits c = subst (λ (d : Document). IfOk c.package_with_key.result (λ _. IsDeclaration (document_of d))) c.page.view_is c.package_with_key.ensures.fits

pub returns-in-Ok-clause-err : goal.returns-in-Ok-clause-err
returns-in-Ok-clause-err c = subst (λ (d : Document). IfErr c.package_with_key.result (IsRefused c.args.packages.entries (document_of d))) c.page.view_is c.package_with_key.ensures.err

pub returns-in-Err-clause-err : goal.returns-in-Err-clause-err
returns-in-Err-clause-err c = refused_unread c.args.packages.entries c.page.inside.document.now c.args.page c.in-Err.error c.page.view_is c.in-Err.ensures.err
