-- Why a document declares no package, from the parts of what makes one.
use Rattle.wac_declared_packages.proofs.Common.{◌≡◌, List, Result, Ok, Err, inl, inr, subst, IfErr, PackageParts, PackageKey, document_of}
use Rattle.wac_ast.specs.declared.document.Document.{Document as CodeDocument}
use Rattle.wac_ast_grammar.specs.Tree.{Document}
use Rattle.wac_resolution_errors.specs.declared.error.Error.{Error as ResolutionError}
use Rattle.wac_declared_packages.specs.declared.error.DeclarationError.{DeclarationError}
use Rattle.wac_declared_packages.specs.Declaring.{Breaks, IsRefused, IsUnresolved}
use Rattle.wac_declared_packages.specs.Refusing.{IsDeclaration, IsOfResolving, IsUnmade, IsUnread}

-- an error of resolving is told as one of the declaration
pub unresolved : (packages : List (PackageKey × PackageParts)) (d : Document) (cause : ResolutionError) (e : DeclarationError) → Breaks packages d cause → IsOfResolving cause e → IsUnresolved packages d e
unresolved packages d cause e breaks (inl is) = inl (cause, is, breaks)
unresolved packages d cause e breaks (inr memory) = inr memory

unread : (packages : List (PackageKey × PackageParts)) (d : Document) (e : DeclarationError) → IsUnread d e → IsRefused packages d e
unread packages d e (inl unfit) = inl unfit
unread packages d e (inr error_is) = inr (error_is.0, inl (inr error_is.1))

-- its key isn't read
pub refused_unread : (packages : List (PackageKey × PackageParts)) (a b : CodeDocument) (e : DeclarationError) → a ≡ b → IsUnread (document_of a) e → IsRefused packages (document_of b) e
refused_unread packages a b e same error_is = subst (λ (d : CodeDocument). IsRefused packages (document_of d) e) same (unread packages (document_of a) e error_is)

-- it can't be resolved
pub refused_unresolved : (packages : List (PackageKey × PackageParts)) (a b : CodeDocument) (e : DeclarationError) → a ≡ b → IsDeclaration (document_of b) → IsUnresolved packages (document_of a) e
    → IsRefused packages (document_of b) e
refused_unresolved packages a b e same fits unresolved = inr (fits, inl (subst (λ (d : CodeDocument). IsUnresolved packages (document_of d) e) same unresolved))

-- it makes no package
pub refused_unmade : {X : Type 0} (packages : List (PackageKey × PackageParts)) (a b : CodeDocument) (r : Result X DeclarationError) → a ≡ b → IsDeclaration (document_of b)
    → IfErr r (IsUnmade (document_of a).directive.package_name.span) → IfErr r (IsRefused packages (document_of b))
refused_unmade packages a b (Ok x) same fits unmade = tt
refused_unmade packages a b (Err e) same fits unmade = inr (fits, inr (subst (λ (d : CodeDocument). IsUnmade (document_of d).directive.package_name.span e) same unmade))
