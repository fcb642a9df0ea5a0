-- What resolving a document alone says of it.
use Rattle.std.proofs.Common.{◌≡◌, List, [], ⊎_elim, refl, subst, inl, inr, Ok, Err}
use Rattle.std.specs.Prelude.{◌⊎◌, alloc_error}
use Rattle.wac_ast.specs.Statements.{document_of}
use Rattle.wac_ast.specs.declared.document.Document.{Document}
use Rattle.wac_graph_types.specs.Package.{PackageParts}
use Rattle.wac_graph.specs.declared.package_key.PackageKey.{PackageKey}
use Rattle.wac_resolution.specs.Resolved.{Resolved}
use Rattle.wac_resolution.specs.Resolves.{Resolves}
use Rattle.wac_resolution_errors.specs.Error.{NamesRule}
use Rattle.wac_resolution_errors.specs.ErrorModel.{error_model}
use Rattle.wac_resolution_errors.specs.declared.error.Error.{Error}
use Rattle.wac_resolution_errors.specs.declared.error.Error.TheVariants as errors
use Rattle.wac_resolution_state.specs.Nodes.{composition_of}
use Rattle.wac_tool_graphs.specs.Alone.{BreaksRule, IsComposition, same_rules}

-- an error that isn't out of memory names a rule
memory_or_rule : (e : Error) → (e ≡ errors.Memory alloc_error) ⊎ NamesRule (error_model e)
memory_or_rule (errors.Memory a) = inl refl
memory_or_rule _ = inr (λ h. cc h)

-- a resolution has the document's composition
pub composes : (packages : List (PackageKey × PackageParts)) (document : Document) (r : Resolved) → packages ≡ []
    → Resolves packages same_rules document (Ok r) → IsComposition (document_of document)
composes packages document r none resolves =
    let alone : Resolves [] same_rules document (Ok r) = subst (λ ps. Resolves ps same_rules document (Ok r)) none resolves in
    λ numbering one. (composition_of numbering r.graph alone.graph.0, alone.graph.1 numbering one)

-- an error names the first rule that the document breaks, unless memory ran out
pub breaks : (packages : List (PackageKey × PackageParts)) (document : Document) (e : Error) → packages ≡ []
    → Resolves packages same_rules document (Err e) → (e ≡ errors.Memory alloc_error) ⊎ BreaksRule (document_of document) (error_model e)
breaks packages document e none resolves =
    let alone : Resolves [] same_rules document (Err e) = subst (λ ps. Resolves ps same_rules document (Err e)) none resolves in
    ⊎_elim (λ m. inl m) (λ names. inr (names, λ numbering one. ⊎_elim (λ m. absurd (names m)) (λ x. x) (alone.first [] numbering one))) (memory_or_rule e)
