-- What is found of a text.
use Rattle.std.proofs.Common.{◌≡◌, refl, ap, ℕ, List, inl, inr, Result, Ok, Err, IfOk, ⊎_elim, Bool, true, false}
use Rattle.std.specs.Prelude.{◌⊎◌, None, alloc_error}
use Rattle.wac_ast_grammar.specs.Tree.{Document}
use Rattle.wac_ast_grammar.specs.TextTree.{IsTreeOf}
use Rattle.wac_ast.specs.Document.{ErrorOf}
use Rattle.wac_ast_base.specs.Error.{told_by}
use Rattle.wac_ast_base.specs.declared.error.Error.{Error}
use Rattle.wac_ast_base.specs.declared.error.Error.TheVariants as errors
use Rattle.wac_comments_layout.specs.Nesting.{too_deep}
use Rattle.wac_resolution_errors.specs.ErrorModel.{error_model}
use Rattle.wac_resolution_errors.specs.declared.error.Error.{Error as ResolutionError}
use Rattle.wac_resolution_errors.specs.declared.error.Error.TheVariants as resolution_errors
use Rattle.wac_first_error.specs.Mentioned.{mentions_foreign}
use Rattle.wac_tool_graphs.specs.Alone.{BreaksRule}
use Rattle.wac_first_error.specs.Findings.{IsFault, IsFinding, IsResolved, IsRule}
use Rattle.wac_first_error.specs.declared.finding.Finding.{Finding}
use Rattle.wac_first_error.specs.declared.finding.Finding.TheVariants as findings

-- an error of parsing that isn't out of memory shows that the text has no tree
pub fault_found : {E : Type 0} (text : List ℕ) (resolve : Bool) (e : Error) (r : Result Finding E) → ((tree : Document) → IsTreeOf text tree → e ≡ errors.Memory alloc_error)
    → (e ≡ errors.Memory alloc_error) ⊎ ErrorOf (told_by e) text → IfOk r (λ f. IsFault (told_by e) f) → IfOk r (λ f. IsFinding text resolve f)
fault_found text resolve e (Ok (findings.Rejected d)) only error_is h =
    inr (inl (λ tree is. h.0 (ap told_by (only tree is)), (told_by e, ⊎_elim (λ m. absurd (h.0 (ap told_by m))) (λ x. x) error_is, h.1)))
fault_found text resolve e (Ok findings.Document) only error_is h = absurd h
fault_found text resolve e (Ok findings.Unresolved) only error_is h = absurd h
fault_found text resolve e (Err x) only error_is h = tt

-- a document of a text is what it was found to be
pub document_found : {E : Type 0} (text : List ℕ) (resolve : Bool) (tree : Document) (r : Result Finding E) → too_deep text ≡ None → IsTreeOf text tree
    → IfOk r (λ f. IsResolved tree resolve f) → IfOk r (λ f. IsFinding text resolve f)
document_found text resolve tree (Ok findings.Document) flat is h = (flat, (tree, is, h))
document_found text resolve tree (Ok findings.Unresolved) flat is h = (flat, (tree, is, h))
document_found text resolve tree (Ok (findings.Rejected d)) flat is h = inr (inr (flat, (tree, is, h)))
document_found text resolve tree (Err x) flat is h = tt

-- an error of resolving names the rule that a document breaks
pub rule_found : {E : Type 0} (tree : Document) (e : ResolutionError) (r : Result Finding E) → mentions_foreign tree ≡ false
    → (e ≡ resolution_errors.Memory alloc_error) ⊎ BreaksRule tree (error_model e) → IfOk r (λ f. IsRule e f) → IfOk r (λ f. IsResolved tree true f)
rule_found tree e (Ok (findings.Rejected d)) none broken h =
    (refl, none, (error_model e, ⊎_elim (λ m. absurd (h.0 m)) (λ b. b) broken, h.1))
rule_found tree e (Ok findings.Document) none broken h = absurd h
rule_found tree e (Ok findings.Unresolved) none broken h = absurd h
rule_found tree e (Err x) none broken h = tt
