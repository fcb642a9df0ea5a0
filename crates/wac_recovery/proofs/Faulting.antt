-- What parsing finds.
use Rattle.std.proofs.Common.{◌≡◌, sym, subst, ⊎_elim, List, ℕ, Option, Some, None, Result, Ok, Err}
use Rattle.std.specs.Prelude.{◌⊎◌, IfOk, alloc_error}
use Rattle.wac_ast_grammar.specs.Tree.{Document}
use Rattle.wac_ast_grammar.specs.TextTree.{IsTreeOf}
use Rattle.wac_ast.specs.Document.{ErrorOf}
use Rattle.wac_ast_base.specs.Error.{told_by}
use Rattle.wac_ast_base.specs.declared.error.Error.{Error}
use Rattle.wac_ast_base.specs.declared.error.Error.TheVariants as errors
use Rattle.wac_comments_layout.specs.Nesting.{too_deep}
use Rattle.wac_recovery.specs.Faults.{IsFirstFault, IsRejection, IsWrongWith}
use Rattle.wac_recovery.specs.declared.fault.Fault.{Fault}

-- an error of parsing that isn't out of memory is what is wrong first
pub fault_found : {E : Type 0} (text : List ℕ) (e : Error) (r : Result (Option Fault) E) → too_deep text ≡ None → ((tree : Document) → IsTreeOf text tree → e ≡ errors.Memory alloc_error)
    → (e ≡ errors.Memory alloc_error) ⊎ ErrorOf (told_by e) text → IfOk r (λ found. IsRejection e found) → IfOk r (λ found. IsFirstFault text found)
fault_found text e (Ok (Some f)) flat only told h =
    subst (IsWrongWith text) (sym h.1) (flat, (λ tree is. h.0 (only tree is)), ⊎_elim (λ m. absurd (h.0 m)) (λ x. x) told)
fault_found text e (Ok None) flat only told h = absurd h.1
fault_found text e (Err x) flat only told h = tt
