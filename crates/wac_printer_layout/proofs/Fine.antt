-- Characters that aren't rejected.
use Rattle.wac_printer_layout.proofs.Common.{◌≡◌, ℕ, ◌+◌, List, [], ◌∷◌, refl, ap, ◌∙◌, subst, Some, None, MatchOption, AllByRecursion, len_utf8, chars, span, fault_of, refused_from, IsFirstRefused}
use Rattle.wac_lexer.proofs.Refusals.{first_refused}
use Rattle.wac_printer_layout.specs.Accepted.{IsAccepted}
use Rattle.wac_printer_layout.proofs.Characters.{Holds}

-- a character that isn't rejected
abbrev pub Fine : ℕ → Type 0
Fine c = fault_of c ≡ None

none_refused : (place : ℕ) (cs : List ℕ) → AllByRecursion Fine cs → refused_from place cs ≡ None
none_refused place [] h = refl
none_refused place (c ∷ cs) h =
    ap (λ fault. elim fault [ Some f ↦ Some (f, span place (len_utf8 c)) | None ↦ refused_from (place + len_utf8 c) cs ]) h.0
    ∙ none_refused (place + len_utf8 c) cs h.1

pub accepted : (t : List ℕ) → Holds Fine t → IsAccepted t
accepted t h = (h.0, none_refused 0 (chars t) h.1)

pub fine : (t : List ℕ) → IsAccepted t → Holds Fine t
fine t h = (h.0, subst (λ found. MatchOption found (AllByRecursion Fine (chars t)) (λ f. IsFirstRefused t f.0 f.1)) h.1 (first_refused t))
