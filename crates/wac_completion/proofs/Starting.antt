-- The text before an offset, without the word at its end.
use Rattle.std.proofs.Common.{◌≡◌, refl, ap, ◌∙◌, subst, ℕ, List, take, Bool, true, false, Result, Ok, Err}
use Rattle.std.specs.Prelude.{◌↔◌, IfOk, IsTrue}
use Rattle.std.specs.Str.{IsCharBoundary}
use Rattle.wac_lexer.specs.declared.token.Token.{Token}
use Rattle.wac_completion.specs.Standing.{AreKinds}
use Rattle.wac_completion.specs.Words.{AreKindsAt, WordBegins}

pub kinds_there : {X E : Type 0} (source : List ℕ) (offset at : ℕ) (before text : List ℕ) (r : Result X E) (items : X → List Token) → before ≡ take offset source → WordBegins before at → text ≡ take at before
    → IfOk r (λ v. AreKinds text (items v)) → IfOk r (λ v. AreKindsAt source offset (items v))
kinds_there source offset at before text (Ok v) items front begins is h = λ boundary.
    (at, subst (λ (t : List ℕ). WordBegins t at) front begins, subst (λ (t : List ℕ). AreKinds t (items v)) (is ∙ ap (take at) front) h)
kinds_there source offset at before text (Err e) items front begins is h = tt

pub nothing_there : (source : List ℕ) (offset : ℕ) (b : Bool) → IsTrue b ↔ IsCharBoundary source offset → b ≡ true → ¬ (IsCharBoundary source offset) → ⊥
nothing_there source offset true test e none = none (test.0 refl)
nothing_there source offset false test e none = absurd cc
