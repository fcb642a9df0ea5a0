-- One attempt after another.
use Rattle.std.proofs.Common.{◌≡◌, ap, ap₂, ◌∙◌, subst, ℕ, List, ◌++◌, length, max, Some, None}
use Rattle.std.specs.Prelude.{option_map}
use Rattle.wac_lexer.specs.Span.{Span}
use Rattle.wac_recovery.specs.Attempts.{Attempt, attempt_of, front, next, without, without_found}
use Rattle.wac_recovery.specs.Blanked.{blanked}
use Rattle.wac_recovery.specs.Faults.{IsWrongWith, moved_back, place_of, wrong_of}
use Rattle.wac_recovery.specs.Recovered.{IsRound}
use Rattle.wac_recovery.specs.Statements.{part_at}
use Rattle.wac_recovery.specs.declared.fault.Fault.{Fault}
use Rattle.wac_recovery.specs.declared.recovery.Round.{Round}

abbrev made : List ℕ → ℕ → Attempt
made text skip = record { text = text; skip = skip }

-- what is put together is the attempt without a part
pub is_without : (a : Attempt) (part : Span) (before text : List ℕ) (skip : ℕ) → before ≡ front a part → text ≡ before ++ blanked part a.text → skip ≡ max a.skip (length before)
    → made text skip ≡ without a part
is_without a part before text skip front_is text_is skip_is =
    ap₂ made (text_is ∙ ap (λ f. f ++ blanked part a.text) front_is) (skip_is ∙ ap (λ f. max a.skip (length f)) front_is)

-- a part was found, and this is the attempt without it
pub next_is : (a b : Attempt) (text : List ℕ) (place : ℕ) (part : Span) → text ≡ a.text → Some part ≡ part_at text place → b ≡ without a part → Some b ≡ next a place
next_is a b text place part same found is = ap Some is ∙ ap (without_found a) (found ∙ ap (λ t. part_at t place) same)

-- none was
pub next_none : (a : Attempt) (text : List ℕ) (place : ℕ) → text ≡ a.text → None ≡ part_at text place → None ≡ next a place
next_none a text place same found = ap (without_found a) (found ∙ ap (λ t. part_at t place) same)

-- a fault, and what is tried after it
pub is_round : (a : Attempt) (text : List ℕ) (found : Fault) (round : Round) (place : ℕ) → text ≡ a.text → IsWrongWith text (wrong_of found) → wrong_of round.fault ≡ moved_back a.skip (wrong_of found)
    → place ≡ (place_of (wrong_of found)).offset → option_map attempt_of round.next ≡ next a place → IsRound a round
is_round a text found round place same wrong back at nexts =
    (wrong_of found, subst (λ t. IsWrongWith t (wrong_of found)) same wrong, back, nexts ∙ ap (next a) at)
