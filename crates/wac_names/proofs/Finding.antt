-- What steps find, step after step.
use Rattle.std.proofs.Common.{◌≡◌, ◌∙◌, ℕ, ◌+◌, ◌<◌, ◌≤◌, List, [], ◌∷◌, ◌++◌, Option, Some, None, Bool, true, false, cond, take, length, get_or, refl, sym, ap}
use Rattle.std.specs.Prelude.{option_and_then, All}
use Rattle.std.specs.List.{cons_option}
use Rattle.std.proofs.lemmas.List.Elements.{All-nil, All-cons}
use Rattle.wac_names.specs.Places.{same_name}
use Rattle.std.proofs.lemmas.List.{map-append, take_all, take_more}
use Rattle.wac_names.specs.declared.found.Found.{Found}
use Rattle.wac_names.specs.declared.steps.StepTaken.{StepTaken}
use Rattle.wac_names.specs.LookUps.{Scopes, LookUp, no_names, after, looked_up, look_ups_from, look_ups, finds, if_spelled, found_in, all_found}
use Rattle.wac_names.specs.Steps.{Step}
use Rattle.wac_names.specs.Traced.{step_of, traced, with_last}

-- the scopes after steps
abbrev pub after_all : Scopes → List Step → Scopes
after_all s [] = s
after_all s (x ∷ xs) = after_all (after s x) xs

after_more : (s : Scopes) (xs : List Step) (x : Step) → after_all s (xs ++ x ∷ []) ≡ after (after_all s xs) x
after_more s [] x = refl
after_more s (y ∷ xs) x = after_more (after s y) xs x

cons_found : (o : Option Found) (all : List Found) (p : Option Found) → with_last (cons_option o all) p ≡ cons_option o (with_last all p)
cons_found None all p = refl
cons_found (Some f) all None = refl
cons_found (Some f) all (Some g) = refl

-- what a step finds
abbrev pub step_finds : List ℕ → List ℕ → Scopes → Step → Option Found
step_finds source own s x = option_and_then (found_in source) (looked_up own s x)

-- what is found is what is left of what is found before it is compared
pub in_turn : (source : List ℕ) (o : Option LookUp) → option_and_then (if_spelled source) (option_and_then finds o) ≡ option_and_then (found_in source) o
in_turn source None = refl
in_turn source (Some l) = refl

all_cons : (source : List ℕ) (o : Option LookUp) (ls : List LookUp) → all_found source (cons_option o ls) ≡ cons_option (option_and_then (found_in source) o) (all_found source ls)
all_cons source None ls = refl
all_cons source (Some l) ls = refl

alone : (source : List ℕ) (o : Option LookUp) → all_found source (cons_option o []) ≡ with_last [] (option_and_then (found_in source) o)
alone source None = refl
alone source (Some l) = go (found_in source l)
  where
    go : (p : Option Found) → cons_option p [] ≡ with_last [] p
    go None = refl
    go (Some f) = refl

found_more : (source own : List ℕ) (s : Scopes) (xs : List Step) (x : Step) → all_found source (look_ups_from own s (xs ++ x ∷ []))
    ≡ with_last (all_found source (look_ups_from own s xs)) (step_finds source own (after_all s xs) x)
found_more source own s [] x = alone source (looked_up own s x)
found_more source own s (y ∷ xs) x =
    all_cons source (looked_up own s y) (look_ups_from own (after s y) (xs ++ x ∷ []))
    ∙ ap (cons_option (step_finds source own s y)) (found_more source own (after s y) xs x)
    ∙ sym (cons_found (step_finds source own s y) (all_found source (look_ups_from own (after s y) xs)) (step_finds source own (after_all (after s y) xs) x))
    ∙ ap (λ l. with_last l (step_finds source own (after_all (after s y) xs) x)) (sym (all_cons source (looked_up own s y) (look_ups_from own (after s y) xs)))

-- ---- of the first steps of a list

traced_more : (xs : List StepTaken) (i : ℕ) (x : StepTaken) → i < length xs → x ≡ get_or xs i x → traced (take (i + 1) xs) ≡ traced (take i xs) ++ step_of x ∷ []
traced_more xs i x h e = ap traced (take_more xs i x h ∙ ap (λ y. take i xs ++ y ∷ []) (sym e)) ∙ map-append step_of (take i xs) (x ∷ [])

-- The first steps were taken, and this is what they found.
pub record FoundSo (source own : List ℕ) (xs : List StepTaken) (i : ℕ) (scopes : Scopes) (all : List Found) : Type 0 where
  pub scopes_are : scopes ≡ after_all no_names (traced (take i xs))
  pub all_are : all ≡ all_found source (look_ups own (traced (take i xs)))

pub begun : (source own : List ℕ) (xs : List StepTaken) (scopes : Scopes) (all : List Found) → scopes ≡ no_names → all ≡ [] → FoundSo source own xs 0 scopes all
begun source own xs scopes all s a = record { scopes_are = s; all_are = a }

pub one_more : (source own : List ℕ) (xs : List StepTaken) (i : ℕ) (x : StepTaken) (scopes next : Scopes) (all more : List Found) (f : Option Found)
    → FoundSo source own xs i scopes all → i < length xs → x ≡ get_or xs i x → next ≡ after scopes (step_of x)
    → f ≡ step_finds source own scopes (step_of x) → more ≡ with_last all f → FoundSo source own xs (i + 1) next more
one_more source own xs i x scopes next all more f so h e n is m =
    let longer = traced_more xs i x h e in
    record {
      scopes_are = n ∙ ap (λ s. after s (step_of x)) so.scopes_are ∙ sym (after_more no_names (traced (take i xs)) (step_of x)) ∙ ap (after_all no_names) (sym longer);
      all_are =
          m ∙ ap (with_last all) (is ∙ ap (λ s. step_finds source own s (step_of x)) so.scopes_are)
          ∙ ap (λ l. with_last l (step_finds source own (after_all no_names (traced (take i xs))) (step_of x))) so.all_are
          ∙ sym (found_more source own no_names (traced (take i xs)) (step_of x))
          ∙ ap (λ l. all_found source (look_ups own l)) (sym longer);
    }

pub ended : (source own : List ℕ) (xs : List StepTaken) (i : ℕ) (scopes : Scopes) (all : List Found) → FoundSo source own xs i scopes all → length xs ≤ i
    → all ≡ all_found source (look_ups own (traced xs))
ended source own xs i scopes all so h = so.all_are ∙ ap (λ l. all_found source (look_ups own (traced l))) (take_all i xs h)

-- ---- what is found is spelled alike

abbrev Alike : List ℕ → Found → Type 0
Alike source f = same_name source f.at f.bound ≡ true

alike_here : (source : List ℕ) (o : Option LookUp) (fs : List Found) → All (Alike source) fs → All (Alike source) (cons_option (option_and_then (found_in source) o) fs)
alike_here source None fs h = h
alike_here source (Some l) fs h = go (finds l)
  where
    kept : (f : Found) (b : Bool) → same_name source f.at f.bound ≡ b → All (Alike source) (cons_option (cond b (Some f) None) fs)
    kept f true e = All-cons (Alike source) f fs e h
    kept f false e = h

    go : (p : Option Found) → All (Alike source) (cons_option (option_and_then (if_spelled source) p) fs)
    go None = h
    go (Some f) = kept f (same_name source f.at f.bound) refl

pub are_alike : (source : List ℕ) (ls : List LookUp) → All (Alike source) (all_found source ls)
are_alike source [] = All-nil (Alike source)
are_alike source (l ∷ ls) = alike_here source (Some l) (all_found source ls) (are_alike source ls)
