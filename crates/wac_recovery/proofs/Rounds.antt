-- One round after another.
use Rattle.std.proofs.Common.{◌≡◌, refl, sym, ap, ◌∙◌, subst, ℕ, ◌+◌, ◌-◌, ◌<◌, ◌≤◌, List, [], ◌∷◌, ◌++◌, length, arith, Some, None, inl, inr, ⊎_elim}
use Rattle.std.specs.Prelude.{◌↔◌, map, option_map}
use Rattle.std.proofs.lemmas.List.{append-nil, append_assoc, length-map, map-append}
use Rattle.wac_recovery.specs.Attempts.{Attempt, attempt_of, next, whole}
use Rattle.wac_recovery.specs.Faults.{IsFaultless, IsWrongWith, Wrong, moved_back, place_of, wrong_of}
use Rattle.wac_recovery.specs.Faults.Wrong.{rejected, nested}
use Rattle.wac_recovery.specs.Recovered.{IsRecovery, IsRound, Recovers, left_of}
use Rattle.wac_recovery.specs.declared.attempt.Attempt.{Attempt as CodeAttempt}
use Rattle.wac_recovery.specs.declared.fault.Fault.{Fault}
use Rattle.wac_recovery.specs.declared.recovery.Recovery.{Recovery}
use Rattle.wac_recovery.specs.declared.recovery.Round.{Round}

-- what is found from an attempt on, after these, is what is found from the first on
abbrev pub Continues : ℕ → Attempt → List Wrong → ℕ → Attempt → Type 0
Continues limit start ws left a = (more : List Wrong) (last : Attempt) → Recovers left a more last → Recovers limit start (ws ++ more) last

-- before the first
pub begins : (limit : ℕ) (start a : Attempt) (fs : List Fault) → a ≡ start → fs ≡ [] → Continues limit start (map wrong_of fs) (limit - 0) a
begins limit start a fs same none more last h =
    let all : map wrong_of fs ≡ [] = ap (map wrong_of) none in
    let left : limit - 0 ≡ limit = omega arith in
    subst (λ ws. Recovers limit start (ws ++ more) last) (sym all)
    (subst (λ n. Recovers n start more last) left (subst (λ s. Recovers (limit - 0) s more last) same h))

-- one more fault
module _ (limit : ℕ) (start : Attempt) (ws : List Wrong) (left : ℕ) (a : Attempt) (w : Wrong) (so_far : Continues limit start ws left a) (some : 0 < left)
    (found : Wrong) (is : IsWrongWith a.text found) (moved : w ≡ moved_back a.skip found) where
  pub goes_on : (b : Attempt) → Some b ≡ next a (place_of found).offset → Continues limit start (ws ++ (w ∷ [])) (left - 1) b
  goes_on b e more last on =
      subst (λ all. Recovers limit start all last) (sym (append_assoc ws (w ∷ []) more))
      (so_far (w ∷ more) last (some, (found, is, moved, inr (b, sym e, on))))

  pub is_stuck : None ≡ next a (place_of found).offset → Recovers limit start (ws ++ (w ∷ [])) a
  is_stuck e = so_far (w ∷ []) a (some, (found, is, moved, inl (sym e, refl, refl)))

pub ends : (limit : ℕ) (start : Attempt) (ws : List Wrong) (left : ℕ) (a : Attempt) → Continues limit start ws left a → Recovers left a [] a → Recovers limit start ws a
ends limit start ws left a so_far none = subst (λ all. Recovers limit start all a) (append-nil ws) (so_far [] a none)

-- the same by the values of the code
pushed : (fs new : List Fault) (f : Fault) → new ≡ fs ++ (f ∷ []) → map wrong_of new ≡ map wrong_of fs ++ (wrong_of f ∷ [])
pushed fs new f e = ap (map wrong_of) e ∙ map-append wrong_of fs (f ∷ [])

module _ (limit count : ℕ) (start : Attempt) (fs new : List Fault) (a : Attempt) (round : Round) (so_far : Continues limit start (map wrong_of fs) (limit - count) a) (less : count < limit)
    (is : IsRound a round) (added : new ≡ fs ++ (round.fault ∷ [])) where
  some : 0 < limit - count
  some = omega arith

  pub more_rounds : (after : CodeAttempt) → round.next ≡ Some after → Continues limit start (map wrong_of new) (limit - (count + 1)) (attempt_of after)
  more_rounds after e =
      let nexts : Some (attempt_of after) ≡ next a (place_of is.0).offset = sym (ap (option_map attempt_of) e) ∙ is.3 in
      let left : (limit - count) - 1 ≡ limit - (count + 1) = omega arith in
      subst (λ ws. Continues limit start ws (limit - (count + 1)) (attempt_of after)) (sym (pushed fs new round.fault added))
      (subst (λ n. Continues limit start (map wrong_of fs ++ (wrong_of round.fault ∷ [])) n (attempt_of after)) left
      (goes_on limit start (map wrong_of fs) (limit - count) a (wrong_of round.fault) so_far some is.0 is.1 is.2 (attempt_of after) nexts))

  pub last_round : round.next ≡ None → Recovers limit start (map wrong_of new) a
  last_round e =
      let nexts : None ≡ next a (place_of is.0).offset = sym (ap (option_map attempt_of) e) ∙ is.3 in
      subst (λ ws. Recovers limit start ws a) (sym (pushed fs new round.fault added))
      (is_stuck limit start (map wrong_of fs) (limit - count) a (wrong_of round.fault) so_far some is.0 is.1 is.2 nexts)

-- what was found is a recovery
pub recovered : (source : List ℕ) (limit : ℕ) (r : Recovery) (fs : List Fault) (a : Attempt) → r.faults.items ≡ fs → left_of r ≡ a → Recovers limit (whole source) (map wrong_of fs) a → IsRecovery source limit r
recovered source limit r fs a faults left h =
    subst (λ last. Recovers limit (whole source) (map wrong_of r.faults.items) last) (sym left)
    (subst (λ all. Recovers limit (whole source) (map wrong_of all) a) (sym faults) h)

-- at most so many are found
most_of : (limit : ℕ) (a : Attempt) (ws : List Wrong) (last : Attempt) → Recovers limit a ws last → length ws ≤ limit
most_of limit a [] last h = omega arith
most_of limit a (w ∷ ws) last h =
    let some : 0 < limit = h.0 in
    ⊎_elim (λ stuck. subst (λ xs. length (w ∷ xs) ≤ limit) (sym stuck.1) (omega (arith, some)))
    (λ on. let less : length ws ≤ limit - 1 = most_of (limit - 1) on.0 ws last on.2 in omega (arith, less, some)) h.1.3

pub most : (limit : ℕ) (a : Attempt) (fs : List Fault) (last : Attempt) → Recovers limit a (map wrong_of fs) last → length fs ≤ limit
most limit a fs last h = subst (λ n. n ≤ limit) (length-map fs wrong_of) (most_of limit a (map wrong_of fs) last h)

-- none are found where nothing is wrong, and only there
is_wrong : (text : List ℕ) (found : Wrong) → IsWrongWith text found → IsFaultless text → ⊥
is_wrong text (rejected e) h none = h.1 none.1.0 none.1.1
is_wrong text (nested at) h none = let e : Some at ≡ None = sym h ∙ none.0 in cc

pub none_found : (limit : ℕ) (source : List ℕ) (fs : List Fault) (last : Attempt) → Recovers limit (whole source) (map wrong_of fs) last → 0 < limit → (fs ≡ []) ↔ IsFaultless source
none_found limit source [] last h some = ((λ e. ⊎_elim (λ z. absurd (omega (arith, z, some))) (λ f. f) h.1), (λ f. refl))
none_found limit source (f ∷ fs) last h some = ((λ e. absurd (cc)), (λ none. absurd (is_wrong source h.1.0 h.1.1 none)))
