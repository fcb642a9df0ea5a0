-- A token's text before a text that doesn't continue it is the longest match.
use Rattle.wac_lexer.proofs.Common.{◌≡◌, ℕ, zero, suc, ◌+◌, ◌<◌, ◌≤◌, Bool, true, false, cond, List, [], ◌∷◌, ◌++◌, take, length, sym, refl, ap, ◌∙◌, subst, ⊎_elim, arith, Option, Some, None, add-zero, zero-add, append_assoc, append-nil, ◌&&◌, not, is_some, and_parts, false≢true, cases_Bool}
use Rattle.wac_lexer.specs.Shapes.{shape_of}
use Rattle.wac_lexer.specs.Tokens.{token_of, longest_token}
use Rattle.wac_lexer.specs.Automaton.{class_of, step_of, shape_at}
use Rattle.wac_lexer.proofs.Following.{run, is_dead, quiet}
use Rattle.wac_lexer.specs.declared.token.Token.{Token}
use Rattle.wac_lexer.specs.Automaton.{State}
use Rattle.wac_lexer.specs.Automaton.State.{Start, Dead}
use Rattle.wac_lexer.proofs.States.{Reads, reads_none, reads_more, reads_dead, shape_is}
use Rattle.wac_lexer.proofs.Sorts.{AreBytes}
use Rattle.wac_lexer.proofs.Fronts.{one_token}

pub reads_run : (front t : List ℕ) (state : State) → AreBytes t → Reads state front → Reads (run state t) (front ++ t)
reads_run front [] state h r = subst (Reads state) (sym (append-nil front)) r
reads_run front (b ∷ t) state h r =
    subst (Reads (run state (b ∷ t))) (append_assoc front (b ∷ []) t)
    (reads_run (front ++ b ∷ []) t (step_of state (class_of b)) h.1 (reads_more state front b r h.0))

pub shape_run : (t : List ℕ) → AreBytes t → shape_of t ≡ shape_at (run Start t)
shape_run t h = shape_is (run Start t) t (reads_run [] t Start h reads_none)

pub dead_is : (s : State) → is_dead s ≡ true → s ≡ Dead
dead_is Dead e = refl
dead_is s e = absurd (false≢true e)

not_true : (b : Bool) → not b ≡ true → b ≡ false
not_true true e = absurd (false≢true e)
not_true false e = refl

none_is : {A : Type 0} (o : Option A) → is_some o ≡ false → o ≡ None
none_is None e = refl
none_is (Some x) e = absurd (false≢true (sym e))

-- after a quiet rest nothing has a shape
pub quiet_none : (front u : List ℕ) (state : State) (m : ℕ) → AreBytes u → Reads state front → quiet state u ≡ true → 0 < m → m ≤ length u → shape_of (front ++ take m u) ≡ None
quiet_none front [] state m h r q pos fits = absurd (omega arith)
quiet_none front (b ∷ u) state zero h r q pos fits = absurd (omega arith)
quiet_none front (b ∷ u) state (suc m) h r q pos fits =
    let there = reads_more state front b r h.0 in
    further front b u state m q fits there (quiet_none (front ++ b ∷ []) u (step_of state (class_of b)) m h.1 there)
  where
    further : (front : List ℕ) (b : ℕ) (u : List ℕ) (state : State) (m : ℕ) → quiet state (b ∷ u) ≡ true → suc m ≤ length (b ∷ u) → Reads (step_of state (class_of b)) (front ++ b ∷ [])
        → (quiet (step_of state (class_of b)) u ≡ true → 0 < m → m ≤ length u → shape_of ((front ++ b ∷ []) ++ take m u) ≡ None)
        → shape_of (front ++ take (suc m) (b ∷ u)) ≡ None
    further front b u state m q fits there rec =
        ap shape_of (sym (append_assoc front (b ∷ []) (take m u)))
        ∙ ⊎_elim
        (λ d. shape_is Dead ((front ++ b ∷ []) ++ take m u) (reads_dead (front ++ b ∷ []) (take m u) (subst (λ s. Reads s (front ++ b ∷ [])) (dead_is (step_of state (class_of b)) d) there)))
        (λ d.
        let parts = and_parts (not (is_some (shape_at (step_of state (class_of b))))) (quiet (step_of state (class_of b)) u) (subst (λ v. cond v true (not (is_some (shape_at (step_of state (class_of b)))) && quiet (step_of state (class_of b)) u) ≡ true) d q) in
        last_or m refl (none_is (shape_at (step_of state (class_of b))) (not_true (is_some (shape_at (step_of state (class_of b)))) parts.0)) (rec parts.1))
        (cases_Bool (is_dead (step_of state (class_of b))))
      where
        last_or : (k : ℕ) → m ≡ k → shape_at (step_of state (class_of b)) ≡ None → (0 < m → m ≤ length u → shape_of ((front ++ b ∷ []) ++ take m u) ≡ None) → shape_of ((front ++ b ∷ []) ++ take m u) ≡ None
        last_or zero e none rec =
            ap shape_of (ap (λ n. (front ++ b ∷ []) ++ take n u) e ∙ append-nil (front ++ b ∷ []))
            ∙ shape_is (step_of state (class_of b)) (front ++ b ∷ []) there ∙ none
        last_or (suc k) e none rec = rec (omega arith) (omega arith)

-- where no prefix of more than n bytes is a token
pub longest_stays : (text : List ℕ) (n m : ℕ) → ((k : ℕ) → 0 < k → k ≤ m → token_of (take (n + k) text) ≡ None) → longest_token text (n + m) ≡ longest_token text n
longest_stays text n zero f = ap (longest_token text) (add-zero n)
longest_stays text n (suc m) f =
    let step : n + suc m ≡ suc (n + m) = omega arith in
    let none : token_of (take (suc (n + m)) text) ≡ None = subst (λ k. token_of (take k text) ≡ None) step (f (suc m) (omega arith) (omega arith)) in
    ap (longest_token text) step ∙ ap (λ k. one_token (suc (n + m)) k (longest_token text (n + m))) none ∙ longest_stays text n m (λ k a b. f k a (omega arith))

pub found_at : (text : List ℕ) (n : ℕ) (k : Token) → 0 < n → token_of (take n text) ≡ Some k → longest_token text n ≡ Some (n, k)
found_at text zero k pos e = absurd (omega arith)
found_at text (suc n) k pos e = ap (λ o. one_token (suc n) o (longest_token text n)) e

pub take_beyond : (t u : List ℕ) (k : ℕ) → take (length t + k) (t ++ u) ≡ t ++ take k u
take_beyond [] u k = ap (λ n. take n u) (zero-add k)
take_beyond (b ∷ t) u k = let e : suc (length t) + k ≡ suc (length t + k) = omega arith in ap (λ n. take n (b ∷ (t ++ u))) e ∙ ap (λ x. b ∷ x) (take_beyond t u k)

pub bytes_front : (t u : List ℕ) → AreBytes (t ++ u) → AreBytes t
bytes_front [] u h = tt
bytes_front (b ∷ t) u h = (h.0, bytes_front t u h.1)

pub bytes_back : (t u : List ℕ) → AreBytes (t ++ u) → AreBytes u
bytes_back [] u h = h
bytes_back (b ∷ t) u h = bytes_back t u h.1
