-- Bytes passed on in blocks.
use Rattle.wac_lexer.proofs.Common.{◌≡◌, ◌++◌, ◌+◌, ◌-◌, ◌≤◌, ◌∷◌, ℕ, List, [], length, take, drop, sym, ap, ◌∙◌, append_assoc, arith, length-append, take-append-drop, drop-drop, take_at, drop-append-le, drop_all, length-drop}
use Rattle.wac_lexer.specs.Blocks.{Holding}

-- the first n of the bytes held are passed on
pub passed_on : (old new xs : List ℕ) (at n : ℕ) → new ≡ old ++ take n (drop at xs) → new ++ drop (at + n) xs ≡ old ++ drop at xs
passed_on old new xs at n e =
    ap (λ x. x ++ drop (at + n) xs) e ∙ append_assoc old (take n (drop at xs)) (drop (at + n) xs)
    ∙ ap (λ x. old ++ (take n (drop at xs) ++ x)) (sym (drop-drop n at xs)) ∙ ap (λ x. old ++ x) (take-append-drop n (drop at xs))

-- all of them are
pub all_passed_on : (old new xs : List ℕ) (at n : ℕ) → new ≡ old ++ take n (drop at xs) → length (drop at xs) ≤ n → new ++ [] ≡ old ++ drop at xs
all_passed_on old new xs at n e h =
    ap (λ x. new ++ x) (sym (drop_all (at + n) xs (omega (arith, h, length-drop at xs)))) ∙ passed_on old new xs at n e

-- bytes are written after those held
pub written_after : (front put rest : List ℕ) (at end n : ℕ) → length front ≡ end → length put ≡ n → at ≤ end
    → drop at (take (end + n) (front ++ (put ++ rest))) ≡ drop at front ++ put
written_after front put rest at end n e k h =
    let both : length (front ++ put) ≡ end + n = omega (arith, length-append front put) in
    ap (λ x. drop at (take (end + n) x)) (sym (append_assoc front put rest)) ∙ ap (drop at) (take_at (front ++ put) rest (end + n) both)
    ∙ drop-append-le at front put (omega arith)

-- how many bytes were below before stays, when some are passed on
pub same_before : (b m passed b' m' : List ℕ) → length m ≤ length b → b' ≡ b ++ passed → m' ≡ m ++ passed → length b' - length m' ≡ length b - length m
same_before b m passed b' m' h e k =
    omega (arith, ap length e, ap length k, length-append b passed, length-append m passed)

pub alike : (x x' y y' : ℕ) (s s' : List ℕ) → x ≡ x' → y ≡ y' → s ≡ s' → x ∷ (y ∷ s) ≡ x' ∷ (y' ∷ s')
alike x x' y y' s s' e f h = λ i. e i ∷ (f i ∷ h i)

-- more bytes are held
pub holding_more : (v w : Holding) (held put : List ℕ) (room n : ℕ) → v ≡ w → held ≡ v.held ++ put → room ≡ v.room - n
    → ◌≡◌ {A = Holding} (record v { held = held; room = room }) (record w { held = w.held ++ put; room = w.room - n })
holding_more v w held put room n h e f =
    let more : ◌≡◌ {A = Holding} (record v { held = held; room = room }) (record v { held = v.held ++ put; room = v.room - n }) = λ i. record v { held = e i; room = f i } in
    more ∙ ap (λ (x : Holding). record x { held = x.held ++ put; room = x.room - n }) h
