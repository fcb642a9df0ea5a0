-- The UTF-8 of characters consists of bytes.
use Rattle.wac_printer_layout.proofs.Common.{◌≡◌, ℕ, ◌+◌, ◌/◌, ◌<◌, true, List, [], ◌∷◌, ◌++◌, subst, arith, ⊎_elim, nat_lt, IsUtf8, and_parts, ltb-true, cond_both, AreBytes}
use lib.Utf8.{scalar, scalars, scalar_cases, next, encode, encodes}

bytes-append : (a b : List ℕ) → AreBytes a → AreBytes b → AreBytes (a ++ b)
bytes-append [] b ha hb = hb
bytes-append (x ∷ a) b ha hb = (ha.0, bytes-append a b ha.1 hb)

later : (c : ℕ) → next c < 256
later c = omega arith

char_bytes : (c : ℕ) → c < 1114112 → AreBytes (encode c)
unfolding encode
char_bytes c s =
    cond_both (nat_lt c 128) (c ∷ []) _ AreBytes (λ e. (omega (arith, ltb-true c 128 e), tt))
    (λ _. cond_both (nat_lt c 2048) ((192 + c / 64) ∷ next c ∷ []) _ AreBytes (λ e. (omega (arith, ltb-true c 2048 e), (later c, tt)))
    (λ _. cond_both (nat_lt c 65536) ((224 + c / 4096) ∷ next (c / 64) ∷ next c ∷ []) ((240 + c / 262144) ∷ next (c / 4096) ∷ next (c / 64) ∷ next c ∷ []) AreBytes
    (λ e. (omega (arith, ltb-true c 65536 e), (later (c / 64), (later c, tt))))
    (λ _. (omega arith, (later (c / 4096), (later (c / 64), (later c, tt)))))))

chars_bytes : (cs : List ℕ) → scalars cs ≡ true → AreBytes (encodes cs)
chars_bytes [] s = tt
chars_bytes (c ∷ cs) s =
    let h = and_parts (scalar c) (scalars cs) s in
    let below : c < 1114112 = ⊎_elim (λ (l : c < 55296). omega arith) (λ r. r.1) (scalar_cases c h.0) in
    bytes-append (encode c) (encodes cs) (char_bytes c below) (chars_bytes cs h.1)

pub utf8_bytes : (text : List ℕ) → IsUtf8 text → AreBytes text
utf8_bytes text utf8 = subst AreBytes utf8.1.1 (chars_bytes utf8.0 utf8.1.0)
