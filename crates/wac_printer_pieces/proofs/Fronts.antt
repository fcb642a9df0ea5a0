-- Beginnings of texts.
use Rattle.wac_printer_pieces.proofs.Common.{◌≡◌, ℕ, ◌<◌, Bool, true, false, List, [], ◌∷◌, ◌++◌, length, take, drop, append_assoc, refl, sym, ap, ◌∙◌, subst, arith, nat_eq, and_parts, and_from, eq-eqb, take-append-drop, length-drop}
use Rattle.wac_printer_pieces.specs.Printed.{is_front}

pub is_front-append : (xs ys : List ℕ) → is_front true xs (xs ++ ys) ≡ true
unfolding is_front
is_front-append [] [] = refl
is_front-append [] (y ∷ ys) = refl
is_front-append (x ∷ xs) ys = and_from (nat_eq x x) (is_front true xs (xs ++ ys)) (eq-eqb x x refl) (is_front-append xs ys)

pub is_front-less : (xs ys : List ℕ) → 0 < length ys → is_front false xs (xs ++ ys) ≡ true
unfolding is_front
is_front-less [] [] h = absurd (omega arith)
is_front-less [] (y ∷ ys) h = refl
is_front-less (x ∷ xs) ys h = and_from (nat_eq x x) (is_front false xs (xs ++ ys)) (eq-eqb x x refl) (is_front-less xs ys h)

-- the first n bytes of a text follow old, and not the whole
pub is_front-begun : (old new text : List ℕ) (n : ℕ) → n < length text → new ≡ old ++ take n text → is_front false new (old ++ text) ≡ true
is_front-begun old new text n h e =
    let whole : (old ++ take n text) ++ drop n text ≡ old ++ text = append_assoc old (take n text) (drop n text) ∙ ap (λ x. old ++ x) (take-append-drop n text) in
    let less = is_front-less (old ++ take n text) (drop n text) (omega (arith, h, length-drop n text)) in
    subst (λ x. is_front false x (old ++ text) ≡ true) (sym e) (subst (λ x. is_front false (old ++ take n text) x ≡ true) whole less)

pub is_front-longer : (w : Bool) (xs ys zs : List ℕ) → is_front w xs ys ≡ true → is_front w xs (ys ++ zs) ≡ true
unfolding is_front
is_front-longer w [] [] [] h = h
is_front-longer w [] [] (z ∷ zs) h = refl
is_front-longer w [] (y ∷ ys) zs h = refl
is_front-longer w (x ∷ xs) [] zs h = absurd cc
is_front-longer w (x ∷ xs) (y ∷ ys) zs h =
    let t = and_parts (nat_eq x y) (is_front w xs ys) h in and_from (nat_eq x y) (is_front w xs (ys ++ zs)) t.0 (is_front-longer w xs ys zs t.1)
