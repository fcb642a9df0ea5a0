-- Segments that are joined in order.
use Rattle.wac_resolution_state.proofs.Common.{◌≡◌, ◌∙◌, ◌≤◌, ◌<◌, ◌+◌, ℕ, List, [], ◌∷◌, ◌++◌, take, drop, length, get_or, refl, sym, ap, subst, arith, join_with_byte, append_assoc, take_more, take_all, length-map, get_or-map, Span}
use Rattle.wac_resolution_state.specs.Segments.{Spans, texts}
use Rattle.wac_resolution_state.proofs.Walks.{at_drop, past_drop}

join_more : (c : ℕ) (x : List ℕ) (xs : List (List ℕ)) (y : List ℕ) → join_with_byte c (x ∷ (xs ++ y ∷ [])) ≡ join_with_byte c (x ∷ xs) ++ c ∷ y
join_more c x [] y = refl
join_more c x (z ∷ xs) y = ap (λ (l : List ℕ). x ++ c ∷ l) (join_more c z xs y) ∙ sym (append_assoc x (c ∷ join_with_byte c (z ∷ xs)) (c ∷ y))

-- so many segments are joined after the first one; the others are left
pub record Joins (first : List ℕ) (all left : Spans) (n : ℕ) (text : List ℕ) : Type 0 where
  pub others : left ≡ drop n all
  pub is : text ≡ join_with_byte 47 (first ∷ take n (texts all))

pub joins_first : (first : List ℕ) (all : Spans) (text : List ℕ) → text ≡ first → Joins first all all 0 text
joins_first first all text is = record { others = refl; is = is }

pub joins_more : (first : List ℕ) (all left later : Spans) (n : ℕ) (segment : List ℕ) (span : Span) (text new : List ℕ) → left ≡ (segment, span) ∷ later → new ≡ text ++ 47 ∷ segment → Joins first all left n text → Joins first all later (n + 1) new
joins_more first all left later n segment span text new more added j =
    let here = at_drop all n (segment, span) later (sym more ∙ j.others) in
    let within : n < length (texts all) = subst (λ (k : ℕ). n < k) (sym (length-map all (λ s. s.0))) here.0 in
    let one : get_or (texts all) n segment ≡ segment = get_or-map (λ s. s.0) all n (segment, span) segment here.0 ∙ ap (λ (s : List ℕ × Span). s.0) here.1 in
    let longer : take (n + 1) (texts all) ≡ take n (texts all) ++ segment ∷ [] = take_more (texts all) n segment within ∙ ap (λ (s : List ℕ). take n (texts all) ++ s ∷ []) one in
    record {
      others = here.2;
      is = added ∙ ap (λ (l : List ℕ). l ++ 47 ∷ segment) j.is ∙ sym (join_more 47 first (take n (texts all)) segment) ∙ ap (λ (l : List (List ℕ)). join_with_byte 47 (first ∷ l)) (sym longer);
    }

-- none is left
pub joins_short : (first : List ℕ) (all left : Spans) (n count : ℕ) (text : List ℕ) → left ≡ [] → n ≤ count → Joins first all left n text → text ≡ join_with_byte 47 (first ∷ take count (texts all))
joins_short first all left n count text ends within j =
    let past : length all ≤ n = past_drop all n (sym ends ∙ j.others) in
    let here : take n (texts all) ≡ texts all = take_all n (texts all) (omega (arith, length-map all (λ s. s.0))) in
    let there : take count (texts all) ≡ texts all = take_all count (texts all) (omega (arith, length-map all (λ s. s.0))) in
    j.is ∙ ap (λ (l : List (List ℕ)). join_with_byte 47 (first ∷ l)) (here ∙ sym there)

pub joins_all : (first : List ℕ) (all left : Spans) (n count : ℕ) (text : List ℕ) → n ≡ count → Joins first all left n text → text ≡ join_with_byte 47 (first ∷ take count (texts all))
joins_all first all left n count text same j = subst (λ (k : ℕ). text ≡ join_with_byte 47 (first ∷ take k (texts all))) same j.is
