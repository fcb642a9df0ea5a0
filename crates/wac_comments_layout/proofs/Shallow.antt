-- A text with few opening brackets has none that is nested deeply.
use Rattle.wac_comments_layout.proofs.Common.{◌≡◌, ℕ, zero, suc, ◌+◌, ◌-◌, ◌≤◌, Bool, true, false, cond, List, [], ◌∷◌, take, drop, length, sym, refl, ap, ◌∙◌, subst, arith, Option, Some, None, Result, codes, ⊎_elim, ◌||◌, count_by, nat_le, bytes_eq, or_cases, lt-leb, drop-drop, sum_by-take-drop, gap, Item, first_item, items, items_upto, Span, Token, Error, bytes_eq_is, before_others, item_is, start_of}
use Rattle.wac_lexer.specs.Items.{items_from}
use Rattle.wac_comments_layout.specs.Brackets.{is_opening, is_closing}
use Rattle.wac_comments_layout.specs.Nesting.{first_beyond, may_open}

abbrev brackets : List ℕ → ℕ
brackets text = count_by may_open text

-- how many of items are opening brackets
abbrev openings : List Item → ℕ
openings [] = 0
openings (x ∷ xs) = cond (is_opening x.text) 1 0 + openings xs

-- where all of them may be open at once, none is nested too deeply
abbrev beyond_by : ℕ → ℕ → Item → List Item → Bool → Option Span
beyond_by limit depth x xs b =
    cond b (cond (nat_le limit depth) (Some x.span) (first_beyond limit (depth + 1) xs))
    (first_beyond limit (cond (is_closing x.text) (depth - 1) depth) xs)

pub none_beyond : (limit depth : ℕ) (xs : List Item) → depth + openings xs ≤ limit → first_beyond limit depth xs ≡ None
none_beyond limit depth [] h = refl
none_beyond limit depth (x ∷ xs) h =
    go (is_opening x.text) refl (λ later fits. none_beyond limit later xs fits)
  where
    go : (b : Bool) → is_opening x.text ≡ b → ((later : ℕ) → later + openings xs ≤ limit → first_beyond limit later xs ≡ None) → first_beyond limit depth (x ∷ xs) ≡ None
    go true e more =
        let room : depth + (1 + openings xs) ≤ limit = subst (λ b. depth + (cond b 1 0 + openings xs) ≤ limit) e h in
        ap (beyond_by limit depth x xs) e
        ∙ ap (λ b. cond b (Some x.span) (first_beyond limit (depth + 1) xs)) (lt-leb limit depth (omega (arith, room)))
        ∙ more (depth + 1) (omega (arith, room))
    go false e more =
        let room : depth + (0 + openings xs) ≤ limit = subst (λ b. depth + (cond b 1 0 + openings xs) ≤ limit) e h in
        ap (beyond_by limit depth x xs) e ∙ closing (is_closing x.text) (omega (arith, room)) more
      where
        closing : (b : Bool) → depth + openings xs ≤ limit → ((later : ℕ) → later + openings xs ≤ limit → first_beyond limit later xs ≡ None) → first_beyond limit (cond b (depth - 1) depth) xs ≡ None
        closing true room more = more (depth - 1) (omega (arith, room))
        closing false room more = more depth room

-- a text that is a bracket has one
has_one : (t : List ℕ) → is_opening t ≡ true → 1 ≤ brackets t
has_one t e =
    let at = λ (s : List ℕ) (one : 1 ≤ brackets s) (same : bytes_eq t s ≡ true). subst (λ s. 1 ≤ brackets s) (sym (bytes_eq_is t s same)) one in
    ⊎_elim (at (codes "(") (omega arith))
    (λ f. ⊎_elim (at (codes "[") (omega arith))
    (λ g. ⊎_elim (at (codes "<") (omega arith)) (at (codes "{") (omega arith)) (or_cases (bytes_eq t (codes "<")) (bytes_eq t (codes "{")) g))
    (or_cases (bytes_eq t (codes "[")) (bytes_eq t (codes "<") || bytes_eq t (codes "{")) f))
    (or_cases (bytes_eq t (codes "(")) (bytes_eq t (codes "[") || (bytes_eq t (codes "<") || bytes_eq t (codes "{"))) e)

opening_fits : (t : List ℕ) (b : Bool) → is_opening t ≡ b → cond b 1 0 ≤ brackets t
opening_fits t true e = has_one t e
opening_fits t false e = omega arith

-- the brackets from a place on are those before another one and those from there on
parted : (source : List ℕ) (place n : ℕ) → brackets (take n (drop place source)) + brackets (drop (place + n) source) ≡ brackets (drop place source)
parted source place n =
    ap (λ rest. brackets (take n (drop place source)) + brackets rest) (sym (drop-drop n place source))
    ∙ sum_by-take-drop (λ b. cond (may_open b) 1 0) (drop place source) n

openings_upto : (n : ℕ) (source : List ℕ) (place : ℕ) → openings (items_upto n source place) ≤ brackets (drop place source)
openings_upto zero source place = omega arith
openings_upto (suc n) source place =
    go (first_item (drop start source)) refl (λ next. openings_upto n source next)
  where
    start : ℕ
    start = start_of source place

    go : (found : Option (Result Token Error × ℕ)) → first_item (drop start source) ≡ found → ((next : ℕ) → openings (items_upto n source next) ≤ brackets (drop next source)) → openings (items_upto (suc n) source place) ≤ brackets (drop place source)
    go None e more = subst (λ xs. openings xs ≤ brackets (drop place source)) (sym (ap (before_others n source) (item_is source place None e))) (omega arith)
    go (Some f) e more =
        let text = take f.1 (drop start source) in
        let first = opening_fits text (is_opening text) refl in
        let later = more (start + f.1) in
        let here = parted source start f.1 in
        let before = parted source place (gap (drop place source)) in
        let fits : cond (is_opening text) 1 0 + openings (items_upto n source (start + f.1)) ≤ brackets (drop place source) = omega (arith, first, later, here, before) in
        subst (λ xs. openings xs ≤ brackets (drop place source)) (sym (ap (before_others n source) (item_is source place (Some f) e))) fits

-- THE ITEMS of a text have no more opening brackets than the text
pub openings_fit : (source : List ℕ) → openings (items source) ≤ brackets source
unfolding items_from
openings_fit source = openings_upto (length source) source 0

pub none_deep : (limit : ℕ) (source : List ℕ) → brackets source ≤ limit → first_beyond limit 0 (items source) ≡ None
none_deep limit source few = let fit = openings_fit source in none_beyond limit 0 (items source) (omega (arith, fit, few))

-- nor has a text that is refused one
pub too_few : (limit : ℕ) (source : List ℕ) (fault : Option (Error × Span)) → brackets source ≤ limit → ◌≡◌ {A = Option Span} (elim fault [ Some f ↦ None | None ↦ first_beyond limit 0 (items source) ]) None
too_few limit source (Some f) few = refl
too_few limit source None few = none_deep limit source few
