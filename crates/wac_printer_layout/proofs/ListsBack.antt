-- Lists are read back: rows, items between commas, and items on lines of their own.
use Rattle.wac_printer_layout.proofs.Common.{◌≡◌, ℕ, true, List, [], ◌∷◌, ◌++◌, map, ap, ◌∙◌, subst, append_assoc, codes, AllByRecursion, flat_map, Item, is_token}
use Rattle.wac_lexer.specs.declared.token.Token.TheVariants as kinds
use Rattle.wac_printer_layout.specs.Printed.{Piece, token}
use Rattle.wac_printer_layout.specs.Parts.{space, newline, joined, spaced}
use Rattle.wac_printer_layout.proofs.Means.{Means, split, pending}

pub regroup : (P : List ℕ) (ds : List (List ℕ)) (ys : List Item) (a b c : List Piece) → Means P ds ys ((a ++ b) ++ c) → Means P ds ys (a ++ (b ++ c))
regroup P ds ys a b c h = subst (Means P ds ys) (append_assoc a b c) h

-- P: the printed text; bS and bP: what is bare of a source's and of a printed item; f: how it is printed;
-- D: how it derives; L: how lists derive, with their items; end: what follows the items
module _ (P : List ℕ) {X Q : Type 0} (bS bP : X → X) (Good : X → Type 0) (f : X → List Piece) (D : List Item → X → Type 0) (L : List Item → Q → Type 0) (values : Q → List X) (end : List Piece)
    (back : (x : X) (ys : List Item) → Good (bS x) → Means P [] ys (f (bS x)) → (u : X) × D ys u × (bP u ≡ bS x))
    (nil : (ds : List (List ℕ)) (ys : List Item) → Means P ds ys end → (q : Q) × L ys q × (map bP (values q) ≡ [])) where
  abbrev pub ListBack : (List Item → Q → Type 0) → List X → List Item → Type 0
  ListBack E xs ys = (q : Q) × E ys q × (map bP (values q) ≡ map bS xs)

  -- items on lines of their own
  module _ (cons : (ys front rest : List Item) (u : X) (q : Q) → ys ≡ front ++ rest → D front u → L rest q → (r : Q) × L ys r × (values r ≡ u ∷ values q))
      (closed : (x : X) (ds : List (List ℕ)) → pending ds (f (bS x)) ≡ []) where
    one : (x : X) (xs : List X) (rest : List Piece) (ys : List Item) → Good (bS x) → Means P [] ys ((f (bS x) ++ newline ∷ []) ++ rest)
        → ((zs : List Item) → Means P [] zs rest → ListBack L xs zs) → ListBack L (x ∷ xs) ys
    one x xs rest ys is h others =
        let c = split P [] ys (f (bS x)) (newline ∷ rest) (regroup P [] ys (f (bS x)) (newline ∷ []) rest h) in
        let r = back x c.0 is c.3 in
        let q = others c.1 (subst (λ ds. Means P ds c.1 rest) (closed x []) c.4) in
        let l = cons ys c.0 c.1 r.0 q.0 c.2 r.1 q.1 in
        (l.0, l.1, ap (map bP) l.2 ∙ (λ i. r.2 i ∷ q.2 i))

    abbrev further : List X → List Piece
    further xs = flat_map (λ y. (newline ∷ []) ++ (f y ++ newline ∷ [])) (map bS xs)

    further_back : (xs : List X) (ys : List Item) → AllByRecursion Good (map bS xs) → Means P [] ys (further xs ++ end) → ListBack L xs ys
    further_back [] ys is h = nil [] ys h
    further_back (x ∷ xs) ys is h =
        one x xs (further xs ++ end) ys is.0 (regroup P [] ys (f (bS x) ++ newline ∷ []) (further xs) end h) (λ zs m. further_back xs zs is.1 m)

    pub spaced_back : (xs : List X) (ys : List Item) → AllByRecursion Good (map bS xs) → Means P [] ys (spaced f (map bS xs) ++ end) → ListBack L xs ys
    unfolding spaced
    spaced_back [] ys is h = nil [] ys h
    spaced_back (x ∷ xs) ys is h =
        one x xs (further xs ++ end) ys is.0 (regroup P [] ys (f (bS x) ++ newline ∷ []) (further xs) end h) (λ zs m. further_back xs zs is.1 m)

  -- items between commas: M is how what follows an item derives
  module _ (M : List Item → Q → Type 0)
      (more_nil : (ds : List (List ℕ)) (ys : List Item) → Means P ds ys end → (q : Q) × M ys q × (map bP (values q) ≡ []))
      (cons : (ys front rest : List Item) (u : X) (q : Q) → ys ≡ front ++ rest → D front u → M rest q → (r : Q) × L ys r × (values r ≡ u ∷ values q))
      (comma : (c : Item) (ys zs : List Item) (q : Q) → ys ≡ c ∷ zs → is_token kinds.Comma c.token ≡ true → L zs q → (r : Q) × M ys r × (values r ≡ values q)) where
    -- an item and what follows it
    abbrev pub FirstBack : X → List X → List Item → Type 0
    FirstBack x xs ys = (front : List Item) × (rest : List Item) × (u : X) × (q : Q) × (ys ≡ front ++ rest) × D front u × M rest q × (bP u ≡ bS x) × (map bP (values q) ≡ map bS xs)

    whole : (x : X) (xs : List X) (ys : List Item) → FirstBack x xs ys → ListBack L (x ∷ xs) ys
    whole x xs ys h = let l = cons ys h.0 h.1 h.2 h.3 h.4 h.5 h.6 in (l.0, l.1, ap (map bP) l.2 ∙ (λ i. h.7 i ∷ h.8 i))

    after_comma : (xs : List X) (c : Item) (ys zs : List Item) → ys ≡ c ∷ zs → is_token kinds.Comma c.token ≡ true → ListBack L xs zs → ListBack M xs ys
    after_comma xs c ys zs e is l = let m = comma c ys zs l.0 e is l.1 in (m.0, m.1, ap (map bP) m.2 ∙ l.2)

    -- rows, each with its comma
    abbrev row : X → List Piece
    row y = f y ++ token (codes ",") ∷ newline ∷ []

    row_of : (x : X) (xs : List X) (ys : List Item) → Good (bS x) → Means P [] ys ((row (bS x) ++ flat_map row (map bS xs)) ++ end) → ((zs : List Item) → Means P [] zs (flat_map row (map bS xs) ++ end) → ListBack L xs zs) → FirstBack x xs ys
    row_of x xs ys is h others =
        let m = regroup P [] ys (row (bS x)) (flat_map row (map bS xs)) end h in
        let c = split P [] ys (f (bS x)) _ (regroup P [] ys (f (bS x)) (token (codes ",") ∷ newline ∷ []) (flat_map row (map bS xs) ++ end) m) in
        let r = back x c.0 is c.3 in
        let k = c.4 in
        let q = after_comma xs k.0 c.1 k.1 k.2 (ap (is_token kinds.Comma) k.3.0) (others k.1 k.4) in
        (c.0, c.1, r.0, q.0, c.2, r.1, q.1, r.2, q.2)

    pub rows_back : (xs : List X) (ys : List Item) → AllByRecursion Good (map bS xs) → Means P [] ys (flat_map row (map bS xs) ++ end) → ListBack L xs ys
    rows_back [] ys is h = nil [] ys h
    rows_back (x ∷ xs) ys is h = whole x xs ys (row_of x xs ys is.0 h (λ zs m. rows_back xs zs is.1 m))

    pub rows_first : (x : X) (xs : List X) (ys : List Item) → AllByRecursion Good (map bS (x ∷ xs)) → Means P [] ys (flat_map row (map bS (x ∷ xs)) ++ end) → FirstBack x xs ys
    rows_first x xs ys is h = row_of x xs ys is.0 h (λ zs m. rows_back xs zs is.1 m)

    -- joined by commas
    abbrev later : List X → List Piece
    later xs = flat_map (λ y. (token (codes ",") ∷ space ∷ []) ++ f y) (map bS xs)

    first_of : (x : X) (xs : List X) (ys : List Item) → Good (bS x) → Means P [] ys ((f (bS x) ++ later xs) ++ end) → ((ds : List (List ℕ)) (zs : List Item) → Means P ds zs (later xs ++ end) → ListBack M xs zs) → FirstBack x xs ys
    first_of x xs ys is h others =
        let c = split P [] ys (f (bS x)) (later xs ++ end) (regroup P [] ys (f (bS x)) (later xs) end h) in
        let r = back x c.0 is c.3 in
        let q = others _ c.1 c.4 in
        (c.0, c.1, r.0, q.0, c.2, r.1, q.1, r.2, q.2)

    later_back : (xs : List X) (ds : List (List ℕ)) (ys : List Item) → AllByRecursion Good (map bS xs) → Means P ds ys (later xs ++ end) → ListBack M xs ys
    later_back [] ds ys is h = more_nil ds ys h
    later_back (x ∷ xs) ds ys is h =
        after_comma (x ∷ xs) h.0 ys h.1 h.2 (ap (is_token kinds.Comma) h.3.0) (whole x xs h.1 (first_of x xs h.1 is.0 h.4 (λ es zs m. later_back xs es zs is.1 m)))

    pub joined_back : (xs : List X) (ds : List (List ℕ)) (ys : List Item) → AllByRecursion Good (map bS xs) → Means P [] ys (joined f (map bS xs) ++ end) → ListBack L xs ys
    unfolding joined
    joined_back [] ds ys is h = nil [] ys h
    joined_back (x ∷ xs) ds ys is h = whole x xs ys (first_of x xs ys is.0 h (λ es zs m. later_back xs es zs is.1 m))

    pub joined_first : (x : X) (xs : List X) (ys : List Item) → AllByRecursion Good (map bS (x ∷ xs)) → Means P [] ys (joined f (map bS (x ∷ xs)) ++ end) → FirstBack x xs ys
    unfolding joined
    joined_first x xs ys is h = first_of x xs ys is.0 h (λ es zs m. later_back xs es zs is.1 m)
