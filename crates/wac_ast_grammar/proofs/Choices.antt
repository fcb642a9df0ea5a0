-- Where no alternative begins with the next item, all their first tokens are named.
use Rattle.std.proofs.Common.{◌≡◌, Bool, true, false, cond, not, List, [], ◌∷◌, ◌++◌, map, refl, sym as back, ap, subst, ◌∙◌, append_assoc}
use Rattle.wac_ast_grammar.proofs.Common.{Token, Item}
use Rattle.wac_ast_grammar.specs.Tokens.{at}
use Rattle.wac_ast_grammar.specs.Grammar.{Grammar, token, sym, then, either, nothing, to_end, docs, not_empty, more, or_told}
use Rattle.wac_ast_grammar.specs.Reading.{Tried, can, refuse, two, read, read_in, read_token, empty, begins, is_empty, first, at_one_of}

-- alternatives, none of which is left out
abbrev pub is_choice : Grammar → Bool
is_choice (token k) = true
is_choice (sym s) = not (empty s)
is_choice (then g h) = cond (is_empty g) false (is_choice g)
is_choice (either loud g h) = cond loud (cond (is_empty g) false (is_choice h)) false
is_choice (docs g) = is_choice g
is_choice _ = false

at_append : (ks js : List Token) (xs : List Item) → at_one_of (ks ++ js) xs ≡ cond (at_one_of ks xs) true (at_one_of js xs)
at_append [] js xs = refl
at_append (k ∷ ks) js xs = ap (cond (at k xs) true) (at_append ks js xs) ∙ go (at k xs)
  where
    go : (b : Bool) → cond b true (cond (at_one_of ks xs) true (at_one_of js xs)) ≡ cond (cond b true (at_one_of ks xs)) true (at_one_of js xs)
    go true = refl
    go false = refl

neither_left : (b c : Bool) → cond b true c ≡ false → b ≡ false
neither_left true c h = absurd cc
neither_left false c h = refl

neither_right : (b c : Bool) → cond b true c ≡ false → c ≡ false
neither_right true c h = absurd cc
neither_right false c h = h

map_append : (ks js : List Token) → map can (ks ++ js) ≡ map can ks ++ map can js
map_append [] js = refl
map_append (k ∷ ks) js = ap (λ (l : List Tried). can k ∷ l) (map_append ks js)

token_refused : (k : Token) (tried : List Tried) (xs : List Item) → at k xs ≡ false → read_token tried k xs ≡ refuse xs (tried ++ (can k ∷ []))
token_refused k tried [] h = refl
token_refused k tried (x ∷ xs) h = rw h refl

first_left : (g h : Grammar) (xs : List Item) → at_one_of (first g ++ first h) xs ≡ false → at_one_of (first g) xs ≡ false
first_left g h xs e = neither_left (at_one_of (first g) xs) (at_one_of (first h) xs) (back (at_append (first g) (first h) xs) ∙ e)

first_right : (g h : Grammar) (xs : List Item) → at_one_of (first g ++ first h) xs ≡ false → at_one_of (first h) xs ≡ false
first_right g h xs e = neither_right (at_one_of (first g) xs) (at_one_of (first h) xs) (back (at_append (first g) (first h) xs) ∙ e)

-- after tokens that were tried
after_tried : (g : Grammar) (t : Tried) (ts : List Tried) (xs : List Item) → is_choice g ≡ true → at_one_of (first g) xs ≡ false → read_in read g (t ∷ ts) xs ≡ refuse xs ((t ∷ ts) ++ map can (first g))
after_tried (token k) t ts xs c h = token_refused k (t ∷ ts) xs (neither_left (at k xs) false h)
after_tried (sym s) t ts xs c h = rw h refl
after_tried (then g l) t ts xs c h = go (is_empty g) refl c h (after_tried g t ts xs)
  where
    go : (b : Bool) → is_empty g ≡ b → cond b false (is_choice g) ≡ true → at_one_of (cond b (first g ++ first l) (first g)) xs ≡ false → (is_choice g ≡ true → at_one_of (first g) xs ≡ false → read_in read g (t ∷ ts) xs ≡ refuse xs ((t ∷ ts) ++ map can (first g))) → read_in read (then g l) (t ∷ ts) xs ≡ refuse xs ((t ∷ ts) ++ map can (first (then g l)))
    go true e c h f = absurd cc
    go false e c h f = ap (λ m. two m (λ a. read_in read l [])) (f c h) ∙ ap (λ (b : Bool). refuse xs ((t ∷ ts) ++ map can (cond b (first g ++ first l) (first g)))) (back e)
after_tried (either true g l) t ts xs c h =
    let no_first = first_left g l xs h in
    let rest = after_tried l t (ts ++ map can (first g)) xs (second (is_empty g) (is_choice l) c) (first_right g l xs h) in
    rw (no_first, rest, map_append (first g) (first l), append_assoc ts (map can (first g)) (map can (first l))) refl
  where
    second : (b d : Bool) → cond b false d ≡ true → d ≡ true
    second true d h = absurd cc
    second false d h = h
after_tried (either false g l) t ts xs c h = absurd cc
after_tried (docs g) t ts xs c h = rw (after_tried g t ts xs c h) refl
after_tried (nothing b) t ts xs c h = absurd cc
after_tried (to_end g) t ts xs c h = absurd cc
after_tried (not_empty b k g) t ts xs c h = absurd cc
after_tried (more k s g) t ts xs c h = absurd cc
after_tried (or_told g k l) t ts xs c h = absurd cc

-- the alternatives of a production
pub none_of : (g l : Grammar) (k : Token) (ks : List Token) → first g ≡ k ∷ ks → is_choice l ≡ true → (xs : List Item) → at_one_of (first g ++ first l) xs ≡ false → read_in read (either true g l) [] xs ≡ refuse xs (map can (first g ++ first l))
none_of g l k ks begins c xs h =
    let no_first = first_left g l xs h in
    let tried : map can (first g) ≡ can k ∷ map can ks = ap (λ (l : List Token). map can l) begins in
    let rest : read_in read l (map can (first g)) xs ≡ refuse xs (map can (first g) ++ map can (first l)) = subst (λ (ts : List Tried). read_in read l ts xs ≡ refuse xs (ts ++ map can (first l))) (back tried) (after_tried l (can k) (map can ks) xs c (first_right g l xs h)) in
    rw (no_first, rest, map_append (first g) (first l)) refl
