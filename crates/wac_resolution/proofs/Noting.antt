-- Noting mentions, part after part.
use Rattle.wac_resolution.proofs.Common.{◌≡◌, ◌∙◌, ℕ, ◌+◌, ◌<◌, ◌≤◌, List, [], ◌∷◌, ◌++◌, Option, Some, None, is_some, Bool, true, false, cond, ◌&&◌, ◌||◌, flat_map, map, take, length, get_or, refl, ap, subst, append-nil, append_assoc, String, string_bytes, option_map, list_any, lookup, bytes_eq, Span, Key, key_of, same_key, same_version, Mention}
use Rattle.std.proofs.Common.{sym}
use Rattle.std.specs.declared.alloc.Global.{Global}
use Rattle.std.specs.Option.{option_eq}
use Rattle.std.specs.String.{string_eq}
use Rattle.std.proofs.lemmas.List.{map-append, take_all, take_more}
use Rattle.std.proofs.lemmas.List.Concat.{flat_map-append}
use Rattle.indexmap.specs.IndexMap.{insert_entry}
use Rattle.wac_graph.specs.declared.package_key.PackageKey.{PackageKey}
use Rattle.wac_graph.specs.contracts.package_key.PackageKeyPartialEq.TheImpl as keys
use Rattle.wac_resolution.specs.FirstMentions.{first_mentions}
use Rattle.wac_resolution.specs.Noted.{Noted, Notes, mentions_in}
use Rattle.wac_resolution.proofs.FirstMentions.{any_first, first_more, of_key}
use Rattle.wac_resolution.proofs.Keys.{key_sym}

-- nothing is mentioned
pub none : (old : Noted) → Notes old old []
none old = record { own = refl; first = λ ms h. h ∙ ap first_mentions (sym (append-nil ms)) }

-- a part after another; each may ask for the own name
pub then : (f g : List ℕ → List Mention) (old mid new : Noted) → Notes old mid (f old.own) → Notes mid new (g mid.own) → Notes old new (f old.own ++ g old.own)
then f g old mid new p q = record {
  own = q.own ∙ p.own;
  first = λ ms h. q.first (ms ++ f old.own) (p.first ms h) ∙ ap first_mentions (append_assoc ms (f old.own) (g mid.own) ∙ ap (λ name. ms ++ (f old.own ++ g name)) p.own);
}

-- one mention, of a key that is present already or not
pub one : (old new : Noted) (key : Key) (s : Span) → new.own ≡ old.own → new.first ≡ cond (list_any (of_key key) old.first) old.first (old.first ++ (key, s) ∷ []) → Notes old new ((key, s) ∷ [])
one old new key s own first = record {
  own = own;
  first = λ ms h.
      first ∙ ap (λ l. cond (list_any (of_key key) l) l (l ++ (key, s) ∷ [])) h ∙ ap (λ b. cond b (first_mentions ms) (first_mentions ms ++ (key, s) ∷ [])) (any_first key ms) ∙ sym (first_more ms key s);
}

-- ---- the entries of a map

key_eq : (a b : PackageKey) → (keys.eq-value).it a b ≡ same_key (key_of b) (key_of a)
key_eq a b = ap (λ (x : Bool). bytes_eq (string_bytes a.name) (string_bytes b.name) && x) (versions_eq a.version b.version) ∙ key_sym (key_of a) (key_of b)
  where
    versions_eq : (v w : Option (String Global)) → option_eq string_eq v w ≡ same_version (option_map string_bytes v) (option_map string_bytes w)
    versions_eq None None = refl
    versions_eq None (Some w) = refl
    versions_eq (Some v) None = refl
    versions_eq (Some v) (Some w) = refl

-- a map has a key where it is among the mentions that its entries say
pub has_key : (key : PackageKey) (es : List (PackageKey × Span)) → is_some (lookup (λ k. (keys.eq-value).it key k) es) ≡ list_any (of_key (key_of key)) (mentions_in es)
has_key key [] = refl
has_key key (e ∷ es) = go (same_key (key_of e.0) (key_of key)) (key_eq key e.0) (has_key key es)
  where
    go : (b : Bool) → (keys.eq-value).it key e.0 ≡ b → is_some (lookup (λ k. (keys.eq-value).it key k) es) ≡ list_any (of_key (key_of key)) (mentions_in es)
        → is_some (lookup (λ k. (keys.eq-value).it key k) (e ∷ es)) ≡ (b || list_any (of_key (key_of key)) (mentions_in es))
    go true e' rest = ap (λ b. is_some (cond b (Some e.1) (lookup (λ k. (keys.eq-value).it key k) es))) e'
    go false e' rest = ap (λ b. is_some (cond b (Some e.1) (lookup (λ k. (keys.eq-value).it key k) es))) e' ∙ rest

-- a new key goes last
inserted : (key : PackageKey) (s : Span) (es : List (PackageKey × Span)) → list_any (of_key (key_of key)) (mentions_in es) ≡ false
    → mentions_in (insert_entry (keys.eq-value).it es key s) ≡ mentions_in es ++ (key_of key, s) ∷ []
inserted key s [] h = refl
inserted key s (e ∷ es) h = go (same_key (key_of e.0) (key_of key)) (key_eq key e.0) h (inserted key s es)
  where
    go : (b : Bool) → (keys.eq-value).it key e.0 ≡ b → (b || list_any (of_key (key_of key)) (mentions_in es)) ≡ false
        → (list_any (of_key (key_of key)) (mentions_in es) ≡ false → mentions_in (insert_entry (keys.eq-value).it es key s) ≡ mentions_in es ++ (key_of key, s) ∷ [])
        → mentions_in (insert_entry (keys.eq-value).it (e ∷ es) key s) ≡ (key_of e.0, e.1) ∷ (mentions_in es ++ (key_of key, s) ∷ [])
    go true e' h rest = absurd cc
    go false e' h rest = ap (λ b. mentions_in (cond b ((e.0, s) ∷ es) (e ∷ insert_entry (keys.eq-value).it es key s))) e' ∙ ap (λ l. (key_of e.0, e.1) ∷ l) (rest h)

-- a key that is not present is noted by inserting it
pub added : (old : Noted) (own : List ℕ) (es news : List (PackageKey × Span)) (key : PackageKey) (s : Span) → old ≡ record { own = own; first = mentions_in es }
    → is_some (lookup (λ k. (keys.eq-value).it key k) es) ≡ false → news ≡ insert_entry (keys.eq-value).it es key s
    → Notes old (record { own = own; first = mentions_in news }) ((key_of key, s) ∷ [])
added old own es news key s is lacks inserts =
    let new : Noted = record { own = own; first = mentions_in news } in
    let absent : list_any (of_key (key_of key)) (mentions_in es) ≡ false = sym (has_key key es) ∙ lacks in
    let there : list_any (of_key (key_of key)) old.first ≡ false = ap (λ (n : Noted). list_any (of_key (key_of key)) n.first) is ∙ absent in
    let grown : mentions_in news ≡ old.first ++ (key_of key, s) ∷ [] = ap mentions_in inserts ∙ inserted key s es absent ∙ ap (λ (n : Noted). n.first ++ (key_of key, s) ∷ []) (sym is) in
    one old new (key_of key) s (sym (ap (λ (n : Noted). n.own) is)) (grown ∙ ap (λ b. cond b old.first (old.first ++ (key_of key, s) ∷ [])) (sym there))

-- one that is present needs nothing
pub stays : (old : Noted) (own : List ℕ) (es : List (PackageKey × Span)) (key : PackageKey) (s : Span) → old ≡ record { own = own; first = mentions_in es }
    → is_some (lookup (λ k. (keys.eq-value).it key k) es) ≡ true → Notes old old ((key_of key, s) ∷ [])
stays old own es key s is has =
    let there : list_any (of_key (key_of key)) old.first ≡ true = ap (λ (n : Noted). list_any (of_key (key_of key)) n.first) is ∙ sym (has_key key es) ∙ has in
    one old old (key_of key) s refl (ap (λ b. cond b old.first (old.first ++ (key_of key, s) ∷ [])) (sym there))

-- ---- elements of a list, in order

flat_more : {X Y : Type 0} (g : X → Y) (f : Y → List Mention) (xs : List X) (i : ℕ) (x : X) → i < length xs → x ≡ get_or xs i x
    → flat_map f (map g (take (i + 1) xs)) ≡ flat_map f (map g (take i xs)) ++ f (g x)
flat_more g f xs i x h e =
    ap (λ l. flat_map f (map g l)) (take_more xs i x h ∙ ap (λ y. take i xs ++ y ∷ []) (sym e)) ∙ ap (flat_map f) (map-append g (take i xs) (x ∷ [])) ∙ flat_map-append f (map g (take i xs)) (g x ∷ []) ∙ ap (λ l. flat_map f (map g (take i xs)) ++ l) (append-nil (f (g x)))

pub next : {X Y : Type 0} (g : X → Y) (f : List ℕ → Y → List Mention) (xs : List X) (i : ℕ) (x : X) (old mid new : Noted) → i < length xs → x ≡ get_or xs i x
    → Notes old mid (flat_map (f old.own) (map g (take i xs))) → Notes mid new (f mid.own (g x)) → Notes old new (flat_map (f old.own) (map g (take (i + 1) xs)))
next g f xs i x old mid new h e p q =
    subst (Notes old new) (sym (flat_more g (f old.own) xs i x h e)) (then (λ own. flat_map (f own) (map g (take i xs))) (λ own. f own (g x)) old mid new p q)

pub all : {X Y : Type 0} (g : X → Y) (f : List ℕ → Y → List Mention) (xs : List X) (i : ℕ) (old new : Noted) → length xs ≤ i
    → Notes old new (flat_map (f old.own) (map g (take i xs))) → Notes old new (flat_map (f old.own) (map g xs))
all g f xs i old new h p = subst (λ l. Notes old new (flat_map (f old.own) (map g l))) (take_all i xs h) p

-- a whole, of two parts
pub in_all : (own : List ℕ) (f g : List ℕ → List Mention) (begun mid done : Noted) → begun.own ≡ own → begun.first ≡ [] → Notes begun mid (f begun.own) → Notes mid done (g mid.own)
    → done.first ≡ first_mentions (f own ++ g own)
in_all own f g begun mid done is nothing p q = (then f g begun mid done p q).first [] nothing ∙ ap (λ name. first_mentions (f name ++ g name)) is
