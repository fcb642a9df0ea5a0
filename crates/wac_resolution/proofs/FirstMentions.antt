-- What the first mentions say.
use Rattle.wac_resolution.proofs.Common.{◌≡◌, ◌∙◌, List, [], ◌∷◌, ◌++◌, Option, Some, None, Bool, true, false, cond, not, ◌||◌, filter, refl, ap, append-nil, AllByRecursion, list_any, keys_of, lookup, Span, Key, same_key, Packages, KeyHolds, KeysHold, Mention, kept}
use Rattle.std.specs.List.{IsDistinct}
use Rattle.std.proofs.Common.{sym}
use Rattle.std.proofs.lemmas.List.Elements.{filter-append, filter_agree}
use Rattle.std.proofs.lemmas.Map.Views.{any-filter_same}
use Rattle.wac_resolution_rules.specs.Composition.{Node}
use Rattle.wac_resolution_rules.specs.Nodes.{key_of_node}
use Rattle.wac_resolution.specs.FirstMentions.{first_mentions}
use Rattle.wac_resolution.specs.Packages.{AreFirst}
use Rattle.wac_resolution.proofs.Keys.{keys_same, key_sym}

-- of another key
abbrev pub other : Key → Mention → Bool
other key n = not (same_key key n.0)

-- of this key
abbrev pub of_key : Key → Mention → Bool
of_key key m = same_key m.0 key

pub is_other : (first key : Key) (n : Mention) → same_key first key ≡ false → n.0 ≡ key → other first n ≡ true
is_other first key n apart same = ap (λ k. not (same_key first k)) same ∙ ap not apart

-- a key is among the first mentions where it is mentioned at all
pub any_first : (key : Key) (ms : List Mention) → list_any (of_key key) (first_mentions ms) ≡ list_any (of_key key) ms
any_first key [] = refl
any_first key (m ∷ ms) = go (same_key m.0 key) refl (any_first key ms)
  where
    go : (b : Bool) → same_key m.0 key ≡ b → list_any (of_key key) (first_mentions ms) ≡ list_any (of_key key) ms
        → (b || list_any (of_key key) (filter (other m.0) (first_mentions ms))) ≡ (b || list_any (of_key key) ms)
    go true e rest = refl
    go false e rest = any-filter_same (of_key key) (other m.0) true (λ n h. is_other m.0 key n e (keys_same n.0 key h)) (first_mentions ms) ∙ rest

-- one mention more
pub first_more : (ms : List Mention) (key : Key) (s : Span) → first_mentions (ms ++ (key, s) ∷ []) ≡ cond (list_any (of_key key) ms) (first_mentions ms) (first_mentions ms ++ (key, s) ∷ [])
first_more [] key s = refl
first_more (m ∷ ms) key s = ap (λ l. m ∷ filter (other m.0) l) (first_more ms key s) ∙ go (same_key m.0 key) (list_any (of_key key) ms) refl
  where
    go : (b c : Bool) → same_key m.0 key ≡ b
        → m ∷ filter (other m.0) (cond c (first_mentions ms) (first_mentions ms ++ (key, s) ∷ [])) ≡ cond (b || c) (first_mentions (m ∷ ms)) (first_mentions (m ∷ ms) ++ (key, s) ∷ [])
    go true true e = refl
    go false true e = refl
    go true false e =
        ap (λ l. m ∷ l) (filter-append (other m.0) (first_mentions ms) ((key, s) ∷ []) ∙ ap (λ c. filter (other m.0) (first_mentions ms) ++ cond (not c) ((key, s) ∷ []) []) e ∙ append-nil (filter (other m.0) (first_mentions ms)))
    go false false e =
        ap (λ l. m ∷ l) (filter-append (other m.0) (first_mentions ms) ((key, s) ∷ []) ∙ ap (λ c. filter (other m.0) (first_mentions ms) ++ cond (not c) ((key, s) ∷ []) []) e)

-- ---- once, the same keys, the first places

found_still : (test : Key → Bool) (stays : Mention → Bool) → ((n : Mention) → test n.0 ≡ true → stays n ≡ true) → (ms : List Mention) → lookup test (filter stays ms) ≡ lookup test ms
found_still test stays keeps [] = refl
found_still test stays keeps (n ∷ ms) = go (stays n) (test n.0) refl refl (found_still test stays keeps ms)
  where
    go : (b c : Bool) → stays n ≡ b → test n.0 ≡ c → lookup test (filter stays ms) ≡ lookup test ms → lookup test (cond b (n ∷ filter stays ms) (filter stays ms)) ≡ cond c (Some n.1) (lookup test ms)
    go true c s t rest = ap (λ x. cond x (Some n.1) (lookup test (filter stays ms))) t ∙ ap (cond c (Some n.1)) rest
    go false false s t rest = rest
    go false true s t rest = (let stayed : stays n ≡ true = keeps n t in absurd cc)

first_places : (key : Key) (ms : List Mention) → lookup (same_key key) (first_mentions ms) ≡ lookup (same_key key) ms
first_places key [] = refl
first_places key (m ∷ ms) = go (same_key key m.0) refl (first_places key ms)
  where
    go : (b : Bool) → same_key key m.0 ≡ b → lookup (same_key key) (first_mentions ms) ≡ lookup (same_key key) ms
        → cond b (Some m.1) (lookup (same_key key) (filter (other m.0) (first_mentions ms))) ≡ cond b (Some m.1) (lookup (same_key key) ms)
    go true e rest = refl
    go false e rest = found_still (same_key key) (other m.0) (λ n h. is_other m.0 key n (key_sym m.0 key ∙ e) (sym (keys_same key n.0 h))) (first_mentions ms) ∙ rest

all_others : (key : Key) (ms : List Mention) → AllByRecursion (λ k. same_key key k ≡ false) (keys_of (filter (other key) ms))
all_others key [] = tt
all_others key (n ∷ ms) = go (same_key key n.0) refl (all_others key ms)
  where
    go : (b : Bool) → same_key key n.0 ≡ b → AllByRecursion (λ k. same_key key k ≡ false) (keys_of (filter (other key) ms))
        → AllByRecursion (λ k. same_key key k ≡ false) (keys_of (cond (not b) (n ∷ filter (other key) ms) (filter (other key) ms)))
    go true e rest = rest
    go false e rest = (e, rest)

all_left : (P : Key → Type 0) (stays : Mention → Bool) (ms : List Mention) → AllByRecursion P (keys_of ms) → AllByRecursion P (keys_of (filter stays ms))
all_left P stays [] h = tt
all_left P stays (n ∷ ms) h = go (stays n) (all_left P stays ms h.1)
  where
    go : (b : Bool) → AllByRecursion P (keys_of (filter stays ms)) → AllByRecursion P (keys_of (cond b (n ∷ filter stays ms) (filter stays ms)))
    go true rest = (h.0, rest)
    go false rest = rest

once_left : (stays : Mention → Bool) (ms : List Mention) → IsDistinct same_key (keys_of ms) → IsDistinct same_key (keys_of (filter stays ms))
unfolding IsDistinct
once_left stays [] h = tt
once_left stays (n ∷ ms) h = go (stays n) (once_left stays ms h.1)
  where
    go : (b : Bool) → IsDistinct same_key (keys_of (filter stays ms)) → IsDistinct same_key (keys_of (cond b (n ∷ filter stays ms) (filter stays ms)))
    go true rest = (all_left (λ k. same_key n.0 k ≡ false) stays ms h.0, rest)
    go false rest = rest

once : (ms : List Mention) → IsDistinct same_key (keys_of (first_mentions ms))
unfolding IsDistinct
once [] = tt
once (m ∷ ms) = (all_others m.0 (first_mentions ms), once_left (other m.0) (first_mentions ms) (once ms))

pub are_first : (ms : List Mention) → AreFirst ms (first_mentions ms)
are_first ms = record {
  once = once ms;
  keys = λ key. (λ h. sym (any_first key ms) ∙ h, λ h. any_first key ms ∙ h);
  places = λ key. first_places key ms;
}

-- ---- packages

pub kept_first : (ms : List Mention) (packages : Packages) → kept (first_mentions ms) packages ≡ kept ms packages
kept_first ms packages = filter_agree (λ p. list_any (λ (m : Mention). same_key m.0 p.0) (first_mentions ms)) (λ p. list_any (λ (m : Mention). same_key m.0 p.0) ms) (λ p. any_first p.0 ms) packages

key_holds : (P Q : Key → Type 0) (key : Option Key) → ((k : Key) → P k → Q k) → KeyHolds P key → KeyHolds Q key
key_holds P Q None all h = tt
key_holds P Q (Some key) all h = all key h

pub keys_hold : (P Q : Key → Type 0) (nodes : List Node) → ((k : Key) → P k → Q k) → KeysHold P nodes → KeysHold Q nodes
keys_hold P Q [] all h = tt
keys_hold P Q (n ∷ nodes) all h = (key_holds P Q (key_of_node n.form) all h.0, keys_hold P Q nodes all h.1)
