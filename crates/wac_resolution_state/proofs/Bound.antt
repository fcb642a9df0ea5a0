-- What is found among names that are bound.
use Rattle.wac_resolution_state.proofs.Common.{◌≡◌, ◌∙◌, ℕ, List, [], ◌∷◌, Option, Some, None, Bool, true, false, cond, refl, sym, ap, map, Bor, option_map, Named, look_up, with_named, IsFresh}
use Rattle.std.specs.Map.{lookup}
use Rattle.std.specs.Str.{bytes_eq}
use Rattle.indexmap.specs.IndexMap.{insert_entry}
use Rattle.wac_resolution_state.specs.Bindings.{by_text}

-- what a map has under a text is found by the text
pub text_found : {X : Type 0} (name : List ℕ) (es : List (Bor (List ℕ) × X)) → lookup (λ k. bytes_eq name k.now) es ≡ look_up name (by_text es)
text_found name [] = refl
text_found {X} name (e ∷ es) = ap (cond (bytes_eq name e.0.now) (Some e.1)) (text_found name es)

-- what a name finds among values, it finds among what is read of them
pub read_found : {X Y : Type 0} (read : X → Y) (name : List ℕ) (all : Named X) → look_up name (map (λ e. (e.0, read e.1)) all) ≡ option_map read (look_up name all)
read_found read name [] = refl
read_found {X} {Y} read name (e ∷ all) = go (read_found read name all) (bytes_eq name e.0)
  where
    go : look_up name (map (λ (d : List ℕ × X). (d.0, read d.1)) all) ≡ option_map read (look_up name all) → (b : Bool)
        → cond b (Some (read e.1)) (look_up name (map (λ (d : List ℕ × X). (d.0, read d.1)) all)) ≡ option_map read (cond b (Some e.1) (look_up name all))
    go later true = refl
    go later false = later

pub read_some : {X Y : Type 0} (read : X → Y) (name : List ℕ) (all : Named X) (r : Option X) (x : X) → r ≡ look_up name all → r ≡ Some x → Some (read x) ≡ look_up name (map (λ e. (e.0, read e.1)) all)
read_some read name all r x found is = ap (option_map read) (sym is ∙ found) ∙ sym (read_found read name all)

pub read_none : {X Y : Type 0} (read : X → Y) (name : List ℕ) (all : Named X) (r : Option X) (o : Option Y) → r ≡ look_up name all → r ≡ None → o ≡ None → o ≡ look_up name (map (λ e. (e.0, read e.1)) all)
read_none read name all r o found is same = same ∙ ap (option_map read) (sym is ∙ found) ∙ sym (read_found read name all)

abbrev same_text : Bor (List ℕ) → Bor (List ℕ) → Bool
same_text a b = bytes_eq a.now b.now

-- a new text goes last
text_last : {X : Type 0} (k : Bor (List ℕ)) (x : X) (es : List (Bor (List ℕ) × X)) → IsFresh k.now (by_text es) → by_text (insert_entry same_text es k x) ≡ with_named (by_text es) k.now x
text_last k x [] new = refl
text_last {X} k x (e ∷ es) new = go (text_last k x es) (bytes_eq k.now e.0.now) new
  where
    go : (IsFresh k.now (by_text es) → by_text (insert_entry same_text es k x) ≡ with_named (by_text es) k.now x)
        → (b : Bool) → cond b (Some e.1) (look_up k.now (by_text es)) ≡ None
        → by_text (cond b ((e.0, x) ∷ es) (e ∷ insert_entry same_text es k x)) ≡ with_named (by_text (e ∷ es)) k.now x
    go later true h = absurd (cc)
    go later false h = ap (λ (l : Named X). (e.0.now, e.1) ∷ l) (later h)

pub text_bound : {X : Type 0} (k : Bor (List ℕ)) (x : X) (es news : List (Bor (List ℕ) × X)) → news ≡ insert_entry same_text es k x → IsFresh k.now (by_text es) → by_text news ≡ with_named (by_text es) k.now x
text_bound k x es news is new = ap by_text is ∙ text_last k x es new
