-- Maps by name and sets of names: what is found in them, and what goes last.
use Rattle.wac_graph_types.proofs.Common.{◌≡◌, ◌∙◌, ℕ, List, [], ◌∷◌, ◌++◌, Some, None, refl, ap, map, Bool, true, false, cond, ◌||◌, string_bytes, String, Global, list_any, bytes_eq}
use Rattle.std.specs.Map.{lookup}
use Rattle.std.specs.String.{string_eq}
use Rattle.indexmap.specs.IndexMap.{insert_entry}
use Rattle.indexmap.specs.IndexSet.{insert_key}
use Rattle.wac_graph_types.specs.Names.{by_name}
use Rattle.wac_graph_types.specs.Scope.{Named, look_up}

-- what a map has under a name is found by the name's text
pub by_name_found : {X : Type 0} (name : List ℕ) (es : List (String Global × X)) → lookup (λ k. bytes_eq name (string_bytes k)) es ≡ look_up name (by_name es)
by_name_found name [] = refl
by_name_found {X} name (e ∷ es) = ap (cond (bytes_eq name (string_bytes e.0)) (Some e.1)) (by_name_found name es)

-- a name that is none of the names finds nothing
pub fresh_name : {X : Type 0} (name : List ℕ) (es : Named X) → list_any (bytes_eq name) (map (λ e. e.0) es) ≡ false → look_up name es ≡ None
fresh_name name [] h = refl
fresh_name {X} name (e ∷ es) h = go (fresh_name name es) (bytes_eq name e.0) h
  where
    go : (list_any (bytes_eq name) (map (λ x. x.0) es) ≡ false → look_up name es ≡ None) → (b : Bool) → (b || list_any (bytes_eq name) (map (λ x. x.0) es)) ≡ false → cond b (Some e.1) (look_up name es) ≡ None
    go later true h = absurd (cc)
    go later false h = later h

-- a new name goes last
pub inserted : {V : Type 0} (k : String Global) (v : V) (es : List (String Global × V)) → look_up (string_bytes k) (by_name es) ≡ None
    → by_name (insert_entry string_eq es k v) ≡ by_name es ++ (string_bytes k, v) ∷ []
inserted k v [] new = refl
inserted {V} k v (e ∷ es) new = go (inserted k v es) (bytes_eq (string_bytes k) (string_bytes e.0)) new
  where
    go : (look_up (string_bytes k) (by_name es) ≡ None → by_name (insert_entry string_eq es k v) ≡ by_name es ++ (string_bytes k, v) ∷ [])
        → (b : Bool) → cond b (Some e.1) (look_up (string_bytes k) (by_name es)) ≡ None
        → by_name (cond b ((e.0, v) ∷ es) (e ∷ insert_entry string_eq es k v)) ≡ by_name (e ∷ es) ++ (string_bytes k, v) ∷ []
    go later true h = absurd (cc)
    go later false h = ap (λ (l : Named V). (string_bytes e.0, e.1) ∷ l) (later h)

map_append : {X Y : Type 0} (f : X → Y) (xs ys : List X) → map f (xs ++ ys) ≡ map f xs ++ map f ys
map_append f [] ys = refl
map_append {X} {Y} f (x ∷ xs) ys = ap (λ (l : List Y). f x ∷ l) (map_append f xs ys)

any_text : (k : String Global) (ks : List (String Global)) → list_any (string_eq k) ks ≡ list_any (bytes_eq (string_bytes k)) (map string_bytes ks)
any_text k [] = refl
any_text k (l ∷ ls) = ap (λ (b : Bool). string_eq k l || b) (any_text k ls)

pub inserted_text : (k : String Global) (ks : List (String Global)) → list_any (bytes_eq (string_bytes k)) (map string_bytes ks) ≡ false
    → map string_bytes (insert_key string_eq ks k) ≡ map string_bytes ks ++ string_bytes k ∷ []
inserted_text k ks new = go (list_any (string_eq k) ks) (any_text k ks ∙ new)
  where
    go : (b : Bool) → b ≡ false → map string_bytes (cond b ks (ks ++ k ∷ [])) ≡ map string_bytes ks ++ string_bytes k ∷ []
    go true h = absurd (cc)
    go false h = map_append string_bytes ks (k ∷ [])
