-- What each of several items is.
use Rattle.std.proofs.Common.{◌≡◌, refl, sym, ◌∙◌, ap, ℕ, ◌+◌, ◌<◌, ◌≤◌, List, [], ◌∷◌, ◌++◌, length, drop, get_or, Option, Some, None, append_assoc, append-nil}
use Rattle.std.specs.Prelude.{map, option_map}
use Rattle.std.specs.Option.{option_zip}
use Rattle.std.proofs.lemmas.List.{drop_more, drop_all, map_push}
use Rattle.serde_json.specs.Data.{Data}
use Rattle.serde_json.specs.View.{items_view, view}
use Rattle.serde_json.specs.declared.value.Value.{Value}
use Rattle.wac_lsp_messages.specs.Reading.{each}

-- the first values before an index are those that were read, and the others are still to be
pub record EachSoFar {A B : Type 0} (one : Data → Option B) (said : A → B) (values : List Value) (index : ℕ) (read : List A) : Type 0 where
  pub is : each one (items_view values) ≡ option_map (λ rest. map said read ++ rest) (each one (items_view (drop index values)))

none_before : {B : Type 0} (all : Option (List B)) → all ≡ option_map (λ rest. [] ++ rest) all
none_before None = refl
none_before (Some all) = refl

-- none was read
pub each_begins : {A B : Type 0} (one : Data → Option B) (said : A → B) (values : List Value) → EachSoFar one said values 0 []
each_begins one said values = record { is = none_before (each one (items_view values)) }

split : {B : Type 0} (one : Data → Option B) (values : List Value) (index : ℕ) (value : Value) → index < length values → value ≡ get_or values index value
    → each one (items_view (drop index values)) ≡ option_map (λ both. both.0 ∷ both.1) (option_zip (one (view value)) (each one (items_view (drop (index + 1) values))))
split one values index value within is =
    ap (λ vs. each one (items_view vs)) (drop_more values index value within ∙ ap (λ v. v ∷ drop (index + 1) values) (sym is))

joined : {B : Type 0} (found : List B) (next : B) (all : Option (List B))
    → option_map (λ rest. found ++ rest) (option_map (λ both. both.0 ∷ both.1) (option_zip (Some next) all)) ≡ option_map (λ rest. (found ++ (next ∷ [])) ++ rest) all
joined found next None = refl
joined found next (Some all) = ap Some (sym (append_assoc found (next ∷ []) all))

-- the next one is read
pub each_goes_on : {A B : Type 0} (one : Data → Option B) (said : A → B) (values : List Value) (index : ℕ) (read : List A) (value : Value) (next : A) → index < length values → value ≡ get_or values index value
    → Some (said next) ≡ one (view value) → EachSoFar one said values index read → EachSoFar one said values (index + 1) (read ++ (next ∷ []))
each_goes_on one said values index read value next within is means so_far =
    let rest = each one (items_view (drop (index + 1) values)) in
    record {
      is = so_far.is
          ∙ ap (option_map (λ rest. map said read ++ rest)) (split one values index value within is ∙ ap (λ first. option_map (λ both. both.0 ∷ both.1) (option_zip first rest)) (sym means))
          ∙ joined (map said read) (said next) rest
          ∙ ap (λ found. option_map (λ rest. found ++ rest) rest) (sym (map_push said read next));
    }

-- the next one is nothing
pub each_fails : {A B : Type 0} (one : Data → Option B) (said : A → B) (values : List Value) (index : ℕ) (read : List A) (value : Value) → index < length values → value ≡ get_or values index value
    → None ≡ one (view value) → EachSoFar one said values index read → None ≡ each one (items_view values)
each_fails one said values index read value within is means so_far =
    let rest = each one (items_view (drop (index + 1) values)) in
    sym (so_far.is ∙ ap (option_map (λ rest. map said read ++ rest)) (split one values index value within is ∙ ap (λ first. option_map (λ both. both.0 ∷ both.1) (option_zip first rest)) (sym means)))

-- all were read
pub each_ends : {A B : Type 0} (one : Data → Option B) (said : A → B) (values : List Value) (index : ℕ) (read : List A) → length values ≤ index → EachSoFar one said values index read → Some (map said read) ≡ each one (items_view values)
each_ends one said values index read past so_far =
    sym (so_far.is
    ∙ ap (λ vs. option_map (λ rest. map said read ++ rest) (each one (items_view vs))) (drop_all index values past)
    ∙ ap Some (append-nil (map said read)))

map_same : {A : Type 0} (all : List A) → map (λ it. it) all ≡ all
map_same [] = refl
map_same (first ∷ rest) = ap (λ others. first ∷ others) (map_same rest)

-- the same, where they are kept as they are
pub each_same_ends : {B : Type 0} (one : Data → Option B) (values : List Value) (index : ℕ) (read : List B) → length values ≤ index → EachSoFar one (λ it. it) values index read → Some read ≡ each one (items_view values)
each_same_ends one values index read past so_far = ap Some (sym (map_same read)) ∙ each_ends one (λ it. it) values index read past so_far
