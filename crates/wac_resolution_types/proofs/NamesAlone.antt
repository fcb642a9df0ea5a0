-- Names alone, in order: flags and the cases of an enum.
use Rattle.wac_resolution_types.proofs.Common.{◌≡◌, ◌∙◌, ◌+◌, ◌<◌, ℕ, List, [], ◌∷◌, ◌++◌, Some, None, Bool, true, false, cond, ◌||◌, refl, sym, ap, subst, map, take, length, get_or, String, string_bytes, Global, map_push, Meaning, Slot, Named, look_up, StandsFor, IsFresh, with_named, nothing, naming_each, name_children, Steps, Fails, steps_on_map, fails_at_map, memory_model}
use Rattle.std.specs.List.{list_any}
use Rattle.std.specs.Str.{bytes_eq}
use Rattle.wac_resolution_types.specs.Declarations.{names_alone}

-- whether a text is that of one of the names
pub any_text : (name : List ℕ) (names : List (String Global)) → list_any (λ k. bytes_eq name (string_bytes k)) names ≡ list_any (bytes_eq name) (map string_bytes names)
any_text name [] = refl
any_text name (n ∷ names) = ap (λ (b : Bool). bytes_eq name (string_bytes n) || b) (any_text name names)

-- what a name denotes among names, if it is one of them
alone_found : (name : List ℕ) (names : List (String Global)) → look_up name (names_alone names) ≡ cond (list_any (bytes_eq name) (map string_bytes names)) (Some nothing) None
alone_found name [] = refl
alone_found name (n ∷ names) = go (alone_found name names) (bytes_eq name (string_bytes n))
  where
    go : look_up name (names_alone names) ≡ cond (list_any (bytes_eq name) (map string_bytes names)) (Some nothing) None → (b : Bool)
        → cond b (Some nothing) (look_up name (names_alone names)) ≡ cond (b || list_any (bytes_eq name) (map string_bytes names)) (Some nothing) None
    go later true = refl
    go later false = later

pub name_stands : (name : List ℕ) (names : List (String Global)) → list_any (bytes_eq name) (map string_bytes names) ≡ true → StandsFor (names_alone names) name nothing
name_stands name names is = alone_found name names ∙ ap (λ (b : Bool). cond b (Some nothing) None) is

pub name_fresh : (name : List ℕ) (names : List (String Global)) → list_any (bytes_eq name) (map string_bytes names) ≡ false → IsFresh name (names_alone names)
name_fresh name names is = alone_found name names ∙ ap (λ (b : Bool). cond b (Some nothing) None) is

pub ruleset names_found = (name_stands, name_fresh, memory_model)

-- names, each of which denotes nothing
abbrev alone : List (List ℕ) → Named Meaning
alone texts = map (λ t. (t, nothing)) texts

alone_texts : (names : List (String Global)) → names_alone names ≡ alone (map string_bytes names)
alone_texts [] = refl
alone_texts (n ∷ names) = ap (λ (l : Named Meaning). (string_bytes n, nothing) ∷ l) (alone_texts names)

-- one more name
pub name_added : (name : List ℕ) (old new : List (String Global)) → map string_bytes new ≡ map string_bytes old ++ name ∷ [] → names_alone new ≡ with_named (names_alone old) name nothing
name_added name old new is =
    alone_texts new ∙ ap alone is ∙ map_push (λ (t : List ℕ). (t, nothing)) (map string_bytes old) name ∙ ap (λ (l : Named Meaning). with_named l name nothing) (sym (alone_texts old))

-- names as they are in an entry
pub names_each : (names : List (String Global)) → naming_each (names_alone names) ≡ name_children (map string_bytes names)
names_each [] = refl
names_each (n ∷ names) = ap (λ (l : List (Slot × Meaning)). (Slot.named (string_bytes n), nothing) ∷ l) (names_each names)

-- ---- in order

pub names_step : {X Y : Type 0} (step : Named Meaning → X → Named Meaning → Type 0) (f : Y → X) (old mid new : Named Meaning) (ys : List Y) (i : ℕ) (y : Y)
    → i < length ys → y ≡ get_or ys i y → Steps step old (take i (map f ys)) mid → step mid (f y) new → Steps step old (take (i + 1) (map f ys)) new
names_step {X} {Y} step f old mid new ys i y within at p q = steps_on_map step f old ys i y mid new within p (subst (λ (z : Y). step mid (f z) new) at q)

pub names_break : {X Y : Type 0} (step : Named Meaning → X → Named Meaning → Type 0) (broken : Named Meaning → X → Type 0) (f : Y → X) (old mid : Named Meaning) (ys : List Y) (i : ℕ) (y : Y)
    → i < length ys → y ≡ get_or ys i y → Steps step old (take i (map f ys)) mid → broken mid (f y) → Fails step (λ s before x. broken s x) old (map f ys)
names_break {X} {Y} step broken f old mid ys i y within at p b = fails_at_map step (λ s before x. broken s x) f old ys i y mid within p (subst (λ (z : Y). broken mid (f z)) at b)
