-- Names, each with what it denotes.
use Rattle.std.specs.Prelude.{◌≡◌, ℕ, List, [], ◌∷◌, ◌++◌, Option, Some, None}
use Rattle.std.specs.Str.{bytes_eq}
use Rattle.std.specs.Map.{lookup, remove_entry}
use Rattle.wac_graph_types.specs.Meaning.{Meaning}

-- names in order, each with something
abbrev pub Named : Type 0 → Type 0
Named X = List (List ℕ × X)

-- identifiers, each with the meaning of the kind that it denotes
abbrev pub Scope : Type 0
Scope = Named Meaning

-- what the name denotes: the first that has the name
abbrev pub look_up : {X : Type 0} → List ℕ → Named X → Option X
look_up name all = lookup (λ k. bytes_eq name k) all

-- the name denotes this
abbrev pub StandsFor : {X : Type 0} → Named X → List ℕ → X → Type 0
StandsFor all name x = look_up name all ≡ Some x

-- the name denotes nothing yet
abbrev pub IsFresh : {X : Type 0} → List ℕ → Named X → Type 0
IsFresh name all = look_up name all ≡ None

-- one more name
abbrev pub with_named : {X : Type 0} → Named X → List ℕ → X → Named X
with_named all name x = all ++ (name, x) ∷ []

-- without the first that has the name
abbrev pub without_first : {X : Type 0} → List ℕ → Named X → Named X
without_first name all = remove_entry (λ k. bytes_eq name k) all
