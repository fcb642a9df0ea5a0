-- Which extern a short name means.
use Rattle.std.specs.Prelude.{ℕ, List, [], ◌∷◌, Option, Some, None, is_some, unwrap_or, map, filter, Bool, ◌&&◌, reverse, if◌then◌else◌}
use Rattle.std.specs.List.{before_first, list_any}
use Rattle.std.specs.Str.{bytes_eq}
use Rattle.wac_graph_types.specs.Scope.{Named, look_up}
use Rattle.wac_ast_grammar.specs.Version.{is_at_sign, is_slash}

-- the text after its last '/'
abbrev pub after_last_slash : List ℕ → List ℕ
after_last_slash text = reverse (before_first is_slash (reverse text))

-- the text has a '/', and what comes after the last one, cut at '@', is the name
abbrev pub is_short_for : List ℕ → List ℕ → Bool
is_short_for name text = list_any is_slash text && bytes_eq name (before_first is_at_sign (after_last_slash text))

-- the only element, if there is just one
abbrev pub only_one : {X : Type 0} → List X → Option X
only_one (x ∷ []) = Some x
only_one _ = None

-- the names that it is short for
abbrev pub long_names : List ℕ → List (List ℕ) → List (List ℕ)
long_names name names = filter (is_short_for name) names

abbrev pub names_of : {X : Type 0} → Named X → List (List ℕ)
names_of all = map (λ e. e.0) all

-- a name among the externs denotes itself; else the only extern that it is short for; else itself
abbrev pub find_name : {X : Type 0} → List ℕ → Named X → List ℕ
find_name name externs =
    if is_some (look_up name externs) then name else unwrap_or (only_one (long_names name (names_of externs))) name
