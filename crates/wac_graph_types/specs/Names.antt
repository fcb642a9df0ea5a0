-- Maps by name.
use Rattle.std.specs.Prelude.{ℕ, Option, List, map, option_map, slice_get, string_bytes, String}
use Rattle.std.specs.declared.alloc.Global.{Global}

-- a map's names and values, in its order
abbrev pub by_name : {X : Type 0} → List (String Global × X) → List (List ℕ × X)
by_name es = map (λ e. (string_bytes e.0, e.1)) es

-- the name in a place, if there is one
abbrev pub name_in_place : {X : Type 0} → ℕ → List (List ℕ × X) → Option (List ℕ)
name_in_place at all = option_map (λ e. e.0) (slice_get all at)
