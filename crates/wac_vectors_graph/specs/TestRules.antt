-- What the rules of the tests say of names.
use Rattle.std.specs.Prelude.{ℕ, List, [], ◌∷◌, Option, Some, None}
use Rattle.wac_graph_types.specs.declared.rules.Reason.{Reason}

abbrev pub empty_refused : List ℕ → Option Reason
empty_refused [] = Some (record { 0 = 8 })
empty_refused (c ∷ cs) = None
