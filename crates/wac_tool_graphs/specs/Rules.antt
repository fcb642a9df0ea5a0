-- What the rules of the program say of kinds.
use Rattle.std.specs.Prelude.{Option}
use Rattle.wac_graph_types.specs.declared.rules.Reason.{Reason}
use Rattle.wac_graph_types.specs.Equality.{equal_or, meaning_discrete}
use Rattle.wac_graph_types.specs.Meaning.{Meaning}

-- a kind fits one of equal meaning; reason 1 is against any other
abbrev pub same_passes : Meaning → Meaning → Option Reason
same_passes a b = equal_or (record { 0 = 1 }) (meaning_discrete a b)
