-- The entry of a kind of one sort.
use Rattle.std.specs.Prelude.{Option, Some, None, Bool, true, false, if◌then◌else◌}
use Rattle.wac_graph_types.specs.Kind.{Form, a_world, component}
use Rattle.wac_graph_types.specs.Meaning.{Meaning}
use Rattle.wac_graph_types.specs.Shape.{is_a, is_instance_form, entry_of}

-- the entry of a kind whose form passes the test
abbrev pub entry_if : (Form → Bool) → Meaning → Option Meaning
entry_if test k = if is_a test k then Some (entry_of k) else None

-- the interface of an instance
abbrev pub instance_of : Meaning → Option Meaning
instance_of k = entry_if is_instance_form k

abbrev pub is_world_type_form : Form → Bool
is_world_type_form a_world = true
is_world_type_form _ = false

-- the world of a world type
abbrev pub world_of : Meaning → Option Meaning
world_of k = entry_if is_world_type_form k

abbrev pub is_component_form : Form → Bool
is_component_form component = true
is_component_form _ = false

-- the world of a component
abbrev pub component_of : Meaning → Option Meaning
component_of k = entry_if is_component_form k
