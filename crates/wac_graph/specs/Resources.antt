-- Entries of the resources that a composition declares.
use Rattle.std.specs.Prelude.{ℕ, List}
use Rattle.wac_graph_types.specs.Kind.{a_resource}
use Rattle.wac_graph_types.specs.Entry.{owner, source}
use Rattle.wac_graph_types.specs.Label.{resource}
use Rattle.wac_graph_types.specs.Meaning.{Meaning, node, done, more}
use Rattle.wac_graph_types.specs.Shape.{kind_of, owner_of}
use Rattle.wac_graph.specs.Origin.{Numbering, declared}

-- the entry of a resource that the document declares
abbrev pub resource_entry : Numbering → ℕ → List ℕ → Meaning
resource_entry numbering n name = node (resource (numbering (declared n)) name) done

-- the entry of a resource that is another name of a resource: it has that one's owner
abbrev pub alias_entry : Numbering → ℕ → List ℕ → Meaning → Meaning
alias_entry numbering n name from = node (resource (numbering (declared n)) name) (more owner (owner_of from) (more source (kind_of a_resource from) done))
