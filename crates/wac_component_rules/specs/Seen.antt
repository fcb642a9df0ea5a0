-- What the rules see of a kind: aliases are seen through, and a resource is the name of its source.
use Rattle.std.specs.Prelude.{ℕ, List, [], ◌∷◌, Option}
use Rattle.wac_graph_types.specs.Kind.{Form, a_value, value}
use Rattle.wac_graph_types.specs.Entry.{Slot}
use Rattle.wac_graph_types.specs.Label.{Label, plain, resource, Plain, kind, alias}
use Rattle.wac_graph_types.specs.Meaning.{Meaning, node, Row, done, more}
use Rattle.wac_graph_types.specs.Shape.{cons_named}
use Rattle.wac_graph_types.specs.Scope.{Named}

mutual
  -- a kind: its form, and what the entry is that it names; or a part that is not given
  pub data Seen : Type 0 where
    a_kind : Form → What → Seen
    not_given : Seen

  pub data What : Type 0 where
    nothing : What
    -- a type of values or of functions: what it is made of, part by part
    made_of : Plain → Items → What
    -- a resource, by its source's name
    named_resource : List ℕ → What
    an_interface a_world : Items → What

  -- parts, imports and exports, each in its slot
  pub data Items : Type 0 where
    end : Items
    item : Slot → Seen → Items → Items

-- an alias of a value type, as a type, is the aliased type
abbrev pub under : Form → Form → Form
under (a_value v) (value w) = a_value w
under f g = g

abbrev pub through : Form → Seen → Seen
through f (a_kind g w) = a_kind (under f g) w
through f not_given = not_given

abbrev pub first_item : Items → Seen
first_item end = not_given
first_item (item s x xs) = x

abbrev pub made_through : Form → Plain → Items → Seen
made_through f alias xs = through f (first_item xs)
made_through f p xs = a_kind f (made_of p xs)

-- a kind of this form, over what its entry is
abbrev pub seen_through : Form → What → Seen
seen_through f nothing = a_kind f nothing
seen_through f (made_of p xs) = made_through f p xs
seen_through f (named_resource n) = a_kind f (named_resource n)
seen_through f (an_interface xs) = a_kind f (an_interface xs)
seen_through f (a_world xs) = a_kind f (a_world xs)

abbrev pub plain_seen : Plain → What → Seen
plain_seen (kind f) w = seen_through f w
plain_seen _ w = not_given

abbrev pub kind_seen : Label → What → Seen
kind_seen (plain p) w = plain_seen p w
kind_seen (resource o n) w = not_given

abbrev pub second_item : Items → Seen
second_item end = not_given
second_item (item s x xs) = first_item xs

abbrev pub resource_name : List ℕ → What → List ℕ
resource_name n (named_resource m) = m
resource_name n _ = n

-- the name of the source, where there is one
abbrev pub source_name : List ℕ → Seen → List ℕ
source_name n (a_kind f w) = resource_name n w
source_name n not_given = n

abbrev pub plain_what : Plain → Items → What
plain_what (Plain.interface id) xs = an_interface xs
plain_what (Plain.world id) xs = a_world xs
plain_what p xs = made_of p xs

-- what an entry is; an alias of a resource has its owner and its source as parts
abbrev pub entry_what : Label → Items → What
entry_what (plain p) xs = plain_what p xs
entry_what (resource o n) xs = named_resource (source_name n (second_item xs))

abbrev mutual
  -- what the rules see of a kind
  pub seen : Meaning → Seen
  seen (node l r) = kind_seen l (entry_seen r)

  pub what : Meaning → What
  what (node l r) = entry_what l (items r)

  -- of the entry that a kind names, if any
  pub entry_seen : Row → What
  entry_seen done = nothing
  entry_seen (more s m r) = what m

  pub items : Row → Items
  items done = end
  items (more s m r) = item s (seen m) (items r)

-- the items with their slots
abbrev pub listed : Items → List (Slot × Seen)
listed end = []
listed (item s x xs) = (s, x) ∷ listed xs

-- those in slots of a sort, by name and in order
abbrev pub picked : {X : Type 0} → (Slot → Option (List ℕ)) → List (Slot × X) → Named X
picked pick [] = []
picked pick (e ∷ es) = cons_named (pick e.0) e.1 (picked pick es)
