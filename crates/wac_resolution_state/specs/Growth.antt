-- What a graph gets as types are resolved: more types, and nothing else.
use Rattle.std.specs.Prelude.{◌≡◌, suc}
use Rattle.wac_graph_types.specs.declared.kind.ItemKind.{ItemKind}
use Rattle.wac_graph_types.specs.declared.kind.ItemKind.TheVariants as kinds
use Rattle.wac_graph_types.specs.declared.kind.«Type».TheVariants as types
use Rattle.wac_graph_types.specs.declared.kind.ValueType.{ValueType}
use Rattle.wac_graph_types.specs.declared.kind.ResourceId.{ResourceId}
use Rattle.wac_graph_types.specs.declared.kind.FuncTypeId.{FuncTypeId}
use Rattle.wac_graph_types.specs.declared.kind.InterfaceId.{InterfaceId}
use Rattle.wac_graph_types.specs.declared.kind.WorldId.{WorldId}
use Rattle.wac_graph_types.specs.declared.entry.DefinedType.{DefinedType}
use Rattle.wac_graph_types.specs.Growth.{KeepsNames}
use Rattle.wac_graph_types.specs.Entry.{defined_label}
use Rattle.wac_graph_types.specs.Meaning.{Meaning}
use Rattle.wac_graph_types.specs.Shape.{defined_value, defined_parts}
use Rattle.wac_graph_types.specs.Table.{Names}
use Rattle.wac_graph.specs.Graph.{Parts}
use Rattle.wac_graph.specs.Means.{means, entry_means, declared_count}
use Rattle.wac_graph.specs.Origin.{Numbering}

-- the new graph has more types than the old one, and each kind means what it meant
pub record Grows (old new : Parts) : Type 0 where
  pub same : new ≡ record old { types = new.types }
  pub named : KeepsNames old.types new.types
  pub kinds : (numbering : Numbering) (k : ItemKind) → Names old.types k → means numbering new k ≡ means numbering old k

-- and it declares no resource
pub record GrowsPlainly (old new : Parts) : Type 0 where
  pub grows : Grows old new
  pub count : declared_count new ≡ declared_count old

-- one more type of values, which is this defined type
pub record AddsDefined (old new : Parts) (d : DefinedType) (v : ValueType) : Type 0 where
  pub grows : GrowsPlainly old new
  pub named : Names new.types (kinds.Value v)
  pub is : (numbering : Numbering)
      → means numbering new (kinds.Value v) ≡ defined_value (defined_label d) (defined_parts (entry_means numbering old) d)

-- one more function type, of this entry
pub record AddsFunc (old new : Parts) (entry : Numbering → Meaning) (f : FuncTypeId) : Type 0 where
  pub grows : GrowsPlainly old new
  pub named : Names new.types (kinds.Func f)
  pub is : (numbering : Numbering) → entry_means numbering new f.0 ≡ entry numbering

-- one more interface
pub record AddsInterface (old new : Parts) (entry : Numbering → Meaning) (i : InterfaceId) : Type 0 where
  pub grows : GrowsPlainly old new
  pub named : Names new.types (kinds.Instance i)
  pub is : (numbering : Numbering) → entry_means numbering new i.0 ≡ entry numbering

-- one more world
pub record AddsWorld (old new : Parts) (entry : Numbering → Meaning) (w : WorldId) : Type 0 where
  pub grows : GrowsPlainly old new
  pub named : Names new.types (kinds.Component w)
  pub is : (numbering : Numbering) → entry_means numbering new w.0 ≡ entry numbering

-- one more resource, which is declared
pub record AddsResource (old new : Parts) (entry : Numbering → Meaning) (r : ResourceId) : Type 0 where
  pub grows : Grows old new
  pub count : declared_count new ≡ suc (declared_count old)
  pub named : Names new.types (kinds.Ty (types.Resource r))
  pub is : (numbering : Numbering) → entry_means numbering new r.0 ≡ entry numbering
