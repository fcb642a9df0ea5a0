-- Kinds in words.
use Rattle.std.specs.Prelude.{ℕ, List, codes}
use Rattle.wac_graph_types.specs.declared.kind.«Type».{«Type» as ItemType}
use Rattle.wac_graph_types.specs.declared.kind.«Type».TheVariants as types
use Rattle.wac_graph_types.specs.declared.kind.ItemKind.{ItemKind}
use Rattle.wac_graph_types.specs.declared.kind.ItemKind.TheVariants as kinds
use Rattle.wac_graph_types.specs.declared.kind.ExternKind.{ExternKind}
use Rattle.wac_graph_types.specs.declared.kind.ExternKind.TheVariants as externs
use Rattle.wac_graph_types.specs.declared.kind.FuncKind.{FuncKind}
use Rattle.wac_graph_types.specs.declared.kind.FuncKind.TheVariants as funcs

abbrev pub described_type : ItemType → List ℕ
described_type (types.Resource id) = codes "resource"
described_type (types.Func id) = codes "function type"
described_type (types.Value v) = codes "value type"
described_type (types.Interface id) = codes "interface"
described_type (types.World id) = codes "world"
described_type (types.Module id) = codes "module type"

abbrev pub described : ItemKind → List ℕ
described (kinds.Ty t) = described_type t
described (kinds.Func id) = codes "function"
described (kinds.Instance id) = codes "instance"
described (kinds.Component id) = codes "component"
described (kinds.Module id) = codes "module"
described (kinds.Value v) = codes "value"

abbrev pub extern_word : ExternKind → List ℕ
extern_word externs.Import = codes "import"
extern_word externs.Export = codes "export"

abbrev pub func_word : FuncKind → List ℕ
func_word funcs.Free = codes "function"
func_word funcs.Method = codes "method"
func_word funcs.Static = codes "static method"
func_word funcs.Constructor = codes "constructor"
