-- Forms of messages. Names are in backquotes.
use Rattle.std.specs.Prelude.{ℕ, List, ◌++◌, codes}
use Rattle.wac_graph_types.specs.Words.{extern_word, func_word}
use Rattle.wac_graph_types.specs.declared.kind.ExternKind.{ExternKind}
use Rattle.wac_graph_types.specs.declared.kind.FuncKind.{FuncKind}

-- of one name
unfoldable pub quoted : (before name after : List ℕ) → List ℕ
quoted before name after = before ++ (codes "`" ++ (name ++ (codes "`" ++ after)))

-- of two names, the second at the end
unfoldable pub pair : (before first between second : List ℕ) → List ℕ
pair before first between second = before ++ (codes "`" ++ (first ++ (codes "`" ++ (between ++ (codes "`" ++ (second ++ codes "`"))))))

-- a name, what it denotes, and how that doesn't fit
unfoldable pub kinded : (name kind fault : List ℕ) → List ℕ
kinded name kind fault = codes "`" ++ (name ++ (codes "` (" ++ (kind ++ (codes ") " ++ fault))))

-- the same with a second name at the end
unfoldable pub kinded_within : (name kind fault second : List ℕ) → List ℕ
kinded_within name kind fault second = codes "`" ++ (name ++ (codes "` (" ++ (kind ++ (codes ") " ++ (fault ++ (codes " `" ++ (second ++ codes "`")))))))

unfoldable pub part_of_function : FuncKind → (part name : List ℕ) → List ℕ
part_of_function kind part name = codes "duplicate " ++ (func_word kind ++ (codes " " ++ (part ++ (codes " `" ++ (name ++ codes "`")))))

unfoldable pub missing_export : (kind path component export : List ℕ) → List ℕ
missing_export kind path component export = kind ++ (codes " `" ++ (path ++ (codes "` in package `" ++ (component ++ (codes "` has no export named `" ++ (export ++ codes "`"))))))

unfoldable pub world_item : ExternKind → (name world : List ℕ) → List ℕ
world_item kind name world = extern_word kind ++ (codes " `" ++ (name ++ (codes "` conflicts with existing " ++ (extern_word kind ++ (codes " of the same name in world `" ++ (world ++ codes "`"))))))

unfoldable pub include_conflict : ExternKind → (name from to : List ℕ) → List ℕ
include_conflict kind name from to = extern_word kind ++ (codes " `" ++ (name ++ (codes "` from world `" ++ (from ++ (codes "` conflicts with " ++ (extern_word kind ++ (codes " of the same name in world `" ++ (to ++ codes "`"))))))))

unfoldable pub export_conflict : (name kind : List ℕ) → List ℕ
export_conflict name kind = codes "export `" ++ (name ++ (codes "` conflicts with " ++ (kind ++ codes " definition")))

abbrev pub extern_name : ExternKind → (name : List ℕ) → List ℕ
extern_name kind name = codes "duplicate " ++ (extern_word kind ++ (codes " `" ++ (name ++ codes "`")))

abbrev pub invalid_name : ExternKind → (name : List ℕ) → List ℕ
invalid_name kind name = extern_word kind ++ (codes " name `" ++ (name ++ codes "` is not valid"))

unfoldable pub use_conflict : ExternKind → (name : List ℕ) → List ℕ
use_conflict kind name = codes "use of type `" ++ (name ++ (codes "` conflicts with an " ++ (extern_word kind ++ codes " of the same name")))

unfoldable pub target_mismatch : ExternKind → (name world : List ℕ) → List ℕ
target_mismatch kind name world = extern_word kind ++ (codes " `" ++ (name ++ (codes "` has a mismatched type for target world `" ++ (world ++ codes "`"))))
