-- The lines of a composition.
use Rattle.std.specs.Prelude.{ℕ, suc, List, [], ◌∷◌, ◌++◌, flat_map, codes, decimal, Option, Some, None}
use Rattle.wac_graph_types.specs.Scope.{Named}
use Rattle.wac_graph_types.specs.Shape.{described}
use Rattle.wac_resolution_rules.specs.Composition.{Composition, Node, NodeForm, imported, definition, aliased, instantiated}

-- ---- parts of a node's line

-- @VERSION, where there is one
abbrev pub version_words : Option (List ℕ) → List ℕ
version_words None = []
version_words (Some version) = codes "@" ++ version

-- what a node is: `import NAME`, `definition`, `alias M NAME`, `new NAME` or `new NAME@VERSION`
abbrev pub form_words : NodeForm → List ℕ
form_words (imported name) = codes "import " ++ name
form_words definition = codes "definition"
form_words (aliased node name) = codes "alias " ++ (decimal node ++ (codes " " ++ name))
form_words (instantiated key) = codes "new " ++ (key.0 ++ version_words key.1)

-- ` [ID]`, where there is a name
abbrev pub id_words : Option (List ℕ) → List ℕ
id_words None = []
id_words (Some name) = codes " [" ++ (name ++ codes "]")

-- ---- lines

-- N FORM: KIND [ID]
abbrev pub node_line : ℕ → Node → List ℕ
node_line n x = decimal n
    ++ (codes " " ++ (form_words x.form ++ (codes ": " ++ (described x.kind ++ (id_words x.name ++ codes "\n")))))

-- a name and its node's number, after some words
abbrev pub name_line : List ℕ → List ℕ × ℕ → List ℕ
name_line before e = before ++ (e.0 ++ (codes " = " ++ (decimal e.1 ++ codes "\n")))

-- `  NAME = M` for each argument
abbrev pub argument_lines : Named ℕ → List ℕ
argument_lines arguments = flat_map (name_line (codes "  ")) arguments

-- `export NAME = M` for each export
abbrev pub export_lines : Named ℕ → List ℕ
export_lines exports = flat_map (name_line (codes "export ")) exports

-- a line for each node, with its arguments under it; the first node has number n
abbrev pub node_lines : ℕ → List Node → List ℕ
node_lines n [] = []
node_lines n (x ∷ xs) = node_line n x ++ (argument_lines x.arguments ++ node_lines (suc n) xs)

-- the nodes, and then the exports
abbrev pub graph_lines : Composition → List ℕ
graph_lines c = node_lines 0 c.nodes ++ export_lines c.exports
