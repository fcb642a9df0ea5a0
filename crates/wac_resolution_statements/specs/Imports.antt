-- Imports, as they are added to a graph.
use Rattle.std.specs.Prelude.{◌≡◌, ℕ, List, Option, None, length, option_map, option_and_then, slice_get, string_bytes}
use Rattle.wac_lexer.specs.Span.{Span}
use Rattle.wac_ast_grammar.specs.Tree.{Ident, ImportStatement}
use Rattle.wac_graph_types.specs.declared.kind.ItemKind.{ItemKind}
use Rattle.wac_graph_types.specs.declared.entry.Entry.{Entry}
use Rattle.wac_graph_types.specs.declared.rules.Reason.{Reason}
use Rattle.wac_graph_types.specs.Readings.{as_world}
use Rattle.wac_graph_types.specs.Scope.{Named, IsFresh, with_named}
use Rattle.wac_graph.specs.Graph.{Parts}
use Rattle.wac_graph.specs.Means.{means}
use Rattle.wac_graph.specs.Origin.{Numbering}
use Rattle.wac_resolution_rules.specs.Composition.{imported, with_node, binding}
use Rattle.wac_resolution_rules.specs.Nodes.{imports, next_of}
use Rattle.wac_resolution_rules.specs.Spans.{import_span}
use Rattle.wac_resolution_state.specs.declared.root.Root.{Root}
use Rattle.wac_resolution_state.specs.Nodes.{composition_of}
use Rattle.wac_resolution_state.specs.Root.{numbers_of, composed, places, Agrees}
use Rattle.wac_resolution_statements.specs.declared.externs.Externs.{Externs}
use Rattle.wac_resolution_statements.specs.Externs.{imported_in, exported_in}

-- the id in the entry of a world
abbrev pub written_world_id : List Entry → ℕ → Option (List ℕ)
written_world_id es i = option_and_then (λ x. option_map string_bytes x.id) (option_and_then as_world (slice_get es i))

-- nothing is imported under the name: neither in the graph nor in the composition
pub record IsUnimported (g : Parts) (name : List ℕ) : Type 0 where
  pub in_graph : IsFresh name g.imports
  pub in_composition : (numbering : Numbering) (declared : Named ℕ)
      → IsFresh name (imports (composition_of numbering g declared))

-- an import of this name, place and kind was added, and a new identifier was bound to it
pub record AddsImport (old new : Parts) (before after : Root) (x y : Externs) (id : Ident) (name : List ℕ) (span : Span) (k : ItemKind) : Type 0 where
  pub unbound : IsFresh id.string (numbers_of before.nodes)
  pub same : new ≡ record old { nodes = new.nodes; imports = with_named old.imports name (length old.nodes) }
  pub agrees : Agrees new after
  pub is : (numbering : Numbering)
      → composed numbering new after
      ≡ binding (with_node (composed numbering old before) (imported name) (means numbering old k))
      id.string (next_of (composed numbering old before))
  pub bound : places after ≡ with_named (places before) id.string id.span
  pub imported_at : imported_in y ≡ with_named (imported_in x) name span
  pub exported_at : exported_in y ≡ exported_in x

-- an import of this name and kind was added for a statement, and the name may be an import's
pub record ImportsAs (named : List ℕ → Option Reason) (old new : Parts) (before after : Root) (x y : Externs) (s : ImportStatement) (name : List ℕ) (k : ItemKind) : Type 0 where
  pub unimported : IsUnimported old name
  pub passes : named name ≡ None
  pub adds : AddsImport old new before after x y s.id name (import_span s) k
