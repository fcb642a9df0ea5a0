-- The lists of a body.
use Rattle.wac_lexer.specs.Span.{Span}
use Rattle.std.specs.Prelude.{ℕ, List}
use Rattle.wac_graph_types.specs.declared.kind.ExternKind.{ExternKind}
use Rattle.wac_graph_types.specs.declared.kind.ExternKind.TheVariants as sides
use Rattle.wac_graph_types.specs.declared.kind.ItemKind.{ItemKind}
use Rattle.wac_graph_types.specs.declared.entry.UsedType.{UsedType}
use Rattle.wac_graph_types.specs.Names.{by_name}
use Rattle.wac_graph_types.specs.Scope.{Named, with_named}
use Rattle.wac_resolution_state.specs.Bindings.{Bindings}
use Rattle.wac_resolution_types.specs.declared.body.Body.{Body}

-- what the identifiers of a body denote, and where each was bound; the types that it uses; its imports and exports
pub record Lists : Type 0 where
  pub names : Bindings ItemKind
  pub uses : Named UsedType
  pub imports : Named ItemKind
  pub exports : Named ItemKind

abbrev pub lists_of : Body → Lists
lists_of b = record {
  names = b.names;
  uses = by_name b.uses.entries;
  imports = by_name b.imports.entries;
  exports = by_name b.exports.entries;
}

-- the imports or the exports
abbrev pub kinds_of : ExternKind → Lists → Named ItemKind
kinds_of sides.Import b = b.imports
kinds_of sides.Export b = b.exports

-- one more of them
abbrev pub with_kind : ExternKind → Lists → List ℕ → ItemKind → Lists
with_kind sides.Import b name k = record b { imports = with_named b.imports name k }
with_kind sides.Export b name k = record b { exports = with_named b.exports name k }

-- a name in the scope and among them
abbrev pub with_bound : ExternKind → Lists → List ℕ → Span → ItemKind → Lists
with_bound side b name at k = with_kind side (record b { names = with_named b.names name (at, k) }) name k

-- one more used type
abbrev pub with_used : Lists → List ℕ → UsedType → Lists
with_used b name u = record b { uses = with_named b.uses name u }
