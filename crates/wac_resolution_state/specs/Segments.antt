-- What the segments of a path resolve to in a graph.
use Rattle.std.specs.Prelude.{◌≡◌, ℕ, List, map, take, Some, None, Bool, slice_get}
use Rattle.wac_lexer.specs.Span.{Span}
use Rattle.wac_graph_types.specs.declared.kind.ItemKind.{ItemKind}
use Rattle.wac_graph_types.specs.Meaning.{Meaning}
use Rattle.wac_graph_types.specs.Scope.{Named, Scope}
use Rattle.wac_graph_types.specs.Shape.{export_of}
use Rattle.wac_graph_types.specs.Steps.{Steps}
use Rattle.wac_graph_types.specs.Table.{Names}
use Rattle.wac_graph.specs.Graph.{Parts}
use Rattle.wac_graph.specs.Means.{means}
use Rattle.wac_graph.specs.Origin.{Numbering}
use Rattle.wac_ast_grammar.specs.Tree.{PackagePath}
use Rattle.wac_resolution_rules.specs.BrokenBodies.{last_of}
use Rattle.wac_resolution_rules.specs.Paths.{Context, key_of_path, segments_of, beginning_of, IsMember, LeadsFrom}
use Rattle.wac_resolution_state.specs.Named.{scope_of}
use Rattle.wac_resolution_state.specs.declared.members.Missing.{Missing}

-- segments, each with its span
abbrev pub Spans : Type 0
Spans = List (List ℕ × Span)

-- the segments alone
abbrev pub texts : Spans → List (List ℕ)
texts all = map (λ s. s.0) all

-- a path that begins in the document's own package, or in a supplied one, resolves to a kind
abbrev pub LeadsAs : Bool → Context → Scope → PackagePath → Meaning → Type 0
LeadsAs own context root p m = (from : Scope) × (beginning_of own root context.packages (key_of_path p) ≡ Some from)
    × LeadsFrom from (segments_of p) m

-- among these named kinds the segments of a path resolve to a kind
pub record SegmentsLead (g : Parts) (ks : Named ItemKind) (p : PackagePath) (k : ItemKind) : Type 0 where
  pub named : Names g.types k
  pub is : (numbering : Numbering) → LeadsFrom (scope_of numbering g ks) (segments_of p) (means numbering g k)

-- from a kind names resolve to a kind, each an export of what the one before it denotes
pub record MembersLead (g : Parts) (from : ItemKind) (names : List (List ℕ)) (k : ItemKind) : Type 0 where
  pub named : Names g.types k
  pub go : (numbering : Numbering) → Steps IsMember (means numbering g from) names (means numbering g k)

-- so many segments resolve to a kind, which does not export the next one
pub record Misses (g : Parts) (first : List ℕ) (from : ItemKind) (rest : Spans) (m : Missing) : Type 0 where
  pub leads : MembersLead g from (take m.before (texts rest)) m.kind
  pub last : m.last.now ≡ last_of first (take m.before (texts rest))
  pub stands : slice_get rest m.before ≡ Some (m.segment.now, m.span)
  pub none : (numbering : Numbering) → export_of (means numbering g m.kind) m.segment.now ≡ None
