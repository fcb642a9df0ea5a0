-- A node is exported.
use Rattle.wac_resolution_statements.proofs.Common.{◌≡◌, ◌∙◌, ◌<◌, ℕ, List, [], ◌∷◌, ◌++◌, Option, Some, None, refl, sym, ap, subst, length, IfSome, IsSome, AllByRecursion, map_push, Span, ItemKind, Reason, Named, with_named, Parts, means, Numbering, Error, ExportAsBroken, At, at, alias_at, names_of, names_at, more_at, ExportsAs, ExportsOne, Root, Stands, NodesStand, numbers_of, composed, Agrees}
use Rattle.wac_graph.specs.Graph.{with_export}
use Rattle.wac_graph.specs.Node.{Node as GraphNode}
use Rattle.wac_resolution_state.specs.Accesses.{AliasStep}
use Rattle.wac_resolution_state.specs.NodeGrowth.{GrowsNodes}
use Rattle.wac_resolution_statements.specs.declared.externs.Externs.{Externs}
use Rattle.wac_resolution_statements.specs.Externs.{imported_in, exported_in, places_in, ArePlaced, Under}
use Rattle.wac_resolution_statements.specs.Exports.{GrowsExports, MayExport, Leading, all_at, ExportSteps, Exported}

each_stands : (old : Parts) (exports : Named ℕ) (ns : List GraphNode) → AllByRecursion (Stands old) ns → AllByRecursion (Stands (record old { exports = exports })) ns
each_stands old exports [] h = tt
each_stands old exports (n ∷ ns) h = (record { kind = h.0.kind; held = h.0.held }, each_stands old exports ns h.1)

exports_grow : (old : Parts) (exports : Named ℕ) → NodesStand old → GrowsExports old (record old { exports = exports })
exports_grow old exports h = record { same = refl; kinds = λ n k is. is; stand = each_stands old exports old.nodes h }

pub exports_as : (span : Span) (named : List ℕ → Option Reason) (old new : Parts) (root : Root) (before after : Externs) (name : List ℕ) (node : ℕ) → Agrees old root → MayExport named old root name → new ≡ with_export old name node
    → exported_in after ≡ with_named (exported_in before) name span → imported_in after ≡ imported_in before → ExportSteps span old new root before after (name ∷ []) (λ numbering c d. Under named (λ s. ExportsAs s c name node d))
exports_as span named old new root before after name node agrees may is exported imported = record {
  grows = subst (GrowsExports old) (sym is) (exports_grow old (with_named old.exports name node) agrees.nodes);
  exports = ap (λ (g : Parts). names_of g.exports) is ∙ map_push (λ (e : List ℕ × ℕ). e.0) old.exports (name, node);
  imported = imported;
  exported = exported;
  goes = λ numbering s same. (may.undefined numbering, may.new, ap (λ (f : List ℕ → Option Reason). f name) same ∙ may.passes, ap (λ (g : Parts). composed numbering g root) is);
}

-- ---- the alias of an export

pub placed_nodes : (old new : Parts) (x : Externs) → GrowsNodes old new → ArePlaced old x → ArePlaced new x
placed_nodes old new x g h = record {
  imported = h.imported ∙ sym (ap (λ (p : Parts). names_of p.imports) g.same);
  exported = h.exported ∙ sym (ap (λ (p : Parts). names_of p.exports) g.same);
}

nodes_then_exports : (old mid new : Parts) → GrowsNodes old mid → GrowsExports mid new → GrowsExports old new
nodes_then_exports old mid new p q = record {
  same = q.same ∙ ap (λ (g : Parts). record g { nodes = new.nodes; exports = new.exports }) p.same;
  kinds = λ n k is. q.kinds n k (p.kinds n k is);
  stand = q.stand;
}

exports_one : (span : Span) (named : List ℕ → Option Reason) (old mid new : Parts) (root : Root) (before after : Externs) (name : List ℕ) (node n : ℕ) (k : ItemKind) → AliasStep old mid node name k n
    → ExportSteps span mid new root before after (name ∷ []) (λ numbering c d. Under named (λ s. ExportsAs s c name n d)) → ExportSteps span old new root before after (name ∷ []) (λ numbering c d. Under named (λ s. ExportsOne s node c (name, means numbering old k) d))
exports_one span named old mid new root before after name node n k a e = record {
  grows = nodes_then_exports old mid new a.grows e.grows;
  exports = e.exports ∙ ap (λ (g : Parts). names_of g.exports ++ name ∷ []) a.grows.same;
  imported = e.imported;
  exported = e.exported;
  goes = λ numbering s same. subst (λ (x : At). ExportsAs s x.composition name x.node (composed numbering new root)) (a.is numbering (numbers_of root.nodes)) (e.goes numbering s same);
}

pub exports_alias : (span : Span) (named : List ℕ → Option Reason) (old mid new : Parts) (root : Root) (before after : Externs) (name : List ℕ) (node n : ℕ) (o : Option ItemKind) → IfSome o (λ k. AliasStep old mid node name k n)
    → ExportSteps span mid new root before after (name ∷ []) (λ numbering c d. Under named (λ s. ExportsAs s c name n d)) → IfSome o (λ k. ExportSteps span old new root before after (name ∷ []) (λ numbering c d. Under named (λ s. ExportsOne s node c (name, means numbering old k) d)))
exports_alias span named old mid new root before after name node n None a e = tt
exports_alias span named old mid new root before after name node n (Some k) a e = exports_one span named old mid new root before after name node n k a e

-- where the name of an alias is rejected
abbrev pub OneBroken : (List ℕ → Option Reason) → Parts → Root → Externs → ℕ → List ℕ → Span → Option (List ℕ) → Error → ItemKind → Type 0
OneBroken named g root before node name span help e k = (numbering : Numbering) → Under named (λ s. ExportAsBroken s (alias_at (at (composed numbering g root) node) name (means numbering g k)).composition (places_in root before) name span help e)

pub alias_rejected : (named : List ℕ → Option Reason) (old mid : Parts) (root : Root) (before : Externs) (node n : ℕ) (name : List ℕ) (span : Span) (help : Option (List ℕ)) (e : Error) (o : Option ItemKind) → IfSome o (λ k. AliasStep old mid node name k n)
    → ((numbering : Numbering) → Under named (λ s. ExportAsBroken s (composed numbering mid root) (places_in root before) name span help e)) → IfSome o (OneBroken named old root before node name span help e)
alias_rejected named old mid root before node n name span help e None a breaks = tt
alias_rejected named old mid root before node n name span help e (Some k) a breaks =
    λ numbering s same. subst (λ (x : At). ExportAsBroken s x.composition (places_in root before) name span help e) (a.is numbering (numbers_of root.nodes)) (breaks numbering s same)

-- the node of an alias that was made exists
pub alias_there : (old mid : Parts) (node n : ℕ) (name : List ℕ) (o : Option ItemKind) → IsSome o → IfSome o (λ k. AliasStep old mid node name k n) → GrowsNodes old mid × (n < length mid.nodes)
alias_there old mid node n name None there a = absurd (cc there)
alias_there old mid node n name (Some k) there a = (a.grows, a.there)

pub whatever : {X : Type 0} (P : X → Type 0) (o : Option X) → ((x : X) → P x) → IfSome o P
whatever P None h = tt
whatever P (Some x) h = h x

-- ---- what a statement exports

names_append : {X : Type 0} (xs ys : Named X) → names_of (xs ++ ys) ≡ names_of xs ++ names_of ys
names_append [] ys = refl
names_append (x ∷ xs) ys = ap (λ (l : List (List ℕ)). x.0 ∷ l) (names_append xs ys)

names_placed : (span : Span) (names : List (List ℕ)) → names_of (all_at span names) ≡ names
names_placed span [] = refl
names_placed span (n ∷ ns) = ap (λ (l : List (List ℕ)). n ∷ l) (names_placed span ns)

at_names : {X : Type 0} (span : Span) (all : Named X) → all_at span (names_of all) ≡ names_at span all
at_names span [] = refl
at_names span (x ∷ all) = ap (λ (l : Named Span). (x.0, span) ∷ l) (at_names span all)

-- the names that a list gained, at a span
more_names : {X : Type 0} (span : Span) (old new : Named X) (names : List (List ℕ)) → names_of new ≡ names_of old ++ names → all_at span names ≡ more_at span old new
more_names span [] new names is = ap (all_at span) (sym is) ∙ at_names span new
more_names span (x ∷ old) [] names is = absurd (cc is)
more_names span (x ∷ old) (y ∷ new) names is = more_names span old new names (cc is)

-- each name has its place
pub placed_more : (span : Span) (old new : Parts) (root : Root) (before after : Externs) (names : List (List ℕ)) (leads : Leading) → ArePlaced old before → ExportSteps span old new root before after names leads → ArePlaced new after
placed_more span old new root before after names leads h e = record {
  imported = ap (λ (l : Named Span). names_of l) e.imported ∙ h.imported ∙ sym (ap (λ (g : Parts). names_of g.imports) e.grows.same);
  exported =
      ap (λ (l : Named Span). names_of l) e.exported ∙ names_append (exported_in before) (all_at span names)
      ∙ ap (λ (l : List (List ℕ)). names_of (exported_in before) ++ l) (names_placed span names)
      ∙ ap (λ (l : List (List ℕ)). l ++ names) h.exported ∙ sym e.exports;
}

pub exported_all : (span : Span) (old new : Parts) (root : Root) (before after : Externs) (names : List (List ℕ)) (leads goes : Leading) → ArePlaced old before → ExportSteps span old new root before after names leads
    → ((numbering : Numbering) → leads numbering (composed numbering old root) (composed numbering new root) → goes numbering (composed numbering old root) (composed numbering new root)) → Exported span old new root before after goes
exported_all span old new root before after names leads goes h e to = record {
  grows = e.grows;
  placed = placed_more span old new root before after names leads h e;
  imported = e.imported;
  exported = e.exported ∙ ap (λ (l : Named Span). exported_in before ++ l) (more_names span old.exports new.exports names e.exports);
  goes = λ numbering. to numbering (e.goes numbering);
}
