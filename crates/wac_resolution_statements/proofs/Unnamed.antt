-- The names under which nodes are exported.
use Rattle.wac_resolution_statements.proofs.Common.{◌≡◌, ◌∙◌, ◌<◌, ℕ, List, [], ◌∷◌, Option, Some, None, inl, inr, refl, sym, ap, subst, length, slice_get, option_map, option_and_then, slice_get-map, Span, Expr, ExternName, ExportOptions, Reason, Named, Parts, Numbering, Error, export_requires_as, IsUnnamed, ExportAsBroken, ExportOptionsBroken, at, instance_id, own_name, node_at, expr_span, unnamed_export, ExportsAs, ExportsBy, Root, node_of, composition_of, numbers_of, composed}
use Rattle.std.specs.Option.{option_or}
use Rattle.wac_ast_grammar.specs.Spans.{extern_name_text, extern_name_span}
use Rattle.wac_graph_types.proofs.Rows.{none_within}
use Rattle.wac_graph.specs.Node.{Node as GraphNode}
use Rattle.wac_resolution_rules.specs.BrokenBodies.{as_clause}
use Rattle.wac_resolution_rules.specs.Composition.{Node}
use Rattle.wac_resolution_statements.specs.declared.externs.Externs.{Externs}
use Rattle.wac_resolution_statements.specs.Externs.{places_in, ArePlaced, Under}
use Rattle.wac_resolution_statements.specs.Exports.{ExportSteps, Exported}
use Rattle.wac_resolution_statements.proofs.Exporting.{exported_all}

-- ---- without `as`

pub by_id : (o : Option Node) (name : List ℕ) → option_and_then instance_id o ≡ Some name → option_and_then unnamed_export o ≡ Some name
by_id None name h = absurd (cc h)
by_id (Some n) name h = ap (λ (x : Option (List ℕ)). option_or x (own_name n)) h

pub by_own : (o : Option Node) (r : Option (List ℕ)) → option_and_then instance_id o ≡ None → option_and_then own_name o ≡ r → option_and_then unnamed_export o ≡ r
by_own None r h own = own
by_own (Some n) r h own = ap (λ (x : Option (List ℕ)). option_or x (own_name n)) h ∙ own

-- the name that a node has of its own
abbrev pub IsOwnName : Parts → ℕ → Option (List ℕ) → Type 0
IsOwnName g node r = (numbering : Numbering) (declared : Named ℕ) → option_and_then unnamed_export (node_at (composition_of numbering g declared) node) ≡ r

pub is_unnamed : (g : Parts) (node : ℕ) (span : Span) → node < length g.nodes → IsOwnName g node None → (numbering : Numbering) (declared : Named ℕ) → IsUnnamed (at (composition_of numbering g declared) node) span (export_requires_as span)
is_unnamed g node span there none numbering declared = go (slice_get g.nodes node) refl
  where
    go : (o : Option GraphNode) → slice_get g.nodes node ≡ o → IsUnnamed (at (composition_of numbering g declared) node) span (export_requires_as span)
    go None is = absurd (none_within g.nodes node is there)
    go (Some n) is =
        let here : node_at (composition_of numbering g declared) node ≡ Some (node_of numbering g n) = slice_get-map (node_of numbering g) g.nodes node ∙ ap (option_map (node_of numbering g)) is in
        record { node = node_of numbering g n; there = here; unnamed = sym (ap (option_and_then unnamed_export) here) ∙ none numbering declared; error = refl }

named_node : (o : Option Node) (name : List ℕ) → option_and_then unnamed_export o ≡ Some name → (n : Node) × (o ≡ Some n) × (unnamed_export n ≡ Some name)
named_node None name h = absurd (cc h)
named_node (Some n) name h = (n, refl, h)

pub exports_unnamed : (span : Span) (named : List ℕ → Option Reason) (old new : Parts) (root : Root) (before after : Externs) (name : List ℕ) (node : ℕ) → ArePlaced old before → IsOwnName old node (Some name)
    → ExportSteps span old new root before after (name ∷ []) (λ numbering c d. Under named (λ s. ExportsAs s c name node d)) → Exported span old new root before after (λ numbering c d. Under named (λ s. ExportsBy s (at c node) ExportOptions.none d))
exports_unnamed span named old new root before after name node placed is e =
    exported_all span old new root before after (name ∷ []) (λ numbering c d. Under named (λ s. ExportsAs s c name node d)) (λ numbering c d. Under named (λ s. ExportsBy s (at c node) ExportOptions.none d)) placed e
    (λ numbering goes s same. let n = named_node (node_at (composed numbering old root) node) name (is numbering (numbers_of root.nodes)) in (n.0, name, n.1, n.2, goes s same))

pub unnamed_broken : (named : List ℕ → Option Reason) (g : Parts) (root : Root) (before : Externs) (node : ℕ) (span : Span) (e : Error) → ((numbering : Numbering) (declared : Named ℕ) → IsUnnamed (at (composition_of numbering g declared) node) span e)
    → (numbering : Numbering) (x : Expr) → expr_span x ≡ span → Under named (λ s. ExportOptionsBroken s (at (composed numbering g root) node) (places_in root before) e x ExportOptions.none)
unnamed_broken named g root before node span e h numbering x same s rules = inl (subst (λ (p : Span). IsUnnamed (at (composed numbering g root) node) p e) (sym same) (h numbering (numbers_of root.nodes)))

pub own_name_broken : (named : List ℕ → Option Reason) (g : Parts) (root : Root) (before : Externs) (node : ℕ) (name : List ℕ) (span : Span) (e : Error) → IsOwnName g node (Some name)
    → ((numbering : Numbering) → Under named (λ s. ExportAsBroken s (composed numbering g root) (places_in root before) name span (Some as_clause) e))
    → (numbering : Numbering) (x : Expr) → expr_span x ≡ span → Under named (λ s. ExportOptionsBroken s (at (composed numbering g root) node) (places_in root before) e x ExportOptions.none)
own_name_broken named g root before node name span e is h numbering x same s rules =
    let n = named_node (node_at (composed numbering g root) node) name (is numbering (numbers_of root.nodes)) in
    inr (n.0, name, n.1, n.2, subst (λ (p : Span). ExportAsBroken s (composed numbering g root) (places_in root before) name p (Some as_clause) e) (sym same) (h numbering s rules))

-- ---- with `as`

pub exports_renamed : (named : List ℕ → Option Reason) (old new : Parts) (root : Root) (before after : Externs) (node : ℕ) (x : ExternName) (text : List ℕ) (span : Span) → text ≡ extern_name_text x → span ≡ extern_name_span x → ArePlaced old before
    → ExportSteps span old new root before after (text ∷ []) (λ numbering c d. Under named (λ s. ExportsAs s c text node d))
    → Exported (extern_name_span x) old new root before after (λ numbering c d. Under named (λ s. ExportsBy s (at c node) (ExportOptions.rename x) d))
exports_renamed named old new root before after node x text span is_text is_span placed e =
    subst (λ (p : Span). Exported p old new root before after (λ numbering c d. Under named (λ s. ExportsBy s (at c node) (ExportOptions.rename x) d))) is_span
    (exported_all span old new root before after (text ∷ []) (λ numbering c d. Under named (λ s. ExportsAs s c text node d)) (λ numbering c d. Under named (λ s. ExportsBy s (at c node) (ExportOptions.rename x) d)) placed e
    (λ numbering goes s same. subst (λ (t : List ℕ). ExportsAs s (composed numbering old root) t node (composed numbering new root)) is_text (goes s same)))

pub renamed_broken : (named : List ℕ → Option Reason) (g : Parts) (root : Root) (before : Externs) (node : ℕ) (x : ExternName) (text : List ℕ) (span : Span) (e : Error) → text ≡ extern_name_text x → span ≡ extern_name_span x
    → ((numbering : Numbering) → Under named (λ s. ExportAsBroken s (composed numbering g root) (places_in root before) text span None e))
    → (numbering : Numbering) (y : Expr) → Under named (λ s. ExportOptionsBroken s (at (composed numbering g root) node) (places_in root before) e y (ExportOptions.rename x))
renamed_broken named g root before node x text span e is_text is_span h numbering y s rules =
    subst (λ (p : Span). ExportAsBroken s (composed numbering g root) (places_in root before) (extern_name_text x) p None e) is_span
    (subst (λ (t : List ℕ). ExportAsBroken s (composed numbering g root) (places_in root before) t span None e) is_text (h numbering s rules))
