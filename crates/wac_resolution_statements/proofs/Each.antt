-- Exports that are exported in order.
use Rattle.wac_resolution_statements.proofs.Common.{◌≡◌, ◌∙◌, ◌<◌, ◌+◌, ℕ, zero, suc, List, [], ◌∷◌, ◌++◌, Option, Some, None, inl, inr, refl, sym, ap, subst, map, length, take, get_or, append_assoc, arith, slice_get, option_map, option_and_then, unwrap_or, IfSome, IsSome, string_bytes, String, Global, AllByRecursion, take_more, length-map, get_or-map, map_push, Span, Expr, ExportOptions, ItemKind, InterfaceId, Reason, Meaning, instance_exports, interface_exports, Named, look_up, nothing, Steps, Fails, NodeId, Parts, export_kind, means, entry_means, Numbering, Error, Operation, spread_export_no_effect, ExportAsBroken, ExportOneBroken, ExportOptionsBroken, at, alias_at, names_of, Places, names_at, expr_span, ExportsBy, ExportsOne, Bindings, Root, IsInstance, composition_of, numbers_of, composed, places, Agrees, EachAgrees}
use Rattle.wac_graph.specs.Node.{Node as GraphNode}
use Rattle.wac_resolution_rules.specs.BrokenExpressions.{IsNotInstance}
use Rattle.wac_resolution_rules.proofs.StepLaws.{steps_on_map, fails_at_map}
use Rattle.wac_resolution_statements.specs.declared.externs.Externs.{Externs}
use Rattle.wac_resolution_statements.specs.Externs.{imported_in, exported_in, places_in, ArePlaced, Under}
use Rattle.wac_resolution_statements.specs.Exports.{GrowsExports, all_at, ExportSteps, Exported}
use Rattle.wac_resolution_statements.specs.Spreads.{AreUnexported, EachExported, meaning_exported, exported_item}
use Rattle.wac_resolution_statements.proofs.Exporting.{OneBroken, exported_all}
use Rattle.wac_resolution_statements.proofs.Spreading.{open_items}

exports_on : (old mid new : Parts) → GrowsExports old mid → GrowsExports mid new → GrowsExports old new
exports_on old mid new p q = record {
  same = q.same ∙ ap (λ (g : Parts). record g { nodes = new.nodes; exports = new.exports }) p.same;
  kinds = λ n k is. q.kinds n k (p.kinds n k is);
  stand = q.stand;
}

-- what a node exports it still exports
export_kept : (old new : Parts) (node : ℕ) (name : List ℕ) (k : ItemKind) → GrowsExports old new → export_kind old node name ≡ Some k → export_kind new node name ≡ Some k
export_kept old new node name k g is = go (slice_get old.nodes node) refl is
  where
    again : (o : Option GraphNode) (l : ItemKind) → option_map (λ (x : GraphNode). x.kind) o ≡ Some l → option_and_then (λ (n : GraphNode). look_up name (instance_exports new.types n.kind)) o ≡ look_up name (instance_exports new.types l)
    again None l h = absurd (cc h)
    again (Some n) l h = (let same : n.kind ≡ l = cc h in ap (λ (m : ItemKind). look_up name (instance_exports new.types m)) same)

    go : (o : Option GraphNode) → slice_get old.nodes node ≡ o → option_and_then (λ (n : GraphNode). look_up name (instance_exports old.types n.kind)) o ≡ Some k → export_kind new node name ≡ Some k
    go None at h = absurd (cc h)
    go (Some n) at h =
        again (slice_get new.nodes node) n.kind (g.kinds node n.kind (ap (option_map (λ (x : GraphNode). x.kind)) at))
        ∙ ap (λ (p : Parts). look_up name (instance_exports p.types n.kind)) g.same ∙ h

-- the exports of the first names were exported
abbrev pub SoFar : Span → (List ℕ → Option Reason) → Parts → Parts → Root → Externs → Externs → ℕ → List (String Global) → ℕ → Type 0
SoFar span named old mid root before after node ys i = ExportSteps span old mid root before after (take i (map string_bytes ys)) (λ numbering c d. Under named (λ s. Steps (ExportsOne s node) c (take i (map (exported_item numbering old node) ys)) d))

nil : {X : Type 0} (xs : List X) → xs ++ [] ≡ xs
nil [] = refl
nil {X} (x ∷ xs) = ap (λ (l : List X). x ∷ l) (nil xs)

pub none_yet : (span : Span) (named : List ℕ → Option Reason) (old : Parts) (root : Root) (before : Externs) (node : ℕ) (ys : List (String Global)) → Agrees old root → SoFar span named old old root before before node ys 0
none_yet span named old root before node ys agrees = record {
  grows = record { same = refl; kinds = λ n k is. is; stand = agrees.nodes };
  exports = sym (nil (names_of old.exports));
  imported = refl;
  exported = sym (nil (exported_in before));
  goes = λ numbering s same. refl;
}

each_at : (P : List ℕ → Type 0) (ys : List (String Global)) (i : ℕ) (d : String Global) → i < length ys → AllByRecursion P (map string_bytes ys) → P (string_bytes (get_or ys i d))
each_at P [] i d within h = absurd (omega (arith, within))
each_at P (y ∷ ys) zero d within h = h.0
each_at P (y ∷ ys) (suc i) d within h = each_at P ys i d (omega (arith, within)) h.1

some_kind : (o : Option ItemKind) → IsSome o → (k : ItemKind) × (o ≡ Some k)
some_kind None h = absurd (cc h)
some_kind (Some k) h = (k, refl)

-- the item of a name, by its kind
item_is : (numbering : Numbering) (old mid : Parts) (node : ℕ) (ys : List (String Global)) (i : ℕ) (y : String Global) (text : List ℕ) (k : ItemKind) → GrowsExports old mid → y ≡ get_or ys i y → text ≡ string_bytes y → export_kind old node text ≡ Some k
    → exported_item numbering old node (get_or ys i y) ≡ (text, means numbering mid k)
item_is numbering old mid node ys i y text k g is is_text exported =
    let names : string_bytes (get_or ys i y) ≡ text = sym (is_text ∙ ap string_bytes is) in
    let meant : meaning_exported numbering old node (string_bytes (get_or ys i y)) ≡ means numbering mid k =
    ap (meaning_exported numbering old node) names ∙ ap (λ (o : Option ItemKind). unwrap_or (option_map (means numbering old) o) nothing) exported ∙ sym (ap (λ (p : Parts). means numbering p k) g.same) in
    λ j. (names j, meant j)

names_more : (ys : List (String Global)) (i : ℕ) (y : String Global) (text : List ℕ) → i < length ys → y ≡ get_or ys i y → text ≡ string_bytes y → take i (map string_bytes ys) ++ text ∷ [] ≡ take (i + 1) (map string_bytes ys)
names_more ys i y text within is is_text =
    let inside : i < length (map string_bytes ys) = subst (λ (n : ℕ). i < n) (sym (length-map ys string_bytes)) within in
    ap (λ (t : List ℕ). take i (map string_bytes ys) ++ t ∷ []) (is_text ∙ ap string_bytes is ∙ sym (get_or-map string_bytes ys i y (string_bytes y) within))
    ∙ sym (take_more (map string_bytes ys) i (string_bytes y) inside)

pub each_next : (span : Span) (named : List ℕ → Option Reason) (old mid new : Parts) (root : Root) (before x1 x2 : Externs) (node : ℕ) (ys : List (String Global)) (i : ℕ) (y : String Global) (text : List ℕ) → i < length ys → y ≡ get_or ys i y → text ≡ string_bytes y
    → EachExported old node (map string_bytes ys) → SoFar span named old mid root before x1 node ys i
    → IfSome (export_kind mid node text) (λ k. ExportSteps span mid new root x1 x2 (text ∷ []) (λ numbering c d. Under named (λ s. ExportsOne s node c (text, means numbering mid k) d))) → SoFar span named old new root before x2 node ys (i + 1)
each_next span named old mid new root before x1 x2 node ys i y text within is is_text all p step =
    let there : IsSome (export_kind old node text) = subst (λ (t : List ℕ). IsSome (export_kind old node t)) (sym (is_text ∙ ap string_bytes is)) (each_at (λ name. IsSome (export_kind old node name)) ys i y within all) in
    let k = some_kind (export_kind old node text) there in
    let e : ExportSteps span mid new root x1 x2 (text ∷ []) (λ numbering c d. Under named (λ s. ExportsOne s node c (text, means numbering mid k.0) d)) =
    subst (λ (o : Option ItemKind). IfSome o (λ l. ExportSteps span mid new root x1 x2 (text ∷ []) (λ numbering c d. Under named (λ s. ExportsOne s node c (text, means numbering mid l) d)))) (export_kept old mid node text k.0 p.grows k.1) step in
    let more : take i (map string_bytes ys) ++ text ∷ [] ≡ take (i + 1) (map string_bytes ys) = names_more ys i y text within is is_text in
    record {
      grows = exports_on old mid new p.grows e.grows;
      exports =
          e.exports ∙ ap (λ (l : List (List ℕ)). l ++ text ∷ []) p.exports ∙ append_assoc (names_of old.exports) (take i (map string_bytes ys)) (text ∷ [])
          ∙ ap (λ (l : List (List ℕ)). names_of old.exports ++ l) more;
      imported = e.imported ∙ p.imported;
      exported =
          e.exported ∙ ap (λ (l : Named Span). l ++ (text, span) ∷ []) p.exported ∙ append_assoc (exported_in before) (all_at span (take i (map string_bytes ys))) ((text, span) ∷ [])
          ∙ ap (λ (l : Named Span). exported_in before ++ l) (sym (map_push (λ (n : List ℕ). (n, span)) (take i (map string_bytes ys)) text) ∙ ap (all_at span) more);
      goes = λ numbering s same.
          steps_on_map (ExportsOne s node) (exported_item numbering old node) (composed numbering old root) ys i y (composed numbering mid root) (composed numbering new root) within (p.goes numbering s same)
          (subst (λ (x : List ℕ × Meaning). ExportsOne s node (composed numbering mid root) x (composed numbering new root)) (sym (item_is numbering old mid node ys i y text k.0 p.grows is is_text k.1)) (e.goes numbering s same));
    }

-- the next name is still that of an export
pub each_there : (span : Span) (named : List ℕ → Option Reason) (old mid : Parts) (root : Root) (before x1 : Externs) (node : ℕ) (ys : List (String Global)) (i : ℕ) (y : String Global) (text : List ℕ) → i < length ys → y ≡ get_or ys i y → text ≡ string_bytes y
    → EachExported old node (map string_bytes ys) → SoFar span named old mid root before x1 node ys i → IsSome (export_kind mid node text)
each_there span named old mid root before x1 node ys i y text within is is_text all p =
    let there : IsSome (export_kind old node text) = subst (λ (t : List ℕ). IsSome (export_kind old node t)) (sym (is_text ∙ ap string_bytes is)) (each_at (λ name. IsSome (export_kind old node name)) ys i y within all) in
    let k = some_kind (export_kind old node text) there in
    subst (λ (o : Option ItemKind). IsSome o) (sym (export_kept old mid node text k.0 p.grows k.1)) refl

items_at : (numbering : Numbering) (g : Parts) (node : ℕ) (span : Span) (i : ℕ) (ys : List (String Global)) → all_at span (take i (map string_bytes ys)) ≡ names_at span (take i (map (exported_item numbering g node) ys))
items_at numbering g node span zero [] = refl
items_at numbering g node span zero (y ∷ ys) = refl
items_at numbering g node span (suc i) [] = refl
items_at numbering g node span (suc i) (y ∷ ys) = ap (λ (l : Named Span). (string_bytes y, span) ∷ l) (items_at numbering g node span i ys)

places_then : (root : Root) (before after : Externs) (more : Named Span) → imported_in after ≡ imported_in before → exported_in after ≡ exported_in before ++ more → places_in root after ≡ record (places_in root before) { exported = exported_in before ++ more }
places_then root before after more same longer =
    ap (λ (l : Named Span). record { bound = places root; imported = l; exported = exported_in after }) same
    ∙ ap (λ (l : Named Span). record { bound = places root; imported = imported_in before; exported = l }) longer

pub each_breaks : (span : Span) (named : List ℕ → Option Reason) (old mid : Parts) (root : Root) (before x1 : Externs) (node : ℕ) (ys : List (String Global)) (i : ℕ) (y : String Global) (text : List ℕ) (e : Error) → i < length ys → y ≡ get_or ys i y → text ≡ string_bytes y
    → EachExported old node (map string_bytes ys) → SoFar span named old mid root before x1 node ys i → IfSome (export_kind mid node text) (OneBroken named mid root x1 node text span None e)
    → (numbering : Numbering) → Under named (λ s. Fails (ExportsOne s node) (ExportOneBroken s (places_in root before) span e node) (composed numbering old root) (map (exported_item numbering old node) ys))
each_breaks span named old mid root before x1 node ys i y text e within is is_text all p breaks numbering s same =
    let there : IsSome (export_kind old node text) = subst (λ (t : List ℕ). IsSome (export_kind old node t)) (sym (is_text ∙ ap string_bytes is)) (each_at (λ name. IsSome (export_kind old node name)) ys i y within all) in
    let k = some_kind (export_kind old node text) there in
    let one : OneBroken named mid root x1 node text span None e k.0 = subst (λ (o : Option ItemKind). IfSome o (OneBroken named mid root x1 node text span None e)) (export_kept old mid node text k.0 p.grows k.1) breaks in
    fails_at_map (ExportsOne s node) (ExportOneBroken s (places_in root before) span e node) (exported_item numbering old node) (composed numbering old root) ys i y (composed numbering mid root) within (p.goes numbering s same)
    (subst (λ (q : Places). ExportAsBroken s (alias_at (at (composed numbering mid root) node) (string_bytes (get_or ys i y)) (meaning_exported numbering old node (string_bytes (get_or ys i y)))).composition q (string_bytes (get_or ys i y)) span None e)
    (places_then root before x1 (names_at span (take i (map (exported_item numbering old node) ys))) p.imported (p.exported ∙ ap (λ (l : Named Span). exported_in before ++ l) (items_at numbering old node span i ys)))
    (subst (λ (x : List ℕ × Meaning). ExportAsBroken s (alias_at (at (composed numbering mid root) node) x.0 x.1).composition (places_in root x1) x.0 span None e) (sym (item_is numbering old mid node ys i y text k.0 p.grows is is_text k.1)) (one numbering s same)))

pub each_all : (span : Span) (named : List ℕ → Option Reason) (old new : Parts) (root : Root) (before after : Externs) (node : ℕ) (ys : List (String Global)) (i : ℕ) → take i (map string_bytes ys) ≡ map string_bytes ys
    → ((numbering : Numbering) → take i (map (exported_item numbering old node) ys) ≡ map (exported_item numbering old node) ys) → SoFar span named old new root before after node ys i
    → ExportSteps span old new root before after (map string_bytes ys) (λ numbering c d. Under named (λ s. Steps (ExportsOne s node) c (map (exported_item numbering old node) ys) d))
each_all span named old new root before after node ys i names items p = record {
  grows = p.grows;
  exports = p.exports ∙ ap (λ (l : List (List ℕ)). names_of old.exports ++ l) names;
  imported = p.imported;
  exported = p.exported ∙ ap (λ (l : List (List ℕ)). exported_in before ++ all_at span l) names;
  goes = λ numbering s same. subst (λ (l : Named Meaning). Steps (ExportsOne s node) (composed numbering old root) l (composed numbering new root)) (items numbering) (p.goes numbering s same);
}

-- ---- a spread

map_none : {X Y : Type 0} (f : X → Y) (xs : List X) → map f xs ≡ [] → xs ≡ []
map_none f [] h = refl
map_none f (x ∷ xs) h = absurd (cc h)

pub spreads : (dots : Span) (named : List ℕ → Option Reason) (old new : Parts) (root : Root) (before after : Externs) (node : ℕ) (i : InterfaceId) (ys : List (String Global)) → ArePlaced old before → IsInstance old node i
    → AreUnexported old.exports (interface_exports old.types i.0) (map string_bytes ys) → (ys ≡ [] → ⊥)
    → ExportSteps dots old new root before after (map string_bytes ys) (λ numbering c d. Under named (λ s. Steps (ExportsOne s node) c (map (exported_item numbering old node) ys) d))
    → Exported dots old new root before after (λ numbering c d. Under named (λ s. ExportsBy s (at c node) (ExportOptions.spread dots) d))
spreads dots named old new root before after node i ys placed h u some e =
    exported_all dots old new root before after (map string_bytes ys) (λ numbering c d. Under named (λ s. Steps (ExportsOne s node) c (map (exported_item numbering old node) ys) d))
    (λ numbering c d. Under named (λ s. ExportsBy s (at c node) (ExportOptions.spread dots) d)) placed e
    (λ numbering goes s same. (
      entry_means numbering old i.0,
      h.is numbering (numbers_of root.nodes),
      (λ none. some (map_none (exported_item numbering old node) ys (open_items numbering old node i ys h u ∙ none))),
      subst (λ (l : Named Meaning). Steps (ExportsOne s node) (composed numbering old root) l (composed numbering new root)) (open_items numbering old node i ys h u) (goes s same),
    ))

pub no_effect : (named : List ℕ → Option Reason) (g : Parts) (root : Root) (before : Externs) (node : ℕ) (i : InterfaceId) (ys : List (String Global)) (span dots : Span) → IsInstance g node i → AreUnexported g.exports (interface_exports g.types i.0) (map string_bytes ys) → ys ≡ []
    → (numbering : Numbering) (x : Expr) → expr_span x ≡ span → Under named (λ s. ExportOptionsBroken s (at (composed numbering g root) node) (places_in root before) (spread_export_no_effect span) x (ExportOptions.spread dots))
no_effect named g root before node i ys span dots h u none numbering x at_span s same =
    inr (inl (record {
      instance = entry_means numbering g i.0;
      there = h.is numbering (numbers_of root.nodes);
      none = sym (open_items numbering g node i ys h u) ∙ ap (map (exported_item numbering g node)) none;
      error = ap spread_export_no_effect (sym at_span);
    }))

pub spread_of_other : (named : List ℕ → Option Reason) (g : Parts) (root : Root) (before : Externs) (node : ℕ) (span dots : Span) (e : Error) → ((numbering : Numbering) (declared : Named ℕ) → IsNotInstance (composition_of numbering g declared) node Operation.spread span e)
    → (numbering : Numbering) (x : Expr) → expr_span x ≡ span → Under named (λ s. ExportOptionsBroken s (at (composed numbering g root) node) (places_in root before) e x (ExportOptions.spread dots))
spread_of_other named g root before node span dots e h numbering x at_span s same = inl (subst (λ (p : Span). IsNotInstance (composed numbering g root) node Operation.spread p e) (sym at_span) (h numbering (numbers_of root.nodes)))

pub spread_breaks : (named : List ℕ → Option Reason) (g : Parts) (root : Root) (before : Externs) (node : ℕ) (i : InterfaceId) (ys : List (String Global)) (span dots : Span) (e : Error) → IsInstance g node i → AreUnexported g.exports (interface_exports g.types i.0) (map string_bytes ys)
    → ((numbering : Numbering) → Under named (λ s. Fails (ExportsOne s node) (ExportOneBroken s (places_in root before) dots e node) (composed numbering g root) (map (exported_item numbering g node) ys)))
    → (numbering : Numbering) (x : Expr) → expr_span x ≡ span → Under named (λ s. ExportOptionsBroken s (at (composed numbering g root) node) (places_in root before) e x (ExportOptions.spread dots))
spread_breaks named g root before node i ys span dots e h u breaks numbering x at_span s same =
    inr (inr (
      entry_means numbering g i.0,
      h.is numbering (numbers_of root.nodes),
      subst (λ (l : Named Meaning). Fails (ExportsOne s node) (ExportOneBroken s (places_in root before) dots e node) (composed numbering g root) l) (open_items numbering g node i ys h u) (breaks numbering s same),
    ))

-- the names at root still agree
pub agrees_exports : (old new : Parts) (root : Root) → GrowsExports old new → Agrees old root → Agrees new root
agrees_exports old new root g h = record { nodes = g.stand; names = each root.nodes root.kinds h.names }
  where
    each : (ns : Bindings NodeId) (ks : Bindings ItemKind) → EachAgrees old ns ks → EachAgrees new ns ks
    each [] [] h = tt
    each [] (k ∷ ks) h = absurd h
    each (n ∷ ns) [] h = absurd h
    each (n ∷ ns) (k ∷ ks) h = (record { name = h.0.name; place = h.0.place; kind = g.kinds n.1.1.0 k.1.1 h.0.kind }, each ns ks h.1)
