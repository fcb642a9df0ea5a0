-- Nodes that are instances, and accesses to their exports.
use Rattle.wac_resolution_state.proofs.Common.{◌≡◌, ◌∙◌, ◌+◌, ◌<◌, ℕ, List, [], ◌∷◌, ◌++◌, Option, Some, None, refl, sym, ap, subst, map, take, length, get_or, slice_get, option_map, option_and_then, IfSome, IsSome, take_more, length-map, get_or-map, Span, PostfixExpr, ItemKind, InterfaceId, Meaning, of_kind, instance_exports, interface_exports, Named, look_up, IsFresh, described, exports_of, items_mean, Names, items_found, word_is, postfix_expr_of, Parts, export_kind, means, entry_means, origin_at, EntriesMean, Numbering, Error, Operation, not_an_instance, missing_instance_export, kind_at, at, accessed, alias_at, Accesses, instance_of}
use Rattle.std.specs.Prelude.{◌⊎◌}
use Rattle.wac_ast_grammar.specs.Grammar.{postfix_span, last_span}
use Rattle.wac_graph_types.specs.declared.kind.ItemKind.TheVariants as kinds
use Rattle.wac_graph_types.specs.declared.kind.«Type».TheVariants as types
use Rattle.wac_graph_types.specs.Steps.{Fails}
use Rattle.wac_graph_types.specs.Words as words
use Rattle.wac_graph_types.proofs.Found.{interface_exports_mean}
use Rattle.wac_ast_statements.specs.declared.expr.PostfixExpr.{PostfixExpr as CodePostfixExpr}
use Rattle.wac_graph.specs.Node.{Node as GraphNode}
use Rattle.wac_resolution_rules.specs.BrokenExpressions.{IsNotInstance, IsNotExported, AccessBroken}
use Rattle.wac_resolution_rules.proofs.StepLaws.{steps_on_map, fails_at_map}
use Rattle.wac_resolution_state.specs.Accesses.{AliasStep, AccessStep, AccessSteps}
use Rattle.wac_resolution_state.specs.Instances.{IsInstance}
use Rattle.wac_resolution_state.specs.Nodes.{composition_of, kind_in, NodesStand}
use Rattle.wac_resolution_state.proofs.Composed.{grows_none, grows_on}
use Rattle.wac_resolution_state.proofs.Roots.{kind_means}

pub is_instance : (g : Parts) (node : ℕ) (i : InterfaceId) → kind_in g.nodes node ≡ Some (kinds.Instance i) → Names g.types (kinds.Instance i) → EntriesMean g → IsInstance g node i
is_instance g node i kind named law = record {
  kind = kind;
  named = named;
  is = λ numbering declared. ap instance_of (kind_means numbering g node (kinds.Instance i) kind);
  exports = λ numbering. interface_exports_mean (λ n. numbering (origin_at g n)) g.types (entry_means numbering g) (law numbering) i.0 named.1;
}

pub no_instance : (f : ℕ → Meaning) (k : ItemKind) → ((i : InterfaceId) → k ≡ kinds.Instance i → ⊥) → instance_of (of_kind f k) ≡ None
no_instance f (kinds.Ty t) h = none t
  where
    none : (t : _) → instance_of (of_kind f (kinds.Ty t)) ≡ None
    none (types.Resource id) = refl
    none (types.Func id) = refl
    none (types.Value v) = refl
    none (types.Interface id) = refl
    none (types.World id) = refl
    none (types.Module id) = refl
no_instance f (kinds.Func id) h = refl
no_instance f (kinds.Instance id) h = absurd (h id refl)
no_instance f (kinds.Component id) h = refl
no_instance f (kinds.Module id) h = refl
no_instance f (kinds.Value v) h = refl

pub not_instance : (g : Parts) (node : ℕ) (k : ItemKind) (word : List ℕ) (operation : Operation) (span : Span) → kind_in g.nodes node ≡ Some k → ((i : InterfaceId) → k ≡ kinds.Instance i → ⊥) → word ≡ words.described k
    → (numbering : Numbering) (declared : Named ℕ) → IsNotInstance (composition_of numbering g declared) node operation span (not_an_instance word operation span)
not_instance g node k word operation span kind none is numbering declared =
    let meant : kind_at (composition_of numbering g declared).nodes node ≡ means numbering g k = kind_means numbering g node k kind in
    (ap instance_of meant ∙ no_instance (entry_means numbering g) k none, ap (λ (w : List ℕ). not_an_instance w operation span) (is ∙ sym (word_is (entry_means numbering g) k) ∙ sym (ap described meant)))

-- ---- exports of an instance

export_is : (g : Parts) (node : ℕ) (i : InterfaceId) (name : List ℕ) → IsInstance g node i → export_kind g node name ≡ look_up name (interface_exports g.types i.0)
export_is g node i name h = go (slice_get g.nodes node) h.kind
  where
    go : (o : Option GraphNode) → option_map (λ (x : GraphNode). x.kind) o ≡ Some (kinds.Instance i) → option_and_then (λ (n : GraphNode). look_up name (instance_exports g.types n.kind)) o ≡ look_up name (interface_exports g.types i.0)
    go None is = absurd (cc)
    go (Some n) is = (let same : n.kind ≡ kinds.Instance i = cc in ap (λ (k : ItemKind). look_up name (instance_exports g.types k)) same)

-- what an instance exports under a name, as it is meant
pub export_meant : (g : Parts) (node : ℕ) (i : InterfaceId) (name : List ℕ) → IsInstance g node i → (numbering : Numbering) → look_up name (exports_of (entry_means numbering g i.0)) ≡ option_map (means numbering g) (export_kind g node name)
export_meant g node i name h numbering =
    ap (look_up name) (h.exports numbering) ∙ items_found (entry_means numbering g) (interface_exports g.types i.0) name ∙ ap (option_map (means numbering g)) (sym (export_is g node i name h))

-- the name that an access means there
abbrev pub Means : Parts → InterfaceId → PostfixExpr → List ℕ → Type 0
Means g i p name = (f : ℕ → Meaning) → name ≡ accessed p (items_mean f (interface_exports g.types i.0))

name_meant : (g : Parts) (node : ℕ) (i : InterfaceId) (p : PostfixExpr) (name : List ℕ) → IsInstance g node i → Means g i p name → (numbering : Numbering) → name ≡ accessed p (exports_of (entry_means numbering g i.0))
name_meant g node i p name h is numbering = is (entry_means numbering g) ∙ ap (accessed p) (sym (h.exports numbering))

pub not_exported : (g : Parts) (node : ℕ) (i : InterfaceId) (p : PostfixExpr) (name : List ℕ) → IsInstance g node i → Means g i p name → export_kind g node name ≡ None
    → (numbering : Numbering) (declared : Named ℕ) → IsNotExported (at (composition_of numbering g declared) node) p (missing_instance_export name (postfix_span p))
not_exported g node i p name h is none numbering declared =
    let same : name ≡ accessed p (exports_of (entry_means numbering g i.0)) = name_meant g node i p name h is numbering in record {
      instance = entry_means numbering g i.0;
      there = h.is numbering declared;
      fresh = subst (λ (l : List ℕ). IsFresh l (exports_of (entry_means numbering g i.0))) same (export_meant g node i name h numbering ∙ ap (option_map (means numbering g)) none);
      error = ap (λ (l : List ℕ). missing_instance_export l (postfix_span p)) same;
    }

pub access_goes : (old new : Parts) (node : ℕ) (i : InterfaceId) (p : PostfixExpr) (name : List ℕ) (n : ℕ) → IsInstance old node i → Means old i p name → IsSome (export_kind old node name)
    → IfSome (export_kind old node name) (λ k. AliasStep old new node name k n) → AccessStep old new node p n
access_goes old new node i p name n h is there goes = go (export_kind old node name) refl there goes
  where
    go : (o : Option ItemKind) → export_kind old node name ≡ o → IsSome o → IfSome o (λ k. AliasStep old new node name k n) → AccessStep old new node p n
    go None at there a = absurd (cc)
    go (Some k) exported there a = record {
      grows = a.grows;
      there = a.there;
      goes = λ numbering declared.
          let same : name ≡ accessed p (exports_of (entry_means numbering old i.0)) = name_meant old node i p name h is numbering in (
            entry_means numbering old i.0,
            means numbering old k,
            h.is numbering declared,
            subst (λ (l : List ℕ). look_up l (exports_of (entry_means numbering old i.0)) ≡ Some (means numbering old k)) same (export_meant old node i name h numbering ∙ ap (option_map (means numbering old)) exported),
            a.is numbering declared ∙ ap (λ (l : List ℕ). alias_at (at (composition_of numbering old declared) node) l (means numbering old k)) same,
          );
    }

-- ---- accesses in order

abbrev pub SoFar : Parts → Parts → ℕ → Span → List PostfixExpr → ℕ → Span → Type 0
SoFar old new node span ps n last = AccessSteps old new node ps n × (last ≡ last_span span ps)

pub no_access : (g : Parts) (node : ℕ) (span : Span) → NodesStand g → node < length g.nodes → SoFar g g node span [] node span
no_access g node span h there = (record { grows = grows_none g h; there = there; go = λ numbering declared. refl }, refl)

last_of_more : (span : Span) (ps : List PostfixExpr) (p : PostfixExpr) → last_span span (ps ++ p ∷ []) ≡ postfix_span p
last_of_more span [] p = refl
last_of_more span (q ∷ ps) p = last_of_more (postfix_span q) ps p

pub access_next : (old mid new : Parts) (node m n : ℕ) (span before last : Span) (ys : List CodePostfixExpr) (i : ℕ) (y : CodePostfixExpr) → i < length ys → y ≡ get_or ys i y
    → SoFar old mid node span (take i (map postfix_expr_of ys)) m before → AccessStep mid new m (postfix_expr_of y) n → last ≡ postfix_span (postfix_expr_of y) → SoFar old new node span (take (i + 1) (map postfix_expr_of ys)) n last
access_next old mid new node m n span before last ys i y within is p q at_last = (
  record {
    grows = grows_on old mid new p.0.grows q.grows;
    there = q.there;
    go = λ numbering declared.
        steps_on_map Accesses postfix_expr_of (at (composition_of numbering old declared) node) ys i y (at (composition_of numbering mid declared) m) (at (composition_of numbering new declared) n) within (p.0.go numbering declared)
        (subst (λ (z : CodePostfixExpr). Accesses (at (composition_of numbering mid declared) m) (postfix_expr_of z) (at (composition_of numbering new declared) n)) is (q.goes numbering declared));
  },
  at_last ∙ ap (λ (z : CodePostfixExpr). postfix_span (postfix_expr_of z)) is ∙ sym (ended),
)
  where
    inside : i < length (map postfix_expr_of ys)
    inside = subst (λ (k : ℕ). i < k) (sym (length-map ys postfix_expr_of)) within

    ended : last_span span (take (i + 1) (map postfix_expr_of ys)) ≡ postfix_span (postfix_expr_of (get_or ys i y))
    ended = ap (last_span span) (take_more (map postfix_expr_of ys) i (postfix_expr_of y) inside) ∙ last_of_more span (take i (map postfix_expr_of ys)) (get_or (map postfix_expr_of ys) i (postfix_expr_of y)) ∙ ap postfix_span (get_or-map postfix_expr_of ys i y (postfix_expr_of y) within)

pub access_breaks : (old mid : Parts) (node m : ℕ) (span before : Span) (e : Error) (ys : List CodePostfixExpr) (i : ℕ) (y : CodePostfixExpr) → i < length ys → y ≡ get_or ys i y → SoFar old mid node span (take i (map postfix_expr_of ys)) m before
    → ((numbering : Numbering) (declared : Named ℕ) → IsNotInstance (composition_of numbering mid declared) m Operation.access before e ⊎ IsNotExported (at (composition_of numbering mid declared) m) (postfix_expr_of y) e)
    → (numbering : Numbering) (declared : Named ℕ) → Fails Accesses (AccessBroken span e) (at (composition_of numbering old declared) node) (map postfix_expr_of ys)
access_breaks old mid node m span before e ys i y within is p breaks numbering declared =
    let first : List PostfixExpr = take i (map postfix_expr_of ys) in
    fails_at_map Accesses (AccessBroken span e) postfix_expr_of (at (composition_of numbering old declared) node) ys i y (at (composition_of numbering mid declared) m) within (p.0.go numbering declared)
    (subst (λ (z : CodePostfixExpr). AccessBroken span e (at (composition_of numbering mid declared) m) first (postfix_expr_of z)) is
    (subst (λ (s : Span). IsNotInstance (composition_of numbering mid declared) m Operation.access s e ⊎ IsNotExported (at (composition_of numbering mid declared) m) (postfix_expr_of y) e) p.1 (breaks numbering declared)))
