-- Import statements that are executed, or broken.
use Rattle.wac_resolution.proofs.Common.{◌≡◌, ◌∙◌, ℕ, List, [], ◌∷◌, ◌++◌, Option, Some, None, inl, inr, refl, sym, ap, subst, length, append-nil, slice_set, filter_map, Span, ImportStatement, ItemKind, promoted, Meaning, Named, look_up, IsFresh, with_named, Parts, means, entry_means, declared_count, Numbering, get_last, Error, ImportNameBroken, Composition, Node, imported, with_node, with_resources, named_at, first_name, binding, Rules, import_of, imports, next_of, places_after, import_span, name_imported, Imports, Root, numbers_of, composed, places, Context, packages_in, given_in, Externs, imported_in, exported_in, places_in, Under, Stand, StatementRun, Breaks, placed_kept, composed_kept}
use Rattle.std.proofs.lemmas.List.Elements.{filter_map-append}
use Rattle.wac_ast_grammar.specs.Tree.{Statement}
use Rattle.wac_graph_types.specs.Shape as shapes
use Rattle.wac_graph_types.proofs.Shapes.{promoted_is}
use Rattle.wac_resolution_statements.specs.Imports.{ImportsAs}
use Rattle.wac_resolution_rules.specs.Given.{Given}
use Rattle.wac_resolution_rules.specs.Places.{Places}
use Rattle.wac_resolution.specs.ImportTypes.{ImportMade, ImportTypeBreaks}
use Rattle.wac_resolution_statements.proofs.PlaceLaws.{one_more_at, no_more_at, same_places}
use Rattle.wac_resolution_statements.proofs.Importing.{placed_imported, supplied_imported}

-- ---- the imports of a composition with one more

set_last : {X : Type 0} (xs : List X) (x y : X) → slice_set (xs ++ x ∷ []) (length xs) y ≡ xs ++ y ∷ []
set_last [] x y = refl
set_last {X} (z ∷ xs) x y = ap (λ (l : List X). z ∷ l) (set_last xs x y)

-- the last node, which has no name, is named
last_named : (ns : List Node) (n : Node) (name : List ℕ) → named_at (ns ++ n ∷ []) (length ns) name ≡ ns ++ record n { name = first_name n.name name } ∷ []
last_named ns n name =
    ap (λ (o : Option Node). elim o [ None ↦ ns ++ n ∷ [] | Some x ↦ slice_set (ns ++ n ∷ []) (length ns) (record x { name = first_name x.name name }) ]) (get_last ns n)
    ∙ set_last ns n (record n { name = first_name n.name name })

-- the composition has one more import
pub one_more_import : (c : Composition) (name : List ℕ) (k : Meaning) (id : List ℕ) → imports (binding (with_node c (imported name) k) id (next_of c)) ≡ with_named (imports c) name k
one_more_import c name k id =
    let n : Node = record { form = imported name; kind = k; name = None; arguments = [] } in
    ap (filter_map import_of) (last_named c.nodes n id) ∙ filter_map-append import_of c.nodes (record n { name = Some id } ∷ [])

-- ---- the statement

-- the tests of an import's name read no number of resources
without_resources : (s : Given) (c : Composition) (n : ℕ) (p : Places) (e : Error) (x : ImportStatement) (name : List ℕ) → ImportNameBroken s (with_resources c n) p e x name → ImportNameBroken s c p e x name
without_resources s c n p e x name (inl h) = inl (h.0, h.1, h.2, h.3, h.4)
without_resources s c n p e x name (inr h) = inr h

module _ (context : Context) (rules : Rules) (old mid : Parts) (before : Root) (x : Externs) (s : ImportStatement) (name : List ℕ) (k : ItemKind)
    (stand : Stand context old before x) (made : ImportMade context old mid before s.ty k) (meant : (numbering : Numbering) → name ≡ name_imported s (means numbering mid k)) where
  goes : (new : Parts) (after : Root) (y : Externs) → ImportsAs rules.named mid new before after x y s name (promoted k) → (numbering : Numbering)
      → composed numbering new after ≡ binding (with_node (with_resources (composed numbering old before) (declared_count mid)) (imported name) (shapes.promoted (means numbering mid k))) s.id.string (next_of (composed numbering old before))
  goes new after y i numbering =
      i.adds.is numbering
      ∙ ap (λ (c : Composition). binding (with_node c (imported name) (means numbering mid (promoted k))) s.id.string (next_of c)) (composed_kept old mid before numbering made.grows stand.agrees)
      ∙ ap (λ (m : Meaning). binding (with_node (with_resources (composed numbering old before) (declared_count mid)) (imported name) m) s.id.string (next_of (composed numbering old before))) (sym (promoted_is (entry_means numbering mid) k))

  imports_judged : (new : Parts) (after : Root) (y : Externs) → ImportsAs rules.named mid new before after x y s name (promoted k) → (numbering : Numbering) → Imports (given_in numbering context rules) (composed numbering old before) s (composed numbering new after)
  imports_judged new after y i numbering = (
    means numbering mid k,
    declared_count mid,
    made.is numbering rules,
    subst (λ (l : List ℕ). IsFresh l (imports (composed numbering old before))) (meant numbering)
        (sym (ap (λ (c : Composition). look_up name (imports c)) (composed_kept old mid before numbering made.grows stand.agrees)) ∙ i.unimported.in_composition numbering (numbers_of before.nodes)),
    ap rules.named (sym (meant numbering)) ∙ i.passes,
    i.adds.unbound,
    goes new after y i numbering
        ∙ ap (λ (l : List ℕ). binding (with_node (with_resources (composed numbering old before) (declared_count mid)) (imported l) (shapes.promoted (means numbering mid k))) s.id.string (next_of (composed numbering old before))) (meant numbering),
  )

  places_moved : (new : Parts) (after : Root) (y : Externs) → ImportsAs rules.named mid new before after x y s name (promoted k) → (numbering : Numbering)
      → places_in after y ≡ places_after (composed numbering old before) (places_in before x) (Statement.import_statement s) (composed numbering new after)
  places_moved new after y i numbering =
      let c : Composition = composed numbering old before in
      let d : Composition = composed numbering new after in
      let is = goes new after y i numbering in
      let none : exported_in x ++ [] ≡ exported_in x = simp append-nil in
      same_places (places_in after y) (places_after c (places_in before x) (Statement.import_statement s) d)
      (i.adds.bound ∙ ap (λ (l : Named Span). places before ++ l) (sym (one_more_at s.id.span c.declared d.declared s.id.string (next_of c) (ap (λ (e : Composition). e.declared) is))))
      (i.adds.imported_at ∙ ap (λ (l : Named Span). imported_in x ++ l)
      (sym (one_more_at (import_span s) (imports c) (imports d) name (shapes.promoted (means numbering mid k)) (ap (λ (e : Composition). imports e) is ∙ one_more_import (with_resources c (declared_count mid)) name (shapes.promoted (means numbering mid k)) s.id.string))))
      (i.adds.exported_at ∙ sym none ∙ ap (λ (l : Named Span). exported_in x ++ l) (sym (no_more_at (import_span s) c.exports d.exports (ap (λ (e : Composition). e.exports) is))))

  pub statement_went : (new : Parts) (after : Root) (y : Externs) → ImportsAs rules.named mid new before after x y s name (promoted k) → StatementRun context rules old new before after x y (Statement.import_statement s)
  statement_went new after y i = record {
    stand = record {
      agrees = i.adds.agrees;
      placed = placed_imported mid new before after x y s.id name (import_span s) (promoted k) (placed_kept old mid x made.grows stand.placed) i.adds;
      supplied = supplied_imported (packages_in context) mid new new.nodes (with_named mid.imports name (length mid.nodes)) i.adds.same made.supplied;
    };
    leads = λ numbering one. (imports_judged new after y i numbering, places_moved new after y i numbering);
  }

  pub name_breaks : (e : Error) → ((numbering : Numbering) → Under rules.named (λ given. ImportNameBroken given (composed numbering mid before) (places_in before x) e s name)) → Breaks context rules old before x (Statement.import_statement s) e
  name_breaks e h numbering one = inr (
    means numbering mid k,
    declared_count mid,
    made.is numbering rules,
    subst (λ (l : List ℕ). ImportNameBroken (given_in numbering context rules) (composed numbering old before) (places_in before x) e s l) (meant numbering)
        (without_resources (given_in numbering context rules) (composed numbering old before) (declared_count mid) (places_in before x) e s name
        (subst (λ (c : Composition). ImportNameBroken (given_in numbering context rules) c (places_in before x) e s name) (composed_kept old mid before numbering made.grows stand.agrees) (h numbering (given_in numbering context rules) refl))),
  )

pub type_breaks : (context : Context) (rules : Rules) (old : Parts) (before : Root) (x : Externs) (s : ImportStatement) (e : Error) → ImportTypeBreaks context old before s.ty e → Breaks context rules old before x (Statement.import_statement s) e
type_breaks context rules old before x s e h numbering one = inl (h numbering rules)
