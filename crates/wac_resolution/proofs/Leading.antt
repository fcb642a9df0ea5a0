-- Type statements take one composition to the next.
use Rattle.wac_resolution.proofs.Common.{◌≡◌, ◌∙◌, ℕ, zero, suc, List, [], ◌∷◌, ◌++◌, Option, None, inl, inr, refl, sym, ap, subst, append-nil, filter_map, cons_option, Span, TypeStatement, ItemKind, Meaning, PackageParts, Named, with_named, Parts, means, declared_count, Numbering, Key, all_implies, Error, DefinitionBroken, KindBroken, Composition, Node, definition, named_at, Rules, import_of, imports, next_of, Places, more_at, places_after, identifier_of, Defines, defining, Root, composed, Context, IsSuppliedAs, AllSupplied, packages_in, context_of, Externs, places_in, IsDefined, Stand, StatementRun, Breaks, composed_kept}
use Rattle.wac_ast_grammar.specs.Tree.{Statement}
use Rattle.wac_resolution_rules.proofs.Prefixes.{named_at_suc}
use Rattle.wac_resolution_statements.specs.Exports.{GrowsExports}
use Rattle.wac_resolution.specs.Definitions.{KindDeclared}

-- ---- places

more_one : {X : Type 0} (span : Span) (xs : Named X) (name : List ℕ) (x : X) → more_at span xs (with_named xs name x) ≡ (name, span) ∷ []
more_one span [] name x = refl
more_one span (y ∷ ys) name x = more_one span ys name x

more_none : {X : Type 0} (span : Span) (xs : Named X) → more_at span xs xs ≡ []
more_none span [] = refl
more_none span (y ∷ ys) = more_none span ys

imports_with : (ns : List Node) (n : Node) → import_of n ≡ None → filter_map import_of (ns ++ n ∷ []) ≡ filter_map import_of ns
imports_with [] n e = ap (λ (o : Option (List ℕ × Meaning)). cons_option o []) e
imports_with (m ∷ ms) n e = ap (cons_option (import_of m)) (imports_with ms n e)

imports_named : (ns : List Node) (i : ℕ) (name : List ℕ) → filter_map import_of (named_at ns i name) ≡ filter_map import_of ns
imports_named [] i name = refl
imports_named (n ∷ ns) zero name = refl
imports_named (n ∷ ns) (suc i) name = ap (filter_map import_of) (named_at_suc n ns i name) ∙ ap (cons_option (import_of n)) (imports_named ns i name)

-- a definition imports nothing
imports_defined : (c : Composition) (name : List ℕ) (m : Meaning) (n : ℕ) → imports (defining c name m n) ≡ imports c
imports_defined c name m n = imports_named (c.nodes ++ record { form = definition; kind = m; name = None; arguments = [] } ∷ []) (next_of c) name ∙ imports_with c.nodes _ refl

same_places : (p q : Places) → p.bound ≡ q.bound → p.imported ≡ q.imported → p.exported ≡ q.exported → p ≡ q
same_places p q b i e =
    ap (λ (l : Named Span). record { bound = l; imported = p.imported; exported = p.exported }) b
    ∙ ap (λ (l : Named Span). record { bound = q.bound; imported = l; exported = p.exported }) i
    ∙ ap (λ (l : Named Span). record { bound = q.bound; imported = q.imported; exported = l }) e

places_defined : (old new : Composition) (p q : Places) (s : TypeStatement) (m : Meaning) (n : ℕ) → new ≡ defining old (identifier_of s).string m n
    → q.bound ≡ with_named p.bound (identifier_of s).string (identifier_of s).span → q.imported ≡ p.imported → q.exported ≡ with_named p.exported (identifier_of s).string (identifier_of s).span
    → q ≡ places_after old p (Statement.type_statement s) new
places_defined old new p q s m n is bound imported exported =
    let id = identifier_of s in
    same_places q (places_after old p (Statement.type_statement s) new)
    (bound ∙ ap (λ (l : Named Span). p.bound ++ l) (sym (ap (λ (c : Composition). more_at id.span old.declared c.declared) is ∙ more_one id.span old.declared id.string (next_of old))))
    (imported ∙ sym (append-nil p.imported)
    ∙ ap (λ (l : Named Span). p.imported ++ l) (sym (ap (λ (c : Composition). more_at id.span (imports old) (imports c)) is ∙ ap (more_at id.span (imports old)) (imports_defined old id.string m n) ∙ more_none id.span (imports old))))
    (exported ∙ ap (λ (l : Named Span). p.exported ++ l) (sym (ap (λ (c : Composition). more_at id.span old.exports c.exports) is ∙ more_one id.span old.exports id.string (next_of old))))

-- ---- what is kept beside the graph

-- the packages are still held as they were supplied
supplied_exports : (packages : List (Key × PackageParts)) (old new : Parts) → GrowsExports old new → AllSupplied packages old → AllSupplied packages new
supplied_exports packages old new g h =
    let more = record old { nodes = new.nodes; exports = new.exports } in
    subst (AllSupplied packages) (sym g.same) (all_implies (IsSuppliedAs packages old) (IsSuppliedAs packages more) (λ p held. record { there = held.there; contents = held.contents }) old.packages h)

pub went : (context : Context) (old mid new : Parts) (before after : Root) (x y : Externs) (s : TypeStatement) (k : ItemKind) → Stand context old before x → KindDeclared context old mid before s k
    → IsDefined mid new before after x y (identifier_of s) k → (rules : Rules) → StatementRun context rules old new before after x y (Statement.type_statement s)
went context old mid new before after x y s k stand kind h rules = record {
  stand = record { agrees = h.agrees; placed = h.placed; supplied = supplied_exports (packages_in context) mid new h.grows kind.supplied };
  leads = λ numbering one.
      let defines : Defines (composed numbering old before) (identifier_of s).string (means numbering mid k) (declared_count mid) (composed numbering new after) =
      subst (λ (c : Composition). Defines c (identifier_of s).string (means numbering mid k) (declared_count mid) (composed numbering new after)) (composed_kept old mid before numbering kind.grows stand.agrees) (h.defines numbering) in (
        (means numbering mid k, declared_count mid, kind.is numbering, defines),
        places_defined (composed numbering old before) (composed numbering new after) (places_in before x) (places_in after y) s (means numbering mid k) (declared_count mid) defines.2 h.bound h.imported h.exported,
      );
}

-- ---- what is reported

pub kind_breaks : (context : Context) (g : Parts) (root : Root) (x : Externs) (s : TypeStatement) (e : Error) → ((numbering : Numbering) → KindBroken (context_of numbering context) (composed numbering g root) s e)
    → (rules : Rules) → Breaks context rules g root x (Statement.type_statement s) e
kind_breaks context g root x s e h rules numbering one = inl (h numbering)

pub definition_breaks : (context : Context) (old mid : Parts) (root : Root) (x : Externs) (s : TypeStatement) (k : ItemKind) (e : Error) → Stand context old root x → KindDeclared context old mid root s k
    → ((numbering : Numbering) → DefinitionBroken (composed numbering mid root) (places_in root x) (identifier_of s) e) → (rules : Rules) → Breaks context rules old root x (Statement.type_statement s) e
definition_breaks context old mid root x s k e stand kind h rules numbering one = inr (
  means numbering mid k,
  declared_count mid,
  kind.is numbering,
  subst (λ (c : Composition). DefinitionBroken c (places_in root x) (identifier_of s) e) (composed_kept old mid root numbering kind.grows stand.agrees) (h numbering),
)
