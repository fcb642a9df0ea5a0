-- No name is imported, exported or bound twice.
use Rattle.wac_resolution_rules.proofs.Common.{◌≡◌, ℕ, zero, suc, List, [], ◌∷◌, ◌++◌, sym, ◌∙◌, ap, subst, refl, Option, Some, None, Bool, true, false, cond, filter_map, cons_option, bytes_eq, bytes_eq-Decides, Meaning, Named, look_up, IsFresh, with_named, promoted, Steps, Expr, ExportOptions, Statement}
use Rattle.wac_resolution_rules.specs.Given.{Given}
use Rattle.wac_resolution_rules.specs.Composition.{imported, definition, aliased, Composition, Node, named_at, with_node, with_resources, start}
use Rattle.wac_resolution_rules.specs.Nodes.{import_of, imports, alias_in, with_alias, next_of}
use Rattle.wac_resolution_rules.specs.Expressions.{At, at, alias_at, Stands}
use Rattle.wac_resolution_rules.specs.Statements.{name_imported, ExportsAs, ExportsOne, ExportsBy, StatementStep, Composes}
use Rattle.wac_resolution_rules.specs.Sound.{OnceEach, NamesOnce}
use Rattle.wac_resolution_rules.specs.TypeStatements.{identifier_of}
use Rattle.wac_resolution_rules.proofs.StatementsStop.{declares_what}
use Rattle.wac_resolution_rules.proofs.ExpressionsAdd.{Adds, stands_adds, alias_adds}
use Rattle.wac_resolution_rules.proofs.ExpressionsKeep.{Keeps, keeps_stands}
use Rattle.wac_resolution_rules.proofs.Prefixes.{named_at_suc}

-- ---- lists of names

pub eq_other_way : (a b : List ℕ) → bytes_eq a b ≡ false → bytes_eq b a ≡ false
eq_other_way a b e = go (bytes_eq b a) refl
  where
    go : (r : Bool) → bytes_eq b a ≡ r → r ≡ false
    go false f = refl
    go true f =
        let same : b ≡ a = (bytes_eq-Decides b a).0 f in
        let back : bytes_eq a b ≡ true = (bytes_eq-Decides a b).1 (sym same) in
        cc (e, back)

pub cond_none : {X : Type 0} (b : Bool) (x : X) (o : Option X) → cond b (Some x) o ≡ None → (b ≡ false) × (o ≡ None)
cond_none true x o e = absurd (cc e)
cond_none false x o e = (refl, e)

none_cond : {X : Type 0} (b : Bool) (x : X) (o : Option X) → b ≡ false → o ≡ None → cond b (Some x) o ≡ None
none_cond true x o e f = absurd (cc e)
none_cond false x o e f = f

fresh_with : {X : Type 0} (name other : List ℕ) (xs : Named X) (x : X) → IsFresh name xs → bytes_eq name other ≡ false → IsFresh name (with_named xs other x)
fresh_with name other [] x h e = none_cond (bytes_eq name other) x None e refl
fresh_with name other (y ∷ ys) x h e =
    let r = cond_none (bytes_eq name y.0) y.1 (look_up name ys) h in
    none_cond (bytes_eq name y.0) y.1 (look_up name (with_named ys other x)) r.0 (fresh_with name other ys x r.1 e)

pub once_with : {X : Type 0} (name : List ℕ) (xs : Named X) (x : X) → OnceEach xs → IsFresh name xs → OnceEach (with_named xs name x)
once_with name [] x h fresh = (refl, tt)
once_with name (y ∷ ys) x h fresh =
    let r = cond_none (bytes_eq name y.0) y.1 (look_up name ys) fresh in
    (fresh_with y.0 name ys x h.0 (eq_other_way name y.0 r.0), once_with name ys x h.1 r.1)

-- ---- the imports among nodes

pub cons_append : {X : Type 0} (o : Option X) (xs ys : List X) → cons_option o (xs ++ ys) ≡ cons_option o xs ++ ys
cons_append None xs ys = refl
cons_append (Some x) xs ys = refl

-- a node that is no import
imports_with : (ns : List Node) (n : Node) → import_of n ≡ None → filter_map import_of (ns ++ n ∷ []) ≡ filter_map import_of ns
imports_with [] n e = ap (λ (o : Option (List ℕ × Meaning)). cons_option o []) e
imports_with (m ∷ ms) n e = ap (cons_option (import_of m)) (imports_with ms n e)

-- a node that is one
imports_more : (ns : List Node) (n : Node) (x : List ℕ × Meaning) → import_of n ≡ Some x → filter_map import_of (ns ++ n ∷ []) ≡ filter_map import_of ns ++ x ∷ []
imports_more [] n x e = ap (λ (o : Option (List ℕ × Meaning)). cons_option o []) e
imports_more (m ∷ ms) n x e = ap (cons_option (import_of m)) (imports_more ms n x e) ∙ cons_append (import_of m) (filter_map import_of ms) (x ∷ [])

imports_named : (ns : List Node) (i : ℕ) (name : List ℕ) → filter_map import_of (named_at ns i name) ≡ filter_map import_of ns
imports_named [] i name = refl
imports_named (n ∷ ns) zero name = refl
imports_named (n ∷ ns) (suc i) name = ap (filter_map import_of) (named_at_suc n ns i name) ∙ ap (cons_option (import_of n)) (imports_named ns i name)

imports_alias : (c : Composition) (node : ℕ) (name : List ℕ) (k : Meaning) → imports (with_alias c node name k) ≡ imports c
imports_alias c node name k = go (alias_in c node name)
  where
    go : (o : Option ℕ) → imports (elim o as (λ _. Composition) [ None ↦ with_node c (aliased node name) k | Some n ↦ c ]) ≡ imports c
    go None = imports_with c.nodes _ refl
    go (Some n) = refl

-- an expression imports nothing
keeps_imports : (all : Named Meaning) → Keeps (λ ns. filter_map import_of ns ≡ all)
keeps_imports all = record {
  alias = λ c node name k h. imports_alias c node name k ∙ h;
  instance = λ c key k arguments h. imports_with c.nodes _ refl ∙ h;
}

-- ---- compositions

same_names : (old new : Composition) → imports new ≡ imports old → new.exports ≡ old.exports → new.declared ≡ old.declared → NamesOnce old → NamesOnce new
same_names old new i e d h = record {
  imports = subst (λ (l : Named Meaning). OnceEach l) (sym i) h.imports;
  exports = subst (λ (l : Named ℕ). OnceEach l) (sym e) h.exports;
  declared = subst (λ (l : Named ℕ). OnceEach l) (sym d) h.declared;
}

added_names : (old new : Composition) → Adds old new → imports new ≡ imports old → NamesOnce old → NamesOnce new
added_names old new p i h = same_names old new i (ap (λ (c : Composition). c.exports) p.1) (ap (λ (c : Composition). c.declared) p.1) h

expr_names : (s : Given) (old : Composition) (x : Expr) (a : At) → Stands s old x a → NamesOnce old → NamesOnce a.composition
expr_names s old x a p h = added_names old a.composition (stands_adds s old x a p) (keeps_stands (λ ns. filter_map import_of ns ≡ imports old) (keeps_imports (imports old)) s old x a refl p) h

export_as_names : (s : Given) (old : Composition) (name : List ℕ) (node : ℕ) (new : Composition) → NamesOnce old → ExportsAs s old name node new → NamesOnce new
export_as_names s old name node new h g = subst NamesOnce (sym g.3) (record { imports = h.imports; exports = once_with name old.exports node h.exports g.1; declared = h.declared })

export_each_names : (s : Given) (node : ℕ) (xs : Named Meaning) (old new : Composition) → NamesOnce old → Steps (ExportsOne s node) old xs new → NamesOnce new
export_each_names s node [] old new h g = subst NamesOnce (sym g) h
export_each_names s node (x ∷ xs) old new h g =
    let c = (alias_at (at old node) x.0 x.1).composition in
    export_each_names s node xs g.0 new (export_as_names s c x.0 _ g.0 (added_names old c (alias_adds old node x.0 x.1) (imports_alias old node x.0 x.1) h) g.1) g.2

export_by_names : (s : Given) (a : At) (x : ExportOptions) (new : Composition) → NamesOnce a.composition → ExportsBy s a x new → NamesOnce new
export_by_names s a (ExportOptions.spread span) new h g = export_each_names s a.node _ a.composition new h g.3
export_by_names s a (ExportOptions.rename name) new h g = export_as_names s a.composition _ a.node new h g
export_by_names s a ExportOptions.none new h g = export_as_names s a.composition g.1 a.node new h g.4

goes_names : (s : Given) (old : Composition) (x : Statement) (new : Composition) → NamesOnce old → StatementStep s old x new → NamesOnce new
goes_names s old (Statement.import_statement x) new h g =
    let name = name_imported x g.0 in
    let ns = (with_node (with_resources old g.1) (imported name) (promoted g.0)).nodes in
    let one : filter_map import_of (named_at ns (next_of old) x.id.string) ≡ with_named (imports old) name (promoted g.0) = imports_named ns (next_of old) x.id.string ∙ imports_more old.nodes _ (name, promoted g.0) refl in
    subst NamesOnce (sym g.6) (record {
      imports = subst (λ (l : Named Meaning). OnceEach l) (sym one) (once_with name (imports old) (promoted g.0) h.imports g.3);
      exports = h.exports;
      declared = once_with x.id.string old.declared (next_of old) h.declared g.5;
    })
goes_names s old (Statement.let_statement x) new h g =
    let p = expr_names s old x.expr g.0 g.1 h in
    subst NamesOnce (sym g.3) (record {
      imports = subst (λ (l : Named Meaning). OnceEach l) (sym (imports_named g.0.composition.nodes g.0.node x.id.string)) p.imports;
      exports = p.exports;
      declared = once_with x.id.string g.0.composition.declared g.0.node p.declared g.2;
    })
goes_names s old (Statement.export_statement x) new h g = export_by_names s g.0 x.options new (expr_names s old x.expr g.0 g.1 h) g.2
goes_names s old (Statement.type_statement x) new h g =
    let d = declares_what s.context old x new g in
    let ns = (with_node (with_resources old d.1) definition d.0).nodes in
    let none : filter_map import_of (named_at ns (next_of old) (identifier_of x).string) ≡ imports old = imports_named ns (next_of old) (identifier_of x).string ∙ imports_with old.nodes _ refl in
    subst NamesOnce (sym d.2.2) (record {
      imports = subst (λ (l : Named Meaning). OnceEach l) (sym none) h.imports;
      exports = once_with (identifier_of x).string old.exports (next_of old) h.exports d.2.0;
      declared = once_with (identifier_of x).string old.declared (next_of old) h.declared d.2.1;
    })

names_from : (s : Given) (xs : List Statement) (old new : Composition) → NamesOnce old → Composes s old xs new → NamesOnce new
names_from s [] old new h p = subst NamesOnce (sym p) h
names_from s (x ∷ xs) old new h p = names_from s xs p.0 new (goes_names s old x p.0 h p.1) p.2

pub composes_names_once : (s : Given) (xs : List Statement) (c : Composition) → Composes s start xs c → NamesOnce c
composes_names_once s xs c p = names_from s xs start c (record { imports = tt; exports = tt; declared = tt }) p
