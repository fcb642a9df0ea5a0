-- An alias of an export of a node occurs once.
use Rattle.wac_resolution_rules.proofs.Common.{◌≡◌, ℕ, zero, suc, List, [], ◌∷◌, ◌++◌, length, refl, sym, subst, Option, Some, None, Bool, true, false, cond, not, ◌≤◌, ◌+◌, ◌&&◌, nat_eq, nat_lt, arith, eqb-true, eq-eqb, ltb-false, AllByRecursion, position, position_or_len, prefix_len, bytes_eq, Meaning, promoted, Statement}
use Rattle.wac_resolution_rules.specs.Given.{Given}
use Rattle.wac_resolution_rules.specs.Composition.{NodeForm, imported, definition, aliased, instantiated, Composition, Node, named_at, with_node, with_resources, start}
use Rattle.wac_resolution_rules.specs.Nodes.{is_alias_of, alias_in, with_alias, next_of}
use Rattle.wac_resolution_rules.specs.Statements.{name_imported, StatementStep, Composes}
use Rattle.wac_resolution_rules.specs.Sound.{IsAlias, is_same_alias, AliasesOnce}
use Rattle.wac_resolution_rules.specs.TypeStatements.{identifier_of}
use Rattle.wac_resolution_rules.proofs.StatementsStop.{declares_what}
use Rattle.wac_resolution_rules.proofs.ExpressionsKeep.{Keeps, keeps_stands, keeps_by}
use Rattle.wac_resolution_rules.proofs.Prefixes.{named_at_suc, all_to}
use Rattle.wac_resolution_rules.proofs.Names.{eq_other_way, cond_none}

-- ---- what statements keep of the nodes

-- it is kept by expressions, where another node is added, and where a node is named
pub record Stays (P : List Node → Type 0) : Type 0 where
  pub keeps : Keeps P
  pub other : (ns : List Node) (n : Node) → (IsAlias n.form → ⊥) → P ns → P (ns ++ n ∷ [])
  pub numbering : (ns : List Node) (i : ℕ) (name : List ℕ) → P ns → P (named_at ns i name)

pub stays_goes : (P : List Node → Type 0) → Stays P → (g : Given) (old : Composition) (x : Statement) (new : Composition) → P old.nodes → StatementStep g old x new → P new.nodes
stays_goes P s g old (Statement.import_statement x) new h p =
    subst (λ (c : Composition). P c.nodes) (sym p.6) (s.numbering (with_node (with_resources old p.1) (imported (name_imported x p.0)) (promoted p.0)).nodes (next_of old) x.id.string (s.other old.nodes _ (λ f. f) h))
stays_goes P s g old (Statement.let_statement x) new h p =
    subst (λ (c : Composition). P c.nodes) (sym p.3) (s.numbering p.0.composition.nodes p.0.node x.id.string (keeps_stands P s.keeps g old x.expr p.0 h p.1))
stays_goes P s g old (Statement.export_statement x) new h p = keeps_by P s.keeps g p.0 x.options new (keeps_stands P s.keeps g old x.expr p.0 h p.1) p.2
stays_goes P s g old (Statement.type_statement x) new h p =
    let d = declares_what g.context old x new p in
    subst (λ (c : Composition). P c.nodes) (sym d.2.2) (s.numbering (with_node (with_resources old d.1) definition d.0).nodes (next_of old) (identifier_of x).string (s.other old.nodes _ (λ f. f) h))

pub stays_composes : (P : List Node → Type 0) → Stays P → (g : Given) (xs : List Statement) (old new : Composition) → P old.nodes → Composes g old xs new → P new.nodes
stays_composes P s g [] old new h p = subst (λ (c : Composition). P c.nodes) (sym p) h
stays_composes P s g (x ∷ xs) old new h p = stays_composes P s g xs p.0 new (stays_goes P s g old x p.0 h p.1) p.2

-- ---- aliases

second : (p q : Bool) → p ≡ true → (p && q) ≡ false → q ≡ false
second true q e f = f
second false q e f = absurd (cc e)

and_other_way : (a b : ℕ) (x y : List ℕ) → (nat_eq a b && bytes_eq x y) ≡ false → (nat_eq b a && bytes_eq y x) ≡ false
and_other_way a b x y e = go (nat_eq b a) refl (bytes_eq y x) refl
  where
    go : (p : Bool) → nat_eq b a ≡ p → (q : Bool) → bytes_eq y x ≡ q → (p && q) ≡ false
    go false f q g = refl
    go true f false g = refl
    go true f true g =
        let same : b ≡ a = eqb-true b a f in
        let one : nat_eq a b ≡ true = subst (λ (m : ℕ). nat_eq m b ≡ true) same (eq-eqb b b refl) in
        let back : bytes_eq y x ≡ false = eq_other_way x y (second (nat_eq a b) (bytes_eq x y) one e) in
        cc (back, g)

-- a node that isn't the alias isn't the same alias
not_same : (node : ℕ) (name : List ℕ) (f : NodeForm) → is_alias_of node name f ≡ false → is_same_alias f (aliased node name) ≡ false
not_same node name (imported other) e = refl
not_same node name definition e = refl
not_same node name (aliased n other) e = and_other_way n node other name e
not_same node name (instantiated key) e = refl

not_alias : (f g : NodeForm) → (IsAlias g → ⊥) → is_same_alias f g ≡ false
not_alias f (aliased node name) h = absurd (h tt)
not_alias (imported name) g h = refl
not_alias definition g h = refl
not_alias (aliased node name) (imported other) h = refl
not_alias (aliased node name) definition h = refl
not_alias (aliased node name) (instantiated key) h = refl
not_alias (instantiated key) g h = refl

all_and_one : {X : Type 0} (P : X → Type 0) (xs : List X) (x : X) → AllByRecursion P xs → P x → AllByRecursion P (xs ++ x ∷ [])
all_and_one P [] x h p = (p, tt)
all_and_one P (y ∷ ys) x h p = (h.0, all_and_one P ys x h.1 p)

once_and : (ns : List Node) (n : Node) → AllByRecursion (λ (m : Node). is_same_alias m.form n.form ≡ false) ns → AliasesOnce ns → AliasesOnce (ns ++ n ∷ [])
once_and [] n h p = (tt, tt)
once_and (m ∷ ms) n h p = (all_and_one (λ (l : Node). is_same_alias m.form l.form ≡ false) ms n p.0 h.0, once_and ms n h.1 p.1)

each_not : (ns : List Node) (f : NodeForm) → (IsAlias f → ⊥) → AllByRecursion (λ (m : Node). is_same_alias m.form f ≡ false) ns
each_not [] f h = tt
each_not (n ∷ ns) f h = (not_alias n.form f h, each_not ns f h)

all_fail : {X : Type 0} (p : X → Bool) (xs : List X) → length xs ≤ prefix_len (λ x. not (p x)) xs → AllByRecursion (λ x. p x ≡ false) xs
all_fail p [] h = tt
all_fail p (x ∷ xs) h = go (p x) refl h (all_fail p xs)
  where
    go : (b : Bool) → p x ≡ b → suc (length xs) ≤ cond (not b) (1 + prefix_len (λ x. not (p x)) xs) 0 → (length xs ≤ prefix_len (λ x. not (p x)) xs → AllByRecursion (λ x. p x ≡ false) xs)
        → (p x ≡ false) × AllByRecursion (λ x. p x ≡ false) xs
    go true e le later = absurd (omega (arith, le))
    go false e le later = (e, later (omega (arith, le)))

none_found : (node : ℕ) (name : List ℕ) (ns : List Node) → position (λ (n : Node). is_alias_of node name n.form) ns ≡ None → AllByRecursion (λ (m : Node). is_same_alias m.form (aliased node name) ≡ false) ns
none_found node name ns e =
    let b = cond_none (nat_lt (position_or_len (λ (n : Node). is_alias_of node name n.form) ns) (length ns)) (position_or_len (λ (n : Node). is_alias_of node name n.form) ns) None e in
    all_to (λ (n : Node). is_alias_of node name n.form ≡ false) (λ m. is_same_alias m.form (aliased node name) ≡ false) (λ m f. not_same node name m.form f) ns
    (all_fail (λ (n : Node). is_alias_of node name n.form) ns (ltb-false (position_or_len (λ (n : Node). is_alias_of node name n.form) ns) (length ns) b.0))

-- the form stays where a node is named
forms_named : (P : NodeForm → Type 0) (ns : List Node) (i : ℕ) (name : List ℕ) → AllByRecursion (λ (m : Node). P m.form) ns → AllByRecursion (λ (m : Node). P m.form) (named_at ns i name)
forms_named P [] i name h = h
forms_named P (n ∷ ns) zero name h = h
forms_named P (n ∷ ns) (suc i) name h = subst (λ (l : List Node). AllByRecursion (λ (m : Node). P m.form) l) (sym (named_at_suc n ns i name)) (h.0, forms_named P ns i name h.1)

once_named : (ns : List Node) (i : ℕ) (name : List ℕ) → AliasesOnce ns → AliasesOnce (named_at ns i name)
once_named [] i name h = h
once_named (n ∷ ns) zero name h = h
once_named (n ∷ ns) (suc i) name h = subst (λ (l : List Node). AliasesOnce l) (sym (named_at_suc n ns i name)) (forms_named (λ f. is_same_alias n.form f ≡ false) ns i name h.0, once_named ns i name h.1)

once_alias : (c : Composition) (node : ℕ) (name : List ℕ) (k : Meaning) → AliasesOnce c.nodes → AliasesOnce (with_alias c node name k).nodes
once_alias c node name k h = go (alias_in c node name) refl
  where
    go : (o : Option ℕ) → alias_in c node name ≡ o → AliasesOnce (elim o as (λ _. Composition) [ None ↦ with_node c (aliased node name) k | Some n ↦ c ]).nodes
    go None e = once_and c.nodes (record { form = aliased node name; kind = k; name = None; arguments = [] }) (none_found node name c.nodes e) h
    go (Some n) e = h

stays_once : Stays AliasesOnce
stays_once = record {
  keeps = record { alias = once_alias; instance = λ c key k arguments h. once_and c.nodes _ (each_not c.nodes (instantiated key) (λ f. f)) h };
  other = λ ns n other h. once_and ns n (each_not ns n.form other) h;
  numbering = once_named;
}

-- each alias occurs once
pub composes_aliases_once : (g : Given) (xs : List Statement) (c : Composition) → Composes g start xs c → AliasesOnce c.nodes
composes_aliases_once g xs c p = stays_composes AliasesOnce stays_once g xs start c tt p
