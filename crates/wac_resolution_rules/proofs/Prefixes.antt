-- A composition begins with that of each prefix of its statements, but an alias node without a name may have one later.
use Rattle.wac_resolution_rules.proofs.Common.{◌≡◌, ◌≤◌, ℕ, zero, suc, List, [], ◌∷◌, ◌++◌, length, refl, sym, ◌∙◌, ap, subst, Option, Some, None, unwrap_or, Bool, true, false, cond, arith, append_assoc, append-nil, length-append, le_refl, inl, inr, ◌⊎◌, get_or, slice_get, slice_set, bytes_eq, AllByRecursion, slice_get-get_or, Meaning, Named, look_up, with_named, exports_of, promoted, Steps, PostfixExpr, Expr, PrimaryExpr, ImportStatement, LetStatement, ExportOptions, ExportStatement, TypeStatement, Statement}
use Rattle.std.proofs.lemmas.List.Quantifiers.{position-Some}
use Rattle.wac_resolution_rules.specs.Given.{Given, imports_in}
use Rattle.wac_resolution_rules.specs.Composition.{NodeForm, imported, definition, aliased, instantiated, Composition, Node, first_name, named_at, binding, with_node, with_export, with_resources, start}
use Rattle.wac_resolution_rules.specs.Nodes.{is_alias_of, alias_in, next_of}
use Rattle.wac_resolution_rules.specs.Expressions.{At, at, accessed, alias_at, Accesses, nothing_given, spreads_of, Stands, PrimaryStands}
use Rattle.wac_resolution_rules.specs.Statements.{name_imported, Imports, Lets, Exports, StatementStep, Composes, ExportsAs, ExportsOne, ExportsBy}
use Rattle.wac_resolution_rules.specs.TypeStatements.{identifier_of, Declares}
use Rattle.wac_resolution_rules.specs.Sound.{IsAlias, IsKept, AreKept, Begins}
use Rattle.wac_resolution_rules.proofs.ExpressionsAdd.{Adds, added, adds_more, stands_adds, gives_add, spreads_add, alias_adds}
use Rattle.wac_resolution_rules.proofs.StepLaws.{steps_prefix}
use Rattle.wac_resolution_rules.proofs.StatementsStop.{declares_what}

-- ---- nodes that are kept

kept_same : (n : Node) → IsKept n n
kept_same n = record { form = refl; kind = refl; arguments = refl; name = inl refl }

kept_on : (a b c : Node) → IsKept a b → IsKept b c → IsKept a c
kept_on a b c p q = record { form = q.form ∙ p.form; kind = q.kind ∙ p.kind; arguments = q.arguments ∙ p.arguments; name = go p.name q.name }
  where
    go : (b.name ≡ a.name) ⊎ (IsAlias a.form × (a.name ≡ None)) → (c.name ≡ b.name) ⊎ (IsAlias b.form × (b.name ≡ None)) → (c.name ≡ a.name) ⊎ (IsAlias a.form × (a.name ≡ None))
    go (inl e) (inl f) = inl (f ∙ e)
    go (inl e) (inr f) = inr (subst IsAlias p.form f.0, sym e ∙ f.1)
    go (inr e) f = inr e

are_kept_same : (ns : List Node) → AreKept ns ns
are_kept_same [] = tt
are_kept_same (n ∷ ns) = (kept_same n, are_kept_same ns)

are_kept_on : (ns ms ls : List Node) → AreKept ns ms → AreKept ms ls → AreKept ns ls
are_kept_on [] ms ls p q = tt
are_kept_on (n ∷ ns) [] ls p q = absurd p
are_kept_on (n ∷ ns) (m ∷ ms) [] p q = absurd q
are_kept_on (n ∷ ns) (m ∷ ms) (l ∷ ls) p q = (kept_on n m l p.0 q.0, are_kept_on ns ms ls p.1 q.1)

are_kept_more : (ns more : List Node) → AreKept ns (ns ++ more)
are_kept_more [] more = tt
are_kept_more (n ∷ ns) more = (kept_same n, are_kept_more ns more)

-- a node has a name
abbrev pub HasName : Node → Type 0
HasName n = (o : List ℕ) × (n.name ≡ Some o)

-- a node that may be named: an alias, or one that has a name
abbrev pub MayBeNamed : Node → Type 0
MayBeNamed n = IsAlias n.form ⊎ HasName n

named_here : (x z : Node) (name : List ℕ) → IsKept x z → MayBeNamed z → IsKept x (record z { name = first_name z.name name })
named_here x z name p may = record { form = p.form; kind = p.kind; arguments = p.arguments; name = go z.name refl p.name may }
  where
    go : (o : Option (List ℕ)) → z.name ≡ o → (z.name ≡ x.name) ⊎ (IsAlias x.form × (x.name ≡ None)) → MayBeNamed z → (first_name o name ≡ x.name) ⊎ (IsAlias x.form × (x.name ≡ None))
    go o e (inr q) m = inr q
    go (Some old) e (inl q) m = inl (sym e ∙ q)
    go None e (inl q) (inl alias) = inr (subst IsAlias p.form alias, sym q ∙ e)
    go None e (inl q) (inr has) = absurd (cc (e, has.1))

pub named_at_suc : (z : Node) (zs : List Node) (i : ℕ) (name : List ℕ) → named_at (z ∷ zs) (suc i) name ≡ z ∷ named_at zs i name
named_at_suc z zs i name = go (slice_get zs i)
  where
    go : (o : Option Node) → (elim o as (λ _. List Node) [ None ↦ z ∷ zs | Some x ↦ slice_set (z ∷ zs) (suc i) (record x { name = first_name x.name name }) ]) ≡ z ∷ (elim o as (λ _. List Node) [ None ↦ zs | Some x ↦ slice_set zs i (record x { name = first_name x.name name }) ])
    go None = refl
    go (Some x) = refl

-- where the node of that number isn't new, it may be named
abbrev MayName : List Node → List Node → ℕ → Type 0
MayName xs zs i = (length xs ≤ i) ⊎ ((n : Node) × (slice_get zs i ≡ Some n) × MayBeNamed n)

kept_named : (xs zs : List Node) (i : ℕ) (name : List ℕ) → AreKept xs zs → MayName xs zs i → AreKept xs (named_at zs i name)
kept_named [] zs i name p may = tt
kept_named (x ∷ xs) [] i name p may = absurd p
kept_named (x ∷ xs) (z ∷ zs) zero name p (inl new) = absurd (omega (arith, new))
kept_named (x ∷ xs) (z ∷ zs) zero name p (inr m) = let e : z ≡ m.0 = cc m.1 in (named_here x z name p.0 (subst MayBeNamed (sym e) m.2), p.1)
kept_named (x ∷ xs) (z ∷ zs) (suc i) name p (inl new) = subst (λ (l : List Node). AreKept (x ∷ xs) l) (sym (named_at_suc z zs i name)) (p.0, kept_named xs zs i name p.1 (inl (omega (arith, new))))
kept_named (x ∷ xs) (z ∷ zs) (suc i) name p (inr m) = subst (λ (l : List Node). AreKept (x ∷ xs) l) (sym (named_at_suc z zs i name)) (p.0, kept_named xs zs i name p.1 (inr m))

-- ---- compositions that begin with others

begins_same : (c : Composition) → Begins c c
begins_same c = record { nodes = are_kept_same c.nodes; exports = ([], sym (append-nil c.exports)); declared = ([], sym (append-nil c.declared)) }

more_on : {X : Type 0} (a b c : List X) → ((more : List X) × (b ≡ a ++ more)) → ((more : List X) × (c ≡ b ++ more)) → (more : List X) × (c ≡ a ++ more)
more_on {X} a b c p q = (p.0 ++ q.0, q.1 ∙ ap (λ (l : List X). l ++ q.0) p.1 ∙ append_assoc a p.0 q.0)

pub begins_on : (a b c : Composition) → Begins a b → Begins b c → Begins a c
begins_on a b c p q = record {
  nodes = are_kept_on a.nodes b.nodes c.nodes p.nodes q.nodes;
  exports = more_on a.exports b.exports c.exports p.exports q.exports;
  declared = more_on a.declared b.declared c.declared p.declared q.declared;
}

begins_added : (old : Composition) (more : List Node) → Begins old (added old more)
begins_added old more = record { nodes = are_kept_more old.nodes more; exports = ([], sym (append-nil old.exports)); declared = ([], sym (append-nil old.declared)) }

pub adds_begins : (old new : Composition) → Adds old new → Begins old new
adds_begins old new p = subst (λ (m : Composition). Begins old m) (sym p.1) (begins_added old p.0)

begins_export : (c : Composition) (name : List ℕ) (node : ℕ) → Begins c (with_export c name node)
begins_export c name node = record { nodes = are_kept_same c.nodes; exports = ((name, node) ∷ [], refl); declared = ([], sym (append-nil c.declared)) }

-- an identifier is bound to a node that may be named
begins_binding : (old mid : Composition) (name : List ℕ) (i : ℕ) → Begins old mid → MayName old.nodes mid.nodes i → Begins old (binding mid name i)
begins_binding old mid name i p may = record {
  nodes = kept_named old.nodes mid.nodes i name p.nodes may;
  exports = p.exports;
  declared = more_on old.declared mid.declared (with_named mid.declared name i) p.declared ((name, i) ∷ [], refl);
}

-- ---- which nodes an expression denotes

-- each root declaration is of a node that has a name
abbrev pub IsNamedAt : List Node → ℕ → Type 0
IsNamedAt ns i = (n : Node) × (slice_get ns i ≡ Some n) × HasName n

abbrev pub AreNamed : Composition → Type 0
AreNamed c = AllByRecursion (λ d. IsNamedAt c.nodes d.1) c.declared

pub named_found : (ns : List Node) (name : List ℕ) (all : Named ℕ) (i : ℕ) → AllByRecursion (λ d. IsNamedAt ns d.1) all → look_up name all ≡ Some i → IsNamedAt ns i
named_found ns name [] i h is = absurd (cc is)
named_found ns name (x ∷ xs) i h is = go (bytes_eq name x.0) (named_found ns name xs i h.1) is
  where
    go : (b : Bool) → (look_up name xs ≡ Some i → IsNamedAt ns i) → cond b (Some x.1) (look_up name xs) ≡ Some i → IsNamedAt ns i
    go true later f = let e : x.1 ≡ i = cc f in subst (IsNamedAt ns) e h.0
    go false later f = later f

pub get_more : (xs ys : List Node) (i : ℕ) (n : Node) → slice_get xs i ≡ Some n → slice_get (xs ++ ys) i ≡ Some n
get_more [] ys i n is = absurd (cc is)
get_more (x ∷ xs) ys zero n is = is
get_more (x ∷ xs) ys (suc i) n is = get_more xs ys i n is

pub get_next : (xs ys : List Node) (n : Node) → slice_get (xs ++ n ∷ ys) (length xs) ≡ Some n
get_next [] ys n = refl
get_next (x ∷ xs) ys n = get_next xs ys n

-- the node exists: a new one, an alias, or one that has a name
abbrev pub Reaches : Composition → At → Type 0
Reaches old a = (n : Node) × (slice_get a.composition.nodes a.node ≡ Some n) × ((length old.nodes ≤ a.node) ⊎ MayBeNamed n)

is_alias_form : (node : ℕ) (name : List ℕ) (f : NodeForm) → is_alias_of node name f ≡ true → IsAlias f
is_alias_form node name (imported other) e = absurd (cc e)
is_alias_form node name definition e = absurd (cc e)
is_alias_form node name (aliased m other) e = tt
is_alias_form node name (instantiated key) e = absurd (cc e)

-- an alias exists
abbrev pub AliasAt : At → Type 0
AliasAt a = (n : Node) × (slice_get a.composition.nodes a.node ≡ Some n) × IsAlias n.form

pub alias_there : (a : At) (name : List ℕ) (k : Meaning) → AliasAt (alias_at a name k)
alias_there a name k = go (alias_in a.composition a.node name) refl
  where
    go : (o : Option ℕ) → alias_in a.composition a.node name ≡ o
        → (n : Node) × (slice_get (elim o as (λ _. Composition) [ None ↦ with_node a.composition (aliased a.node name) k | Some m ↦ a.composition ]).nodes (unwrap_or o (length a.composition.nodes)) ≡ Some n) × IsAlias n.form
    go None e = (record { form = aliased a.node name; kind = k; name = None; arguments = [] }, get_next a.composition.nodes [] _, tt)
    go (Some i) e =
        let d : Node = record { form = aliased a.node name; kind = k; name = None; arguments = [] } in
        let r = position-Some (λ (n : Node). is_alias_of a.node name n.form) a.composition.nodes i d e in
        (get_or a.composition.nodes i d, slice_get-get_or a.composition.nodes i d r.0, is_alias_form a.node name (get_or a.composition.nodes i d).form r.1)

accesses_reach : (old : Composition) (ps : List PostfixExpr) (a new : At) → Reaches old a → Steps Accesses a ps new → Reaches old new
accesses_reach old [] a new r p = subst (Reaches old) (sym p) r
accesses_reach old (x ∷ ps) a new r p =
    let t : AliasAt p.0 = subst AliasAt (sym p.1.4) (alias_there a (accessed x (exports_of p.1.0)) p.1.1) in
    accesses_reach old ps p.0 new (t.0, t.1, inr (inl t.2)) p.2

pub adds_length : (old new : Composition) → Adds old new → length old.nodes ≤ length new.nodes
adds_length old new p = subst (λ (m : Composition). length old.nodes ≤ length m.nodes) (sym p.1) (omega (arith, length-append old.nodes p.0))

mutual
  -- an expression denotes such a node
  pub stands_reach : (s : Given) (old : Composition) (x : Expr) (a : At) → AreNamed old → Stands s old x a → Reaches old a
  stands_reach s old (Expr.expr span first others) a named p = accesses_reach old others p.0 a (first_reach s old first p.0 named p.1) p.2

  first_reach : (s : Given) (old : Composition) (x : PrimaryExpr) (a : At) → AreNamed old → PrimaryStands s old x a → Reaches old a
  first_reach s old (PrimaryExpr.new span name args) a named p =
      subst (Reaches old) (sym p.6.made) (_, get_next p.2.composition.nodes [] _, inl (adds_length old p.2.composition (adds_more old p.1.composition p.2.composition (gives_add s (imports_in p.0) (nothing_given old) args p.1 p.4) (spreads_add (imports_in p.0) (spreads_of args) p.1 p.2 p.5))))
  first_reach s old (PrimaryExpr.nested span x) a named p = stands_reach s old x a named p
  first_reach s old (PrimaryExpr.ident id) a named p =
      let n = named_found old.nodes id.string old.declared p.0 named p.1 in
      subst (Reaches old) (sym p.2) (n.0, n.1, inr (inr n.2))

-- ---- statements

pub all_to : {X : Type 0} (P Q : X → Type 0) → ((x : X) → P x → Q x) → (xs : List X) → AllByRecursion P xs → AllByRecursion Q xs
all_to P Q f [] h = tt
all_to P Q f (x ∷ xs) h = (f x h.0, all_to P Q f xs h.1)

pub all_and : {X : Type 0} (P : X → Type 0) (xs : List X) (x : X) → AllByRecursion P xs → P x → AllByRecursion P (xs ++ x ∷ [])
all_and P [] x h p = (p, tt)
all_and P (y ∷ xs) x h p = (h.0, all_and P xs x h.1 p)

pub named_more : (old : Composition) (more : List Node) → AreNamed old → AllByRecursion (λ d. IsNamedAt (old.nodes ++ more) d.1) old.declared
named_more old more h = all_to (λ (d : List ℕ × ℕ). IsNamedAt old.nodes d.1) (λ d. IsNamedAt (old.nodes ++ more) d.1) (λ d p. (p.0, get_more old.nodes more d.1 p.0 p.1, p.2)) old.declared h

pub adds_named : (old new : Composition) → Adds old new → AreNamed old → AreNamed new
adds_named old new p h = subst AreNamed (sym p.1) (named_more old p.0 h)

named_stays : (ns : List Node) (i : ℕ) (name : List ℕ) (j : ℕ) → IsNamedAt ns j → IsNamedAt (named_at ns i name) j
named_stays [] i name j h = absurd (cc h.1)
named_stays (z ∷ zs) zero name zero h =
    let e : z ≡ h.0 = cc h.1 in
    (record z { name = first_name z.name name }, refl, (h.2.0, ap (λ (m : Option (List ℕ)). first_name m name) (ap (λ (m : Node). m.name) e ∙ h.2.1)))
named_stays (z ∷ zs) zero name (suc j) h = h
named_stays (z ∷ zs) (suc i) name zero h = subst (λ (l : List Node). IsNamedAt l zero) (sym (named_at_suc z zs i name)) (z, refl, (h.2.0, let e : z ≡ h.0 = cc h.1 in ap (λ (m : Node). m.name) e ∙ h.2.1))
named_stays (z ∷ zs) (suc i) name (suc j) h = subst (λ (l : List Node). IsNamedAt l (suc j)) (sym (named_at_suc z zs i name)) (named_stays zs i name j h)

has_first_name : (o : Option (List ℕ)) (name : List ℕ) → (x : List ℕ) × (first_name o name ≡ Some x)
has_first_name None name = (name, refl)
has_first_name (Some old) name = (old, refl)

named_now : (ns : List Node) (i : ℕ) (name : List ℕ) (n : Node) → slice_get ns i ≡ Some n → IsNamedAt (named_at ns i name) i
named_now [] i name n is = absurd (cc is)
named_now (z ∷ zs) zero name n is = (record z { name = first_name z.name name }, refl, has_first_name z.name name)
named_now (z ∷ zs) (suc i) name n is = subst (λ (l : List Node). IsNamedAt l (suc i)) (sym (named_at_suc z zs i name)) (named_now zs i name n is)

binding_named : (mid : Composition) (name : List ℕ) (i : ℕ) (n : Node) → AreNamed mid → slice_get mid.nodes i ≡ Some n → AreNamed (binding mid name i)
binding_named mid name i n h is = all_and (λ (d : List ℕ × ℕ). IsNamedAt (named_at mid.nodes i name) d.1) mid.declared (name, i)
    (all_to (λ (d : List ℕ × ℕ). IsNamedAt mid.nodes d.1) (λ d. IsNamedAt (named_at mid.nodes i name) d.1) (λ d p. named_stays mid.nodes i name d.1 p) mid.declared h)
    (named_now mid.nodes i name n is)

-- the new composition begins with the old one, and its root declarations are of nodes that have names
pub record Continues (old new : Composition) : Type 0 where
  pub begins : Begins old new
  pub named : AreNamed new

-- a node is added, perhaps exported, and an identifier is bound to it
continues_new : (old mid : Composition) (more : List Node) (n : Node) (name : List ℕ) → mid.nodes ≡ old.nodes ++ n ∷ [] → mid.declared ≡ old.declared → ((more : Named ℕ) × (mid.exports ≡ old.exports ++ more)) → AreNamed old
    → Continues old (binding mid name (next_of old))
continues_new old mid more n name nodes declared exports named = record {
  begins = begins_binding old mid name (next_of old)
      (record { nodes = subst (λ (l : List Node). AreKept old.nodes l) (sym nodes) (are_kept_more old.nodes (n ∷ [])); exports = exports; declared = ([], declared ∙ sym (append-nil old.declared)) })
      (inl (le_refl (length old.nodes)));
  named = binding_named mid name (next_of old) n
      (subst (λ (l : Named ℕ). AllByRecursion (λ d. IsNamedAt mid.nodes d.1) l) (sym declared)
      (subst (λ (l : List Node). AllByRecursion (λ d. IsNamedAt l d.1) old.declared) (sym nodes) (named_more old (n ∷ []) named)))
      (subst (λ (l : List Node). slice_get l (next_of old) ≡ Some n) (sym nodes) (get_next old.nodes [] n));
}

continues_imports : (s : Given) (old : Composition) (x : ImportStatement) (new : Composition) → AreNamed old → Imports s old x new → Continues old new
continues_imports s old x new named g = subst (Continues old) (sym g.6)
    (continues_new old (with_node (with_resources old g.1) (imported (name_imported x g.0)) (promoted g.0)) [] _ x.id.string refl refl ([], sym (append-nil old.exports)) named)

continues_declares : (s : Given) (old : Composition) (x : TypeStatement) (new : Composition) → AreNamed old → Declares s.context old x new → Continues old new
continues_declares s old x new named g =
    let d = declares_what s.context old x new g in
    subst (Continues old) (sym d.2.2)
    (continues_new old (with_export (with_node (with_resources old d.1) definition d.0) (identifier_of x).string (length old.nodes)) [] _ (identifier_of x).string refl refl (_ ∷ [], refl) named)

continues_adds : (old new : Composition) → AreNamed old → Adds old new → Continues old new
continues_adds old new named p = record { begins = adds_begins old new p; named = adds_named old new p named }

continues_lets : (s : Given) (old : Composition) (x : LetStatement) (new : Composition) → AreNamed old → Lets s old x new → Continues old new
continues_lets s old x new named g =
    let p = stands_adds s old x.expr g.0 g.1 in
    let r = stands_reach s old x.expr g.0 named g.1 in
    let may : MayName old.nodes g.0.composition.nodes g.0.node = elim r.2 [ inl new ↦ inl new | inr m ↦ inr (r.0, r.1, m) ] in
    subst (Continues old) (sym g.3) (record {
      begins = begins_binding old g.0.composition x.id.string g.0.node (adds_begins old g.0.composition p) may;
      named = binding_named g.0.composition x.id.string g.0.node r.0 (adds_named old g.0.composition p named) r.1;
    })

continues_on : (a b c : Composition) → Continues a b → Continues b c → Continues a c
continues_on a b c p q = record { begins = begins_on a b c p.begins q.begins; named = q.named }

continues_as : (s : Given) (old : Composition) (name : List ℕ) (node : ℕ) (new : Composition) → AreNamed old → ExportsAs s old name node new → Continues old new
continues_as s old name node new named g = subst (Continues old) (sym g.3) (record { begins = begins_export old name node; named = named })

continues_each : (s : Given) (node : ℕ) (xs : Named Meaning) (old new : Composition) → AreNamed old → Steps (ExportsOne s node) old xs new → Continues old new
continues_each s node [] old new named g = subst (Continues old) (sym g) (record { begins = begins_same old; named = named })
continues_each s node (x ∷ xs) old new named g =
    let c = (alias_at (at old node) x.0 x.1).composition in
    let p : Continues old c = continues_adds old c named (alias_adds old node x.0 x.1) in
    let q : Continues c g.0 = continues_as s c x.0 _ g.0 p.named g.1 in
    continues_on old g.0 new (continues_on old c g.0 p q) (continues_each s node xs g.0 new q.named g.2)

continues_by : (s : Given) (a : At) (x : ExportOptions) (new : Composition) → AreNamed a.composition → ExportsBy s a x new → Continues a.composition new
continues_by s a (ExportOptions.spread span) new named g = continues_each s a.node _ a.composition new named g.3
continues_by s a (ExportOptions.rename name) new named g = continues_as s a.composition _ a.node new named g
continues_by s a ExportOptions.none new named g = continues_as s a.composition g.1 a.node new named g.4

continues_exports : (s : Given) (old : Composition) (x : ExportStatement) (new : Composition) → AreNamed old → Exports s old x new → Continues old new
continues_exports s old x new named g =
    let p : Continues old g.0.composition = continues_adds old g.0.composition named (stands_adds s old x.expr g.0 g.1) in
    continues_on old g.0.composition new p (continues_by s g.0 x.options new p.named g.2)

-- a statement continues a composition
pub goes_continues : (s : Given) (old : Composition) (x : Statement) (new : Composition) → AreNamed old → StatementStep s old x new → Continues old new
goes_continues s old (Statement.import_statement x) new named g = continues_imports s old x new named g
goes_continues s old (Statement.let_statement x) new named g = continues_lets s old x new named g
goes_continues s old (Statement.export_statement x) new named g = continues_exports s old x new named g
goes_continues s old (Statement.type_statement x) new named g = continues_declares s old x new named g

pub composes_continues : (s : Given) (xs : List Statement) (old new : Composition) → AreNamed old → Composes s old xs new → Continues old new
composes_continues s [] old new named p = subst (Continues old) (sym p) (record { begins = begins_same old; named = named })
composes_continues s (x ∷ xs) old new named p =
    let q = goes_continues s old x p.0 named p.1 in
    continues_on old p.0 new q (composes_continues s xs p.0 new q.named p.2)

-- a composition of statements begins with the composition of each prefix of them
pub composes_prefix : (s : Given) (before after : List Statement) (new : Composition) → Composes s start (before ++ after) new → (mid : Composition) × Composes s start before mid × Begins mid new
composes_prefix s before after new p =
    let r = steps_prefix (StatementStep s) start before after new p in
    let q = composes_continues s before start r.0 tt r.1 in
    (r.0, r.1, (composes_continues s after r.0 new q.named r.2).begins)
