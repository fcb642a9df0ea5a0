-- Edges go from earlier nodes to later ones, and each argument names an import of its package once and fits it.
use Rattle.wac_resolution_rules.proofs.Common.{◌≡◌, ◌≤◌, ◌<◌, ◌+◌, ℕ, zero, suc, List, [], ◌∷◌, ◌++◌, length, refl, sym, ◌∙◌, ap, subst, Option, Some, None, Bool, true, false, cond, arith, length-append, le_refl, is_some, AllByRecursion, bytes_eq, slice_get_within, Meaning, EachFrom, Named, look_up, StandsFor, IsFresh, with_named, exports_of, promoted, Steps, Key, Contents, package_of, Ident, PackageName, PostfixExpr, Expr, PrimaryExpr, Arguments, InstantiationArgument, ImportStatement, LetStatement, ExportOptions, ExportStatement, TypeStatement, Statement}
use Rattle.std.specs.Prelude.{fold}
use Rattle.wac_resolution_rules.specs.Given.{Given, instantiable, key_named, imports_in}
use Rattle.wac_resolution_rules.specs.Composition.{NodeForm, imported, definition, aliased, instantiated, Composition, Node, kind_at, named_at, binding, with_node, with_export, with_resources, start}
use Rattle.wac_resolution_rules.specs.Nodes.{alias_in, with_alias, next_of, key_of_node}
use Rattle.wac_resolution_rules.specs.Expressions.{At, at, accessed, alias_at, Accesses, Giving, nothing_given, given_too, spread_step, Spreads, spreads_of, has_fill, Fits, Instantiates, Stands, PrimaryStands, Gives, GivesOne}
use Rattle.wac_resolution_rules.specs.Statements.{name_imported, Imports, Lets, Exports, StatementStep, Composes, ExportsAs, ExportsOne, ExportsBy}
use Rattle.wac_resolution_rules.specs.TypeStatements.{identifier_of, Declares}
use Rattle.wac_resolution_rules.specs.Sound.{OnceEach, IsAfterSource, ArgumentsFit, IsLinked, NamesNodes, IsSound}
use Rattle.wac_resolution_rules.proofs.StatementsStop.{declares_what}
use Rattle.wac_resolution_rules.proofs.Names.{once_with}
use Rattle.wac_resolution_rules.proofs.ExpressionsAdd.{Adds, stands_adds, gives_add, give_adds, spread_adds, step_adds, alias_adds}
use Rattle.wac_resolution_rules.proofs.Prefixes.{AreNamed, named_found, named_at_suc, adds_named, adds_length, alias_there, goes_continues}

-- ---- nodes that are linked

kind_more : (xs ys : List Node) (i : ℕ) → i < length xs → kind_at (xs ++ ys) i ≡ kind_at xs i
kind_more [] ys i lt = absurd (omega (arith, lt))
kind_more (x ∷ xs) ys zero lt = refl
kind_more (x ∷ xs) ys (suc i) lt = kind_more xs ys i (omega (arith, lt))

fits_more : (s : Given) (imports : Named Meaning) (ns more : List Node) (i : ℕ) → i ≤ length ns → (all : Named ℕ) → AllByRecursion (λ a. a.1 < i) all → AllByRecursion (Fits s.rules imports ns) all → AllByRecursion (Fits s.rules imports (ns ++ more)) all
fits_more s imports ns more i le [] h f = tt
fits_more s imports ns more i le (a ∷ all) h f =
    ((f.0.0, f.0.1, subst (λ (k : Meaning). s.rules.passes k f.0.0 ≡ None) (sym (kind_more ns more a.1 (omega (arith, le, h.0)))) f.0.2), fits_more s imports ns more i le all h.1 f.1)

arguments_more : (s : Given) (ns more : List Node) (i : ℕ) → i ≤ length ns → (key : Option Key) (all : Named ℕ) → AllByRecursion (λ a. a.1 < i) all → ArgumentsFit s ns key all → ArgumentsFit s (ns ++ more) key all
arguments_more s ns more i le None all h f = tt
arguments_more s ns more i le (Some key) all h f = (f.0, f.1, fits_more s (imports_in f.0) ns more i le all h f.2)

linked_more : (s : Given) (ns more : List Node) (k : ℕ) (xs : List Node) → k + length xs ≤ length ns → EachFrom (IsLinked s ns) k xs → EachFrom (IsLinked s (ns ++ more)) k xs
linked_more s ns more k [] le h = tt
linked_more s ns more k (x ∷ xs) le h = (
  record { source = h.0.source; earlier = h.0.earlier; once = h.0.once; fit = arguments_more s ns more k (omega (arith, le)) (key_of_node x.form) x.arguments h.0.earlier h.0.fit },
  linked_more s ns more (suc k) xs (omega (arith, le)) h.1,
)

each_and : {X : Type 0} (P : ℕ → X → Type 0) (k : ℕ) (xs : List X) (x : X) → EachFrom P k xs → P (k + length xs) x → EachFrom P k (xs ++ x ∷ [])
each_and P k [] x h p = let e : k + 0 ≡ k = omega arith in (subst (λ (n : ℕ). P n x) e p, tt)
each_and P k (y ∷ ys) x h p = let e : k + suc (length ys) ≡ suc k + length ys = omega arith in (h.0, each_and P (suc k) ys x h.1 (subst (λ (n : ℕ). P n x) e p))

-- each node is linked
abbrev pub AreLinked : Given → List Node → Type 0
AreLinked s ns = EachFrom (IsLinked s ns) 0 ns

and_linked : (s : Given) (ns : List Node) (n : Node) → AreLinked s ns → IsLinked s (ns ++ n ∷ []) (length ns) n → AreLinked s (ns ++ n ∷ [])
and_linked s ns n h p = each_and (IsLinked s (ns ++ n ∷ [])) 0 ns n (linked_more s ns (n ∷ []) 0 ns (omega arith) h) (subst (λ (m : ℕ). IsLinked s (ns ++ n ∷ []) m n) (omega arith) p)

-- a node without arguments
no_arguments : (s : Given) (ns : List Node) (i : ℕ) (f : NodeForm) (k : Meaning) → IsAfterSource i f → key_of_node f ≡ None → IsLinked s ns i (record { form = f; kind = k; name = None; arguments = [] })
no_arguments s ns i f k source none = record { source = source; earlier = tt; once = tt; fit = subst (λ (o : Option Key). ArgumentsFit s ns o []) (sym none) tt }

alias_linked : (s : Given) (c : Composition) (node : ℕ) (name : List ℕ) (k : Meaning) → node < length c.nodes → AreLinked s c.nodes → AreLinked s (with_alias c node name k).nodes
alias_linked s c node name k within h = go (alias_in c node name)
  where
    go : (o : Option ℕ) → AreLinked s (elim o as (λ _. Composition) [ None ↦ with_node c (aliased node name) k | Some n ↦ c ]).nodes
    go None = and_linked s c.nodes (record { form = aliased node name; kind = k; name = None; arguments = [] }) h (no_arguments s (c.nodes ++ record { form = aliased node name; kind = k; name = None; arguments = [] } ∷ []) (length c.nodes) (aliased node name) k within refl)
    go (Some n) = h

-- ---- expressions

-- a linked composition with a node of it
pub record LinkedAt (s : Given) (a : At) : Type 0 where
  pub linked : AreLinked s a.composition.nodes
  pub within : a.node < length a.composition.nodes

at_alias : (s : Given) (a : At) (name : List ℕ) (k : Meaning) → LinkedAt s a → LinkedAt s (alias_at a name k)
at_alias s a name k h = record {
  linked = alias_linked s a.composition a.node name k h.within h.linked;
  within = let t = alias_there a name k in slice_get_within (alias_at a name k).composition.nodes (alias_at a name k).node t.0 t.1;
}

pub accesses_linked : (s : Given) (ps : List PostfixExpr) (old new : At) → LinkedAt s old → Steps Accesses old ps new → LinkedAt s new
accesses_linked s [] old new h p = subst (LinkedAt s) (sym p) h
accesses_linked s (x ∷ ps) old new h p =
    accesses_linked s ps p.0 new (subst (LinkedAt s) (sym p.1.4) (at_alias s old (accessed x (exports_of p.1.0)) p.1.1 h)) p.2

-- arguments that are given by nodes of a linked composition, each name once
pub record LinkedGiving (s : Given) (g : Giving) : Type 0 where
  pub linked : AreLinked s g.composition.nodes
  pub within : AllByRecursion (λ a. a.1 < length g.composition.nodes) g.arguments
  pub once : OnceEach g.arguments

within_more : (n m : ℕ) → n ≤ m → (all : Named ℕ) → AllByRecursion (λ a. a.1 < n) all → AllByRecursion (λ a. a.1 < m) all
within_more n m le [] h = tt
within_more n m le (a ∷ all) h = (omega (arith, le, h.0), within_more n m le all h.1)

within_and : (n : ℕ) (all : Named ℕ) (name : List ℕ) (i : ℕ) → AllByRecursion (λ a. a.1 < n) all → i < n → AllByRecursion (λ a. a.1 < n) (with_named all name i)
within_and n [] name i h lt = (lt, tt)
within_and n (a ∷ all) name i h lt = (h.0, within_and n all name i h.1 lt)

too_linked : (s : Given) (g : Giving) (name : List ℕ) (a : At) → LinkedGiving s g → length g.composition.nodes ≤ length a.composition.nodes → LinkedAt s a → IsFresh name g.arguments → LinkedGiving s (given_too g name a)
too_linked s g name a h le p fresh = record {
  linked = p.linked;
  within = within_and (length a.composition.nodes) g.arguments name a.node (within_more (length g.composition.nodes) (length a.composition.nodes) le g.arguments h.within) p.within;
  once = once_with name g.arguments a.node h.once fresh;
}

is_some_none : {X : Type 0} (o : Option X) → is_some o ≡ false → o ≡ None
is_some_none None e = refl
is_some_none (Some x) e = absurd (cc e)

pub step_linked : (s : Given) (node : ℕ) (exports : Named Meaning) (g : Giving) (x : List ℕ × Meaning) → node < length g.composition.nodes → LinkedGiving s g → LinkedGiving s (spread_step node exports g x)
step_linked s node exports g x within h = given (is_some (look_up x.0 g.arguments)) refl
  where
    exported : IsFresh x.0 g.arguments → (o : Option Meaning) → LinkedGiving s (elim o as (λ _. Giving) [ None ↦ g | Some k ↦ given_too g x.0 (alias_at (at g.composition node) x.0 k) ])
    exported fresh None = h
    exported fresh (Some k) = too_linked s g x.0 (alias_at (at g.composition node) x.0 k) h (adds_length g.composition _ (alias_adds g.composition node x.0 k)) (at_alias s (at g.composition node) x.0 k (record { linked = h.linked; within = within })) fresh

    given : (b : Bool) → is_some (look_up x.0 g.arguments) ≡ b → LinkedGiving s (cond b g (elim (look_up x.0 exports) as (λ _. Giving) [ None ↦ g | Some k ↦ given_too g x.0 (alias_at (at g.composition node) x.0 k) ]))
    given true e = h
    given false e = exported (is_some_none (look_up x.0 g.arguments) e) (look_up x.0 exports)

fold_linked : (s : Given) (node : ℕ) (exports imports : Named Meaning) (g : Giving) → node < length g.composition.nodes → LinkedGiving s g → LinkedGiving s (fold (spread_step node exports) g imports)
fold_linked s node exports [] g within h = h
fold_linked s node exports (x ∷ xs) g within h =
    fold_linked s node exports xs (spread_step node exports g x)
    (omega (arith, within, adds_length g.composition (spread_step node exports g x).composition (step_adds node exports g x))) (step_linked s node exports g x within h)

-- an identifier's node exists
pub bound_within : (c : Composition) (name : List ℕ) (node : ℕ) → AreNamed c → StandsFor c.declared name node → node < length c.nodes
bound_within c name node named stands = let n = named_found c.nodes name c.declared node named stands in slice_get_within c.nodes node n.0 n.1

pub spread_linked : (s : Given) (imports : Named Meaning) (old : Giving) (id : Ident) (new : Giving) → AreNamed old.composition → LinkedGiving s old → Spreads imports old id new → LinkedGiving s new
spread_linked s imports old id new named h p = subst (LinkedGiving s) (sym p.4) (fold_linked s p.0 (exports_of p.1) imports old (bound_within old.composition id.string p.0 named p.2) h)

pub spreads_linked : (s : Given) (imports : Named Meaning) (ids : List Ident) (old new : Giving) → AreNamed old.composition → LinkedGiving s old → Steps (Spreads imports) old ids new → LinkedGiving s new
spreads_linked s imports [] old new named h p = subst (LinkedGiving s) (sym p) h
spreads_linked s imports (id ∷ ids) old new named h p =
    spreads_linked s imports ids p.0 new (adds_named old.composition p.0.composition (spread_adds imports old id p.0 p.1) named) (spread_linked s imports old id p.0 named h p.1) p.2

cond_some : {X : Type 0} (b : Bool) (o : Option X) (x : X) → cond b None o ≡ Some x → o ≡ Some x
cond_some true o x e = absurd (cc e)
cond_some false o x e = e

pub instance_linked : (s : Given) (p : Contents) (name : PackageName) (filled : Bool) (g : Giving) (new : At) → instantiable s name ≡ Some p → LinkedGiving s g → Instantiates s.rules p (key_named name) filled g new → LinkedAt s new
instance_linked s p name filled g new supplied h i =
    let n : Node = record { form = instantiated (key_named name); kind = p.instance; name = None; arguments = g.arguments } in
    let is : package_of (key_named name) s.context.packages ≡ Some p = cond_some (bytes_eq name.name s.context.own) (package_of (key_named name) s.context.packages) p supplied in
    subst (LinkedAt s) (sym i.made) (record {
      linked = and_linked s g.composition.nodes n h.linked (record {
        source = tt;
        earlier = h.within;
        once = h.once;
        fit = arguments_more s g.composition.nodes (n ∷ []) (length g.composition.nodes) (le_refl (length g.composition.nodes)) (Some (key_named name)) g.arguments h.within (p, is, i.fit);
      });
      within = omega (arith, length-append g.composition.nodes (n ∷ []));
    })

mutual
  pub stands_linked : (s : Given) (old : Composition) (x : Expr) (a : At) → AreNamed old → AreLinked s old.nodes → Stands s old x a → LinkedAt s a
  stands_linked s old (Expr.expr span first others) a named h p = accesses_linked s others p.0 a (first_linked s old first p.0 named h p.1) p.2

  pub first_linked : (s : Given) (old : Composition) (x : PrimaryExpr) (a : At) → AreNamed old → AreLinked s old.nodes → PrimaryStands s old x a → LinkedAt s a
  first_linked s old (PrimaryExpr.new span name args) a named h p =
      let g : LinkedGiving s p.1 = gives_linked s (imports_in p.0) (nothing_given old) args p.1 named (record { linked = h; within = tt; once = tt }) p.4 in
      let after : AreNamed p.1.composition = adds_named old p.1.composition (gives_add s (imports_in p.0) (nothing_given old) args p.1 p.4) named in
      instance_linked s p.0 name (has_fill args) p.2 a p.3 (spreads_linked s (imports_in p.0) (spreads_of args) p.1 p.2 after g p.5) p.6
  first_linked s old (PrimaryExpr.nested span x) a named h p = stands_linked s old x a named h p
  first_linked s old (PrimaryExpr.ident id) a named h p = subst (LinkedAt s) (sym p.2) (record { linked = h; within = bound_within old id.string p.0 named p.1 })

  pub gives_linked : (s : Given) (imports : Named Meaning) (old : Giving) (x : Arguments) (new : Giving) → AreNamed old.composition → LinkedGiving s old → Gives s imports old x new → LinkedGiving s new
  gives_linked s imports old Arguments.none new named h p = subst (LinkedGiving s) (sym p) h
  gives_linked s imports old (Arguments.more x rest) new named h p =
      gives_linked s imports p.0 rest new (adds_named old.composition p.0.composition (give_adds s imports rest old x p.0 p.1) named) (give_linked s imports rest old x p.0 named h p.1) p.2

  pub give_linked : (s : Given) (imports : Named Meaning) (rest : Arguments) (old : Giving) (x : InstantiationArgument) (new : Giving) → AreNamed old.composition → LinkedGiving s old → GivesOne s imports rest old x new → LinkedGiving s new
  give_linked s imports rest old (InstantiationArgument.fill span) new named h p = subst (LinkedGiving s) (sym p.1) h
  give_linked s imports rest old (InstantiationArgument.spread id) new named h p = subst (LinkedGiving s) (sym p) h
  give_linked s imports rest old (InstantiationArgument.named name x) new named h p =
      subst (LinkedGiving s) (sym p.3) (too_linked s old _ p.0 h (adds_length old.composition p.0.composition (stands_adds s old.composition x p.0 p.1)) (stands_linked s old.composition x p.0 named h.linked p.1) p.2)
  give_linked s imports rest old (InstantiationArgument.inferred id) new named h p =
      subst (LinkedGiving s) (sym p.5) (too_linked s old _ (at old.composition p.0) h (le_refl (length old.composition.nodes)) (record { linked = h.linked; within = bound_within old.composition id.string p.0 named p.2 }) p.4)

-- ---- statements

named_at_length : (ns : List Node) (i : ℕ) (name : List ℕ) → length (named_at ns i name) ≡ length ns
named_at_length [] i name = refl
named_at_length (z ∷ zs) zero name = refl
named_at_length (z ∷ zs) (suc i) name = ap (λ (l : List Node). length l) (named_at_suc z zs i name) ∙ ap suc (named_at_length zs i name)

kind_named : (ns : List Node) (i : ℕ) (name : List ℕ) (j : ℕ) → kind_at (named_at ns i name) j ≡ kind_at ns j
kind_named [] i name j = refl
kind_named (z ∷ zs) zero name zero = refl
kind_named (z ∷ zs) zero name (suc j) = refl
kind_named (z ∷ zs) (suc i) name zero = ap (λ (l : List Node). kind_at l 0) (named_at_suc z zs i name)
kind_named (z ∷ zs) (suc i) name (suc j) = ap (λ (l : List Node). kind_at l (suc j)) (named_at_suc z zs i name) ∙ kind_named zs i name j

fits_named : (s : Given) (imports : Named Meaning) (ns : List Node) (i : ℕ) (name : List ℕ) (all : Named ℕ) → AllByRecursion (Fits s.rules imports ns) all → AllByRecursion (Fits s.rules imports (named_at ns i name)) all
fits_named s imports ns i name [] f = tt
fits_named s imports ns i name (a ∷ all) f =
    ((f.0.0, f.0.1, subst (λ (k : Meaning). s.rules.passes k f.0.0 ≡ None) (sym (kind_named ns i name a.1)) f.0.2), fits_named s imports ns i name all f.1)

arguments_named : (s : Given) (ns : List Node) (i : ℕ) (name : List ℕ) (key : Option Key) (all : Named ℕ) → ArgumentsFit s ns key all → ArgumentsFit s (named_at ns i name) key all
arguments_named s ns i name None all f = tt
arguments_named s ns i name (Some key) all f = (f.0, f.1, fits_named s (imports_in f.0) ns i name all f.2)

each_named : (s : Given) (ns : List Node) (i : ℕ) (name : List ℕ) (k : ℕ) (xs : List Node) → EachFrom (IsLinked s ns) k xs → EachFrom (IsLinked s (named_at ns i name)) k xs
each_named s ns i name k [] h = tt
each_named s ns i name k (x ∷ xs) h =
    (record { source = h.0.source; earlier = h.0.earlier; once = h.0.once; fit = arguments_named s ns i name (key_of_node x.form) x.arguments h.0.fit }, each_named s ns i name (suc k) xs h.1)

named_each : (s : Given) (ns : List Node) (k : ℕ) (xs : List Node) (i : ℕ) (name : List ℕ) → EachFrom (IsLinked s ns) k xs → EachFrom (IsLinked s ns) k (named_at xs i name)
named_each s ns k [] i name h = h
named_each s ns k (x ∷ xs) zero name h = (record { source = h.0.source; earlier = h.0.earlier; once = h.0.once; fit = h.0.fit }, h.1)
named_each s ns k (x ∷ xs) (suc i) name h = subst (λ (l : List Node). EachFrom (IsLinked s ns) k l) (sym (named_at_suc x xs i name)) (h.0, named_each s ns (suc k) xs i name h.1)

binding_sound : (s : Given) (mid : Composition) (name : List ℕ) (i : ℕ) → IsSound s mid → i < length mid.nodes → IsSound s (binding mid name i)
binding_sound s mid name i h within =
    let n : length (named_at mid.nodes i name) ≡ length mid.nodes = named_at_length mid.nodes i name in
    record {
      linked = named_each s (named_at mid.nodes i name) 0 mid.nodes i name (each_named s mid.nodes i name 0 mid.nodes h.linked);
      declared = subst (λ (m : ℕ). NamesNodes m (with_named mid.declared name i)) (sym n) (within_and (length mid.nodes) mid.declared name i h.declared within);
      exports = subst (λ (m : ℕ). NamesNodes m mid.exports) (sym n) h.exports;
    }

export_sound : (s : Given) (c : Composition) (name : List ℕ) (i : ℕ) → IsSound s c → i < length c.nodes → IsSound s (with_export c name i)
export_sound s c name i h within = record { linked = h.linked; declared = h.declared; exports = within_and (length c.nodes) c.exports name i h.exports within }

-- more nodes that are linked
adds_sound : (s : Given) (old new : Composition) → IsSound s old → Adds old new → AreLinked s new.nodes → IsSound s new
adds_sound s old new h p linked =
    let le = adds_length old new p in
    record {
      linked = linked;
      declared = subst (λ (l : Named ℕ). NamesNodes (length new.nodes) l) (sym (ap (λ (m : Composition). m.declared) p.1)) (within_more (length old.nodes) (length new.nodes) le old.declared h.declared);
      exports = subst (λ (l : Named ℕ). NamesNodes (length new.nodes) l) (sym (ap (λ (m : Composition). m.exports) p.1)) (within_more (length old.nodes) (length new.nodes) le old.exports h.exports);
    }

-- one more node without arguments, that is no instance
node_sound : (s : Given) (old : Composition) (r : ℕ) (f : NodeForm) (k : Meaning) → IsAfterSource (length old.nodes) f → key_of_node f ≡ None → IsSound s old → IsSound s (with_node (with_resources old r) f k)
node_sound s old r f k source none h =
    let n : Node = record { form = f; kind = k; name = None; arguments = [] } in
    let le : length old.nodes ≤ length (old.nodes ++ n ∷ []) = omega (arith, length-append old.nodes (n ∷ [])) in
    record {
      linked = and_linked s old.nodes n h.linked (no_arguments s (old.nodes ++ n ∷ []) (length old.nodes) f k source none);
      declared = within_more (length old.nodes) (length (old.nodes ++ n ∷ [])) le old.declared h.declared;
      exports = within_more (length old.nodes) (length (old.nodes ++ n ∷ [])) le old.exports h.exports;
    }

next_within : (old : Composition) (n : Node) → length old.nodes < length (old.nodes ++ n ∷ [])
next_within old n = omega (arith, length-append old.nodes (n ∷ []))

sound_imports : (s : Given) (old : Composition) (x : ImportStatement) (new : Composition) → IsSound s old → Imports s old x new → IsSound s new
sound_imports s old x new h g = subst (IsSound s) (sym g.6)
    (binding_sound s (with_node (with_resources old g.1) (imported (name_imported x g.0)) (promoted g.0)) x.id.string (next_of old)
    (node_sound s old g.1 (imported (name_imported x g.0)) (promoted g.0) tt refl h) (next_within old _))

sound_declares : (s : Given) (old : Composition) (x : TypeStatement) (new : Composition) → IsSound s old → Declares s.context old x new → IsSound s new
sound_declares s old x new h g =
    let d = declares_what s.context old x new g in
    subst (IsSound s) (sym d.2.2)
    (binding_sound s (with_export (with_node (with_resources old d.1) definition d.0) (identifier_of x).string (length old.nodes)) (identifier_of x).string (length old.nodes)
    (export_sound s (with_node (with_resources old d.1) definition d.0) (identifier_of x).string (length old.nodes) (node_sound s old d.1 definition d.0 tt refl h) (next_within old _)) (next_within old _))

sound_lets : (s : Given) (old : Composition) (x : LetStatement) (new : Composition) → AreNamed old → IsSound s old → Lets s old x new → IsSound s new
sound_lets s old x new named h g =
    let l = stands_linked s old x.expr g.0 named h.linked g.1 in
    subst (IsSound s) (sym g.3) (binding_sound s g.0.composition x.id.string g.0.node (adds_sound s old g.0.composition h (stands_adds s old x.expr g.0 g.1) l.linked) l.within)

sound_as : (s : Given) (old : Composition) (name : List ℕ) (node : ℕ) (new : Composition) → IsSound s old → node < length old.nodes → ExportsAs s old name node new → IsSound s new
sound_as s old name node new h within g = subst (IsSound s) (sym g.3) (export_sound s old name node h within)

sound_each : (s : Given) (node : ℕ) (xs : Named Meaning) (old new : Composition) → IsSound s old → node < length old.nodes → Steps (ExportsOne s node) old xs new → IsSound s new
sound_each s node [] old new h within g = subst (IsSound s) (sym g) h
sound_each s node (x ∷ xs) old new h within g =
    let a : At = alias_at (at old node) x.0 x.1 in
    let l : LinkedAt s a = at_alias s (at old node) x.0 x.1 (record { linked = h.linked; within = within }) in
    let p : IsSound s a.composition = adds_sound s old a.composition h (alias_adds old node x.0 x.1) l.linked in
    let q : IsSound s g.0 = sound_as s a.composition x.0 a.node g.0 p l.within g.1 in
    let le : length old.nodes ≤ length a.composition.nodes = adds_length old a.composition (alias_adds old node x.0 x.1) in
    let e : length g.0.nodes ≡ length a.composition.nodes = ap (λ (m : Composition). length m.nodes) g.1.3 in
    sound_each s node xs g.0 new q (omega (arith, within, le, e)) g.2

sound_by : (s : Given) (a : At) (x : ExportOptions) (new : Composition) → IsSound s a.composition → a.node < length a.composition.nodes → ExportsBy s a x new → IsSound s new
sound_by s a (ExportOptions.spread span) new h within g = sound_each s a.node _ a.composition new h within g.3
sound_by s a (ExportOptions.rename name) new h within g = sound_as s a.composition _ a.node new h within g
sound_by s a ExportOptions.none new h within g = sound_as s a.composition g.1 a.node new h within g.4

sound_exports : (s : Given) (old : Composition) (x : ExportStatement) (new : Composition) → AreNamed old → IsSound s old → Exports s old x new → IsSound s new
sound_exports s old x new named h g =
    let l = stands_linked s old x.expr g.0 named h.linked g.1 in
    sound_by s g.0 x.options new (adds_sound s old g.0.composition h (stands_adds s old x.expr g.0 g.1) l.linked) l.within g.2

pub goes_sound : (s : Given) (old : Composition) (x : Statement) (new : Composition) → AreNamed old → IsSound s old → StatementStep s old x new → IsSound s new
goes_sound s old (Statement.import_statement x) new named h g = sound_imports s old x new h g
goes_sound s old (Statement.let_statement x) new named h g = sound_lets s old x new named h g
goes_sound s old (Statement.export_statement x) new named h g = sound_exports s old x new named h g
goes_sound s old (Statement.type_statement x) new named h g = sound_declares s old x new h g

composes_sound_from : (s : Given) (xs : List Statement) (old new : Composition) → AreNamed old → IsSound s old → Composes s old xs new → IsSound s new
composes_sound_from s [] old new named h p = subst (IsSound s) (sym p) h
composes_sound_from s (x ∷ xs) old new named h p =
    composes_sound_from s xs p.0 new (goes_continues s old x p.0 named p.1).named (goes_sound s old x p.0 named h p.1) p.2

-- each edge goes from an earlier node to a later one; each argument names an import of its package once and fits it
pub composes_sound : (s : Given) (xs : List Statement) (c : Composition) → Composes s start xs c → IsSound s c
composes_sound s xs c p = composes_sound_from s xs start c tt (record { linked = tt; declared = tt; exports = tt }) p
