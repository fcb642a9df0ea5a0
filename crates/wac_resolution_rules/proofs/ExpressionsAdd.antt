-- An expression only appends nodes, and denotes a bound node, an alias or a new node.
use Rattle.wac_resolution_rules.proofs.Common.{◌≡◌, ℕ, List, [], ◌∷◌, ◌++◌, refl, sym, ◌∙◌, ap, subst, Option, Some, None, Bool, true, false, cond, is_some, append_assoc, append-nil, Meaning, Named, look_up, exports_of, Steps, Ident, PostfixExpr, Expr, PrimaryExpr, Arguments, InstantiationArgument}
use Rattle.std.specs.List.{fold}
use Rattle.wac_resolution_rules.specs.Given.{Given, imports_in}
use Rattle.wac_resolution_rules.specs.Composition.{aliased, Composition, Node, with_node}
use Rattle.wac_resolution_rules.specs.Nodes.{alias_in, with_alias}
use Rattle.wac_resolution_rules.specs.Expressions.{At, at, accessed, alias_at, Accesses, Giving, nothing_given, given_too, spread_step, Spreads, spreads_of, Stands, PrimaryStands, Gives, GivesOne}

-- the new composition is the old one with more nodes
abbrev pub added : Composition → List Node → Composition
added c more = record c { nodes = c.nodes ++ more }

abbrev pub Adds : Composition → Composition → Type 0
Adds old new = (more : List Node) × (new ≡ added old more)

pub adds_none : (c : Composition) → Adds c c
adds_none c = ([], ap (λ (ns : List Node). record c { nodes = ns }) (sym (append-nil c.nodes)))

pub adds_more : (a b c : Composition) → Adds a b → Adds b c → Adds a c
adds_more a b c p q = (p.0 ++ q.0, q.1 ∙ ap (λ (m : Composition). added m q.0) p.1 ∙ ap (λ (ns : List Node). record a { nodes = ns }) (append_assoc a.nodes p.0 q.0))

pub adds_same : (a b c : Composition) → c ≡ b → Adds a b → Adds a c
adds_same a b c e p = subst (λ (m : Composition). Adds a m) (sym e) p

pub alias_adds : (c : Composition) (node : ℕ) (name : List ℕ) (k : Meaning) → Adds c (with_alias c node name k)
alias_adds c node name k = go (alias_in c node name)
  where
    go : (o : Option ℕ) → Adds c (elim o [ None ↦ with_node c (aliased node name) k | Some n ↦ c ])
    go None = (record { form = aliased node name; kind = k; name = None; arguments = [] } ∷ [], refl)
    go (Some n) = adds_none c

pub access_adds : (old : At) (p : PostfixExpr) (new : At) → Accesses old p new → Adds old.composition new.composition
access_adds old p new g = adds_same old.composition _ new.composition (ap (λ (m : At). m.composition) g.4) (alias_adds old.composition old.node (accessed p (exports_of g.0)) g.1)

pub accesses_add : (ps : List PostfixExpr) (old new : At) → Steps Accesses old ps new → Adds old.composition new.composition
accesses_add [] old new g = adds_same old.composition old.composition new.composition (ap (λ (m : At). m.composition) g) (adds_none old.composition)
accesses_add (p ∷ ps) old new g = adds_more old.composition g.0.composition new.composition (access_adds old p g.0 g.1) (accesses_add ps g.0 new g.2)

pub step_adds : (node : ℕ) (exports : Named Meaning) (g : Giving) (x : List ℕ × Meaning) → Adds g.composition (spread_step node exports g x).composition
step_adds node exports g x = given (is_some (look_up x.0 g.arguments))
  where
    exported : (o : Option Meaning) → Adds g.composition (elim o as (λ _. Giving) [ None ↦ g | Some k ↦ given_too g x.0 (alias_at (at g.composition node) x.0 k) ]).composition
    exported None = adds_none g.composition
    exported (Some k) = alias_adds g.composition node x.0 k

    given : (b : Bool) → Adds g.composition (cond b g (elim (look_up x.0 exports) as (λ _. Giving) [ None ↦ g | Some k ↦ given_too g x.0 (alias_at (at g.composition node) x.0 k) ])).composition
    given true = adds_none g.composition
    given false = exported (look_up x.0 exports)

fold_adds : (node : ℕ) (exports : Named Meaning) (imports : Named Meaning) (g : Giving) → Adds g.composition (fold (spread_step node exports) g imports).composition
fold_adds node exports [] g = adds_none g.composition
fold_adds node exports (x ∷ xs) g = adds_more g.composition _ _ (step_adds node exports g x) (fold_adds node exports xs (spread_step node exports g x))

pub spread_adds : (imports : Named Meaning) (old : Giving) (id : Ident) (new : Giving) → Spreads imports old id new → Adds old.composition new.composition
spread_adds imports old id new g = adds_same old.composition _ new.composition (ap (λ (m : Giving). m.composition) g.4) (fold_adds g.0 (exports_of g.1) imports old)

pub spreads_add : (imports : Named Meaning) (ids : List Ident) (old new : Giving) → Steps (Spreads imports) old ids new → Adds old.composition new.composition
spreads_add imports [] old new g = adds_same old.composition old.composition new.composition (ap (λ (m : Giving). m.composition) g) (adds_none old.composition)
spreads_add imports (id ∷ ids) old new g = adds_more old.composition g.0.composition new.composition (spread_adds imports old id g.0 g.1) (spreads_add imports ids g.0 new g.2)

mutual
  -- an expression only appends nodes
  pub stands_adds : (s : Given) (old : Composition) (x : Expr) (a : At) → Stands s old x a → Adds old a.composition
  stands_adds s old (Expr.expr span first others) a p = adds_more old p.0.composition a.composition (first_adds s old first p.0 p.1) (accesses_add others p.0 a p.2)

  pub first_adds : (s : Given) (old : Composition) (x : PrimaryExpr) (a : At) → PrimaryStands s old x a → Adds old a.composition
  first_adds s old (PrimaryExpr.new span name args) a p =
      adds_more old p.1.composition a.composition (gives_add s (imports_in p.0) (nothing_given old) args p.1 p.4)
      (adds_more p.1.composition p.2.composition a.composition (spreads_add (imports_in p.0) (spreads_of args) p.1 p.2 p.5)
      (adds_same p.2.composition _ a.composition (ap (λ (m : At). m.composition) p.6.made) (_ ∷ [], refl)))
  first_adds s old (PrimaryExpr.nested span x) a p = stands_adds s old x a p
  first_adds s old (PrimaryExpr.ident id) a p = adds_same old old a.composition (ap (λ (m : At). m.composition) p.2) (adds_none old)

  pub gives_add : (s : Given) (imports : Named Meaning) (old : Giving) (x : Arguments) (new : Giving) → Gives s imports old x new → Adds old.composition new.composition
  gives_add s imports old Arguments.none new p = adds_same old.composition old.composition new.composition (ap (λ (m : Giving). m.composition) p) (adds_none old.composition)
  gives_add s imports old (Arguments.more x rest) new p = adds_more old.composition p.0.composition new.composition (give_adds s imports rest old x p.0 p.1) (gives_add s imports p.0 rest new p.2)

  pub give_adds : (s : Given) (imports : Named Meaning) (rest : Arguments) (old : Giving) (x : InstantiationArgument) (new : Giving) → GivesOne s imports rest old x new → Adds old.composition new.composition
  give_adds s imports rest old (InstantiationArgument.fill span) new p = adds_same old.composition old.composition new.composition (ap (λ (m : Giving). m.composition) p.1) (adds_none old.composition)
  give_adds s imports rest old (InstantiationArgument.spread id) new p = adds_same old.composition old.composition new.composition (ap (λ (m : Giving). m.composition) p) (adds_none old.composition)
  give_adds s imports rest old (InstantiationArgument.named name x) new p = adds_same old.composition p.0.composition new.composition (ap (λ (m : Giving). m.composition) p.3) (stands_adds s old.composition x p.0 p.1)
  give_adds s imports rest old (InstantiationArgument.inferred id) new p = adds_same old.composition old.composition new.composition (ap (λ (m : Giving). m.composition) p.5) (adds_none old.composition)
