-- What expressions and exports keep of the nodes of a composition.
use Rattle.wac_resolution_rules.proofs.Common.{ℕ, List, [], ◌∷◌, sym, subst, Option, Some, None, Bool, true, false, cond, is_some, Meaning, Named, look_up, exports_of, Steps, Key, Ident, PostfixExpr, Expr, PrimaryExpr, Arguments, InstantiationArgument, ExportOptions}
use Rattle.std.specs.Prelude.{fold}
use Rattle.wac_resolution_rules.specs.Given.{Given, key_named, imports_in}
use Rattle.wac_resolution_rules.specs.Composition.{Composition, Node}
use Rattle.wac_resolution_rules.specs.Nodes.{with_alias, with_instance}
use Rattle.wac_resolution_rules.specs.Expressions.{At, at, accessed, alias_at, Accesses, Giving, nothing_given, given_too, spread_step, Spreads, spreads_of, Stands, PrimaryStands, Gives, GivesOne}
use Rattle.wac_resolution_rules.specs.Statements.{ExportsOne, ExportsBy}

-- it is kept where the alias of an export is added, and where an instance of a package is
pub record Keeps (P : List Node → Type 0) : Type 0 where
  pub alias : (c : Composition) (node : ℕ) (name : List ℕ) (k : Meaning) → P c.nodes → P (with_alias c node name k).nodes
  pub instance : (c : Composition) (key : Key) (k : Meaning) (arguments : Named ℕ) → P c.nodes → P (with_instance c key k arguments).nodes

keeps_accesses : (P : List Node → Type 0) → Keeps P → (xs : List PostfixExpr) (old new : At) → P old.composition.nodes → Steps Accesses old xs new → P new.composition.nodes
keeps_accesses P s [] old new h p = subst (λ (a : At). P a.composition.nodes) (sym p) h
keeps_accesses P s (x ∷ xs) old new h p =
    keeps_accesses P s xs p.0 new (subst (λ (a : At). P a.composition.nodes) (sym p.1.4) (s.alias old.composition old.node (accessed x (exports_of p.1.0)) p.1.1 h)) p.2

keeps_step : (P : List Node → Type 0) → Keeps P → (node : ℕ) (exports : Named Meaning) (g : Giving) (x : List ℕ × Meaning) → P g.composition.nodes → P (spread_step node exports g x).composition.nodes
keeps_step P s node exports g x h = given (is_some (look_up x.0 g.arguments))
  where
    exported : (o : Option Meaning) → P (elim o as (λ _. Giving) [ None ↦ g | Some k ↦ given_too g x.0 (alias_at (at g.composition node) x.0 k) ]).composition.nodes
    exported None = h
    exported (Some k) = s.alias g.composition node x.0 k h

    given : (b : Bool) → P (cond b g (elim (look_up x.0 exports) as (λ _. Giving) [ None ↦ g | Some k ↦ given_too g x.0 (alias_at (at g.composition node) x.0 k) ])).composition.nodes
    given true = h
    given false = exported (look_up x.0 exports)

keeps_fold : (P : List Node → Type 0) → Keeps P → (node : ℕ) (exports imports : Named Meaning) (g : Giving) → P g.composition.nodes → P (fold (spread_step node exports) g imports).composition.nodes
keeps_fold P s node exports [] g h = h
keeps_fold P s node exports (x ∷ xs) g h = keeps_fold P s node exports xs (spread_step node exports g x) (keeps_step P s node exports g x h)

keeps_spreads : (P : List Node → Type 0) → Keeps P → (imports : Named Meaning) (ids : List Ident) (old new : Giving) → P old.composition.nodes → Steps (Spreads imports) old ids new → P new.composition.nodes
keeps_spreads P s imports [] old new h p = subst (λ (a : Giving). P a.composition.nodes) (sym p) h
keeps_spreads P s imports (id ∷ ids) old new h p =
    keeps_spreads P s imports ids p.0 new (subst (λ (a : Giving). P a.composition.nodes) (sym p.1.4) (keeps_fold P s p.1.0 (exports_of p.1.1) imports old h)) p.2

mutual
  pub keeps_stands : (P : List Node → Type 0) → Keeps P → (g : Given) (old : Composition) (x : Expr) (a : At) → P old.nodes → Stands g old x a → P a.composition.nodes
  keeps_stands P s g old (Expr.expr span first others) a h p = keeps_accesses P s others p.0 a (keeps_first P s g old first p.0 h p.1) p.2

  keeps_first : (P : List Node → Type 0) → Keeps P → (g : Given) (old : Composition) (x : PrimaryExpr) (a : At) → P old.nodes → PrimaryStands g old x a → P a.composition.nodes
  keeps_first P s g old (PrimaryExpr.new span name args) a h p =
      let q = keeps_spreads P s (imports_in p.0) (spreads_of args) p.1 p.2 (keeps_gives P s g (imports_in p.0) (nothing_given old) args p.1 h p.4) p.5 in
      subst (λ (a : At). P a.composition.nodes) (sym p.6.made) (s.instance p.2.composition (key_named name) p.0.instance p.2.arguments q)
  keeps_first P s g old (PrimaryExpr.nested span x) a h p = keeps_stands P s g old x a h p
  keeps_first P s g old (PrimaryExpr.ident id) a h p = subst (λ (a : At). P a.composition.nodes) (sym p.2) h

  keeps_gives : (P : List Node → Type 0) → Keeps P → (g : Given) (imports : Named Meaning) (old : Giving) (x : Arguments) (new : Giving) → P old.composition.nodes → Gives g imports old x new → P new.composition.nodes
  keeps_gives P s g imports old Arguments.none new h p = subst (λ (a : Giving). P a.composition.nodes) (sym p) h
  keeps_gives P s g imports old (Arguments.more x rest) new h p = keeps_gives P s g imports p.0 rest new (keeps_give P s g imports rest old x p.0 h p.1) p.2

  keeps_give : (P : List Node → Type 0) → Keeps P → (g : Given) (imports : Named Meaning) (rest : Arguments) (old : Giving) (x : InstantiationArgument) (new : Giving) → P old.composition.nodes → GivesOne g imports rest old x new → P new.composition.nodes
  keeps_give P s g imports rest old (InstantiationArgument.fill span) new h p = subst (λ (a : Giving). P a.composition.nodes) (sym p.1) h
  keeps_give P s g imports rest old (InstantiationArgument.spread id) new h p = subst (λ (a : Giving). P a.composition.nodes) (sym p) h
  keeps_give P s g imports rest old (InstantiationArgument.named name x) new h p = subst (λ (a : Giving). P a.composition.nodes) (sym p.3) (keeps_stands P s g old.composition x p.0 h p.1)
  keeps_give P s g imports rest old (InstantiationArgument.inferred id) new h p = subst (λ (a : Giving). P a.composition.nodes) (sym p.5) h

pub keeps_each : (P : List Node → Type 0) → Keeps P → (g : Given) (node : ℕ) (xs : Named Meaning) (old new : Composition) → P old.nodes → Steps (ExportsOne g node) old xs new → P new.nodes
keeps_each P s g node [] old new h p = subst (λ (c : Composition). P c.nodes) (sym p) h
keeps_each P s g node (x ∷ xs) old new h p = keeps_each P s g node xs p.0 new (subst (λ (c : Composition). P c.nodes) (sym p.1.3) (s.alias old node x.0 x.1 h)) p.2

pub keeps_by : (P : List Node → Type 0) → Keeps P → (g : Given) (a : At) (x : ExportOptions) (new : Composition) → P a.composition.nodes → ExportsBy g a x new → P new.nodes
keeps_by P s g a (ExportOptions.spread span) new h p = keeps_each P s g a.node _ a.composition new h p.3
keeps_by P s g a (ExportOptions.rename name) new h p = subst (λ (c : Composition). P c.nodes) (sym p.3) h
keeps_by P s g a ExportOptions.none new h p = subst (λ (c : Composition). P c.nodes) (sym p.4.3) h
