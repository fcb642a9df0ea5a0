-- An expression denotes one node, and a statement yields one composition.
use Rattle.wac_resolution_rules.proofs.Common.{◌≡◌, ℕ, sym, ◌∙◌, ap, subst, Some, Meaning, Named, look_up, StandsFor, exports_of, Steps, Contents, Expr, PrimaryExpr, Arguments, InstantiationArgument}
use Rattle.wac_resolution_rules.specs.Given.{Given, instantiable, key_named, imports_in}
use Rattle.wac_resolution_rules.specs.Composition.{Composition, Node}
use Rattle.wac_resolution_rules.specs.Nodes.{node_at, instance_at, next_of, with_instance}
use Rattle.wac_resolution_rules.specs.Expressions.{At, at, accessed, alias_at, Accesses, Giving, nothing_given, given_too, name_meant, name_inferred, spread_from, Spreads, spreads_of, Stands, PrimaryStands, Gives, GivesOne}
use Rattle.wac_resolution_rules.proofs.StepLaws.{IsOnce, steps_once}
use Rattle.wac_resolution_rules.proofs.Options.{some_once}

pub accesses_once : IsOnce Accesses
accesses_once old p a b g h =
    let i : g.0 ≡ h.0 = some_once (instance_at old.composition old.node) g.0 h.0 g.2 h.2 in
    let f : StandsFor (exports_of h.0) (accessed p (exports_of h.0)) g.1 = subst (λ (m : Meaning). StandsFor (exports_of m) (accessed p (exports_of m)) g.1) i g.3 in
    let k : g.1 ≡ h.1 = some_once (look_up (accessed p (exports_of h.0)) (exports_of h.0)) g.1 h.1 f h.3 in
    let e : a ≡ alias_at old (accessed p (exports_of h.0)) g.1 = subst (λ (m : Meaning). a ≡ alias_at old (accessed p (exports_of m)) g.1) i g.4 in
    e ∙ ap (λ (m : Meaning). alias_at old (accessed p (exports_of h.0)) m) k ∙ sym h.4

pub spreads_once : (imports : Named Meaning) → IsOnce (Spreads imports)
spreads_once imports old id a b g h =
    let n : g.0 ≡ h.0 = some_once (look_up id.string old.composition.declared) g.0 h.0 g.2 h.2 in
    let f : instance_at old.composition h.0 ≡ Some g.1 = subst (λ (m : ℕ). instance_at old.composition m ≡ Some g.1) n g.3 in
    let i : g.1 ≡ h.1 = some_once (instance_at old.composition h.0) g.1 h.1 f h.3 in
    g.4 ∙ ap (λ (m : ℕ). spread_from imports m (exports_of g.1) old) n ∙ ap (λ (m : Meaning). spread_from imports h.0 (exports_of m) old) i ∙ sym h.4

mutual
  pub expr_once : (s : Given) (old : Composition) (x : Expr) (a b : At) → Stands s old x a → Stands s old x b → a ≡ b
  expr_once s old (Expr.expr span first others) a b p q =
      let e : p.0 ≡ q.0 = primary_once s old first p.0 q.0 p.1 q.1 in
      steps_once Accesses accesses_once q.0 others a b (subst (λ (m : At). Steps Accesses m others a) e p.2) q.2

  pub primary_once : (s : Given) (old : Composition) (x : PrimaryExpr) (a b : At) → PrimaryStands s old x a → PrimaryStands s old x b → a ≡ b
  primary_once s old (PrimaryExpr.new span name args) a b p q =
      let c : p.0 ≡ q.0 = some_once (instantiable s name) p.0 q.0 p.3 q.3 in
      let f : Gives s (imports_in q.0) (nothing_given old) args p.1 = subst (λ (m : Contents). Gives s (imports_in m) (nothing_given old) args p.1) c p.4 in
      let g : p.1 ≡ q.1 = arguments_once s (imports_in q.0) (nothing_given old) args p.1 q.1 f q.4 in
      let r : Steps (Spreads (imports_in q.0)) p.1 (spreads_of args) p.2 = subst (λ (m : Contents). Steps (Spreads (imports_in m)) p.1 (spreads_of args) p.2) c p.5 in
      let t : Steps (Spreads (imports_in q.0)) q.1 (spreads_of args) p.2 = subst (λ (m : Giving). Steps (Spreads (imports_in q.0)) m (spreads_of args) p.2) g r in
      let all : p.2 ≡ q.2 = steps_once (Spreads (imports_in q.0)) (spreads_once (imports_in q.0)) q.1 (spreads_of args) p.2 q.2 t q.5 in
      p.6.made ∙ ap (λ (m : Contents). at (with_instance p.2.composition (key_named name) m.instance p.2.arguments) (next_of p.2.composition)) c
      ∙ ap (λ (m : Giving). at (with_instance m.composition (key_named name) q.0.instance m.arguments) (next_of m.composition)) all ∙ sym q.6.made
  primary_once s old (PrimaryExpr.nested span x) a b p q = expr_once s old x a b p q
  primary_once s old (PrimaryExpr.ident id) a b p q =
      let n : p.0 ≡ q.0 = some_once (look_up id.string old.declared) p.0 q.0 p.1 q.1 in
      p.2 ∙ ap (at old) n ∙ sym q.2

  pub arguments_once : (s : Given) (imports : Named Meaning) (old : Giving) (x : Arguments) (a b : Giving) → Gives s imports old x a → Gives s imports old x b → a ≡ b
  arguments_once s imports old Arguments.none a b p q = p ∙ sym q
  arguments_once s imports old (Arguments.more x rest) a b p q =
      let e : p.0 ≡ q.0 = argument_once s imports rest old x p.0 q.0 p.1 q.1 in
      arguments_once s imports q.0 rest a b (subst (λ (m : Giving). Gives s imports m rest a) e p.2) q.2

  pub argument_once : (s : Given) (imports : Named Meaning) (rest : Arguments) (old : Giving) (x : InstantiationArgument) (a b : Giving) → GivesOne s imports rest old x a → GivesOne s imports rest old x b → a ≡ b
  argument_once s imports rest old (InstantiationArgument.fill span) a b p q = p.1 ∙ sym q.1
  argument_once s imports rest old (InstantiationArgument.spread id) a b p q = p ∙ sym q
  argument_once s imports rest old (InstantiationArgument.named name x) a b p q =
      let e : p.0 ≡ q.0 = expr_once s old.composition x p.0 q.0 p.1 q.1 in
      p.3 ∙ ap (λ (m : At). given_too old (name_meant name imports) m) e ∙ sym q.3
  argument_once s imports rest old (InstantiationArgument.inferred id) a b p q =
      let n : p.0 ≡ q.0 = some_once (look_up id.string old.composition.declared) p.0 q.0 p.2 q.2 in
      let f : node_at old.composition q.0 ≡ Some p.1 = subst (λ (m : ℕ). node_at old.composition m ≡ Some p.1) n p.3 in
      let e : p.1 ≡ q.1 = some_once (node_at old.composition q.0) p.1 q.1 f q.3 in
      p.5 ∙ ap (λ (m : ℕ). given_too old (name_inferred imports id.string p.1) (at old.composition m)) n
      ∙ ap (λ (m : Node). given_too old (name_inferred imports id.string m) (at old.composition q.0)) e ∙ sym q.5
