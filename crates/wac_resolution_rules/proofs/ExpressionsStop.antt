-- An expression that breaks a rule denotes nothing.
use Rattle.wac_resolution_rules.proofs.Common.{◌≡◌, ◌≢◌, ℕ, List, ◌∙◌, ap, subst, Some, None, Bool, false, IsTrue, inl, inr, AllByRecursion, Span, Meaning, Named, look_up, StandsFor, IsFresh, exports_of, Steps, Contents, Ident, PackageName, PostfixExpr, Expr, PrimaryExpr, Arguments, InstantiationArgument, Error, Operation}
use Rattle.wac_resolution_rules.specs.Given.{Given, instantiable, key_named, imports_in}
use Rattle.wac_resolution_rules.specs.Composition.{Composition, Node, kind_at}
use Rattle.wac_resolution_rules.specs.Nodes.{node_at, instance_at}
use Rattle.wac_resolution_rules.specs.Expressions.{At, accessed, Accesses, Giving, nothing_given, name_meant, name_inferred, spread_from, Spreads, spreads_of, has_fill, Fits, Instantiates, Stands, PrimaryStands, Gives, GivesOne}
use Rattle.wac_resolution_rules.specs.BrokenExpressions.{IsNotInstance, IsNotExported, IsUnknownPackage, IsGivenAlready, IsNoMatch, IsNoImport, IsMismatched, IsLeftOut, AccessBroken, SpreadBroken, InstantiationBroken, ExprBroken, PrimaryBroken, ArgumentsBroken, ArgumentBroken}
use Rattle.wac_resolution_rules.proofs.StepLaws.{steps_once, fails_stop}
use Rattle.wac_resolution_rules.proofs.Reached.{reached_holds}
use Rattle.wac_resolution_rules.proofs.TypesStop.{undefined_stops}
use Rattle.wac_resolution_rules.proofs.ExpressionsOnce.{accesses_once, spreads_once, primary_once, arguments_once, argument_once}
use Rattle.wac_resolution_rules.proofs.Options.{some_once, neither}

pub not_instance_stops : (c : Composition) (node : ℕ) (o : Operation) (span : Span) (e : Error) (i : Meaning) → IsNotInstance c node o span e → instance_at c node ≡ Some i → ⊥
not_instance_stops c node o span e i u p = neither (instance_at c node) i u.0 p

not_exported_stops : (a : At) (p : PostfixExpr) (e : Error) (next : At) → IsNotExported a p e → Accesses a p next → ⊥
not_exported_stops a p e next u g =
    let i : g.0 ≡ u.instance = some_once (instance_at a.composition a.node) g.0 u.instance g.2 u.there in
    neither (look_up (accessed p (exports_of u.instance)) (exports_of u.instance)) g.1 u.fresh (subst (λ (m : Meaning). StandsFor (exports_of m) (accessed p (exports_of m)) g.1) i g.3)

access_stops : (span : Span) (e : Error) (a : At) (before : List PostfixExpr) (p : PostfixExpr) (next : At) → AccessBroken span e a before p → Accesses a p next → ⊥
access_stops span e a before p next (inl b) g = not_instance_stops a.composition a.node Operation.access _ e g.0 b g.2
access_stops span e a before p next (inr b) g = not_exported_stops a p e next b g

no_match_stops : (imports : Named Meaning) (g : Giving) (node : ℕ) (span : Span) (e : Error) (i : Meaning) (new : Giving) → IsNoMatch imports g node span e → instance_at g.composition node ≡ Some i
    → new ≡ spread_from imports node (exports_of i) g → new.arguments ≢ g.arguments → ⊥
no_match_stops imports g node span e i new u p is some =
    let same : u.instance ≡ i = some_once (instance_at g.composition node) u.instance i u.there p in
    let none : (spread_from imports node (exports_of i) g).arguments ≡ g.arguments = subst (λ (m : Meaning). (spread_from imports node (exports_of m) g).arguments ≡ g.arguments) same u.unchanged in
    some (ap (λ (m : Giving). m.arguments) is ∙ none)

spread_stops : (imports : Named Meaning) (e : Error) (g : Giving) (before : List Ident) (id : Ident) (next : Giving) → SpreadBroken imports e g before id → Spreads imports g id next → ⊥
spread_stops imports e g before id next (inl b) p = undefined_stops g.composition.declared id e p.0 b p.2
spread_stops imports e g before id next (inr (node, stands, b)) p =
    let n : p.0 ≡ node = some_once (look_up id.string g.composition.declared) p.0 node p.2 stands in
    let i : instance_at g.composition node ≡ Some p.1 = subst (λ (m : ℕ). instance_at g.composition m ≡ Some p.1) n p.3 in
    elim b [ inl x ↦ not_instance_stops g.composition node Operation.spread id.span e p.1 x i | inr x ↦ no_match_stops imports g node id.span e p.1 next x i (subst (λ (m : ℕ). next ≡ spread_from imports m (exports_of p.1) g) n p.4) p.5 ]

unknown_stops : (s : Given) (x : PackageName) (e : Error) (p : Contents) → IsUnknownPackage s x e → instantiable s x ≡ Some p → ⊥
unknown_stops s x e p u h = neither (instantiable s x) p u.0 h

no_import_stops : (s : Given) (p : Contents) (x : PackageName) (args : Arguments) (g : Giving) (e : Error) → IsNoImport s.rules p x args g e → AllByRecursion (Fits s.rules (imports_in p) g.composition.nodes) g.arguments → ⊥
no_import_stops s p x args g e u all =
    let f = reached_holds (Fits s.rules (imports_in p) g.composition.nodes) (Fits s.rules (imports_in p) g.composition.nodes) g.arguments u.argument u.reached all in
    neither (look_up u.argument.0 (imports_in p)) f.0 u.fresh f.1

mismatched_stops : (s : Given) (p : Contents) (args : Arguments) (g : Giving) (e : Error) → IsMismatched s.rules p args g e → AllByRecursion (Fits s.rules (imports_in p) g.composition.nodes) g.arguments → ⊥
mismatched_stops s p args g e u all =
    let f = reached_holds (Fits s.rules (imports_in p) g.composition.nodes) (Fits s.rules (imports_in p) g.composition.nodes) g.arguments u.argument u.reached all in
    let same : f.0 ≡ u.wanted = some_once (look_up u.argument.0 (imports_in p)) f.0 u.wanted f.1 u.imported in
    let yes = subst (λ (m : Meaning). s.rules.passes (kind_at g.composition.nodes u.argument.1) m ≡ None) same f.2 in
    neither (s.rules.passes (kind_at g.composition.nodes u.argument.1) u.wanted) u.reason yes u.fails

no_fill : (b : Bool) → b ≡ false → IsTrue b → ⊥
no_fill b p h = cc (p, h)

left_out_stops : (s : Given) (p : Contents) (x : PackageName) (args : Arguments) (g : Giving) (e : Error) (new : At) → IsLeftOut s.rules p x args g e → Instantiates s.rules p (key_named x) (has_fill args) g new → ⊥
left_out_stops s p x args g e new u h = elim h.complete [ inl f ↦ no_fill (has_fill args) u.unfilled f | inr none ↦ cc (u.left, none) ]

instance_stops : (s : Given) (p : Contents) (x : PackageName) (args : Arguments) (g : Giving) (e : Error) (new : At) → InstantiationBroken s p x args g e → Instantiates s.rules p (key_named x) (has_fill args) g new → ⊥
instance_stops s p x args g e new (inl b) h = no_import_stops s p x args g e b h.fit
instance_stops s p x args g e new (inr (inl b)) h = mismatched_stops s p args g e b h.fit
instance_stops s p x args g e new (inr (inr b)) h = left_out_stops s p x args g e new b h

given_stops : (g : Giving) (name : List ℕ) (span : Span) (e : Error) → IsGivenAlready g name span e → IsFresh name g.arguments → ⊥
given_stops g name span e u fresh = neither (look_up name g.arguments) u.0 fresh u.1

mutual
  pub expr_stops : (s : Given) (old : Composition) (e : Error) (x : Expr) (new : At) → ExprBroken s old e x → Stands s old x new → ⊥
  expr_stops s old e (Expr.expr span first others) new (inl b) p = first_stops s old e first p.0 b p.1
  expr_stops s old e (Expr.expr span first others) new (inr (mid, stands, b)) p =
      let same : p.0 ≡ mid = primary_once s old first p.0 mid p.1 stands in
      fails_stop Accesses _ accesses_once (access_stops _ e) mid others new b (subst (λ (m : At). Steps Accesses m others new) same p.2)

  pub first_stops : (s : Given) (old : Composition) (e : Error) (x : PrimaryExpr) (new : At) → PrimaryBroken s old e x → PrimaryStands s old x new → ⊥
  first_stops s old e (PrimaryExpr.new span x args) new (inl b) p = unknown_stops s x e p.0 b p.3
  first_stops s old e (PrimaryExpr.new span x args) new (inr (inl (c, supplied, b))) p =
      let same : p.0 ≡ c = some_once (instantiable s x) p.0 c p.3 supplied in
      gives_stop s (imports_in c) (nothing_given old) e args p.1 b (subst (λ (m : Contents). Gives s (imports_in m) (nothing_given old) args p.1) same p.4)
  first_stops s old e (PrimaryExpr.new span x args) new (inr (inr (inl (c, given, supplied, gives, b)))) p =
      let same : p.0 ≡ c = some_once (instantiable s x) p.0 c p.3 supplied in
      let f = subst (λ (m : Contents). Gives s (imports_in m) (nothing_given old) args p.1) same p.4 in
      let g : p.1 ≡ given = arguments_once s (imports_in c) (nothing_given old) args p.1 given f gives in
      let r = subst (λ (m : Contents). Steps (Spreads (imports_in m)) p.1 (spreads_of args) p.2) same p.5 in
      let t = subst (λ (m : Giving). Steps (Spreads (imports_in c)) m (spreads_of args) p.2) g r in
      fails_stop (Spreads (imports_in c)) _ (spreads_once (imports_in c)) (spread_stops (imports_in c) e) given (spreads_of args) p.2 b t
  first_stops s old e (PrimaryExpr.new span x args) new (inr (inr (inr (c, given, all, supplied, gives, spread, b)))) p =
      let same : p.0 ≡ c = some_once (instantiable s x) p.0 c p.3 supplied in
      let f = subst (λ (m : Contents). Gives s (imports_in m) (nothing_given old) args p.1) same p.4 in
      let g : p.1 ≡ given = arguments_once s (imports_in c) (nothing_given old) args p.1 given f gives in
      let r = subst (λ (m : Contents). Steps (Spreads (imports_in m)) p.1 (spreads_of args) p.2) same p.5 in
      let t = subst (λ (m : Giving). Steps (Spreads (imports_in c)) m (spreads_of args) p.2) g r in
      let u : p.2 ≡ all = steps_once (Spreads (imports_in c)) (spreads_once (imports_in c)) given (spreads_of args) p.2 all t spread in
      let i = subst (λ (m : Contents). Instantiates s.rules m (key_named x) (has_fill args) p.2 new) same p.6 in
      instance_stops s c x args all e new b (subst (λ (m : Giving). Instantiates s.rules c (key_named x) (has_fill args) m new) u i)
  first_stops s old e (PrimaryExpr.nested span x) new b p = expr_stops s old e x new b p
  first_stops s old e (PrimaryExpr.ident id) new b p = undefined_stops old.declared id e p.0 b p.1

  pub gives_stop : (s : Given) (imports : Named Meaning) (old : Giving) (e : Error) (x : Arguments) (new : Giving) → ArgumentsBroken s imports old e x → Gives s imports old x new → ⊥
  gives_stop s imports old e Arguments.none new b p = b
  gives_stop s imports old e (Arguments.more x rest) new (inl b) p = give_stops s imports rest old e x p.0 b p.1
  gives_stop s imports old e (Arguments.more x rest) new (inr (mid, g, b)) p =
      let same : p.0 ≡ mid = argument_once s imports rest old x p.0 mid p.1 g in
      gives_stop s imports mid e rest new b (subst (λ (m : Giving). Gives s imports m rest new) same p.2)

  pub give_stops : (s : Given) (imports : Named Meaning) (rest : Arguments) (old : Giving) (e : Error) (x : InstantiationArgument) (new : Giving) → ArgumentBroken s imports rest old e x → GivesOne s imports rest old x new → ⊥
  give_stops s imports rest old e (InstantiationArgument.fill span) new b p = b.0 p.0
  give_stops s imports rest old e (InstantiationArgument.spread id) new b p = b
  give_stops s imports rest old e (InstantiationArgument.named name x) new (inl b) p = expr_stops s old.composition e x p.0 b p.1
  give_stops s imports rest old e (InstantiationArgument.named name x) new (inr b) p = given_stops old (name_meant name imports) _ e b.2 p.2
  give_stops s imports rest old e (InstantiationArgument.inferred id) new (inl b) p = undefined_stops old.composition.declared id e p.0 b p.2
  give_stops s imports rest old e (InstantiationArgument.inferred id) new (inr (node, n, stands, there, b)) p =
      let same : p.0 ≡ node = some_once (look_up id.string old.composition.declared) p.0 node p.2 stands in
      let f = subst (λ (m : ℕ). node_at old.composition m ≡ Some p.1) same p.3 in
      let is : p.1 ≡ n = some_once (node_at old.composition node) p.1 n f there in
      given_stops old (name_inferred imports id.string n) id.span e b (subst (λ (m : Node). IsFresh (name_inferred imports id.string m) old.arguments) is p.4)
