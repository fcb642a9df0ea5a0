-- Which rule of expressions an error says is broken, as in BrokenTypes: first each rule, then where they are tested.
use Rattle.std.specs.Prelude.{◌≡◌, ℕ, List, [], ◌∷◌, ◌++◌, Some, None, option_and_then, flat_map, map, false, ◌⊎◌}
use Rattle.std.specs.List.{AllByRecursion}
use Rattle.wac_lexer.specs.Span.{Span}
use Rattle.wac_graph_types.specs.declared.rules.Reason.{Reason}
use Rattle.wac_graph_types.specs.Meaning.{Meaning}
use Rattle.wac_graph_types.specs.Scope.{Named, look_up, StandsFor, IsFresh}
use Rattle.wac_graph_types.specs.Steps.{Steps, Fails}
use Rattle.wac_graph_types.specs.Shape.{exports_of, described}
use Rattle.wac_graph.specs.Packages.{Contents}
use Rattle.wac_ast_grammar.specs.Tree.{Ident, PackageName, PostfixExpr, Expr, PrimaryExpr, Arguments, InstantiationArgument}
use Rattle.wac_ast_grammar.specs.Grammar.{primary_span, postfix_span, last_span}
use Rattle.wac_ast_grammar.specs.Spans.{argument_name_span}
use Rattle.wac_resolution_rules.specs.Given.{Given, Rules, instantiable, imports_in}
use Rattle.wac_resolution_rules.specs.Composition.{Composition, Node, kind_at}
use Rattle.wac_resolution_rules.specs.Nodes.{node_at, instance_at}
use Rattle.wac_resolution_rules.specs.Expressions.{At, accessed, Accesses, Giving, nothing_given, name_meant, name_inferred, spread_from, Spreads, spreads_of, has_fill, IsEmpty, Fits, left_out, Stands, PrimaryStands, Gives, GivesOne}
use Rattle.wac_resolution_errors.specs.Error.{Error, Operation, duplicate_instantiation_arg, fill_argument_not_last, mismatched_instantiation_arg, missing_component_import, missing_instance_export, missing_instantiation_arg, not_an_instance, spread_instantiation_no_match, unknown_package}
use Rattle.wac_resolution_rules.specs.BrokenTypes.{IsUndefined, IsRepeated}

-- x is one of the xs, and P holds of each before it
abbrev pub ReachedAt : {X : Type 0} → (X → Type 0) → List X → X → Type 0
ReachedAt {X} P xs x = (before : List X) × (after : List X) × (xs ≡ before ++ x ∷ after) × AllByRecursion P before

-- ---- one rule each

-- the node isn't an instance
abbrev pub IsNotInstance : Composition → ℕ → Operation → Span → Error → Type 0
IsNotInstance c node operation span e = (instance_at c node ≡ None)
    × (e ≡ not_an_instance (described (kind_at c.nodes node)) operation span)

-- the instance has no such export
pub record IsNotExported (a : At) (p : PostfixExpr) (e : Error) : Type 0 where
  pub instance : Meaning
  pub there : instance_at a.composition a.node ≡ Some instance
  pub fresh : IsFresh (accessed p (exports_of instance)) (exports_of instance)
  pub error : e ≡ missing_instance_export (accessed p (exports_of instance)) (postfix_span p)

-- the package isn't given, or is the document's own
abbrev pub IsUnknownPackage : Given → PackageName → Error → Type 0
IsUnknownPackage s x e = (instantiable s x ≡ None) × (e ≡ unknown_package x.name x.span)

-- an argument comes after the fill
abbrev pub IsFillNotLast : Arguments → Span → Error → Type 0
IsFillNotLast rest span e = (IsEmpty rest → ⊥) × (e ≡ fill_argument_not_last span)

-- an earlier argument has the name
abbrev pub IsGivenAlready : Giving → List ℕ → Span → Error → Type 0
IsGivenAlready g name span e = IsRepeated g.arguments name (duplicate_instantiation_arg name span) e

-- the instance exports no import for which nothing is given yet
pub record IsNoMatch (imports : Named Meaning) (g : Giving) (node : ℕ) (span : Span) (e : Error) : Type 0 where
  pub instance : Meaning
  pub there : instance_at g.composition node ≡ Some instance
  pub unchanged : (spread_from imports node (exports_of instance) g).arguments ≡ g.arguments
  pub error : e ≡ spread_instantiation_no_match span

-- where the argument for a name is: the argument itself, else the first spread whose instance exports the name
abbrev pub argument_place : Composition → Named Meaning → InstantiationArgument → Named Span
argument_place c imports (InstantiationArgument.named name x) = (name_meant name imports, argument_name_span name) ∷ []
argument_place c imports
    (InstantiationArgument.inferred id) = elim (option_and_then (node_at c) (look_up id.string c.declared))
    [ None ↦ [] | Some n ↦ (name_inferred imports id.string n, id.span) ∷ [] ]
argument_place c imports _ = []

abbrev pub own_places : Composition → Named Meaning → Arguments → Named Span
own_places c imports Arguments.none = []
own_places c imports (Arguments.more a rest) = argument_place c imports a ++ own_places c imports rest

abbrev pub spread_places : Composition → Ident → Named Span
spread_places c id = elim (option_and_then (instance_at c) (look_up id.string c.declared))
    [ None ↦ [] | Some i ↦ map (λ x. (x.0, id.span)) (exports_of i) ]

abbrev pub argument_places : Composition → Named Meaning → Arguments → Named Span
argument_places c imports args = own_places c imports args ++ flat_map (spread_places c) (spreads_of args)

-- the package has no such import
pub record IsNoImport (rules : Rules) (p : Contents) (x : PackageName) (args : Arguments) (g : Giving) (e : Error)
    : Type 0 where
  pub argument : List ℕ × ℕ
  pub span : Span
  pub reached : ReachedAt (Fits rules (imports_in p) g.composition.nodes) g.arguments argument
  pub place : StandsFor (argument_places g.composition (imports_in p) args) argument.0 span
  pub fresh : IsFresh argument.0 (imports_in p)
  pub error : e ≡ missing_component_import x.name argument.0 span

-- the argument does not fit the import
pub record IsMismatched (rules : Rules) (p : Contents) (args : Arguments) (g : Giving) (e : Error) : Type 0 where
  pub argument : List ℕ × ℕ
  pub span : Span
  pub wanted : Meaning
  pub reason : Reason
  pub reached : ReachedAt (Fits rules (imports_in p) g.composition.nodes) g.arguments argument
  pub place : StandsFor (argument_places g.composition (imports_in p) args) argument.0 span
  pub imported : StandsFor (imports_in p) argument.0 wanted
  pub fails : rules.passes (kind_at g.composition.nodes argument.1) wanted ≡ Some reason
  pub error : e ≡ mismatched_instantiation_arg argument.0 reason span

-- nothing is given for an import, and there is no fill
pub record IsLeftOut (rules : Rules) (p : Contents) (x : PackageName) (args : Arguments) (g : Giving) (e : Error)
    : Type 0 where
  pub wanted : List ℕ × Meaning
  pub others : Named Meaning
  pub fit : AllByRecursion (Fits rules (imports_in p) g.composition.nodes) g.arguments
  pub unfilled : has_fill args ≡ false
  pub left : left_out (imports_in p) g.arguments ≡ wanted ∷ others
  pub error : e ≡ missing_instantiation_arg wanted.0 x.string x.span

-- ---- where they are tested

abbrev pub AccessBroken : Span → Error → At → List PostfixExpr → PostfixExpr → Type 0
AccessBroken span e a before p = IsNotInstance a.composition a.node Operation.access (last_span span before) e
    ⊎ IsNotExported a p e

abbrev pub SpreadBroken : Named Meaning → Error → Giving → List Ident → Ident → Type 0
SpreadBroken imports e g before id = IsUndefined g.composition.declared id e
    ⊎ ((node : ℕ) × StandsFor g.composition.declared id.string node
    × (IsNotInstance g.composition node Operation.spread id.span e ⊎ IsNoMatch imports g node id.span e))

abbrev pub InstantiationBroken : Given → Contents → PackageName → Arguments → Giving → Error → Type 0
InstantiationBroken s p x args g e = IsNoImport s.rules p x args g e ⊎ IsMismatched s.rules p args g e
    ⊎ IsLeftOut s.rules p x args g e

abbrev mutual
  pub ExprBroken : Given → Composition → Error → Expr → Type 0
  ExprBroken s old e (Expr.expr span first others) = PrimaryBroken s old e first
      ⊎ ((mid : At) × PrimaryStands s old first mid × Fails Accesses (AccessBroken (primary_span first) e) mid others)

  pub PrimaryBroken : Given → Composition → Error → PrimaryExpr → Type 0
  PrimaryBroken s old e (PrimaryExpr.new span x args) = IsUnknownPackage s x e
      ⊎ ((p : Contents) × (instantiable s x ≡ Some p) × ArgumentsBroken s (imports_in p) (nothing_given old) e args)
      ⊎ ((p : Contents) × (given : Giving) × (instantiable s x ≡ Some p)
      × Gives s (imports_in p) (nothing_given old) args given
      × Fails (Spreads (imports_in p)) (SpreadBroken (imports_in p) e) given (spreads_of args))
      ⊎ ((p : Contents) × (given : Giving) × (all : Giving) × (instantiable s x ≡ Some p)
      × Gives s (imports_in p) (nothing_given old) args given
      × Steps (Spreads (imports_in p)) given (spreads_of args) all × InstantiationBroken s p x args all e)
  PrimaryBroken s old e (PrimaryExpr.nested span x) = ExprBroken s old e x
  PrimaryBroken s old e (PrimaryExpr.ident id) = IsUndefined old.declared id e

  pub ArgumentsBroken : Given → Named Meaning → Giving → Error → Arguments → Type 0
  ArgumentsBroken s imports old e Arguments.none = ⊥
  ArgumentsBroken s imports old e (Arguments.more a rest) = ArgumentBroken s imports rest old e a
      ⊎ ((mid : Giving) × GivesOne s imports rest old a mid × ArgumentsBroken s imports mid e rest)

  pub ArgumentBroken : Given → Named Meaning → Arguments → Giving → Error → InstantiationArgument → Type 0
  ArgumentBroken s imports rest old e (InstantiationArgument.fill span) = IsFillNotLast rest span e
  ArgumentBroken s imports rest old e (InstantiationArgument.spread id) = ⊥
  ArgumentBroken s imports rest old e (InstantiationArgument.named name x) = ExprBroken s old.composition e x
      ⊎ ((a : At) × Stands s old.composition x a
      × IsGivenAlready old (name_meant name imports) (argument_name_span name) e)
  ArgumentBroken s imports rest old e (InstantiationArgument.inferred id) = IsUndefined old.composition.declared id e
      ⊎ ((node : ℕ) × (n : Node) × StandsFor old.composition.declared id.string node
      × (node_at old.composition node ≡ Some n) × IsGivenAlready old (name_inferred imports id.string n) id.span e)
