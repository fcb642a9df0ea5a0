-- Which node an expression denotes, and which nodes it adds.
use Rattle.std.specs.Prelude.{◌≡◌, ◌≢◌, ℕ, List, [], ◌∷◌, ◌++◌, Option, Some, None, is_some, is_none, unwrap_or, option_and_then, filter, fold, Bool, true, false, ◌||◌, IsTrue, ◌⊎◌, if◌then◌else◌}
use Rattle.std.specs.List.{AllByRecursion}
use Rattle.std.specs.Option.{option_or}
use Rattle.wac_graph_types.specs.Meaning.{Meaning}
use Rattle.wac_graph_types.specs.Scope.{Named, look_up, StandsFor, IsFresh, with_named}
use Rattle.wac_graph_types.specs.Steps.{Steps}
use Rattle.wac_graph_types.specs.Shape.{exports_of, id_of}
use Rattle.wac_graph.specs.Package.{Key}
use Rattle.wac_graph.specs.Packages.{Contents}
use Rattle.wac_ast_grammar.specs.Tree.{Ident, PostfixExpr, InstantiationArgumentName, Expr, PrimaryExpr, Arguments, InstantiationArgument}
use Rattle.wac_resolution_rules.specs.Kinds.{instance_of}
use Rattle.wac_resolution_rules.specs.Given.{Given, Rules, instantiable, key_named, imports_in}
use Rattle.wac_resolution_rules.specs.Composition.{Composition, Node, kind_at}
use Rattle.wac_resolution_rules.specs.Nodes.{node_at, instance_at, import_name, alias_name, next_of, alias_number, with_alias, with_instance}
use Rattle.wac_resolution_rules.specs.Find.{find_name}

-- a node of a composition
pub record At : Type 0 where
  pub composition : Composition
  pub node : ℕ

abbrev pub at : Composition → ℕ → At
at c node = record { composition = c; node = node }

-- ---- accesses

-- the alias of an export of the node
abbrev pub alias_at : At → List ℕ → Meaning → At
alias_at a name k = at (with_alias a.composition a.node name k) (alias_number a.composition a.node name)

-- the export that an access names: an identifier by find, a string as it is
abbrev pub accessed : PostfixExpr → Named Meaning → List ℕ
accessed (PostfixExpr.access x) exports = find_name x.id.string exports
accessed (PostfixExpr.named_access x) exports = x.string.value

-- the node is an instance with the export that is named, and the access denotes its alias
abbrev pub Accesses : At → PostfixExpr → At → Type 0
Accesses old p new = (i : Meaning) × (k : Meaning) × (instance_at old.composition old.node ≡ Some i)
    × StandsFor (exports_of i) (accessed p (exports_of i)) k × (new ≡ alias_at old (accessed p (exports_of i)) k)

-- ---- arguments

-- the arguments given so far, and the composition
pub record Giving : Type 0 where
  pub composition : Composition
  pub arguments : Named ℕ

abbrev pub nothing_given : Composition → Giving
nothing_given c = record { composition = c; arguments = [] }

-- a node is given for a name
abbrev pub given_too : Giving → List ℕ → At → Giving
given_too g name a = record { composition = a.composition; arguments = with_named g.arguments name a.node }

-- the import that an argument's name denotes: an identifier by find, a string as it is
abbrev pub name_meant : InstantiationArgumentName → Named Meaning → List ℕ
name_meant (InstantiationArgumentName.ident x) imports = find_name x.string imports
name_meant (InstantiationArgumentName.string x) imports = x.value

-- the id of an instance
abbrev pub instance_id : Node → Option (List ℕ)
instance_id n = option_and_then id_of (instance_of n.kind)

-- the name under which a node is imported, or else the name of the export whose alias it is
abbrev pub own_name : Node → Option (List ℕ)
own_name n = option_or (import_name n.form) (alias_name n.form)

-- the name, where it is among the imports
abbrev pub if_imported : Named Meaning → Option (List ℕ) → Option (List ℕ)
if_imported imports None = None
if_imported imports (Some name) = if is_some (look_up name imports) then Some name else None

-- the import for which a node is given by its identifier alone
abbrev pub name_inferred : Named Meaning → List ℕ → Node → List ℕ
name_inferred imports name n = unwrap_or
    (option_or (if_imported imports (instance_id n)) (if_imported imports (own_name n))) (find_name name imports)

-- an import for which nothing is given yet: where the node exports that name, its alias is given
abbrev pub spread_step : ℕ → Named Meaning → Giving → List ℕ × Meaning → Giving
spread_step node exports g x = if is_some (look_up x.0 g.arguments) then g else elim (look_up x.0 exports)
    [ None ↦ g | Some k ↦ given_too g x.0 (alias_at (at g.composition node) x.0 k) ]

-- that for each import, in the order of the imports
abbrev pub spread_from : Named Meaning → ℕ → Named Meaning → Giving → Giving
spread_from imports node exports old = fold (spread_step node exports) old imports

-- a spread is of an instance, and gives something
abbrev pub Spreads : Named Meaning → Giving → Ident → Giving → Type 0
Spreads imports old id new = (node : ℕ) × (i : Meaning) × StandsFor old.composition.declared id.string node
    × (instance_at old.composition node ≡ Some i)
    × (new ≡ spread_from imports node (exports_of i) old) × (new.arguments ≢ old.arguments)

-- the spreads among the arguments, in order
abbrev pub spread_of : InstantiationArgument → List Ident
spread_of (InstantiationArgument.spread x) = x ∷ []
spread_of _ = []

abbrev pub spreads_of : Arguments → List Ident
spreads_of Arguments.none = []
spreads_of (Arguments.more a rest) = spread_of a ++ spreads_of rest

abbrev pub is_fill : InstantiationArgument → Bool
is_fill (InstantiationArgument.fill s) = true
is_fill _ = false

abbrev pub has_fill : Arguments → Bool
has_fill Arguments.none = false
has_fill (Arguments.more a rest) = is_fill a || has_fill rest

-- no argument is left
abbrev pub IsEmpty : Arguments → Type 0
IsEmpty Arguments.none = Unit {0}
IsEmpty (Arguments.more a rest) = ⊥

-- the argument is for an import, and its node fits it
abbrev pub Fits : Rules → Named Meaning → List Node → List ℕ × ℕ → Type 0
Fits rules imports ns a = (wants : Meaning) × StandsFor imports a.0 wants × (rules.passes (kind_at ns a.1) wants ≡ None)

-- the imports for which nothing is given
abbrev pub left_out : Named Meaning → Named ℕ → Named Meaning
left_out imports arguments = filter (λ x. is_none (look_up x.0 arguments)) imports

-- nothing is left out, but by a fill
abbrev pub IsComplete : Named Meaning → Bool → Named ℕ → Type 0
IsComplete imports filled arguments = IsTrue filled ⊎ (left_out imports arguments ≡ [])

-- with its arguments given, an instance of the package is made: the next node
pub record Instantiates (rules : Rules) (p : Contents) (key : Key) (filled : Bool) (given : Giving) (new : At) : Type
    0 where
  pub fit : AllByRecursion (Fits rules (imports_in p) given.composition.nodes) given.arguments
  pub complete : IsComplete (imports_in p) filled given.arguments
  pub made : new ≡ at (with_instance given.composition key p.instance given.arguments) (next_of given.composition)

-- ---- expressions

abbrev mutual
  -- in the old composition the expression denotes a node of a new one
  pub Stands : Given → Composition → Expr → At → Type 0
  Stands s old (Expr.expr span first others) new = (mid : At) × PrimaryStands s old first mid
      × Steps Accesses mid others new

  pub PrimaryStands : Given → Composition → PrimaryExpr → At → Type 0
  -- the package is known; its arguments are given in order, then those of the spreads; then the instance is made
  PrimaryStands s old (PrimaryExpr.new span name args) new = (p : Contents) × (given : Giving) × (all : Giving)
      × (instantiable s name ≡ Some p)
      × Gives s (imports_in p) (nothing_given old) args given
      × Steps (Spreads (imports_in p)) given (spreads_of args) all
      × Instantiates s.rules p (key_named name) (has_fill args) all new
  PrimaryStands s old (PrimaryExpr.nested span e) new = Stands s old e new
  PrimaryStands s old (PrimaryExpr.ident id) new = (node : ℕ) × StandsFor old.declared id.string node
      × (new ≡ at old node)

  -- the arguments that aren't spreads, in order
  pub Gives : Given → Named Meaning → Giving → Arguments → Giving → Type 0
  Gives s imports old Arguments.none new = new ≡ old
  Gives s imports old (Arguments.more a rest) new = (mid : Giving) × GivesOne s imports rest old a mid
      × Gives s imports mid rest new

  -- an argument before the rest: a fill is the last; a node is given for a name that has none yet
  pub GivesOne : Given → Named Meaning → Arguments → Giving → InstantiationArgument → Giving → Type 0
  GivesOne s imports rest old (InstantiationArgument.fill span) new = IsEmpty rest × (new ≡ old)
  GivesOne s imports rest old (InstantiationArgument.spread id) new = new ≡ old
  GivesOne s imports rest old (InstantiationArgument.named name e) new = (a : At) × Stands s old.composition e a
      × IsFresh (name_meant name imports) old.arguments × (new ≡ given_too old (name_meant name imports) a)
  GivesOne s imports rest old (InstantiationArgument.inferred id) new = (node : ℕ) × (n : Node)
      × StandsFor old.composition.declared id.string node × (node_at old.composition node ≡ Some n)
      × IsFresh (name_inferred imports id.string n) old.arguments
      × (new ≡ given_too old (name_inferred imports id.string n) (at old.composition node))
