-- Of the packages only those that a document mentions matter.
use Rattle.wac_resolution_rules.proofs.Common.{◌≡◌, ℕ, zero, suc, List, [], ◌∷◌, ◌++◌, refl, sym, ap, subst, Option, Some, None, Bool, true, false, cond, is_some, ◌||◌, ◌↔◌, flat_map, option_and_then, if◌then◌else◌, AllByRecursion, list_any, bytes_eq, bytes_eq-Decides, instance, Meaning, Named, look_up, IsFresh, Steps, kind_of, promoted, exports_of, Key, same_key, same_version, Packages, Contents, package_of, Ident, PackageName, PackagePath, PostfixExpr, Expr, PrimaryExpr, Arguments, InstantiationArgument, ImportType, ExportOptions, Statement, Document}
use Rattle.std.specs.Prelude.{fold}
use Rattle.std.proofs.lemmas.Map.Entries.{lookup-filter-keys}
use Rattle.wac_resolution_rules.specs.Kinds.{world_of}
use Rattle.wac_resolution_rules.specs.Given.{Given, instantiable, key_named, imports_in}
use Rattle.wac_resolution_rules.specs.Composition.{imported, definition, aliased, Composition, Node, named_at, binding, root_scope, with_node, with_resources, start}
use Rattle.wac_resolution_rules.specs.Nodes.{imports, next_of, alias_in, with_alias, key_of_node}
use Rattle.wac_resolution_rules.specs.Expressions.{At, at, accessed, alias_at, Accesses, Giving, nothing_given, given_too, name_meant, spread_step, Spreads, spreads_of, has_fill, Instantiates, left_out, Stands, PrimaryStands, Gives, GivesOne}
use Rattle.wac_resolution_rules.specs.Statements.{ImportsKind, name_imported, ExportsOne, ExportsBy, StatementStep, Composes}
use Rattle.wac_resolution_rules.specs.Target.{open_imports, ImportAllowed, ExportMet, MeetsTarget}
use Rattle.wac_resolution_rules.specs.ResolvedDocument.{Describes}
use Rattle.wac_resolution_rules.specs.Mentions.{Mention, name_mentions, expr_mentions, primary_mentions, arguments_mentions, argument_mentions, import_type_mentions, statement_mentions, target_mentions, mentions, Agree, given_over, kept, IsMentioned, KeyHolds, KeysHold}
use Rattle.wac_resolution_rules.specs.TypeStatements.{identifier_of}
use Rattle.wac_resolution_rules.proofs.StatementsStop.{all_append, all_prefix, declares_what}
use Rattle.wac_resolution_rules.proofs.Prefixes.{named_at_suc}
use Rattle.wac_resolution_rules.proofs.TypesMention.{along, agree_prefix, steps_agree, path_agrees, interface_agrees, declares_agrees}

-- ---- expressions

supplied_agrees : (ps qs : Packages) (b : Bool) (m : Mention) → Agree ps qs (if b then [] else m ∷ []) → (if b then None else package_of m.0 ps) ≡ (if b then None else package_of m.0 qs)
supplied_agrees ps qs true m h = refl
supplied_agrees ps qs false m h = h.0

pub instantiable_agrees : (g : Given) (ps qs : Packages) (x : PackageName) → Agree ps qs (name_mentions g.context.own x) → instantiable (given_over g ps) x ≡ instantiable (given_over g qs) x
instantiable_agrees g ps qs x h = supplied_agrees ps qs (bytes_eq x.name g.context.own) (key_named x, x.span) h

mutual
  pub stands_agree : (g : Given) (ps qs : Packages) (old : Composition) (x : Expr) → Agree ps qs (expr_mentions g.context.own x) → Stands (given_over g ps) old x ≡ Stands (given_over g qs) old x
  stands_agree g ps qs old (Expr.expr span first others) h = λ i new. (mid : At) × first_agrees g ps qs old first h i mid × Steps Accesses mid others new

  pub first_agrees : (g : Given) (ps qs : Packages) (old : Composition) (x : PrimaryExpr) → Agree ps qs (primary_mentions g.context.own x) → PrimaryStands (given_over g ps) old x ≡ PrimaryStands (given_over g qs) old x
  first_agrees g ps qs old (PrimaryExpr.new span name args) h =
      let r = agree_prefix ps qs (name_mentions g.context.own name) (arguments_mentions g.context.own args) h in
      λ i new. (p : Contents) × (given : Giving) × (all : Giving) × (instantiable_agrees g ps qs name r.0 i ≡ Some p)
      × gives_agree g ps qs (imports_in p) (nothing_given old) args r.1 i given × Steps (Spreads (imports_in p)) given (spreads_of args) all × Instantiates g.rules p (key_named name) (has_fill args) all new
  first_agrees g ps qs old (PrimaryExpr.nested span x) h = stands_agree g ps qs old x h
  first_agrees g ps qs old (PrimaryExpr.ident id) h = refl

  pub gives_agree : (g : Given) (ps qs : Packages) (imports : Named Meaning) (old : Giving) (x : Arguments) → Agree ps qs (arguments_mentions g.context.own x) → Gives (given_over g ps) imports old x ≡ Gives (given_over g qs) imports old x
  gives_agree g ps qs imports old Arguments.none h = refl
  gives_agree g ps qs imports old (Arguments.more a rest) h =
      let r = agree_prefix ps qs (argument_mentions g.context.own a) (arguments_mentions g.context.own rest) h in
      λ i new. (mid : Giving) × give_agrees g ps qs imports rest old a r.0 i mid × gives_agree g ps qs imports mid rest r.1 i new

  pub give_agrees : (g : Given) (ps qs : Packages) (imports : Named Meaning) (rest : Arguments) (old : Giving) (x : InstantiationArgument) → Agree ps qs (argument_mentions g.context.own x)
      → GivesOne (given_over g ps) imports rest old x ≡ GivesOne (given_over g qs) imports rest old x
  give_agrees g ps qs imports rest old (InstantiationArgument.fill span) h = refl
  give_agrees g ps qs imports rest old (InstantiationArgument.spread id) h = refl
  give_agrees g ps qs imports rest old (InstantiationArgument.named name x) h = λ i new. (a : At) × stands_agree g ps qs old.composition x h i a
      × IsFresh (name_meant name imports) old.arguments × (new ≡ given_too old (name_meant name imports) a)
  give_agrees g ps qs imports rest old (InstantiationArgument.inferred id) h = refl

-- ---- statements

pub kind_agrees : (g : Given) (ps qs : Packages) (old : Composition) (x : ImportType) → Agree ps qs (import_type_mentions g.context.own x) → ImportsKind (given_over g ps) old x ≡ ImportsKind (given_over g qs) old x
kind_agrees g ps qs old (ImportType.func x) h = refl
kind_agrees g ps qs old (ImportType.interface x) h = λ i k after. (entry : Meaning) × interface_agrees g.context ps qs (root_scope old) old.resources None x.items h i entry after × (k ≡ kind_of instance entry)
kind_agrees g ps qs old (ImportType.path x) h = λ i k after. path_agrees g.context ps qs (root_scope old) x h i k × (after ≡ old.resources)
kind_agrees g ps qs old (ImportType.ident x) h = refl

exports_same : (g : Given) (ps qs : Packages) (a : At) (x : ExportOptions) → ExportsBy (given_over g ps) a x ≡ ExportsBy (given_over g qs) a x
exports_same g ps qs a (ExportOptions.spread span) = refl
exports_same g ps qs a (ExportOptions.rename name) = refl
exports_same g ps qs a ExportOptions.none = refl

-- a statement yields what it yields with other packages that agree on what it mentions
pub goes_agree : (g : Given) (ps qs : Packages) (old : Composition) (x : Statement) → Agree ps qs (statement_mentions g.context.own x) → StatementStep (given_over g ps) old x ≡ StatementStep (given_over g qs) old x
goes_agree g ps qs old (Statement.import_statement x) h = λ i new. (k : Meaning) × (n : ℕ) × kind_agrees g ps qs old x.ty h i k n
    × IsFresh (name_imported x k) (imports old) × (g.rules.named (name_imported x k) ≡ None) × IsFresh x.id.string old.declared
    × (new ≡ binding (with_node (with_resources old n) (imported (name_imported x k)) (promoted k)) x.id.string (next_of old))
goes_agree g ps qs old (Statement.let_statement x) h = λ i new. (a : At) × stands_agree g ps qs old x.expr h i a × IsFresh x.id.string a.composition.declared × (new ≡ binding a.composition x.id.string a.node)
goes_agree g ps qs old (Statement.export_statement x) h = λ i new. (a : At) × stands_agree g ps qs old x.expr h i a × exports_same g ps qs a x.options i new
goes_agree g ps qs old (Statement.type_statement x) h = declares_agrees g.context ps qs old x h

pub composes_agree : (g : Given) (ps qs : Packages) (old : Composition) (xs : List Statement) → Agree ps qs (flat_map (statement_mentions g.context.own) xs) → Composes (given_over g ps) old xs ≡ Composes (given_over g qs) old xs
composes_agree g ps qs old xs h = steps_agree (StatementStep (given_over g ps)) (StatementStep (given_over g qs)) (statement_mentions g.context.own) ps qs (goes_agree g ps qs) old xs h

-- ---- the packages of nodes

-- what holds of each key that is mentioned
abbrev pub EachMention : (Key → Type 0) → List Mention → Type 0
EachMention P ms = AllByRecursion (λ (m : Mention). P m.0) ms

keys_and : (P : Key → Type 0) (ns : List Node) (n : Node) → KeysHold P ns → KeyHolds P (key_of_node n.form) → KeysHold P (ns ++ n ∷ [])
keys_and P ns n h k = all_append (λ (n : Node). KeyHolds P (key_of_node n.form)) ns (n ∷ []) h (k, tt)

keys_alias : (P : Key → Type 0) (c : Composition) (node : ℕ) (name : List ℕ) (k : Meaning) → KeysHold P c.nodes → KeysHold P (with_alias c node name k).nodes
keys_alias P c node name k h = go (alias_in c node name)
  where
    go : (o : Option ℕ) → KeysHold P (elim o as (λ _. Composition) [ None ↦ with_node c (aliased node name) k | Some n ↦ c ]).nodes
    go None = keys_and P c.nodes _ h tt
    go (Some n) = h

keys_accesses : (P : Key → Type 0) (xs : List PostfixExpr) (old new : At) → KeysHold P old.composition.nodes → Steps Accesses old xs new → KeysHold P new.composition.nodes
keys_accesses P [] old new h p = subst (λ (a : At). KeysHold P a.composition.nodes) (sym p) h
keys_accesses P (x ∷ xs) old new h p =
    keys_accesses P xs p.0 new (subst (λ (a : At). KeysHold P a.composition.nodes) (sym p.1.4) (keys_alias P old.composition old.node (accessed x (exports_of p.1.0)) p.1.1 h)) p.2

keys_step : (P : Key → Type 0) (node : ℕ) (exports : Named Meaning) (g : Giving) (x : List ℕ × Meaning) → KeysHold P g.composition.nodes → KeysHold P (spread_step node exports g x).composition.nodes
keys_step P node exports g x h = given (is_some (look_up x.0 g.arguments))
  where
    exported : (o : Option Meaning) → KeysHold P (elim o as (λ _. Giving) [ None ↦ g | Some k ↦ given_too g x.0 (alias_at (at g.composition node) x.0 k) ]).composition.nodes
    exported None = h
    exported (Some k) = keys_alias P g.composition node x.0 k h

    given : (b : Bool) → KeysHold P (cond b g (elim (look_up x.0 exports) as (λ _. Giving) [ None ↦ g | Some k ↦ given_too g x.0 (alias_at (at g.composition node) x.0 k) ])).composition.nodes
    given true = h
    given false = exported (look_up x.0 exports)

keys_fold : (P : Key → Type 0) (node : ℕ) (exports imports : Named Meaning) (g : Giving) → KeysHold P g.composition.nodes → KeysHold P (fold (spread_step node exports) g imports).composition.nodes
keys_fold P node exports [] g h = h
keys_fold P node exports (x ∷ xs) g h = keys_fold P node exports xs (spread_step node exports g x) (keys_step P node exports g x h)

keys_spreads : (P : Key → Type 0) (imports : Named Meaning) (ids : List Ident) (old new : Giving) → KeysHold P old.composition.nodes → Steps (Spreads imports) old ids new → KeysHold P new.composition.nodes
keys_spreads P imports [] old new h p = subst (λ (a : Giving). KeysHold P a.composition.nodes) (sym p) h
keys_spreads P imports (id ∷ ids) old new h p =
    keys_spreads P imports ids p.0 new (subst (λ (a : Giving). KeysHold P a.composition.nodes) (sym p.1.4) (keys_fold P p.1.0 (exports_of p.1.1) imports old h)) p.2

key_there : (P : Key → Type 0) (ps : Packages) (b : Bool) (m : Mention) (p : Contents) → EachMention P (if b then [] else m ∷ []) → (if b then None else package_of m.0 ps) ≡ Some p → P m.0
key_there P ps true m p h e = absurd (cc e)
key_there P ps false m p h e = h.0

mutual
  keys_stands : (g : Given) (P : Key → Type 0) (old : Composition) (x : Expr) (a : At) → EachMention P (expr_mentions g.context.own x) → KeysHold P old.nodes → Stands g old x a → KeysHold P a.composition.nodes
  keys_stands g P old (Expr.expr span first others) a m h p = keys_accesses P others p.0 a (keys_first g P old first p.0 m h p.1) p.2

  keys_first : (g : Given) (P : Key → Type 0) (old : Composition) (x : PrimaryExpr) (a : At) → EachMention P (primary_mentions g.context.own x) → KeysHold P old.nodes → PrimaryStands g old x a → KeysHold P a.composition.nodes
  keys_first g P old (PrimaryExpr.new span name args) a m h p =
      let r = all_prefix (λ (m : Mention). P m.0) (name_mentions g.context.own name) (arguments_mentions g.context.own args) m in
      let k = key_there P g.context.packages (bytes_eq name.name g.context.own) (key_named name, name.span) p.0 r.0 p.3 in
      let q = keys_spreads P (imports_in p.0) (spreads_of args) p.1 p.2 (keys_gives g P (imports_in p.0) (nothing_given old) args p.1 r.1 h p.4) p.5 in
      subst (λ (a : At). KeysHold P a.composition.nodes) (sym p.6.made) (keys_and P p.2.composition.nodes _ q k)
  keys_first g P old (PrimaryExpr.nested span x) a m h p = keys_stands g P old x a m h p
  keys_first g P old (PrimaryExpr.ident id) a m h p = subst (λ (a : At). KeysHold P a.composition.nodes) (sym p.2) h

  keys_gives : (g : Given) (P : Key → Type 0) (imports : Named Meaning) (old : Giving) (x : Arguments) (new : Giving) → EachMention P (arguments_mentions g.context.own x) → KeysHold P old.composition.nodes
      → Gives g imports old x new → KeysHold P new.composition.nodes
  keys_gives g P imports old Arguments.none new m h p = subst (λ (a : Giving). KeysHold P a.composition.nodes) (sym p) h
  keys_gives g P imports old (Arguments.more x rest) new m h p =
      let r = all_prefix (λ (m : Mention). P m.0) (argument_mentions g.context.own x) (arguments_mentions g.context.own rest) m in
      keys_gives g P imports p.0 rest new r.1 (keys_give g P imports rest old x p.0 r.0 h p.1) p.2

  keys_give : (g : Given) (P : Key → Type 0) (imports : Named Meaning) (rest : Arguments) (old : Giving) (x : InstantiationArgument) (new : Giving) → EachMention P (argument_mentions g.context.own x) → KeysHold P old.composition.nodes
      → GivesOne g imports rest old x new → KeysHold P new.composition.nodes
  keys_give g P imports rest old (InstantiationArgument.fill span) new m h p = subst (λ (a : Giving). KeysHold P a.composition.nodes) (sym p.1) h
  keys_give g P imports rest old (InstantiationArgument.spread id) new m h p = subst (λ (a : Giving). KeysHold P a.composition.nodes) (sym p) h
  keys_give g P imports rest old (InstantiationArgument.named name x) new m h p =
      subst (λ (a : Giving). KeysHold P a.composition.nodes) (sym p.3) (keys_stands g P old.composition x p.0 m h p.1)
  keys_give g P imports rest old (InstantiationArgument.inferred id) new m h p = subst (λ (a : Giving). KeysHold P a.composition.nodes) (sym p.5) h

keys_binding : (P : Key → Type 0) (ns : List Node) (i : ℕ) (name : List ℕ) → KeysHold P ns → KeysHold P (named_at ns i name)
keys_binding P [] i name h = h
keys_binding P (n ∷ ns) zero name h = h
keys_binding P (n ∷ ns) (suc i) name h = subst (λ (l : List Node). KeysHold P l) (sym (named_at_suc n ns i name)) (h.0, keys_binding P ns i name h.1)

keys_each : (g : Given) (P : Key → Type 0) (node : ℕ) (xs : Named Meaning) (old new : Composition) → KeysHold P old.nodes → Steps (ExportsOne g node) old xs new → KeysHold P new.nodes
keys_each g P node [] old new h p = subst (λ (c : Composition). KeysHold P c.nodes) (sym p) h
keys_each g P node (x ∷ xs) old new h p =
    keys_each g P node xs p.0 new (subst (λ (c : Composition). KeysHold P c.nodes) (sym p.1.3) (keys_alias P old node x.0 x.1 h)) p.2

keys_by : (g : Given) (P : Key → Type 0) (a : At) (x : ExportOptions) (new : Composition) → KeysHold P a.composition.nodes → ExportsBy g a x new → KeysHold P new.nodes
keys_by g P a (ExportOptions.spread span) new h p = keys_each g P a.node _ a.composition new h p.3
keys_by g P a (ExportOptions.rename name) new h p = subst (λ (c : Composition). KeysHold P c.nodes) (sym p.3) h
keys_by g P a ExportOptions.none new h p = subst (λ (c : Composition). KeysHold P c.nodes) (sym p.4.3) h

keys_goes : (g : Given) (P : Key → Type 0) (old : Composition) (x : Statement) (new : Composition) → EachMention P (statement_mentions g.context.own x) → KeysHold P old.nodes → StatementStep g old x new → KeysHold P new.nodes
keys_goes g P old (Statement.import_statement x) new m h p =
    subst (λ (c : Composition). KeysHold P c.nodes) (sym p.6) (keys_binding P (with_node (with_resources old p.1) (imported (name_imported x p.0)) (promoted p.0)).nodes (next_of old) x.id.string (keys_and P old.nodes _ h tt))
keys_goes g P old (Statement.let_statement x) new m h p =
    subst (λ (c : Composition). KeysHold P c.nodes) (sym p.3) (keys_binding P p.0.composition.nodes p.0.node x.id.string (keys_stands g P old x.expr p.0 m h p.1))
keys_goes g P old (Statement.export_statement x) new m h p = keys_by g P p.0 x.options new (keys_stands g P old x.expr p.0 m h p.1) p.2
keys_goes g P old (Statement.type_statement x) new m h p =
    let d = declares_what g.context old x new p in
    subst (λ (c : Composition). KeysHold P c.nodes) (sym d.2.2) (keys_binding P (with_node (with_resources old d.1) definition d.0).nodes (next_of old) (identifier_of x).string (keys_and P old.nodes _ h tt))

pub keys_composes : (g : Given) (P : Key → Type 0) (xs : List Statement) (old new : Composition) → EachMention P (flat_map (statement_mentions g.context.own) xs) → KeysHold P old.nodes → Composes g old xs new → KeysHold P new.nodes
keys_composes g P [] old new m h p = subst (λ (c : Composition). KeysHold P c.nodes) (sym p) h
keys_composes g P (x ∷ xs) old new m h p =
    let r = all_prefix (λ (m : Mention). P m.0) (statement_mentions g.context.own x) (flat_map (statement_mentions g.context.own) xs) m in
    keys_composes g P xs p.0 new r.1 (keys_goes g P old x p.0 r.0 h p.1) p.2

-- ---- the target

open_agree : (g : Given) (ps qs : Packages) (n : Node) → KeyHolds (λ key. package_of key ps ≡ package_of key qs) (key_of_node n.form) → open_imports (given_over g ps) n ≡ open_imports (given_over g qs) n
open_agree g ps qs n h = go (key_of_node n.form) h
  where
    go : (o : Option Key) → KeyHolds (λ key. package_of key ps ≡ package_of key qs) o
        → (elim (option_and_then (λ key. package_of key ps) o) as (λ _. Named Meaning) [ None ↦ [] | Some p ↦ left_out (imports_in p) n.arguments ]) ≡ (elim (option_and_then (λ key. package_of key qs) o) as (λ _. Named Meaning) [ None ↦ [] | Some p ↦ left_out (imports_in p) n.arguments ])
    go None k = refl
    go (Some key) k = ap (λ (o : Option Contents). elim o as (λ _. Named Meaning) [ None ↦ [] | Some p ↦ left_out (imports_in p) n.arguments ]) k

pub opens_agree : (g : Given) (ps qs : Packages) (ns : List Node) → KeysHold (λ key. package_of key ps ≡ package_of key qs) ns → flat_map (open_imports (given_over g ps)) ns ≡ flat_map (open_imports (given_over g qs)) ns
opens_agree g ps qs [] h = refl
opens_agree g ps qs (n ∷ ns) h = λ i. open_agree g ps qs n h.0 i ++ opens_agree g ps qs ns h.1 i

pub target_agrees : (g : Given) (ps qs : Packages) (c : Composition) (t : Option PackagePath) → Agree ps qs (target_mentions g.context.own t) → KeysHold (λ key. package_of key ps ≡ package_of key qs) c.nodes → MeetsTarget (given_over g ps) c t ≡ MeetsTarget (given_over g qs) c t
target_agrees g ps qs c None m h = refl
target_agrees g ps qs c (Some p) m h = λ i. (k : Meaning) × (w : Meaning) × path_agrees g.context ps qs (root_scope c) p m i k × (world_of k ≡ Some w)
    × (AllByRecursion (ImportAllowed (given_over g ps) w) (imports c ++ opens_agree g ps qs c.nodes h i) × AllByRecursion (ExportMet (given_over g ps) c) (exports_of w))

-- ---- documents

-- a document describes what it describes with other packages that agree on what it mentions
pub describes_agree : (g : Given) (ps qs : Packages) (doc : Document) (c : Composition) → g.context.own ≡ doc.directive.package_name.name → Agree ps qs (mentions doc) → Describes (given_over g ps) doc c → Describes (given_over g qs) doc c
describes_agree g ps qs doc c own m p =
    let n = subst (λ (o : List ℕ). Agree ps qs (target_mentions o doc.directive.targets ++ flat_map (statement_mentions o) doc.statements)) (sym own) m in
    let r = agree_prefix ps qs (target_mentions g.context.own doc.directive.targets) (flat_map (statement_mentions g.context.own) doc.statements) n in (
      along (λ i. composes_agree g ps qs start doc.statements r.1 i c) p.0,
      along (target_agrees g ps qs c doc.directive.targets r.0 (keys_composes (given_over g ps) (λ key. package_of key ps ≡ package_of key qs) doc.statements start c r.1 tt p.0)) p.1,
    )

pub agree_back : (ps qs : Packages) (ms : List Mention) → Agree ps qs ms → Agree qs ps ms
agree_back ps qs [] h = tt
agree_back ps qs (m ∷ ms) h = (sym h.0, agree_back ps qs ms h.1)

or_left : (a b : Bool) → a ≡ true → (a || b) ≡ true
or_left true b e = refl
or_left false b e = absurd (cc e)

or_right : (a b : Bool) → b ≡ true → (a || b) ≡ true
or_right true b e = refl
or_right false b e = e

-- the packages that are kept are those that are mentioned
pub kept_agree : (all ms : List Mention) (ps : Packages) → ((k : Key) → list_any (λ (n : Mention). same_key n.0 k) ms ≡ true → list_any (λ (n : Mention). same_key n.0 k) all ≡ true) → Agree (kept all ps) ps ms
kept_agree all [] ps sub = tt
kept_agree all (m ∷ ms) ps sub = (
  lookup-filter-keys (λ k. same_key m.0 k) (λ k. list_any (λ (n : Mention). same_key n.0 k) all) true (λ k e. sub k (or_left (same_key m.0 k) (list_any (λ (n : Mention). same_key n.0 k) ms) e)) ps,
  kept_agree all ms ps (λ k e. sub k (or_right (same_key m.0 k) (list_any (λ (n : Mention). same_key n.0 k) ms) e)),
)

-- only mentioned packages matter
pub only_mentioned : (g : Given) (ps : Packages) (doc : Document) (c : Composition) → g.context.own ≡ doc.directive.package_name.name
    → Describes (given_over g (kept (mentions doc) ps)) doc c ↔ Describes (given_over g ps) doc c
only_mentioned g ps doc c own =
    let h = kept_agree (mentions doc) (mentions doc) ps (λ k e. e) in
    (describes_agree g (kept (mentions doc) ps) ps doc c own h, describes_agree g ps (kept (mentions doc) ps) doc c own (agree_back (kept (mentions doc) ps) ps (mentions doc) h))

bytes_same : (text : List ℕ) → bytes_eq text text ≡ true
bytes_same text = (bytes_eq-Decides text text).1 refl

version_same : (v : Option (List ℕ)) → same_version v v ≡ true
version_same None = refl
version_same (Some v) = bytes_same v

same_key_same : (key : Key) → same_key key key ≡ true
same_key_same key = cc (bytes_same key.0, version_same key.1)

each_mentioned : (all ms : List Mention) → ((k : Key) → IsMentioned ms k → IsMentioned all k) → EachMention (IsMentioned all) ms
each_mentioned all [] sub = tt
each_mentioned all (m ∷ ms) sub = (
  sub m.0 (or_left (same_key m.0 m.0) (list_any (λ (n : Mention). same_key n.0 m.0) ms) (same_key_same m.0)),
  each_mentioned all ms (λ k e. sub k (or_right (same_key m.0 k) (list_any (λ (n : Mention). same_key n.0 k) ms) e)),
)

-- every package that a composition has an instance of is mentioned
pub instances_mentioned : (g : Given) (doc : Document) (c : Composition) → g.context.own ≡ doc.directive.package_name.name → Describes g doc c → KeysHold (IsMentioned (mentions doc)) c.nodes
instances_mentioned g doc c own p =
    let m = each_mentioned (mentions doc) (mentions doc) (λ k e. e) in
    let n = subst (λ (o : List ℕ). EachMention (IsMentioned (mentions doc)) (target_mentions o doc.directive.targets ++ flat_map (statement_mentions o) doc.statements)) (sym own) m in
    let r = all_prefix (λ (n : Mention). IsMentioned (mentions doc) n.0) (target_mentions g.context.own doc.directive.targets) (flat_map (statement_mentions g.context.own) doc.statements) n in
    keys_composes g (IsMentioned (mentions doc)) doc.statements start c r.1 tt p.0
