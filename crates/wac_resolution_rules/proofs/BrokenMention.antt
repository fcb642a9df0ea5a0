-- Of the packages only those that a document mentions matter to what fails in it first.
use Rattle.wac_resolution_rules.proofs.Common.{◌≡◌, ◌⊎◌, inl, inr, ◌↔◌, ℕ, List, ◌++◌, map, refl, sym, subst, Option, Some, None, flat_map, AllByRecursion, Span, Meaning, Named, look_up, Steps, Fails, Packages, Contents, package_of, argument_name_span, PackagePath, Expr, PrimaryExpr, Arguments, InstantiationArgument, ImportType, ImportStatement, LetStatement, ExportOptions, ExportStatement, Statement, Document, Error, unknown_package}
use Rattle.wac_ast_grammar.specs.Grammar.{primary_span}
use Rattle.wac_resolution_rules.specs.Given.{Given, imports_in}
use Rattle.wac_resolution_rules.specs.Composition.{Composition, root_scope, start}
use Rattle.wac_resolution_rules.specs.Nodes.{imports}
use Rattle.wac_resolution_rules.specs.Expressions.{At, Accesses, Giving, nothing_given, name_meant, Spreads, spreads_of}
use Rattle.wac_resolution_rules.specs.Places.{Places, Placed, Leads, places_after, placed_start}
use Rattle.wac_resolution_rules.specs.Target.{all_imports, ImportAllowed}
use Rattle.wac_resolution_rules.specs.BrokenExpressions.{ReachedAt, IsGivenAlready, AccessBroken, SpreadBroken, InstantiationBroken, ExprBroken, PrimaryBroken, ArgumentsBroken, ArgumentBroken}
use Rattle.wac_resolution_rules.specs.BrokenStatements.{placed_imports, ImportKindBroken, ImportBroken, LetBroken, ExportOptionsBroken, ExportBroken, StatementBroken, TargetWorldBroken, TargetBroken}
use Rattle.wac_resolution_rules.specs.ResolvedDocument.{StatementFails, TargetFails, FirstFailing}
use Rattle.wac_resolution_rules.specs.Mentions.{path_mentions, name_mentions, expr_mentions, primary_mentions, arguments_mentions, argument_mentions, import_type_mentions, statement_mentions, target_mentions, mentions, Agree, given_over, kept, KeysHold}
use Rattle.wac_resolution_rules.proofs.FirstFailing.{leads_composes}
use Rattle.wac_resolution_rules.proofs.TypesMention.{along, agree_prefix, steps_agree, path_agrees}
use Rattle.wac_resolution_rules.proofs.StatementsMention.{instantiable_agrees, stands_agree, first_agrees, gives_agree, give_agrees, kind_agrees, goes_agree, keys_composes, opens_agree, target_agrees, agree_back, kept_agree}
use Rattle.wac_resolution_rules.proofs.BrokenTypesMention.{agree_split, path_breaks_agree, interface_breaks, declaration_breaks}

-- ---- expressions

mutual
  expr_breaks_agree : (g : Given) (ps qs : Packages) (old : Composition) (e : Error) (x : Expr) → Agree ps qs (expr_mentions g.context.own x) → ExprBroken (given_over g ps) old e x ≡ ExprBroken (given_over g qs) old e x
  expr_breaks_agree g ps qs old e (Expr.expr span first others) h = λ i.
      first_breaks_agree g ps qs old e first h i ⊎ ((mid : At) × first_agrees g ps qs old first h i mid × Fails Accesses (AccessBroken (primary_span first) e) mid others)

  first_breaks_agree : (g : Given) (ps qs : Packages) (old : Composition) (e : Error) (x : PrimaryExpr) → Agree ps qs (primary_mentions g.context.own x) → PrimaryBroken (given_over g ps) old e x ≡ PrimaryBroken (given_over g qs) old e x
  first_breaks_agree g ps qs old e (PrimaryExpr.new span x args) h =
      let r = agree_prefix ps qs (name_mentions g.context.own x) (arguments_mentions g.context.own args) h in
      λ i. ((instantiable_agrees g ps qs x r.0 i ≡ None) × (e ≡ unknown_package x.name x.span))
      ⊎ ((p : Contents) × (instantiable_agrees g ps qs x r.0 i ≡ Some p) × arguments_break_agree g ps qs (imports_in p) (nothing_given old) e args r.1 i)
      ⊎ ((p : Contents) × (given : Giving) × (instantiable_agrees g ps qs x r.0 i ≡ Some p) × gives_agree g ps qs (imports_in p) (nothing_given old) args r.1 i given
      × Fails (Spreads (imports_in p)) (SpreadBroken (imports_in p) e) given (spreads_of args))
      ⊎ ((p : Contents) × (given : Giving) × (all : Giving) × (instantiable_agrees g ps qs x r.0 i ≡ Some p) × gives_agree g ps qs (imports_in p) (nothing_given old) args r.1 i given
      × Steps (Spreads (imports_in p)) given (spreads_of args) all × InstantiationBroken g p x args all e)
  first_breaks_agree g ps qs old e (PrimaryExpr.nested span x) h = expr_breaks_agree g ps qs old e x h
  first_breaks_agree g ps qs old e (PrimaryExpr.ident id) h = refl

  arguments_break_agree : (g : Given) (ps qs : Packages) (imports : Named Meaning) (old : Giving) (e : Error) (x : Arguments) → Agree ps qs (arguments_mentions g.context.own x)
      → ArgumentsBroken (given_over g ps) imports old e x ≡ ArgumentsBroken (given_over g qs) imports old e x
  arguments_break_agree g ps qs imports old e Arguments.none h = refl
  arguments_break_agree g ps qs imports old e (Arguments.more a rest) h =
      let r = agree_prefix ps qs (argument_mentions g.context.own a) (arguments_mentions g.context.own rest) h in
      λ i. argument_breaks_agree g ps qs imports rest old e a r.0 i ⊎ ((mid : Giving) × give_agrees g ps qs imports rest old a r.0 i mid × arguments_break_agree g ps qs imports mid e rest r.1 i)

  argument_breaks_agree : (g : Given) (ps qs : Packages) (imports : Named Meaning) (rest : Arguments) (old : Giving) (e : Error) (x : InstantiationArgument) → Agree ps qs (argument_mentions g.context.own x)
      → ArgumentBroken (given_over g ps) imports rest old e x ≡ ArgumentBroken (given_over g qs) imports rest old e x
  argument_breaks_agree g ps qs imports rest old e (InstantiationArgument.fill span) h = refl
  argument_breaks_agree g ps qs imports rest old e (InstantiationArgument.spread id) h = refl
  argument_breaks_agree g ps qs imports rest old e (InstantiationArgument.named name x) h = λ i.
      expr_breaks_agree g ps qs old.composition e x h i ⊎ ((a : At) × stands_agree g ps qs old.composition x h i a × IsGivenAlready old (name_meant name imports) (argument_name_span name) e)
  argument_breaks_agree g ps qs imports rest old e (InstantiationArgument.inferred id) h = refl

-- ---- statements

import_kind_breaks : (g : Given) (ps qs : Packages) (old : Composition) (e : Error) (x : ImportType) → Agree ps qs (import_type_mentions g.context.own x) → ImportKindBroken (given_over g ps) old e x → ImportKindBroken (given_over g qs) old e x
import_kind_breaks g ps qs old e (ImportType.func x) h b = b
import_kind_breaks g ps qs old e (ImportType.interface x) h b = interface_breaks g.context ps qs (root_scope old) None old.resources x.items e h b
import_kind_breaks g ps qs old e (ImportType.path x) h b = along (λ i. path_breaks_agree g.context ps qs (root_scope old) x h i e) b
import_kind_breaks g ps qs old e (ImportType.ident x) h b = b

import_breaks : (g : Given) (ps qs : Packages) (old : Composition) (places : Places) (e : Error) (x : ImportStatement) → Agree ps qs (import_type_mentions g.context.own x.ty)
    → ImportBroken (given_over g ps) old places e x → ImportBroken (given_over g qs) old places e x
import_breaks g ps qs old places e x h (inl b) = inl (import_kind_breaks g ps qs old e x.ty h b)
import_breaks g ps qs old places e x h (inr (k, after, means, b)) = inr (k, after, along (λ i. kind_agrees g ps qs old x.ty h i k after) means, b)

let_breaks : (g : Given) (ps qs : Packages) (old : Composition) (places : Places) (e : Error) (x : LetStatement) → Agree ps qs (expr_mentions g.context.own x.expr)
    → LetBroken (given_over g ps) old places e x → LetBroken (given_over g qs) old places e x
let_breaks g ps qs old places e x h (inl b) = inl (along (expr_breaks_agree g ps qs old e x.expr h) b)
let_breaks g ps qs old places e x h (inr (a, stands, b)) = inr (a, along (λ i. stands_agree g ps qs old x.expr h i a) stands, b)

options_break : (g : Given) (ps qs : Packages) (a : At) (places : Places) (e : Error) (x : Expr) (o : ExportOptions) → ExportOptionsBroken (given_over g ps) a places e x o → ExportOptionsBroken (given_over g qs) a places e x o
options_break g ps qs a places e x (ExportOptions.spread span) b = b
options_break g ps qs a places e x (ExportOptions.rename name) b = b
options_break g ps qs a places e x ExportOptions.none b = b

export_breaks : (g : Given) (ps qs : Packages) (old : Composition) (places : Places) (e : Error) (x : ExportStatement) → Agree ps qs (expr_mentions g.context.own x.expr)
    → ExportBroken (given_over g ps) old places e x → ExportBroken (given_over g qs) old places e x
export_breaks g ps qs old places e x h (inl b) = inl (along (expr_breaks_agree g ps qs old e x.expr h) b)
export_breaks g ps qs old places e x h (inr (a, stands, b)) = inr (a, along (λ i. stands_agree g ps qs old x.expr h i a) stands, options_break g ps qs a places e x.expr x.options b)

-- a statement breaks the rules that it breaks with other packages that agree on what it mentions
statement_breaks : (g : Given) (ps qs : Packages) (old : Composition) (places : Places) (e : Error) (x : Statement) → Agree ps qs (statement_mentions g.context.own x)
    → StatementBroken (given_over g ps) old places e x → StatementBroken (given_over g qs) old places e x
statement_breaks g ps qs old places e (Statement.import_statement x) h b = import_breaks g ps qs old places e x h b
statement_breaks g ps qs old places e (Statement.let_statement x) h b = let_breaks g ps qs old places e x h b
statement_breaks g ps qs old places e (Statement.export_statement x) h b = export_breaks g ps qs old places e x h b
statement_breaks g ps qs old places e (Statement.type_statement x) h b = declaration_breaks g.context ps qs old places x e h b

leads_agree : (g : Given) (ps qs : Packages) (old : Placed) (x : Statement) → Agree ps qs (statement_mentions g.context.own x) → Leads (given_over g ps) old x ≡ Leads (given_over g qs) old x
leads_agree g ps qs old x h = λ i new. goes_agree g ps qs old.composition x h i new.composition × (new.places ≡ places_after old.composition old.places x new.composition)

all_lead_agree : (g : Given) (ps qs : Packages) (old : Placed) (xs : List Statement) → Agree ps qs (flat_map (statement_mentions g.context.own) xs) → Steps (Leads (given_over g ps)) old xs ≡ Steps (Leads (given_over g qs)) old xs
all_lead_agree g ps qs old xs h = steps_agree (Leads (given_over g ps)) (Leads (given_over g qs)) (statement_mentions g.context.own) ps qs (leads_agree g ps qs) old xs h

-- ---- the target

-- an import with its place
abbrev PlacedImport : Type 0
PlacedImport = (List ℕ × Meaning) × Option Span

-- the packages of the nodes are the same
abbrev SameAtNodes : Packages → Packages → Composition → Type 0
SameAtNodes ps qs c = KeysHold (λ key. package_of key ps ≡ package_of key qs) c.nodes

reached_agree : (g : Given) (ps qs : Packages) (c : Composition) (p : Places) (w : Meaning) (x : PlacedImport) → SameAtNodes ps qs c
    → ReachedAt (λ (y : PlacedImport). ImportAllowed g w y.0) (placed_imports (given_over g ps) c p) x ≡ ReachedAt (λ (y : PlacedImport). ImportAllowed g w y.0) (placed_imports (given_over g qs) c p) x
reached_agree g ps qs c p w x h = λ i. ReachedAt (λ (y : PlacedImport). ImportAllowed g w y.0) (map (λ (n : List ℕ × Meaning). (n, look_up n.0 p.imported)) (imports c) ++ map (λ (n : List ℕ × Meaning). (n, None)) (opens_agree g ps qs c.nodes h i)) x

allowed_agree : (g : Given) (ps qs : Packages) (c : Composition) (w : Meaning) → SameAtNodes ps qs c → AllByRecursion (ImportAllowed g w) (all_imports (given_over g ps) c) ≡ AllByRecursion (ImportAllowed g w) (all_imports (given_over g qs) c)
allowed_agree g ps qs c w h = λ i. AllByRecursion (ImportAllowed g w) (imports c ++ opens_agree g ps qs c.nodes h i)

target_world_breaks : (g : Given) (ps qs : Packages) (c : Composition) (p : Places) (e : Error) (path : PackagePath) (w : Meaning) → SameAtNodes ps qs c
    → TargetWorldBroken (given_over g ps) c p e path w → TargetWorldBroken (given_over g qs) c p e path w
target_world_breaks g ps qs c p e path w h (inl b) = inl (record {
  imported = b.imported;
  reached = along (reached_agree g ps qs c p w b.imported h) b.reached;
  absent = b.absent;
  error = b.error;
})
target_world_breaks g ps qs c p e path w h (inr (inl b)) = inr (inl (record {
  imported = b.imported;
  kind = b.kind;
  reason = b.reason;
  reached = along (reached_agree g ps qs c p w b.imported h) b.reached;
  there = b.there;
  fails = b.fails;
  error = b.error;
}))
target_world_breaks g ps qs c p e path w h (inr (inr (inl b))) = inr (inr (inl (record {
  wanted = b.wanted;
  fit = along (allowed_agree g ps qs c w h) b.fit;
  reached = b.reached;
  fresh = b.fresh;
  error = b.error;
})))
target_world_breaks g ps qs c p e path w h (inr (inr (inr b))) = inr (inr (inr (record {
  wanted = b.wanted;
  node = b.node;
  reason = b.reason;
  span = b.span;
  fit = along (allowed_agree g ps qs c w h) b.fit;
  reached = b.reached;
  exported = b.exported;
  fails = b.fails;
  place = b.place;
  error = b.error;
})))

-- a target breaks the rules that it breaks with other packages that agree on what it and the nodes mention
target_breaks : (g : Given) (ps qs : Packages) (c : Composition) (places : Places) (e : Error) (path : PackagePath) → Agree ps qs (path_mentions g.context.own path) → SameAtNodes ps qs c
    → TargetBroken (given_over g ps) c places e path → TargetBroken (given_over g qs) c places e path
target_breaks g ps qs c places e path h k (inl b) = inl (along (λ i. path_breaks_agree g.context ps qs (root_scope c) path h i e) b)
target_breaks g ps qs c places e path h k (inr (m, means, inl b)) = inr (m, along (λ i. path_agrees g.context ps qs (root_scope c) path h i m) means, inl b)
target_breaks g ps qs c places e path h k (inr (m, means, inr (w, is, b))) =
    inr (m, along (λ i. path_agrees g.context ps qs (root_scope c) path h i m) means, inr (w, is, target_world_breaks g ps qs c places e path w k b))

-- ---- documents

statement_fails_too : (g : Given) (ps qs : Packages) (doc : Document) (e : Error) → Agree ps qs (flat_map (statement_mentions g.context.own) doc.statements) → StatementFails (given_over g ps) doc e → StatementFails (given_over g qs) doc e
statement_fails_too g ps qs doc e h f =
    let r = agree_split (statement_mentions g.context.own) ps qs f.before f.failing f.after (subst (λ (l : List Statement). Agree ps qs (flat_map (statement_mentions g.context.own) l)) f.split h) in
    record {
      before = f.before;
      failing = f.failing;
      after = f.after;
      split = f.split;
      so_far = f.so_far;
      leads = along (λ i. all_lead_agree g ps qs (placed_start start) f.before r.0 i f.so_far) f.leads;
      broken = statement_breaks g ps qs f.so_far.composition f.so_far.places e f.failing r.1 f.broken;
      stops = λ next goes. f.stops next (along (λ i. goes_agree g qs ps f.so_far.composition f.failing (agree_back ps qs (statement_mentions g.context.own f.failing) r.1) i next) goes);
    }

target_fails_too : (g : Given) (ps qs : Packages) (doc : Document) (e : Error) → Agree ps qs (target_mentions g.context.own doc.directive.targets) → Agree ps qs (flat_map (statement_mentions g.context.own) doc.statements)
    → TargetFails (given_over g ps) doc e → TargetFails (given_over g qs) doc e
target_fails_too g ps qs doc e h k f =
    let m = subst (λ (t : Option PackagePath). Agree ps qs (target_mentions g.context.own t)) f.has_target h in
    let keys : SameAtNodes ps qs f.whole.composition = keys_composes (given_over g ps) (λ key. package_of key ps ≡ package_of key qs) doc.statements start f.whole.composition k tt (leads_composes (given_over g ps) doc.statements (placed_start start) f.whole f.leads) in
    record {
      target = f.target;
      has_target = f.has_target;
      whole = f.whole;
      leads = along (λ i. all_lead_agree g ps qs (placed_start start) doc.statements k i f.whole) f.leads;
      broken = target_breaks g ps qs f.whole.composition f.whole.places e f.target m keys f.broken;
      stops = λ meets. f.stops (along (sym (target_agrees g ps qs f.whole.composition (Some f.target) m keys)) meets);
    }

fails_first_too : (g : Given) (ps qs : Packages) (doc : Document) (e : Error) → Agree ps qs (target_mentions g.context.own doc.directive.targets) → Agree ps qs (flat_map (statement_mentions g.context.own) doc.statements)
    → FirstFailing (given_over g ps) doc e → FirstFailing (given_over g qs) doc e
fails_first_too g ps qs doc e h k (inl f) = inl (statement_fails_too g ps qs doc e k f)
fails_first_too g ps qs doc e h k (inr f) = inr (target_fails_too g ps qs doc e h k f)

-- what fails first fails first with other packages that agree on what the document mentions
failing_agrees : (g : Given) (ps qs : Packages) (doc : Document) (e : Error) → g.context.own ≡ doc.directive.package_name.name → Agree ps qs (mentions doc) → FirstFailing (given_over g ps) doc e → FirstFailing (given_over g qs) doc e
failing_agrees g ps qs doc e own m f =
    let n = subst (λ (o : List ℕ). Agree ps qs (target_mentions o doc.directive.targets ++ flat_map (statement_mentions o) doc.statements)) (sym own) m in
    let r = agree_prefix ps qs (target_mentions g.context.own doc.directive.targets) (flat_map (statement_mentions g.context.own) doc.statements) n in
    fails_first_too g ps qs doc e r.0 r.1 f

-- only mentioned packages matter to what fails first
pub only_mentioned_fail : (g : Given) (ps : Packages) (doc : Document) (e : Error) → g.context.own ≡ doc.directive.package_name.name
    → FirstFailing (given_over g (kept (mentions doc) ps)) doc e ↔ FirstFailing (given_over g ps) doc e
only_mentioned_fail g ps doc e own =
    let h = kept_agree (mentions doc) (mentions doc) ps (λ k e. e) in
    (failing_agrees g (kept (mentions doc) ps) ps doc e own h, failing_agrees g ps (kept (mentions doc) ps) doc e own (agree_back (kept (mentions doc) ps) ps (mentions doc) h))
