-- What resolving yields.
use Rattle.wac_resolution.proofs.Common.{◌≡◌, ◌∙◌, ◌⊎◌, ℕ, List, map, Option, Some, None, inl, inr, refl, sym, ap, subst, option_map, PackageParts, Named, PackagePath, version_text, document_of, statement_of, package_path_of, PackageKey, Parts, Numbering, IsOneToOne, Key, supplied_packages, Error, Reports, memory, Composition, start, with_resources, Given, Rules, Placed, Leads, placed_start, given_to, Describes, FirstFailing, Composes, reports, leads_composes, first_has_none, fails_at, fails_at_target, Root, composition_of, numbers_of, composed, Agrees, Context, AllSupplied, packages_in, given_in, Externs, imported_in, exported_in, places_in, placed_in}
use Rattle.wac_graph_types.specs.Steps.{Steps, Fails}
use Rattle.wac_ast_grammar.specs.Tree.{Document, Statement}
use Rattle.wac_ast.specs.declared.document.Document.{Document as CodeDocument}
use Rattle.wac_ast.specs.declared.statement.Statement.{Statement as CodeStatement}
use Rattle.wac_ast_statements.specs.Statements.{directive_of}
use Rattle.wac_resolution_rules.specs.Target.{MeetsTarget}
use Rattle.wac_resolution_state.proofs.Composed.{composition_expands}
use Rattle.wac_resolution.specs.Sequences.{StatementsRun, BreaksAfter, OneBreaks}
use Rattle.wac_resolution_statements.specs.Outcome.{Meets, Unmeets}
use Rattle.wac_resolution.specs.Resolved.{by_key}
use Rattle.wac_resolution.specs.Steps.{MeetsIn, MissesIn, Composed, TargetLast, Breaks}
use Rattle.wac_resolution.proofs.Starting.{IsStart, start_placed}

-- ---- the target

pub target_met : (context : Context) (rules : Rules) (old new : Parts) (root : Root) (path : PackagePath) → Agrees old root → Meets context rules old new root path
    → MeetsIn context rules old new root (Some path)
target_met context rules old new root path agrees m = record {
  supplied = m.supplied;
  kept = λ numbering. composition_expands old new (numbers_of root.nodes) numbering m.grows.same m.grows.held (m.grows.kinds numbering) agrees.nodes ∙ ap (with_resources (composed numbering old root)) m.count;
  met = λ numbering one. m.is numbering one;
}

pub no_target : (context : Context) (rules : Rules) (g : Parts) (root : Root) → AllSupplied (packages_in context) g → MeetsIn context rules g g root None
no_target context rules g root supplied = record { supplied = supplied; kept = λ numbering. refl; met = λ numbering one. tt }

pub target_missed : (context : Context) (rules : Rules) (g : Parts) (root : Root) (x : Externs) (path : PackagePath) (e : Error) → Unmeets context rules g root path (imported_in x) (exported_in x) e
    → MissesIn context rules g root x (Some path) e
target_missed context rules g root x path e u = record { target = path; has = refl; broken = λ numbering one. u numbering (places_in root x) one refl refl }

-- ---- the statements, then the target

-- all statements take the empty composition to the whole one
all_lead : (context : Context) (rules : Rules) (g mid : Parts) (first root : Root) (x y : Externs) (statements : List Statement) → IsStart g first x → StatementsRun context rules g mid first root x y statements
    → (numbering : Numbering) → IsOneToOne numbering → Steps (Leads (given_in numbering context rules)) (placed_start start) statements (placed_in numbering mid root y)
all_lead context rules g mid first root x y statements h w numbering one =
    subst (λ (p : Placed). Steps (Leads (given_in numbering context rules)) p statements (placed_in numbering mid root y)) (start_placed numbering g first x h) (w.leads numbering one)

pub all_composed : (context : Context) (rules : Rules) (g mid new : Parts) (first root : Root) (x y : Externs) (statements : List Statement) (targets : Option PackagePath) → IsStart g first x → StatementsRun context rules g mid first root x y statements
    → MeetsIn context rules mid new root targets → Composed context rules statements targets new
all_composed context rules g mid new first root x y statements targets h w m = record {
  declared = numbers_of root.nodes;
  supplied = m.supplied;
  composes = λ numbering one.
      subst (λ (c : Composition). Composes (given_in numbering context rules) start statements c) (sym (m.kept numbering))
      (leads_composes (given_in numbering context rules) statements (placed_start start) (placed_in numbering mid root y) (all_lead context rules g mid first root x y statements h w numbering one));
  met = λ numbering one. subst (λ (c : Composition). MeetsTarget (given_in numbering context rules) c targets) (sym (m.kept numbering)) (m.met numbering one);
}

pub statement_breaks : (context : Context) (rules : Rules) (g : Parts) (first : Root) (x : Externs) (statements : List Statement) (targets : Option PackagePath) (e : Error) → IsStart g first x → OneBreaks context rules g first x statements e → Breaks context rules statements targets e
statement_breaks context rules g first x statements targets e h broken numbering one =
    inl (subst (λ (p : Placed). Fails (Leads (given_in numbering context rules)) (BreaksAfter (given_in numbering context rules) e) p statements) (start_placed numbering g first x h) (broken numbering one))

pub target_breaks : (context : Context) (rules : Rules) (g mid : Parts) (first root : Root) (x y : Externs) (statements : List Statement) (targets : Option PackagePath) (e : Error) → IsStart g first x → StatementsRun context rules g mid first root x y statements
    → MissesIn context rules mid root y targets e → Breaks context rules statements targets e
target_breaks context rules g mid first root x y statements targets e h w m numbering one = inr (record {
  target = m.target;
  has = m.has;
  whole = placed_in numbering mid root y;
  leads = all_lead context rules g mid first root x y statements h w numbering one;
  broken = m.broken numbering one;
})

-- ---- a document

-- the context is made of the document and its packages
pub record IsSettingOf (context : Context) (packages : List (Key × PackageParts)) (doc : Document) : Type 0 where
  pub own : context.own.now ≡ doc.directive.package_name.name
  pub version : option_map (λ v. v.now) context.version ≡ version_text doc.directive.package_name.string
  pub packages_are : packages_in context ≡ packages

given_same : (numbering : Numbering) (context : Context) (rules : Rules) (packages : List (Key × PackageParts)) (doc : Document) → IsSettingOf context packages doc → given_in numbering context rules ≡ given_to numbering packages rules doc
given_same numbering context rules packages doc h = λ i. record { context = record { numbering = numbering; own = h.own i; version = h.version i; packages = supplied_packages numbering (h.packages_are i) }; rules = rules }

pub describes : (context : Context) (rules : Rules) (packages : List (Key × PackageParts)) (doc : Document) (g : Parts) → IsSettingOf context packages doc → (c : Composed context rules doc.statements doc.directive.targets g)
    → (numbering : Numbering) → IsOneToOne numbering → Describes (given_to numbering packages rules doc) doc (composition_of numbering g c.declared)
describes context rules packages doc g h c numbering one =
    subst (λ (s : Given). Describes s doc (composition_of numbering g c.declared)) (given_same numbering context rules packages doc h) (c.composes numbering one, c.met numbering one)

failing : (s : Given) (doc : Document) (e : Error) → Fails (Leads s) (BreaksAfter s e) (placed_start start) doc.statements ⊎ TargetLast s doc.statements doc.directive.targets e → FirstFailing s doc e
failing s doc e (inl f) = fails_at s doc e f.before f.failing f.after f.split f.reached f.leads f.breaks
failing s doc e (inr t) = fails_at_target s doc e t.target t.has t.whole t.leads t.broken

-- what fails first
pub fails_first : (context : Context) (rules : Rules) (packages : List (Key × PackageParts)) (doc : Document) (e : Error) → IsSettingOf context packages doc → Breaks context rules doc.statements doc.directive.targets e
    → (numbering : Numbering) → IsOneToOne numbering → FirstFailing (given_to numbering packages rules doc) doc e
fails_first context rules packages doc e h broken numbering one =
    subst (λ (s : Given). FirstFailing s doc e) (given_same numbering context rules packages doc h) (failing (given_in numbering context rules) doc e (broken numbering one))

-- what is described is rejected only where memory ran out
pub only_memory : (context : Context) (rules : Rules) (packages : List (Key × PackageParts)) (doc : Document) (e : Error) → IsSettingOf context packages doc → Reports e (Breaks context rules doc.statements doc.directive.targets e)
    → (numbering : Numbering) → IsOneToOne numbering → (c : Composition) → Describes (given_to numbering packages rules doc) doc c → e ≡ memory
only_memory context rules packages doc e h (inl ran_out) numbering one c described = ran_out
only_memory context rules packages doc e h (inr broken) numbering one c described =
    absurd (first_has_none (given_to numbering packages rules doc) doc e c (fails_first context rules packages doc e h broken numbering one) described)

-- ---- a borrowed document

-- the graph is what the document describes, with some names at root
abbrev pub Described : List (PackageKey × PackageParts) → Rules → Document → Parts → Type 0
Described packages rules doc g = (declared : Named ℕ) × ((numbering : Numbering) → IsOneToOne numbering → Describes (given_to numbering (by_key packages) rules doc) doc (composition_of numbering g declared))

-- the parts of a borrowed document, and its context
pub record IsLent (context : Context) (packages : List (PackageKey × PackageParts)) (lent doc : CodeDocument) (statements : List CodeStatement) : Type 0 where
  pub same : lent ≡ doc
  pub own : context.own.now ≡ (directive_of lent.directive).package_name.name
  pub version : option_map (λ v. v.now) context.version ≡ version_text (directive_of lent.directive).package_name.string
  pub packages_are : packages_in context ≡ by_key packages
  pub statements_are : statements ≡ lent.statements.items

lent_context : (context : Context) (packages : List (PackageKey × PackageParts)) (lent doc : CodeDocument) (statements : List CodeStatement) → IsLent context packages lent doc statements → IsSettingOf context (by_key packages) (document_of doc)
lent_context context packages lent doc statements h = record {
  own = h.own ∙ ap (λ (d : CodeDocument). (directive_of d.directive).package_name.name) h.same;
  version = h.version ∙ ap (λ (d : CodeDocument). version_text (directive_of d.directive).package_name.string) h.same;
  packages_are = h.packages_are;
}

-- what is said of borrowed statements and of the target
abbrev pub OfParts : Type 1
OfParts = List Statement → Option PackagePath → Type 0

of_document : (P : OfParts) (context : Context) (packages : List (PackageKey × PackageParts)) (lent doc : CodeDocument) (statements : List CodeStatement) → IsLent context packages lent doc statements
    → P (map statement_of statements) (option_map package_path_of lent.directive.targets) → P (document_of doc).statements (document_of doc).directive.targets
of_document P context packages lent doc statements h p =
    subst (λ (d : CodeDocument). P (map statement_of d.statements.items) (option_map package_path_of d.directive.targets)) h.same
    (subst (λ (l : List CodeStatement). P (map statement_of l) (option_map package_path_of lent.directive.targets)) h.statements_are p)

pub lent_described : (context : Context) (rules : Rules) (packages : List (PackageKey × PackageParts)) (lent doc : CodeDocument) (statements : List CodeStatement) (g : Parts) → IsLent context packages lent doc statements
    → Composed context rules (map statement_of statements) (option_map package_path_of lent.directive.targets) g → Described packages rules (document_of doc) g
lent_described context rules packages lent doc statements g h c =
    let whole : Composed context rules (document_of doc).statements (document_of doc).directive.targets g = of_document (λ all targets. Composed context rules all targets g) context packages lent doc statements h c in
    (whole.declared, describes context rules (by_key packages) (document_of doc) g (lent_context context packages lent doc statements h) whole)

-- the packages that the graph holds were supplied
pub lent_supplied : (context : Context) (rules : Rules) (packages : List (PackageKey × PackageParts)) (lent doc : CodeDocument) (statements : List CodeStatement) (g : Parts) → IsLent context packages lent doc statements
    → Composed context rules (map statement_of statements) (option_map package_path_of lent.directive.targets) g → AllSupplied (by_key packages) g
lent_supplied context rules packages lent doc statements g h c = subst (λ (l : List (Key × PackageParts)). AllSupplied l g) h.packages_are c.supplied

pub lent_fails : (context : Context) (rules : Rules) (packages : List (PackageKey × PackageParts)) (lent doc : CodeDocument) (statements : List CodeStatement) (e : Error) → IsLent context packages lent doc statements
    → Reports e (Breaks context rules (map statement_of statements) (option_map package_path_of lent.directive.targets) e) → (numbering : Numbering) → IsOneToOne numbering → Reports e (FirstFailing (given_to numbering (by_key packages) rules (document_of doc)) (document_of doc) e)
lent_fails context rules packages lent doc statements e h said numbering one =
    reports said (λ broken. fails_first context rules (by_key packages) (document_of doc) e (lent_context context packages lent doc statements h) (of_document (λ all targets. Breaks context rules all targets e) context packages lent doc statements h broken) numbering one)

pub lent_only : (context : Context) (rules : Rules) (packages : List (PackageKey × PackageParts)) (lent doc : CodeDocument) (statements : List CodeStatement) (e : Error) → IsLent context packages lent doc statements
    → Reports e (Breaks context rules (map statement_of statements) (option_map package_path_of lent.directive.targets) e) → (numbering : Numbering) → IsOneToOne numbering → (c : Composition) → Describes (given_to numbering (by_key packages) rules (document_of doc)) (document_of doc) c → e ≡ memory
lent_only context rules packages lent doc statements e h said =
    only_memory context rules (by_key packages) (document_of doc) e (lent_context context packages lent doc statements h) (reports said (of_document (λ all targets. Breaks context rules all targets e) context packages lent doc statements h))
