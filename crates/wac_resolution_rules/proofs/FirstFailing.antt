-- What follows for whole documents: a document describes one composition, and where it fails it describes none.
use Rattle.wac_resolution_rules.proofs.Common.{◌≡◌, List, [], ◌∷◌, ◌++◌, ap, subst, Option, Some, inl, inr, Steps, PackagePath, Statement, Document, Error}
use Rattle.wac_resolution_rules.specs.Given.{Given}
use Rattle.wac_resolution_rules.specs.Composition.{Composition, start}
use Rattle.wac_resolution_rules.specs.Statements.{StatementStep, Composes}
use Rattle.wac_resolution_rules.specs.Target.{MeetsPath, MeetsTarget}
use Rattle.wac_resolution_rules.specs.BrokenStatements.{StatementBroken, TargetBroken}
use Rattle.wac_resolution_rules.specs.ResolvedDocument.{Describes, StatementFails, TargetFails, FirstFailing}
use Rattle.wac_resolution_rules.specs.Places.{Leads, Placed, placed_start}
use Rattle.wac_resolution_rules.proofs.StepLaws.{steps_prefix}
use Rattle.wac_resolution_rules.proofs.StatementsOnce.{composes_once}
use Rattle.wac_resolution_rules.proofs.StatementsStop.{statement_stops, target_stops}

-- a document describes one composition
pub describes_once : (s : Given) (doc : Document) (a b : Composition) → Describes s doc a → Describes s doc b → a ≡ b
describes_once s doc a b p q = composes_once s start doc.statements a b p.0 q.0

-- without the places
pub leads_composes : (s : Given) (xs : List Statement) (old new : Placed) → Steps (Leads s) old xs new → Composes s old.composition xs new.composition
leads_composes s [] old new p = ap (λ (m : Placed). m.composition) p
leads_composes s (x ∷ xs) old new p = (p.0.composition, p.1.0, leads_composes s xs p.0 new p.2)

-- where a statement fails there is no composition
pub statement_has_none : (s : Given) (doc : Document) (e : Error) (c : Composition) → StatementFails s doc e → Describes s doc c → ⊥
statement_has_none s doc e c f p =
    let whole = subst (λ (l : List Statement). Composes s start l c) f.split p.0 in
    let r = steps_prefix (StatementStep s) start f.before (f.failing ∷ f.after) c whole in
    let same : r.0 ≡ f.so_far.composition = composes_once s start f.before r.0 f.so_far.composition r.1 (leads_composes s f.before (placed_start start) f.so_far f.leads) in
    f.stops r.2.0 (subst (λ (m : Composition). StatementStep s m f.failing r.2.0) same r.2.1)

pub target_has_none : (s : Given) (doc : Document) (e : Error) (c : Composition) → TargetFails s doc e → Describes s doc c → ⊥
target_has_none s doc e c f p =
    let same : c ≡ f.whole.composition = composes_once s start doc.statements c f.whole.composition p.0 (leads_composes s doc.statements (placed_start start) f.whole f.leads) in
    let met = subst (λ (t : Option PackagePath). MeetsTarget s c t) f.has_target p.1 in
    f.stops (subst (λ (m : Composition). MeetsPath s m f.target) same met)

-- a document in which a statement or the target fails describes nothing
pub first_has_none : (s : Given) (doc : Document) (e : Error) (c : Composition) → FirstFailing s doc e → Describes s doc c → ⊥
first_has_none s doc e c (inl f) p = statement_has_none s doc e c f p
first_has_none s doc e c (inr f) p = target_has_none s doc e c f p

-- a statement after a prefix that composes, and that breaks a rule, is the first failing one
pub fails_at : (s : Given) (doc : Document) (e : Error) (before : List Statement) (x : Statement) (after : List Statement) → doc.statements ≡ before ++ x ∷ after
    → (so_far : Placed) → Steps (Leads s) (placed_start start) before so_far → StatementBroken s so_far.composition so_far.places e x → FirstFailing s doc e
fails_at s doc e before x after split so_far leads broken =
    inl (record {
      before = before;
      failing = x;
      after = after;
      split = split;
      so_far = so_far;
      leads = leads;
      broken = broken;
      stops = λ next g. statement_stops s so_far.composition so_far.places e x next broken g;
    })

pub fails_at_target : (s : Given) (doc : Document) (e : Error) (target : PackagePath) → doc.directive.targets ≡ Some target
    → (whole : Placed) → Steps (Leads s) (placed_start start) doc.statements whole → TargetBroken s whole.composition whole.places e target → FirstFailing s doc e
fails_at_target s doc e target has whole leads broken =
    inr (record {
      target = target;
      has_target = has;
      whole = whole;
      leads = leads;
      broken = broken;
      stops = λ met. target_stops s whole.composition whole.places e target broken met;
    })
