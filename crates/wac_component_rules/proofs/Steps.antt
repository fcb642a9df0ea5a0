-- A path is followed step by step: where the rest leads, the whole leads.
use Rattle.std.proofs.Common.{◌≡◌, ◌+◌, ℕ, suc, List, [], ◌∷◌, length, drop, refl, sym, Option, Some, None, subst, add-one}
use Rattle.std.specs.Prelude.{slice_get, option_and_then}
use Rattle.wac_graph_types.specs.declared.kind.ItemKind.{ItemKind}
use Rattle.wac_graph_types.specs.declared.entry.Entry.{Entry}
use Rattle.wac_graph_types.proofs.Rows.{drop_some, drop_past}
use Rattle.wac_component_rules.specs.declared.mismatch_words.Step.{Step}
use Rattle.wac_component_rules.specs.Paths.{Leads, IsPlainly, entry_named, step_in}

-- what the rest of the path from place k leads to from here, the whole path leads to
abbrev pub RestLeads : List Entry → ItemKind → List Step → ItemKind → ℕ → Type 0
RestLeads es kind path at k = (to : Option ItemKind) → Leads es (Some at) (drop k path) to → Leads es (Some kind) path to

-- from nothing a path leads to nothing
pub from_nothing : (es : List Entry) (path : List Step) → Leads es None path None
from_nothing es [] = refl
from_nothing es (s ∷ path) = refl

stepped : (es : List Entry) (path : List Step) (at x : ItemKind) (next to : Option ItemKind) (k : ℕ) (s : Step) → slice_get path k ≡ Some s → IsPlainly es at x
    → next ≡ option_and_then (λ e. step_in s e) (entry_named es x) → Leads es next (drop (suc k) path) to → Leads es (Some at) (drop k path) to
stepped es path at x next to k s is plain goes h =
    subst (λ (l : List Step). Leads es (Some at) l to) (sym (drop_some path k s is))
    (x, plain, subst (λ (o : Option ItemKind). Leads es o (drop (suc k) path) to) goes h)

pub leads_step : (es : List Entry) (kind : ItemKind) (path : List Step) (at x next : ItemKind) (k : ℕ) (s : Step) → slice_get path k ≡ Some s → IsPlainly es at x
    → Some next ≡ option_and_then (λ e. step_in s e) (entry_named es x) → RestLeads es kind path at k → RestLeads es kind path next (k + 1)
leads_step es kind path at x next k s is plain goes r = rw add-one (λ to h. r to (stepped es path at x (Some next) to k s is plain goes h))

pub leads_nowhere : (es : List Entry) (kind : ItemKind) (path : List Step) (at x : ItemKind) (k : ℕ) (s : Step) → slice_get path k ≡ Some s → IsPlainly es at x
    → None ≡ option_and_then (λ e. step_in s e) (entry_named es x) → RestLeads es kind path at k → Leads es (Some kind) path None
leads_nowhere es kind path at x k s is plain goes r = r None (stepped es path at x None None k s is plain goes (from_nothing es (drop (suc k) path)))

pub leads_end : (es : List Entry) (kind : ItemKind) (path : List Step) (at : ItemKind) (k : ℕ) → length path ≡ k → RestLeads es kind path at k → Leads es (Some kind) path (Some at)
leads_end es kind path at k len r =
    let e : drop k path ≡ [] = subst (λ (n : ℕ). drop n path ≡ []) len (drop_past path) in
    r (Some at) (subst (λ (l : List Step). Leads es (Some at) l (Some at)) (sym e) refl)
