-- Where a path leads from a kind.
use Rattle.std.specs.Prelude.{◌≡◌, ◌⊎◌, ℕ, List, [], ◌∷◌, Option, Some, None, option_map, option_and_then, unwrap_or, slice_get}
use Rattle.std.specs.Map.{lookup}
use Rattle.wac_graph_types.specs.declared.kind.ItemKind.{ItemKind}
use Rattle.wac_graph_types.specs.declared.entry.Entry.{Entry}
use Rattle.wac_graph_types.specs.Entry as slots
use Rattle.wac_graph_types.specs.Entry.{Slot}
use Rattle.wac_graph_types.specs.Kind.{named_by}
use Rattle.wac_graph_types.specs.Scope.{look_up}
use Rattle.wac_component_rules.specs.declared.sides.Side.TheVariants as sides
use Rattle.wac_component_rules.specs.Compared.{SeenAs}
use Rattle.wac_component_rules.specs.Fits.{same_slot}
use Rattle.wac_component_rules.specs.Parts.{parts_of, side_items}
use Rattle.wac_component_rules.specs.declared.mismatch_words.Step.{Step}
use Rattle.wac_component_rules.specs.declared.mismatch_words.Step.TheVariants as steps

-- what the first part in a slot is of
abbrev pub of_slot : Slot → Entry → Option ItemKind
of_slot s e = unwrap_or (lookup (λ t. same_slot s t) (parts_of e)) None

-- what the part at a place is of
abbrev pub of_place : ℕ → Entry → Option ItemKind
of_place i e = unwrap_or (option_map (λ p. p.1) (slice_get (parts_of e) i)) None

-- to what a step leads in an entry
abbrev pub step_in : Step → Entry → Option ItemKind
step_in (steps.Import n) e = look_up n.now (side_items sides.Imports e)
step_in (steps.Export n) e = look_up n.now (side_items sides.Exports e)
step_in (steps.Parameter n) e = of_slot (slots.named n.now) e
step_in steps.Result e = of_slot (slots.given None) e
step_in (steps.NamedResult n) e = of_slot (slots.given (Some n.now)) e
step_in (steps.Field n) e = of_slot (slots.named n.now) e
step_in (steps.Case n) e = of_slot (slots.named n.now) e
step_in (steps.Element i) e = of_place i e
step_in steps.Inner e = of_slot slots.only e
step_in steps.Ok e = of_slot slots.ok e
step_in steps.Err e = of_slot slots.err e

abbrev pub entry_named : List Entry → ItemKind → Option Entry
entry_named es k = option_and_then (λ i. slice_get es i) (named_by k)

-- the same kind, or what it is with aliases seen through
abbrev pub IsPlainly : List Entry → ItemKind → ItemKind → Type 0
IsPlainly es k x = (x ≡ k) ⊎ ((o : ℕ → ℕ) → SeenAs o es k x)

-- the path leads from one kind to another, or to none
abbrev pub Leads : List Entry → Option ItemKind → List Step → Option ItemKind → Type 0
Leads es from [] to = to ≡ from
Leads es None (s ∷ path) to = to ≡ None
Leads es (Some k) (s ∷ path) to = (x : ItemKind) × IsPlainly es k x × Leads es (option_and_then (λ e. step_in s e) (entry_named es x)) path to
