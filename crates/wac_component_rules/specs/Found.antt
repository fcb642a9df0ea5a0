-- Pairs of entries that were compared, with what was found.
use Rattle.std.specs.Prelude.{◌≡◌, ℕ, List, Option, IfSome, Bool, true}
use Rattle.std.specs.List.{All}
use Rattle.wac_graph_types.specs.declared.entry.Entry.{Entry}
use Rattle.wac_graph_types.specs.Meaning.{meaning_at}
use Rattle.wac_component_rules.specs.Seen.{what}
use Rattle.wac_component_rules.specs.Fits.{stands}

-- the answer is whether the first entry may stand where the second is expected, whatever the origins are
abbrev pub EntryTells : List Entry → ℕ → ℕ → Bool → Type 0
EntryTells es i j fits = (origins : ℕ → ℕ) → stands (what (meaning_at origins es i)) (what (meaning_at origins es j)) ≡ fits

abbrev pub EntryFits : List Entry → ℕ → ℕ → Type 0
EntryFits es i j = EntryTells es i j true

-- each pair in a slot fits, and each answer that is kept is right
pub record AllFit (es : List Entry) (found : List (Option (ℕ × ℕ)) × List ((ℕ × ℕ) × Bool)) : Type 0 where
  pub slots : All (λ p. IfSome p (λ q. EntryFits es q.0 q.1)) found.0
  pub answers : All (λ a. EntryTells es a.0.0 a.0.1 a.1) found.1
