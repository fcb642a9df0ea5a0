-- One change after another.
use Rattle.std.proofs.Common.{◌≡◌, refl, sym, ap, ◌∙◌, subst, ℕ, ◌+◌, ◌<◌, ◌≤◌, List, ◌∷◌, drop, get_or, length}
use Rattle.std.proofs.lemmas.List.{drop_more, drop_all}
use Rattle.std.specs.Prelude.{string_bytes}
use Rattle.wac_positions.specs.declared.place.ColumnUnit.{ColumnUnit}
use Rattle.wac_lsp_messages.specs.declared.notice.Change.{Change}
use Rattle.wac_lsp_texts.specs.Changed.{Changes, Replaces}

-- what the changes from an index on leave of a text is what all leave of the first
abbrev pub Follows : ColumnUnit → List ℕ → List Change → ℕ → List ℕ → Type 0
Follows unit text changes index after = (last : List ℕ) → Changes unit after (drop index changes) last → Changes unit text changes last

pub one_more_change : (unit : ColumnUnit) (text : List ℕ) (changes : List Change) (index : ℕ) (after next : List ℕ) (change : Change) → Follows unit text changes index after → index < length changes
    → change ≡ get_or changes index change → Replaces unit after change.range (string_bytes change.text) next → Follows unit text changes (index + 1) next
one_more_change unit text changes index after next change follows within is replaces last more =
    let split = drop_more changes index change within ∙ ap (λ c. c ∷ drop (index + 1) changes) (sym is) in
    follows last (subst (λ cs. Changes unit after cs last) (sym split) (next, replaces, more))

pub all_made : (unit : ColumnUnit) (text : List ℕ) (changes : List Change) (index : ℕ) (after : List ℕ) → Follows unit text changes index after → length changes ≤ index → Changes unit text changes after
all_made unit text changes index after follows le = follows after (subst (λ cs. Changes unit after cs after) (sym (drop_all index changes le)) refl)
