-- What changes make of a text.
use Rattle.std.proofs.Common.{◌≡◌, subst, ℕ, List}
use Rattle.wac_positions.specs.declared.place.ColumnUnit.{ColumnUnit}
use Rattle.wac_lsp_messages.specs.declared.notice.Change.{Change}
use Rattle.wac_lsp_texts.specs.Changed.{Changes}

-- the same changes make the same text of it
pub same_after : (unit : ColumnUnit) (text : List ℕ) (given changes : List Change) (made after : List ℕ) → given ≡ changes → made ≡ after → Changes unit text given made → Changes unit text changes after
same_after unit text given changes made after is same makes =
    subst (λ cs. Changes unit text cs after) is (subst (λ a. Changes unit text given a) same makes)
