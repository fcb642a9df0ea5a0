-- One edit after another.
use Rattle.std.proofs.Common.{◌≡◌, sym, ap, ◌∙◌, subst, ℕ, ◌+◌, ◌<◌, ◌≤◌, List, ◌∷◌, drop, get_or, length}
use Rattle.std.proofs.lemmas.List.{drop_more, drop_all}
use Rattle.wac_lexer.specs.Span.{end_of}
use Rattle.wac_lsp_names.specs.declared.edits.Edit.{Edit}
use Rattle.wac_lsp_names.specs.Edits.{AreEdits, IsEdit}

-- where those from an index on are edits after a place, all are
abbrev pub Follows : List ℕ → List ℕ → List ℕ → List Edit → ℕ → ℕ → Type 0
Follows source old new edits index place = AreEdits source old new place (drop index edits) → AreEdits source old new 0 edits

pub one_more_edit : (source old new : List ℕ) (edits : List Edit) (index place : ℕ) (edit : Edit) → Follows source old new edits index place → index < length edits
    → edit ≡ get_or edits index edit → place ≤ edit.span.offset → IsEdit source old new edit → Follows source old new edits (index + 1) (end_of edit.span)
one_more_edit source old new edits index place edit follows within is after of more =
    let split = drop_more edits index edit within ∙ ap (λ e. e ∷ drop (index + 1) edits) (sym is) in
    follows (subst (λ es. AreEdits source old new place es) (sym split) (after, of, more))

pub all_edits : (source old new : List ℕ) (edits : List Edit) (index place : ℕ) → Follows source old new edits index place → length edits ≤ index → AreEdits source old new 0 edits
all_edits source old new edits index place follows le = follows (subst (λ es. AreEdits source old new place es) (sym (drop_all index edits le)) tt)
