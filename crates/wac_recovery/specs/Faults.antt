-- What is wrong with a text first.
use Rattle.std.specs.Prelude.{◌≡◌, ◌≢◌, ℕ, ◌-◌, List, Option, Some, None, IsSomeAnd, MatchOption, alloc_error}
use Rattle.wac_lexer.specs.Span.{Span, span}
use Rattle.wac_ast_grammar.specs.Tree.{Document}
use Rattle.wac_ast_grammar.specs.TextTree.{IsTreeOf}
use Rattle.wac_ast.specs.Document.{ErrorOf}
use Rattle.wac_ast_base.specs.Error.{Told, told_by, faulty, expected_one, expected_either, expected_many, empty_type, invalid_version, no_memory}
use Rattle.wac_ast_base.specs.declared.error.Error.{Error}
use Rattle.wac_ast_base.specs.declared.error.Error.TheVariants as errors
use Rattle.wac_comments_layout.specs.Nesting.{too_deep}
use Rattle.wac_recovery.specs.declared.fault.Fault.{Fault}
use Rattle.wac_recovery.specs.declared.fault.Fault.TheVariants.{Parse, TooDeep}

-- what a fault says, without where its texts lie in memory
pub data Wrong : Type 0 where
  rejected : Told → Wrong
  nested : Span → Wrong

abbrev pub wrong_of : Fault → Wrong
wrong_of (Parse error) = rejected (told_by error)
wrong_of (TooDeep at) = nested at

-- where it lies
abbrev pub place_of_told : Told → Span
place_of_told (faulty fault at) = at
place_of_told (expected_one token found at) = at
place_of_told (expected_either first second found at) = at
place_of_told (expected_many tokens count found at) = at
place_of_told (empty_type ty kind at) = at
place_of_told (invalid_version version at) = at
place_of_told no_memory = span 0 0

abbrev pub place_of : Wrong → Span
place_of (rejected e) = place_of_told e
place_of (nested at) = at

-- the same, so many bytes before
abbrev pub back : ℕ → Span → Span
back by at = span (at.offset - by) at.len

abbrev pub told_back : ℕ → Told → Told
told_back by (faulty fault at) = faulty fault (back by at)
told_back by (expected_one token found at) = expected_one token found (back by at)
told_back by (expected_either first second found at) = expected_either first second found (back by at)
told_back by (expected_many tokens count found at) = expected_many tokens count found (back by at)
told_back by (empty_type ty kind at) = empty_type ty kind (back by at)
told_back by (invalid_version version at) = invalid_version version (back by at)
told_back by no_memory = no_memory

abbrev pub moved_back : ℕ → Wrong → Wrong
moved_back by (rejected e) = rejected (told_back by e)
moved_back by (nested at) = nested (back by at)

-- nothing is wrong with a text: it is a document that isn't nested too deeply
abbrev pub IsFaultless : List ℕ → Type 0
IsFaultless text = (too_deep text ≡ None) × ((tree : Document) × IsTreeOf text tree)

-- This is wrong with a text first: a bracket that is nested too deeply, or else its first fault, where it has no tree.
abbrev pub IsWrongWith : List ℕ → Wrong → Type 0
IsWrongWith text (rejected e) = (too_deep text ≡ None) × ((tree : Document) → ¬ (IsTreeOf text tree)) × ErrorOf e text
IsWrongWith text (nested at) = too_deep text ≡ Some at

-- what is found wrong with a text first: nothing where nothing is wrong
abbrev pub IsFirstFault : List ℕ → Option Fault → Type 0
IsFirstFault text found = MatchOption found (IsFaultless text) (λ fault. IsWrongWith text (wrong_of fault))

-- what is found is this error of parsing, which isn't that memory ran out
abbrev pub IsRejection : Error → Option Fault → Type 0
IsRejection e found = (e ≢ errors.Memory alloc_error) × IsSomeAnd found (λ fault. wrong_of fault ≡ rejected (told_by e))
