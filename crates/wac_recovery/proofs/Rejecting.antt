-- The first rejected character of a text is a slice of it.
use Rattle.std.proofs.Common.{◌≡◌, ℕ, ◌+◌, List, [], ◌∷◌, ◌++◌, drop, sym, ap, ◌∙◌, subst, add_assoc, add-zero, zero-add}
use Rattle.std.specs.Prelude.{MatchOption, None, Some, sum_by}
use Rattle.std.specs.List.{AllByRecursion}
use Rattle.std.specs.Char.{len_utf8}
use Rattle.std.specs.Str.{IsCharBoundary, IsUtf8, chars}
use Rattle.std.proofs.lemmas.Str.{IsCharBoundary-start, IsCharBoundary-past_char, IsUtf8-drop, drop_past_char, encodes-chars}
use Rattle.std.proofs.lemmas.List.Sums.{sum_by-cons}
use lib.Utf8.{encodes}
use Rattle.wac_lexer.specs.Characters.{IsFirstRefused, fault_of, refused}
use Rattle.wac_lexer.specs.Reading.{Slices}
use Rattle.wac_lexer.specs.Span.{Span}
use Rattle.wac_lexer.specs.declared.error.Error.{Error}

-- a character is cut from those before and after
abbrev IsCut : List ℕ → ℕ → ℕ → Type 0
IsCut text at c = IsCharBoundary text at × IsCharBoundary text (at + len_utf8 c)

is_cut : (text : List ℕ) (i : ℕ) (before after : List ℕ) (c : ℕ) → IsUtf8 text → IsCharBoundary text i → drop i text ≡ encodes (before ++ (c ∷ after)) → IsCut text (i + sum_by len_utf8 before) c
is_cut text i [] after c utf8 at is =
    subst (λ n. IsCut text n c) (sym (add-zero i))
    (at, IsCharBoundary-past_char text (encodes after) i c at.0 (IsUtf8-drop text i utf8 at) is)
is_cut text i (b ∷ before) after c utf8 at is =
    let rest = encodes (before ++ (c ∷ after)) in
    let next = IsCharBoundary-past_char text rest i b at.0 (IsUtf8-drop text i utf8 at) is in
    let same : (i + len_utf8 b) + sum_by len_utf8 before ≡ i + sum_by len_utf8 (b ∷ before) =
    add_assoc i (len_utf8 b) (sum_by len_utf8 before) ∙ ap (λ n. i + n) (sym (sum_by-cons len_utf8 b before)) in
    subst (λ n. IsCut text n c) same
    (is_cut text (i + len_utf8 b) before after c utf8 next (drop_past_char text rest i b is))

pub rejected_slices : (text : List ℕ) (fault : Error) (at : Span) → IsUtf8 text → IsFirstRefused text fault at → Slices text at
rejected_slices text fault at utf8 first =
    let cut = is_cut text 0 first.before first.after first.character utf8 (IsCharBoundary-start text utf8) (sym (encodes-chars text utf8) ∙ ap encodes first.stands) in
    subst (Slices text) (sym first.place) (subst (λ n. IsCut text n first.character) (zero-add (sum_by len_utf8 first.before)) cut)

pub refused_slices : (text : List ℕ) (found : Error × Span) → IsUtf8 text → MatchOption (refused text) (AllByRecursion (λ c. fault_of c ≡ None) (chars text)) (λ f. IsFirstRefused text f.0 f.1) → refused text ≡ Some found → Slices text found.1
refused_slices text found utf8 law is =
    let first = subst (λ o. MatchOption o (AllByRecursion (λ c. fault_of c ≡ None) (chars text)) (λ f. IsFirstRefused text f.0 f.1)) is law in
    rejected_slices text found.0 found.1 utf8 first
