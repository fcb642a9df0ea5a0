-- What follows of the outcomes of files that were formatted.
use Rattle.wac_cli.proofs.Common.{◌≡◌, ◌≢◌, ℕ, ◌+◌, ◌<◌, refl, sym, ap, ◌∙◌, subst, inl, inr, List, ◌++◌, [], ◌∷◌, length, take, get_or, append-nil, take_more, Option, Some, None, MatchOption, string_bytes, Replacement, FileError, Found, IsFailure, failure_of, Outcome, Good, Untidy, Unresolved, Rejected, Failed, OutOfMemory}
use Rattle.wac_files.specs.declared.error.FileError.TheVariants as errors
use Rattle.wac_cli.specs.Formatted.{IsReplaced, ComesTo, FailsWith, FoundComesTo, ComeTo}
use Rattle.wac_cli.specs.Replacing.{OnlyFormats}
use Rattle.wac_cli.specs.declared.options.FormatOptions.{FormatOptions}
use Rattle.wac_cli.proofs.Replaced.{both}

-- memory that ran out is an outcome, whatever failed
memory_comes : (options : FormatOptions) (path : List ℕ) (error : FileError) (before after : List Replacement) → FailsWith options path error before after
    → ComesTo options path OutOfMemory before after
memory_comes options path error before after (inl same) = inl same
memory_comes options path error before after (inr w) = inr w.1

-- nothing was replaced, unless memory ran out
same_comes : (options : FormatOptions) (path : List ℕ) (error : FileError) (before after : List Replacement) → error ≢ errors.OutOfMemory
    → FailsWith options path error before after → after ≡ before
same_comes options path error before after other (inl same) = same
same_comes options path error before after other (inr w) = absurd (other w.0)

failure_comes : (options : FormatOptions) (path : List ℕ) (error : FileError) (before after : List Replacement) → FailsWith options path error before after
    → ComesTo options path (failure_of error) before after
failure_comes options path errors.NotFound before after fails = same_comes options path errors.NotFound before after (λ e. cc) fails
failure_comes options path errors.PermissionDenied before after fails = same_comes options path errors.PermissionDenied before after (λ e. cc) fails
failure_comes options path errors.ReadOnly before after fails = same_comes options path errors.ReadOnly before after (λ e. cc) fails
failure_comes options path errors.NotAFile before after fails = same_comes options path errors.NotAFile before after (λ e. cc) fails
failure_comes options path errors.ChangedMeanwhile before after fails = same_comes options path errors.ChangedMeanwhile before after (λ e. cc) fails
failure_comes options path errors.NameNotUtf8 before after fails = same_comes options path errors.NameNotUtf8 before after (λ e. cc) fails
failure_comes options path errors.NameTooLong before after fails = same_comes options path errors.NameTooLong before after (λ e. cc) fails
failure_comes options path (errors.TooLarge most) before after fails = same_comes options path (errors.TooLarge most) before after (λ e. cc) fails
failure_comes options path (errors.Interrupted kept) before after fails = same_comes options path (errors.Interrupted kept) before after (λ e. cc) fails
failure_comes options path (errors.HalfWritten kept) before after fails = same_comes options path (errors.HalfWritten kept) before after (λ e. cc) fails
failure_comes options path (errors.System kind) before after fails = same_comes options path (errors.System kind) before after (λ e. cc) fails
failure_comes options path errors.OutOfMemory before after fails = memory_comes options path errors.OutOfMemory before after fails

-- a failure that was reported is the outcome
pub fails_comes : (options : FormatOptions) (path : List ℕ) (error : FileError) (outcome : Outcome) (before after : List Replacement)
    → FailsWith options path error before after → IsFailure error outcome → ComesTo options path outcome before after
fails_comes options path error outcome before after fails (inl is) =
    let P : Outcome → Type 0 = λ o. ComesTo options path o before after in
    subst P (sym is) (failure_comes options path error before after fails)
fails_comes options path error outcome before after fails (inr is) =
    let P : Outcome → Type 0 = λ o. ComesTo options path o before after in
    subst P (sym is) (memory_comes options path error before after fails)

same_only : (options : FormatOptions) (before after : List Replacement) → after ≡ before → OnlyFormats options before after
same_only options before after same = ([], same ∙ sym (append-nil before), tt)

replaced_only : (options : FormatOptions) (path : List ℕ) (before after : List Replacement) → IsReplaced options path before after → OnlyFormats options before after
replaced_only options path before after is = (is.0 ∷ [], is.3, (is.2, tt))

comes_only : (options : FormatOptions) (path : List ℕ) (outcome : Outcome) (before after : List Replacement) → ComesTo options path outcome before after → OnlyFormats options before after
comes_only options path Good before after same = same_only options before after same
comes_only options path Untidy before after (inl is) = replaced_only options path before after is
comes_only options path Untidy before after (inr looks) = same_only options before after looks.1
comes_only options path Unresolved before after never = absurd never
comes_only options path Rejected before after same = same_only options before after same
comes_only options path Failed before after same = same_only options before after same
comes_only options path OutOfMemory before after (inl same) = same_only options before after same
comes_only options path OutOfMemory before after (inr is) = replaced_only options path before after is

match_only : (options : FormatOptions) (path : List ℕ) (failure : Option FileError) (outcome : Outcome) (before after : List Replacement)
    → MatchOption failure (ComesTo options path outcome before after) (λ error. IsFailure error outcome × (after ≡ before)) → OnlyFormats options before after
match_only options path None outcome before after comes = comes_only options path outcome before after comes
match_only options path (Some error) outcome before after comes = same_only options before after comes.1

-- formatting what was found replaces nothing else
pub found_only : (options : FormatOptions) (found : Found) (outcome : Outcome) (before after : List Replacement) → FoundComesTo options found outcome before after
    → OnlyFormats options before after
found_only options found outcome before after comes = match_only options (string_bytes found.path) found.failure outcome before after comes

-- and so for all that was found
pub come_only : (options : FormatOptions) (all : List Found) (outcomes : List Outcome) (before after : List Replacement) → ComeTo options all outcomes before after
    → OnlyFormats options before after
come_only options [] [] before after same = same_only options before after same
come_only options [] (outcome ∷ outcomes) before after never = absurd never
come_only options (found ∷ more) [] before after never = absurd never
come_only options (found ∷ more) (outcome ∷ outcomes) before after come =
    both options before come.0 after (found_only options found outcome before come.0 come.1) (come_only options more outcomes come.0 after come.2)

-- one file more
come_more : (options : FormatOptions) (all : List Found) (outcomes : List Outcome) (found : Found) (outcome : Outcome) (before between after : List Replacement)
    → ComeTo options all outcomes before between → FoundComesTo options found outcome between after → ComeTo options (all ++ found ∷ []) (outcomes ++ outcome ∷ []) before after
come_more options [] [] found outcome before between after same one =
    let P : List Replacement → Type 0 = λ rs. FoundComesTo options found outcome rs after in
    (after, subst P same one, refl)
come_more options [] (o ∷ outcomes) found outcome before between after never one = absurd never
come_more options (f ∷ all) [] found outcome before between after never one = absurd never
come_more options (f ∷ all) (o ∷ outcomes) found outcome before between after come one =
    (come.0, come.1, come_more options all outcomes found outcome come.0 between after come.2 one)

-- a file more among those up to an index
pub come_step : (options : FormatOptions) (all : List Found) (i : ℕ) (found : Found) (outcomes more : List Outcome) (outcome : Outcome) (before between after : List Replacement)
    → i < length all → found ≡ get_or all i found → more ≡ outcomes ++ outcome ∷ []
    → ComeTo options (take i all) outcomes before between → FoundComesTo options found outcome between after
    → ComeTo options (take (i + 1) all) more before after
come_step options all i found outcomes more outcome before between after within is pushed come one =
    let taken : take (i + 1) all ≡ take i all ++ found ∷ [] = take_more all i found within ∙ ap (λ (f : Found). take i all ++ f ∷ []) (sym is) in
    rw (taken, pushed) (come_more options (take i all) outcomes found outcome before between after come one)
