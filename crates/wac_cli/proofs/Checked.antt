-- What follows of the outcomes of files that were checked.
use Rattle.wac_cli.proofs.Common.{◌≡◌, ◌≢◌, ℕ, ◌+◌, ◌<◌, sym, ap, ◌∙◌, subst, inl, inr, List, ◌++◌, [], ◌∷◌, length, take, get_or, take_more, true, Result, Ok, Err, Option, None, MatchOption, Vec, Global, FileError, Found, IsFailure, failure_of, Outcome, Untidy, Rejected}
use Rattle.wac_diagnostics.specs.declared.diagnostic.Diagnostic.{Diagnostic}
use Rattle.wac_first_error.specs.Verdicts.{IsVerdict}
use Rattle.wac_first_error.specs.declared.first.Verdict.{Verdict}
use Rattle.wac_first_error.specs.declared.first.Verdict.TheVariants as verdicts
use Rattle.wac_files.specs.declared.error.FileError.TheVariants as errors
use Rattle.wac_cli.specs.Checked.{AreChecks, IsCheckOf, IsFoundCheck, IsReadCheck}

-- one file more
checks_more : (all : List Found) (outcomes : List Outcome) (found : Found) (outcome : Outcome) → AreChecks all outcomes → IsFoundCheck found outcome
    → AreChecks (all ++ found ∷ []) (outcomes ++ outcome ∷ [])
checks_more [] [] found outcome checks one = (one, tt)
checks_more [] (o ∷ outcomes) found outcome never one = absurd never
checks_more (f ∷ all) [] found outcome never one = absurd never
checks_more (f ∷ all) (o ∷ outcomes) found outcome checks one = (checks.0, checks_more all outcomes found outcome checks.1 one)

-- a file more among those up to an index
pub checks_step : (all : List Found) (i : ℕ) (found : Found) (outcomes more : List Outcome) (outcome : Outcome)
    → i < length all → found ≡ get_or all i found → more ≡ outcomes ++ outcome ∷ []
    → AreChecks (take i all) outcomes → IsFoundCheck found outcome → AreChecks (take (i + 1) all) more
checks_step all i found outcomes more outcome within is pushed checks one =
    let taken : take (i + 1) all ≡ take i all ++ found ∷ [] = take_more all i found within ∙ ap (λ (f : Found). take i all ++ f ∷ []) (sym is) in
    rw (taken, pushed) (checks_more (take i all) outcomes found outcome checks one)

tidy_no_failure : (error : FileError) → failure_of error ≢ Untidy
tidy_no_failure errors.NotFound e = cc
tidy_no_failure errors.PermissionDenied e = cc
tidy_no_failure errors.ReadOnly e = cc
tidy_no_failure errors.NotAFile e = cc
tidy_no_failure errors.ChangedMeanwhile e = cc
tidy_no_failure errors.NameNotUtf8 e = cc
tidy_no_failure errors.NameTooLong e = cc
tidy_no_failure (errors.TooLarge most) e = cc
tidy_no_failure (errors.Interrupted kept) e = cc
tidy_no_failure (errors.HalfWritten kept) e = cc
tidy_no_failure (errors.System kind) e = cc
tidy_no_failure errors.OutOfMemory e = cc

failure_no_tidy : (error : FileError) (outcome : Outcome) → IsFailure error outcome → outcome ≢ Untidy
failure_no_tidy error outcome (inl is) e = tidy_no_failure error (sym is ∙ e)
failure_no_tidy error outcome (inr is) e = cc

bytes_no_tidy : (bytes : List ℕ) (outcome : Outcome) → IsCheckOf bytes outcome → outcome ≢ Untidy
bytes_no_tidy bytes outcome is e = let P : Outcome → Type 0 = λ o. IsCheckOf bytes o in absurd (subst P e is)

pub result_no_tidy : (read : Result (Vec ℕ Global) FileError) (outcome : Outcome) → IsReadCheck read outcome → outcome ≢ Untidy
result_no_tidy (Ok bytes) outcome is e = bytes_no_tidy bytes.items outcome is e
result_no_tidy (Err error) outcome is e = failure_no_tidy error outcome is e

-- where a file was found, its outcome is that of what was read
pub found_check : (failure : Option FileError) (read : Result (Vec ℕ Global) FileError) (outcome : Outcome) → failure ≡ None → IsReadCheck read outcome
    → MatchOption failure (outcome ≢ Untidy) (λ error. IsFailure error outcome)
found_check failure read outcome none is =
    let P : Option FileError → Type 0 = λ f. MatchOption f (outcome ≢ Untidy) (λ error. IsFailure error outcome) in
    subst P (sym none) (result_no_tidy read outcome is)

-- memory that ran out is an outcome of any bytes
pub memory_checks : (bytes : List ℕ) (outcome : Outcome) → IsFailure errors.OutOfMemory outcome → IsCheckOf bytes outcome
memory_checks bytes outcome (inl is) = let P : Outcome → Type 0 = λ o. IsCheckOf bytes o in subst P (sym is) tt
memory_checks bytes outcome (inr is) = let P : Outcome → Type 0 = λ o. IsCheckOf bytes o in subst P (sym is) tt

-- bytes of which a verdict says what is wrong are rejected
pub verdict_rejects : (bytes : List ℕ) (verdict : Verdict) (d : Diagnostic) → verdict ≡ verdicts.Rejected d → IsVerdict bytes true verdict → IsCheckOf bytes Rejected
verdict_rejects bytes verdict d is verdict_is =
    let P : Verdict → Type 0 = λ v. IsVerdict bytes true v in
    (d, subst P is verdict_is)

-- what was read is judged by its bytes
pub read_checks : (read : Result (Vec ℕ Global) FileError) (bytes : Vec ℕ Global) (now : List ℕ) (outcome : Outcome) → read ≡ Ok bytes → now ≡ bytes.items
    → IsCheckOf now outcome → IsReadCheck read outcome
read_checks read bytes now outcome is same checks =
    let P : List ℕ → Type 0 = λ list. IsCheckOf list outcome in
    let Q : Result (Vec ℕ Global) FileError → Type 0 = λ r. IsReadCheck r outcome in
    subst Q (sym is) (subst P same checks)
