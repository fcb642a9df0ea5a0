-- What is told of bytes by their verdict.
use Rattle.std.proofs.Common.{◌≡◌, ◌∙◌, subst, ℕ, ◌<◌, List, [], ◌∷◌, Bool, Option, Result, Ok, Err, IfOk, inl, inr}
use Rattle.std.specs.Prelude.{Vec}
use Rattle.std.specs.declared.alloc.Global.{Global}
use Rattle.wac_lexer.specs.Span.{Span}
use Rattle.wac_diagnostics.specs.Reports.{Says}
use Rattle.wac_diagnostics.specs.declared.diagnostic.Diagnostic.{Diagnostic}
use Rattle.wac_first_error.specs.Verdicts.{IsVerdict}
use Rattle.wac_first_error.specs.declared.first.Verdict.{Verdict}
use Rattle.wac_first_error.specs.declared.first.Verdict.TheVariants as verdicts
use Rattle.wac_all_errors.specs.Telling.{BeginsWith, IsTold, SaysSame}
use Rattle.wac_all_errors.specs.declared.finding.Finding.{Finding}

says_so : (code message : List ℕ) (at : Option Span) (known told : Diagnostic) → Says code message at known → SaysSame known told → Says code message at told
says_so code message at known told says same =
    record {
      is_error = same.0 ∙ says.is_error;
      has_code = same.1 ∙ says.has_code;
      has_message = same.2 ∙ says.has_message;
      has_place = same.3 ∙ says.has_place;
    }

-- a verdict speaks only of the code, the message and the place
verdict_so : (bytes : List ℕ) (resolve : Bool) (known told : Diagnostic) → IsVerdict bytes resolve (verdicts.Rejected known) → SaysSame known told → IsVerdict bytes resolve (verdicts.Rejected told)
verdict_so bytes resolve known told (inl bad) same = inl (bad.0, (bad.1.0, bad.1.1, says_so _ _ _ known told bad.1.2 same))
verdict_so bytes resolve known told (inr (inl marked)) same = inr (inl (marked.0, says_so _ _ _ known told marked.1 same))
verdict_so bytes resolve known told (inr (inr (inl deep))) same = inr (inr (inl (deep.0, deep.1, says_so _ _ _ known told deep.2 same)))
verdict_so bytes resolve known told (inr (inr (inr (inl fault)))) same =
    inr (inr (inr (inl (fault.0, (fault.1.0, fault.1.1, says_so _ _ _ known told fault.1.2 same)))))
verdict_so bytes resolve known told (inr (inr (inr (inr rule)))) same =
    let broken = rule.1.2 in
    inr (inr (inr (inr (rule.0, (rule.1.0, rule.1.1, (broken.0, broken.1, (broken.2.0, broken.2.1, says_so _ _ _ known told broken.2.2 same)))))))

-- what begins with what is wrong first is told
pub is_told : (bytes : List ℕ) (resolve : Bool) (verdict : Verdict) (known : Diagnostic) (found : List Finding) → verdict ≡ verdicts.Rejected known → IsVerdict bytes resolve verdict → BeginsWith known found
    → IsTold bytes resolve found
is_told bytes resolve verdict known [] is verdict_is begins = absurd begins
is_told bytes resolve verdict known (finding ∷ others) is verdict_is begins =
    let P : Verdict → Type 0 = λ v. IsVerdict bytes resolve v in
    verdict_so bytes resolve known finding.diagnostic (subst P is verdict_is) begins

-- so where what is found begins with it
pub told_from : {E : Type 0} (bytes : List ℕ) (resolve : Bool) (verdict : Verdict) (known : Diagnostic) (limit : ℕ) (r : Result (Vec Finding Global) E) → verdict ≡ verdicts.Rejected known → IsVerdict bytes resolve verdict
    → IfOk r (λ found. BeginsWith known found.items) → IfOk r (λ found. 0 < limit → IsTold bytes resolve found.items)
told_from bytes resolve verdict known limit (Ok found) is verdict_is begins = λ some. is_told bytes resolve verdict known found.items is verdict_is begins
told_from bytes resolve verdict known limit (Err e) is verdict_is begins = tt
