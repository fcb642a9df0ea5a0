-- What an error reports is taken further; where memory ran out, nothing is.
use Rattle.std.proofs.Common.{inl, inr}
use Rattle.std.specs.Prelude.{Result, Ok, Err, IfErr}
use Rattle.wac_resolution_errors.specs.Error.{Error, Reports}
use Rattle.wac_resolution_errors.specs.ErrorModel.{error_model}
use Rattle.wac_resolution_errors.specs.declared.error.Error.{Error as CodeError}

-- what follows from what an error reports
pub reports : {e : Error} {P Q : Type 0} → Reports e P → (P → Q) → Reports e Q
reports (inl ran_out) f = inl ran_out
reports (inr p) f = inr (f p)

-- the same for the error of a result, where it is known of every result
pub if_reports : {T : Type 0} (P Q : CodeError → Type 0) → ((s : Result T CodeError) → IfErr s P → IfErr s Q) → (r : Result T CodeError) → IfErr r (λ e. Reports (error_model e) (P e)) → IfErr r (λ e. Reports (error_model e) (Q e))
if_reports P Q f (Ok x) h = tt
if_reports P Q f (Err e) h = reports h (f (Err e))
