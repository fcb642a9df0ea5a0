-- What the error of a result says.
use Rattle.std.specs.Prelude.{Result, IfErr}
use Rattle.wac_resolution_errors.specs.Error.{Reports}
use Rattle.wac_resolution_errors.specs.Error as models
use Rattle.wac_resolution_errors.specs.ErrorModel.{error_model}
use Rattle.wac_resolution_errors.specs.declared.error.Error.{Error}

-- this holds of what the error reports, unless memory ran out
abbrev pub ErrorSays : {X : Type 0} → Result X Error → (models.Error → Type 0) → Type 0
ErrorSays result Holds = IfErr result (λ e. Reports (error_model e) (Holds (error_model e)))
