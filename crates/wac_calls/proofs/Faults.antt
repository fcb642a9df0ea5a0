-- What tidying says of an error.
use Rattle.std.proofs.Common.{ℕ, List, inl, inr}
use Rattle.wac_ast.specs.Document.{ErrorOf}
use Rattle.wac_ast_base.specs.Error.{Told}
use Rattle.wac_calls.specs.Rejecting.{IsOfError}
use Rattle.wac_calls.specs.Tidying.{IsNotKept, SaysTidy}
use Rattle.wac_calls.specs.declared.outcome.Outcome.{Outcome}
use Rattle.wac_calls.specs.declared.outcome.Outcome.TheVariants.{Written, Rejected, NotUtf8, OutOfMemory, NestedTooDeep, BadPackage}

-- tidying a text with an error of parsing
pub tidy_fault : (source : List ℕ) (e : Told) (outcome : Outcome) → ErrorOf e source → IsOfError e outcome → SaysTidy source outcome
tidy_fault source e (Written text) is says = absurd says
tidy_fault source e (Rejected place message) is says = inl (e, is, says.0, says.1)
tidy_fault source e NotUtf8 is says = absurd says
tidy_fault source e OutOfMemory is says = tt
tidy_fault source e (NestedTooDeep at) is says = absurd says
tidy_fault source e (BadPackage at message) is says = absurd says

-- tidying a text whose comments could not be kept
pub tidy_not_kept : (source : List ℕ) (outcome : Outcome) → IsNotKept outcome → SaysTidy source outcome
tidy_not_kept source (Written text) says = absurd says
tidy_not_kept source (Rejected place message) says = inr says
tidy_not_kept source NotUtf8 says = absurd says
tidy_not_kept source OutOfMemory says = tt
tidy_not_kept source (NestedTooDeep at) says = absurd says
tidy_not_kept source (BadPackage at message) says = absurd says
