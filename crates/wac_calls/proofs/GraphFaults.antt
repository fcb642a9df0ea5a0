-- What is said of a text that has no graph.
use Rattle.std.proofs.Common.{◌≡◌, ℕ, List, inl, inr, ap, ⊎_elim}
use Rattle.std.specs.Prelude.{◌⊎◌, alloc_error}
use Rattle.wac_ast.specs.Document.{ErrorOf}
use Rattle.wac_ast_base.specs.Error.{told_by}
use Rattle.wac_ast_base.specs.declared.error.Error.{Error}
use Rattle.wac_ast_base.specs.declared.error.Error.TheVariants as errors
use Rattle.wac_calls.specs.Rejecting.{IsOfError}
use Rattle.wac_calls.specs.declared.outcome.Outcome.{Outcome}
use Rattle.wac_calls.specs.declared.outcome.Outcome.TheVariants.{Written, Rejected, NotUtf8, OutOfMemory, NestedTooDeep, BadPackage}
use Rattle.wac_calls.specs.Compositions.{IsOfDocument, IsOfPackage, SaysGraph}
use Rattle.wac_calls.specs.Graphs.{IsDocument}

-- the graph of a text with an error of parsing
pub graph_fault : (source : List ℕ) (e : Error) (outcome : Outcome) → (e ≡ errors.Memory alloc_error) ⊎ ErrorOf (told_by e) source
    → IsOfError (told_by e) outcome → SaysGraph source outcome
graph_fault source e (Written text) is says = absurd says
graph_fault source e (Rejected place message) is says =
    ⊎_elim (λ m. absurd (says.2 (ap told_by m))) (λ told. inl (told_by e, told, says.0, says.1)) is
graph_fault source e NotUtf8 is says = absurd says
graph_fault source e OutOfMemory is says = tt
graph_fault source e (NestedTooDeep at) is says = absurd says
graph_fault source e (BadPackage at message) is says = absurd says

-- the graph of a document that breaks a rule
pub graph_broken : (source : List ℕ) (outcome : Outcome) → IsDocument source → IsOfDocument outcome → SaysGraph source outcome
graph_broken source (Written text) is says = absurd says
graph_broken source (Rejected place message) is says = inr is
graph_broken source NotUtf8 is says = absurd says
graph_broken source OutOfMemory is says = tt
graph_broken source (NestedTooDeep at) is says = absurd says
graph_broken source (BadPackage at message) is says = absurd says

-- the graph of a text whose packages are rejected
pub graph_without : (source : List ℕ) (outcome : Outcome) → IsOfPackage outcome → SaysGraph source outcome
graph_without source (Written text) says = absurd says
graph_without source (Rejected place message) says = absurd says
graph_without source NotUtf8 says = absurd says
graph_without source OutOfMemory says = tt
graph_without source (NestedTooDeep at) says = absurd says
graph_without source (BadPackage at message) says = tt
