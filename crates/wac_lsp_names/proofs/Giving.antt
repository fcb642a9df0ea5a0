-- The name at an offset gets a new one.
use Rattle.std.proofs.Common.{ℕ, List, Some, Result, Ok, Err, IfOk}
use Rattle.std.specs.Prelude.{Vec}
use Rattle.std.specs.declared.alloc.Global.{Global}
use Rattle.wac_lsp_names.specs.declared.edits.Edit.{Edit}
use Rattle.wac_lsp_names.specs.declared.occurrences.Occurrences.{Occurrences}
use Rattle.wac_lsp_names.specs.Occurrences.{AreOccurrences, IsFoundAt}
use Rattle.wac_lsp_names.specs.Edits.{IsGiven, IsGivenAt}

-- where the edits are right for the name that is found at the offset, they are right there
pub given_there : {E : Type 0} (source : List ℕ) (offset : ℕ) (new : List ℕ) (o : Occurrences) (r : Result (Vec Edit Global) E) → AreOccurrences source offset o
    → IsFoundAt source offset (Some o) → IfOk r (λ edits. IsGiven source new o edits.items) → IfOk r (λ edits. IsGivenAt source offset new edits.items)
given_there source offset new o (Ok edits) are found given = (o, are, found, given)
given_there source offset new o (Err why) are found given = tt
