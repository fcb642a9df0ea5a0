-- The names of a text are those of its document.
use Rattle.std.proofs.Common.{◌≡◌, ◌≢◌, ℕ, List, Option, Some, None, Result, Ok, Err, IfOk}
use Rattle.std.specs.Prelude.{IsSomeAnd, alloc_error}
use Rattle.wac_ast_grammar.specs.Tree.{Document}
use Rattle.wac_ast_grammar.specs.TextTree.{IsTreeOf}
use Rattle.wac_ast_base.specs.declared.error.Error.{Error}
use Rattle.wac_ast_base.specs.declared.error.Error.TheVariants as errors
use Rattle.wac_names.specs.declared.names.Names.{Names}
use Rattle.wac_names.specs.LookedUp.{AreLookedUp, IsFoundOf}
use Rattle.wac_names.specs.LookUps.{document_look_ups}

pub of_document : {E : Type 0} (text : List ℕ) (doc : Document) (r : Result (Option Names) E) → IsTreeOf text doc
    → IfOk r (λ found. IsSomeAnd found (AreLookedUp text (document_look_ups doc))) → IfOk r (IsFoundOf text)
of_document text doc (Ok (Some names)) is h = (doc, is, h)
of_document text doc (Ok None) is h = absurd h
of_document text doc (Err x) is h = tt

-- an error of parsing that isn't out of memory comes of no document
pub of_none : {E : Type 0} (text : List ℕ) (e : Error) (r : Result (Option Names) E) → ((doc : Document) → IsTreeOf text doc → e ≡ errors.Memory alloc_error)
    → IfOk r (λ found. (e ≢ errors.Memory alloc_error) × (found ≡ None)) → IfOk r (IsFoundOf text)
of_none text e (Ok (Some names)) only h = absurd (let k = h.1 in cc)
of_none text e (Ok None) only h = λ doc is. absurd (h.0 (only doc is))
of_none text e (Err x) only h = tt
