use Rattle.std.proofs.Common.{◌≡◌, None}
use Rattle.wac_examples.proofs.errors.first_error.Goals as goal

-- a text that is a document has no error but out of memory, and that one has no place
pub returns-in-Some : goal.returns-in-Some
returns-in-Some c = (
  λ none. absurd (cc none),
  λ is.
      let nowhere : c.place_of.result ≡ None = c.place_of.ensures (c.in-Err.ensures.only is.0 is.1) in
      absurd (cc (nowhere, c.in-Some.is)),
)
