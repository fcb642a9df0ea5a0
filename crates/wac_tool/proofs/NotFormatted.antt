-- What is returned for a document, by whether it is formatted.
use Rattle.wac_tool.proofs.Common.{◌≡◌, ℕ, List, [], Ok, Err, inl, inr, refl, sym, ◌≢◌, IsUtf8, Document, IsTreeOf}
use Rattle.std.proofs.Common.{append-nil}
use Rattle.wac_tool.specs.Running.{printed, Answers, IsUnformatted}
use Rattle.wac_tool.specs.declared.command.Command.TheVariants.{Check}
use Rattle.wac_tool.specs.declared.error.RunError.{RunError}
use Rattle.wac_tool.specs.declared.error.RunError.TheVariants.{Refused, Input, Output, Memory, NotUtf8}

-- Where it is, nothing is written.
pub formatted : (source : List ℕ) (document : Document) (written : List ℕ) → IsUtf8 source → IsTreeOf source document → source ≡ printed source document → Answers Check (Ok tt) source written written
formatted source document written utf8 tree same = (utf8, ([], (document, tree, same, refl), sym (append-nil written)))

-- Where it isn't, that is reported without a place, and nothing is written.
pub unformatted : (source : List ℕ) (document : Document) (answer : RunError) (written : List ℕ) → IsUtf8 source → IsTreeOf source document → source ≢ printed source document
    → IsUnformatted answer → Answers Check (Err answer) source written written
unformatted source document (Refused place message) written utf8 tree other is = (utf8, inr (document, tree, other, is.0, is.1), refl)
unformatted source document (Memory a) written utf8 tree other is = inl refl
unformatted source document Input written utf8 tree other is = absurd is
unformatted source document Output written utf8 tree other is = absurd is
unformatted source document NotUtf8 written utf8 tree other is = absurd is
