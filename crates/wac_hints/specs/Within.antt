-- Where the edits of hints lie.
use Rattle.std.specs.Prelude.{ℕ, List, IfSome}
use Rattle.wac_lexer.specs.Reading.{Slices}
use Rattle.wac_hints.specs.declared.hints.Hint.{Hint}

-- an edit of the hint is one of a span of the text that cuts no character
abbrev pub EditsWithin : List ℕ → Hint → Type 0
EditsWithin text hint = IfSome hint.edit (λ edit. Slices text edit.span)
