-- Where a message is among bytes.
use Rattle.std.specs.Prelude.{ℕ, ◌<◌, ◌≤◌, ◌+◌}
use Rattle.wac_lsp_messages.specs.declared.frame.Frame.{Frame}
use Rattle.wac_lsp_messages.specs.declared.frame.Frame.TheVariants.{Partial, Whole, TooLong, Broken}

-- the longest body that is received, in bytes: 64 MB
abbrev pub most_body : ℕ
most_body = 67108864

-- The body of a message lies within so many bytes, and isn't longer than the longest; one that is longer ends after more
-- bytes than that.
abbrev pub LiesIn : ℕ → Frame → Type 0
LiesIn len Partial = Unit {0}
LiesIn len (Whole start end) = (start ≤ end) × (end ≤ len) × (end ≤ start + most_body)
LiesIn len (TooLong end) = most_body < end
LiesIn len (Broken error) = Unit {0}
