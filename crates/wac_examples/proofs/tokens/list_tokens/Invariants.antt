use Rattle.std.proofs.Common.{length}
use Rattle.wac_lexer.specs.Reading.{left}
use Rattle.wac_examples.proofs.tokens.list_tokens.Given as goal

-- each token that is listed leaves one fewer
abbrev pub decreases-loop-item : goal.decreases-loop-item
decreases-loop-item l = length (left l.lexer)
