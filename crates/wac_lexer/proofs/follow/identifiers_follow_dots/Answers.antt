use Rattle.wac_lexer.proofs.Standing.{dot_follows}
use Rattle.wac_lexer.proofs.follow.identifiers_follow_dots.Goals as goal

pub returns : goal.returns
returns c = dot_follows
