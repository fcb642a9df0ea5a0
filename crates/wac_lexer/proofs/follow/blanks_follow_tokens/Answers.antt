use Rattle.wac_lexer.proofs.Standing.{blank_follows}
use Rattle.wac_lexer.proofs.follow.blanks_follow_tokens.Goals as goal

pub returns : goal.returns
returns c = blank_follows
