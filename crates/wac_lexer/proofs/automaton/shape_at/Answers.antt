use Rattle.wac_lexer.proofs.Common.{sym, arith}
use Rattle.wac_lexer.proofs.Tables.{ends_none}
use Rattle.wac_lexer.proofs.automaton.shape_at.Goals as goal

pub returns-in_default : goal.returns-in_default
returns-in_default c = sym (ends_none c.args.state (omega arith))
