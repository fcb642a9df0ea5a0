use denote.Enum.Bare.{same_true, true_same}
use Rattle.wac_lexer.specs.contracts.token.Token.{the_type}
use Rattle.wac_lexer.proofs.laws.equality_reads_all.Goals as goal

pub returns-clause-tokens : goal.returns-clause-tokens
returns-clause-tokens c = λ a b. (same_true the_type tt a b, true_same the_type a b)
