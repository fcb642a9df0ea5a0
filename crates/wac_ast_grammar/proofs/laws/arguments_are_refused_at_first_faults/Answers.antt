use Rattle.wac_ast_grammar.proofs.Arguments.{stopped_argument}
use Rattle.wac_ast_grammar.proofs.laws.arguments_are_refused_at_first_faults.Goals as goal

pub returns : goal.returns
returns c = stopped_argument
