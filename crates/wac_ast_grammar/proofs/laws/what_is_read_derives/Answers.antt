use Rattle.wac_ast_grammar.proofs.Sound.{sound}
use Rattle.wac_ast_grammar.proofs.laws.what_is_read_derives.Goals as goal

pub returns : goal.returns
returns c = λ s items rest tree h. sound s items tree rest h
