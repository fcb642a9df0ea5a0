use Rattle.wac_lexer.specs.Reading.{left}
use Rattle.wac_lexer.proofs.Unfolded.{first_docs}
use Rattle.wac_lexer.proofs.lexer.Lexer.comments.Goals as goal

pub returns-clause-first : goal.returns-clause-first
unfolding left
returns-clause-first c = first_docs c.args.self.now.source c.args.self.now.place
