use Rattle.wac_lexer.specs.Reading.{left}
use Rattle.wac_lexer.proofs.Ahead.{second_token}
use Rattle.wac_lexer.proofs.lexer.Lexer.peek2.Goals as goal

pub returns-clause-gives : goal.returns-clause-gives
unfolding left
returns-clause-gives c =
    rw (← c.self.view_is) (second_token c.self.inside.scanner.source.now c.self.inside.place c.self.inside.first c.self.inside.second c.self.inside.scanner.scans c.self.invariant.1)
