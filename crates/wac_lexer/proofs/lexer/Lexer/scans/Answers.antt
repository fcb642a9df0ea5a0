use Rattle.wac_lexer.proofs.Common.{arith}
use Rattle.wac_lexer.proofs.Found.{before_within}
use Rattle.wac_lexer.proofs.lexer.Lexer.scans.Goals as goal

pub returns-clause-within : goal.returns-clause-within
returns-clause-within c =
    rw (← c.self.view_is) (omega (arith, c.self.invariant.1.bound, c.scans.ensures, before_within c.self.inside.scanner.source.now c.self.inside.place))
