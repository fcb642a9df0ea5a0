use Rattle.wac_lexer.proofs.Common.{ap, ◌∙◌, arith}
use Rattle.wac_lexer.specs.Automaton.{class_of}
use Rattle.wac_lexer.proofs.Tables.{class_is, class_within}
use Rattle.wac_lexer.proofs.automaton.class_of.Goals as goal

pub returns-clause-class : goal.returns-clause-class
returns-clause-class c = class_is c.from.result (omega arith) ∙ ap class_of c.from.ensures

pub returns-clause-within : goal.returns-clause-within
returns-clause-within c = class_within c.from.result (omega arith)
