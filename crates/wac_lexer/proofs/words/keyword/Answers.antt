use Rattle.wac_lexer.proofs.Common.{sym, ◌∙◌, arith}
use Rattle.wac_lexer.specs.Words.{keywords}
use Rattle.wac_lexer.proofs.Lengths.{find_with_lengths, find_too_short, find_too_long}
use Rattle.wac_lexer.proofs.words.keyword.Goals as goal

pub returns-in-2 : goal.returns-in-2
returns-in-2 c = c.of_two.ensures ∙ sym (find_with_lengths 2 2 c.args.text.now keywords (omega arith) (omega arith))

pub returns-in-3 : goal.returns-in-3
returns-in-3 c = c.of_three.ensures ∙ sym (find_with_lengths 3 3 c.args.text.now keywords (omega arith) (omega arith))

pub returns-in-4 : goal.returns-in-4
returns-in-4 c = c.of_four.ensures ∙ sym (find_with_lengths 4 4 c.args.text.now keywords (omega arith) (omega arith))

pub returns-in-5 : goal.returns-in-5
returns-in-5 c = c.of_five.ensures ∙ sym (find_with_lengths 5 5 c.args.text.now keywords (omega arith) (omega arith))

pub returns-in-6 : goal.returns-in-6
returns-in-6 c = c.of_six.ensures ∙ sym (find_with_lengths 6 6 c.args.text.now keywords (omega arith) (omega arith))

pub returns-in-7 : goal.returns-in-7
returns-in-7 c = c.of_seven.ensures ∙ sym (find_with_lengths 7 7 c.args.text.now keywords (omega arith) (omega arith))

pub returns-in-8-to-13 : goal.returns-in-8-to-13
returns-in-8-to-13 c = c.longer.ensures ∙ sym (find_with_lengths 8 13 c.args.text.now keywords (omega arith) (omega arith))

pub returns-in_default : goal.returns-in_default
returns-in_default c = sym (find_too_short c.args.text.now (omega arith))

pub returns-in_default-2 : goal.returns-in_default-2
returns-in_default-2 c = sym (find_too_long c.args.text.now (omega arith))
