use Rattle.wac_lexer.proofs.Common.{◌++◌, ◌≡◌, length, arith}
use Rattle.wac_lexer.specs.Comments.{gap}
use Rattle.wac_lexer.proofs.Gaps.{gap_done}
use Rattle.wac_lexer.proofs.Standing.{stands_alone}
use Rattle.wac_lexer.proofs.follow.tokens_are_read_back.Goals as goal

pub returns : goal.returns
returns c = λ text rest token follows.
    let first = stands_alone text rest token follows in
    let none : gap (text ++ rest) ≡ 0 = omega (arith, gap_done (text ++ rest) 0 (length (text ++ rest)) first.0) in
    (none, first.1)
