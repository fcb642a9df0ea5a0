use Rattle.std.proofs.Common.{◌≡◌, true, sym, arith, length, get_or}
use Rattle.std.proofs.lemmas.List.Sums.{position_or_len_is}
use Rattle.wac_positions.specs.Lines.{is_line_end}
use Rattle.wac_positions.proofs.lines.line_len.Goals as goal

pub returns-then-is_line_end-clause-len : goal.returns-then-is_line_end-clause-len
returns-then-is_line_end-clause-len c =
    let here : is_line_end (get_or c.args.text.now c.loop-at.at 0) ≡ true = cc in
    sym (position_or_len_is is_line_end c.args.text.now c.loop-at.at 0 (omega arith) c.loop-at.invariant (λ _. here))

pub returns-clause-len : goal.returns-clause-len
returns-clause-len c = sym (position_or_len_is is_line_end c.args.text.now (length c.args.text.now) 0 (omega arith) (λ k lt. c.loop-at.invariant k (omega arith)) (λ lt. absurd (omega arith)))
