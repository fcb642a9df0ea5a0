use Rattle.std.proofs.Common.{arith, sym, length}
use Rattle.std.proofs.lemmas.Bool.{false_from_ne_true}
use Rattle.std.proofs.lemmas.List.Sums.{position_or_len_is}
use Rattle.wac_positions.specs.Lines.{is_line_end}
use Rattle.wac_lsp_texts.proofs.starts.line_len.Goals as goal

pub returns-in-Some-clause-len : goal.returns-in-Some-clause-len
returns-in-Some-clause-len c =
    let found = c.in-Some.ensures in
    sym (position_or_len_is is_line_end c.args.text.now c.in-Some.at 0 (let within = found.0.high in omega arith) (λ k lt. false_from_ne_true _ (found.0.before k (omega arith) lt)) (λ _. found.1))

pub returns-in-None-clause-len : goal.returns-in-None-clause-len
returns-in-None-clause-len c =
    sym (position_or_len_is is_line_end c.args.text.now (length c.args.text.now) 0 (omega arith) (λ k lt. false_from_ne_true _ (c.in-None.ensures k (omega arith) lt)) (λ lt. absurd (omega arith)))
