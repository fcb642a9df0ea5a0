use Rattle.wac_lexer.proofs.Common.{◌≡◌, ◌≤◌, ℕ, sym, ap, ◌∙◌, arith, length, drop, zero-add, length-drop}
use Rattle.wac_lexer.specs.Comments.{part_len}
use Rattle.wac_lexer.proofs.Gaps.{gap_done, gap_more, gap_end}
use Rattle.wac_lexer.proofs.comments.gap.Goals as goal
use Rattle.wac_lexer.proofs.comments.gap.Goals.{After-part_len-len}

part_is : (c : After-part_len-len) (p : ℕ) → c.part_len-len.result ≡ p → part_len (drop c.loop-i.i c.args.bytes.now) ≡ p
part_is c p e = ap part_len (sym c.split_at.ensures.back) ∙ sym c.part_len-len.ensures.len ∙ e

pub loop-i-init : goal.loop-i-init
loop-i-init c = record { within = omega arith; left = (length c.args.bytes.now, omega arith, zero-add _) }

pub returns-then-len-eq0-clause-len : goal.returns-then-len-eq0-clause-len
returns-then-len-eq0-clause-len c =
    let left = c.loop-i.invariant.left in
    sym (gap_done (drop c.loop-i.i c.args.bytes.now) c.loop-i.i left.0 (part_is (goal.at.returns-then-len-eq0-clause-len c).After-part_len-len 0 c.if-len-eq0.true)) ∙ left.2

pub loop-i-preserved : goal.loop-i-preserved
loop-i-preserved c =
    let left = c.loop-i.invariant.left in
    let bytes = c.args.bytes.now in
    let i = c.loop-i.i in
    let p = c.part_len-len.result in
    let fits : p ≤ length (drop i bytes) = omega (arith, ap length c.split_at.ensures.back) in
    record {
      within = omega (arith, length-drop i bytes);
      left = gap_more bytes i left.0 p _ (part_is (goal.at.loop-i-preserved c).After-part_len-len p (λ k. p)) (omega arith) fits c.loop-i.invariant.within left.1 left.2;
    }

pub returns-clause-len : goal.returns-clause-len
returns-clause-len c =
    let left = c.loop-i.invariant.left in
    gap_end c.args.bytes.now c.loop-i.i left.0 _ (omega arith) left.2
