use Rattle.wac_comments_layout.proofs.Common.{◌≡◌, sym, ap, ◌∙◌, arith, drop, Bool, true, ◌-◌, ◌+◌, length-drop, opens, closes, after}
use Rattle.wac_lexer.proofs.Pieces.{walk_opens, walk_closes, walk_other, opens_within, closes_within}
use Rattle.wac_comments_layout.proofs.parts.comment_end.Goals as goal
use Rattle.wac_comments_layout.proofs.parts.comment_end.Goals.{After-opens, After-closes}

opens_is : (c : After-opens) (b : Bool) → c.opens.result ≡ b → opens (drop c.loop-i.i c.args.bytes.now) ≡ b
opens_is c b e = ap opens (sym c.split_at.ensures.back) ∙ sym c.opens.ensures ∙ e

closes_is : (c : After-closes) (b : Bool) → c.closes.result ≡ b → closes (drop c.loop-i.i c.args.bytes.now) ≡ b
closes_is c b e = ap closes (sym c.split_at.ensures.back) ∙ sym c.closes.ensures ∙ e

pub loop-i-preserved-then-opens : goal.loop-i-preserved-then-opens
loop-i-preserved-then-opens c =
    let o = opens_is (goal.at.loop-i-preserved-then-opens c).After-opens _ c.if-opens.true in
    let room = opens_within (drop c.loop-i.i c.args.bytes.now) o in
    record {
      within = omega (arith, length-drop c.loop-i.i c.args.bytes.now);
      deep = omega arith;
      few = omega arith;
      left = sym (walk_opens c.args.bytes.now c.loop-i.i c.loop-i.depth c.loop-i.invariant.deep o) ∙ c.loop-i.invariant.left;
    }

closed : (c : After-closes) → c.closes.result ≡ true → after (c.loop-i.depth - 1) (drop (c.loop-i.i + 2) c.args.bytes.now) ≡ after 1 c.args.bytes.now
closed c e = sym (walk_closes c.args.bytes.now c.loop-i.i c.loop-i.depth c.loop-i.invariant.deep (closes_is c _ e)) ∙ c.loop-i.invariant.left

pub returns-then-depth-eq0-clause-within : goal.returns-then-depth-eq0-clause-within
returns-then-depth-eq0-clause-within c =
    let room = closes_within (drop c.loop-i.i c.args.bytes.now) (closes_is (goal.at.returns-then-depth-eq0-clause-within c).After-closes _ c.if-closes.true) in
    omega (arith, length-drop c.loop-i.i c.args.bytes.now)

pub returns-then-depth-eq0-clause-ends : goal.returns-then-depth-eq0-clause-ends
returns-then-depth-eq0-clause-ends c =
    sym (closed (goal.at.returns-then-depth-eq0-clause-ends c).After-closes c.if-closes.true) ∙ ap (λ d. after d (drop (c.loop-i.i + 2) c.args.bytes.now)) c.if-depth-eq0.true

pub loop-i-preserved-else-depth-eq0 : goal.loop-i-preserved-else-depth-eq0
loop-i-preserved-else-depth-eq0 c =
    let room = closes_within (drop c.loop-i.i c.args.bytes.now) (closes_is (goal.at.loop-i-preserved-else-depth-eq0 c).After-closes _ c.if-closes.true) in
    record {
      within = omega (arith, length-drop c.loop-i.i c.args.bytes.now);
      deep = omega arith;
      few = omega arith;
      left = closed (goal.at.loop-i-preserved-else-depth-eq0 c).After-closes c.if-closes.true;
    }

pub loop-i-preserved : goal.loop-i-preserved
loop-i-preserved c =
    let o = opens_is (goal.at.loop-i-preserved c).After-opens _ c.if-opens.false in
    let e = closes_is (goal.at.loop-i-preserved c).After-closes _ c.if-closes.false in
    record {
      within = omega arith;
      deep = omega arith;
      few = omega arith;
      left = sym (walk_other c.args.bytes.now c.loop-i.i c.loop-i.depth c.loop-i.invariant.deep o e) ∙ c.loop-i.invariant.left;
    }
