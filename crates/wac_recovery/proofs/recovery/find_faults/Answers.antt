use Rattle.std.proofs.Common.{◌≡◌, refl, subst, inl, inr, ◌-◌, arith}
use Rattle.std.specs.Prelude.{MatchOption, map}
use Rattle.wac_recovery.specs.Attempts.{attempt_of, whole}
use Rattle.wac_recovery.specs.Faults.{IsFaultless, wrong_of}
use Rattle.wac_recovery.specs.Recovered.{IsRound}
use Rattle.wac_recovery.proofs.Rounds.{begins, ends, last_round, more_rounds, recovered}
use Rattle.wac_recovery.proofs.recovery.find_faults.Goals as goal
use Rattle.wac_recovery.proofs.recovery.find_faults.Goals.{In_ok-push}

round : (c : In_ok-push) → IsRound (attempt_of c.loop-count.attempt) c.in-Some.round
round c =
    let a = attempt_of c.loop-count.attempt in
    subst (λ o. MatchOption o (IsFaultless a.text) (λ r. IsRound a r)) c.in-Some.is c.in_ok-round.ensures

pub loop-count-init : goal.loop-count-init
loop-count-init c =
    begins c.args.limit (whole c.args.source.now) (attempt_of c.in_ok-attempt.attempt) c.new-faults.result.items c.in_ok-attempt.ensures c.new-faults.ensures.items

pub returns-in_default : goal.returns-in_default
returns-in_default c =
    let a = attempt_of c.loop-count.attempt in
    let none = subst (λ o. MatchOption o (IsFaultless a.text) (λ r. IsRound a r)) c.in_default.is c.in_ok-round.ensures in
    recovered c.args.source.now c.args.limit c.recovery_of.result c.loop-count.faults.items a c.recovery_of.ensures.faults c.recovery_of.ensures.left
    (ends c.args.limit (whole c.args.source.now) (map wrong_of c.loop-count.faults.items) (c.args.limit - c.loop-count._count) a c.loop-count.invariant (refl, inr none))

pub returns-in-None : goal.returns-in-None
returns-in-None c =
    let a = attempt_of c.loop-count.attempt in
    recovered c.args.source.now c.args.limit c.recovery_of-in-None.result c.push.new.self.items a c.recovery_of-in-None.ensures.faults c.recovery_of-in-None.ensures.left
    (last_round c.args.limit c.loop-count._count (whole c.args.source.now) c.loop-count.faults.items c.push.new.self.items a c.in-Some.round c.loop-count.invariant c.loop-count-test.true
    (round (goal.at.returns-in-None c).In_ok-push) c.in_ok-push.ensures.items c.in-None.is)

pub loop-count-preserved : goal.loop-count-preserved
loop-count-preserved c =
    more_rounds c.args.limit c.loop-count._count (whole c.args.source.now) c.loop-count.faults.items c.push.new.self.items (attempt_of c.loop-count.attempt) c.in-Some.round c.loop-count.invariant
    c.loop-count-test.true (round (goal.at.loop-count-preserved c).In_ok-push) c.in_ok-push.ensures.items c.in-Some-next.next c.in-Some-next.is

pub returns : goal.returns
returns c =
    let a = attempt_of c.loop-count.attempt in
    let over : c.args.limit - c.loop-count._count ≡ 0 = omega (arith, c.loop-count-test.false) in
    recovered c.args.source.now c.args.limit c.recovery_of-2.result c.loop-count.faults.items a c.recovery_of-2.ensures.faults c.recovery_of-2.ensures.left
    (ends c.args.limit (whole c.args.source.now) (map wrong_of c.loop-count.faults.items) (c.args.limit - c.loop-count._count) a c.loop-count.invariant (refl, inl over))
