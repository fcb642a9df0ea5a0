use Rattle.wac_lexer.proofs.Common.{rules, ◌≡◌, ◌≤◌, ◌++◌, ◌∙◌, ap, subst, take, drop, length}
use Rattle.wac_lexer.proofs.Passing.{passed_on, all_passed_on, same_before, alike}
use Rattle.wac_lexer.proofs.device.Blocks.flush.Goals as goal

pub returns-then-n-wanted-clause-same : goal.returns-then-n-wanted-clause-same
returns-then-n-wanted-clause-same g c =
    let i = c.self.inside in
    let b = g.S.Sink.bytes i.sink in
    let n = c.put_until_failure-n.result in
    let r = c.split_at-2.result.1.now in
    let rest : r ≡ drop i.start (take i.end i.block) = search rules in
    let o = c.put_until_failure-n.ensures in
    let before = same_before b i.tally.moved (take n r) _ _ c.self.invariant.2 o.taken c.after-self-inside.ensures.0 in
    alike _ _ _ _ _ _
    (before ∙ ap (λ v. v.before) c.self.view_is)
    (o.same ∙ ap (λ v. v.borrow) c.self.view_is)
    (passed_on b _ (take i.end i.block) i.start n (o.taken ∙ ap (λ x. b ++ take n x) rest) ∙ ap (λ v. v.sunk ++ v.held) c.self.view_is)

pub returns-clause-same : goal.returns-clause-same
returns-clause-same g c =
    let i = c.self.inside in
    let b = g.S.Sink.bytes i.sink in
    let n = c.put_until_failure-n.result in
    let r = c.split_at-2.result.1.now in
    let rest : r ≡ drop i.start (take i.end i.block) = search rules in
    let o = c.put_until_failure-n.ensures in
    let before = same_before b i.tally.moved (take n r) _ _ c.self.invariant.2 o.taken c.after-self-inside.ensures.0 in
    let all : length (drop i.start (take i.end i.block)) ≤ n = subst (λ x. length x ≤ n) rest c.if-n-wanted.false in
    alike _ _ _ _ _ _
    (before ∙ ap (λ v. v.before) c.self.view_is)
    (o.same ∙ ap (λ v. v.borrow) c.self.view_is)
    (all_passed_on b _ (take i.end i.block) i.start n (o.taken ∙ ap (λ x. b ++ take n x) rest) all ∙ ap (λ v. v.sunk ++ v.held) c.self.view_is)
