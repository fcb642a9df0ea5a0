use Rattle.wac_tool_graphs.proofs.Common.{◌≡◌, ◌∙◌, ◌++◌, ◌∷◌, [], cond, ap, sym, is_ok}
use Rattle.wac_tool_graphs.proofs.Agreeing.{added_after, last_agrees, on_ok, pushed_before, there}
use Rattle.wac_tool_graphs.proofs.pairs.Pairs.add.Goals as goal

pub invariant_of-self : goal.invariant_of-self
invariant_of-self c = λ means h. c.root.ensures.kept means (c.self.invariant means h)

pub invariant_of-self-in_err-b : goal.invariant_of-self-in_err-b
invariant_of-self-in_err-b c = λ means h. c.root-2.ensures.kept means (c.root.ensures.kept means (c.self.invariant means h))

pub invariant_of-self-then-a-b : goal.invariant_of-self-then-a-b
invariant_of-self-then-a-b c = λ means h. c.root-2.ensures.kept means (c.root.ensures.kept means (c.self.invariant means h))

pub returns-then-a-b : goal.returns-then-a-b
returns-then-a-b c = there c.args.self.now c.self.inside.all.items c.args.first c.args.second c.self.view_is (λ means h.
    let follow = c.self.invariant means h in
    c.in_ok-a.ensures.root means follow ∙ ap means c.if-a-b.true ∙ sym (c.in_ok-b.ensures.root means (c.root.ensures.kept means follow)))

pub invariant_of-self-then-is_err : goal.invariant_of-self-then-is_err
invariant_of-self-then-is_err c = λ means h.
    c.root-2.ensures.kept means (c.root.ensures.kept means (c.self.invariant means
    (pushed_before means c.self.inside.all.items c.push.new.self.items c.args.first c.args.second (is_ok c.push.result) c.push.ensures.items h)))

pub invariant_of-self-2 : goal.invariant_of-self-2
invariant_of-self-2 c = λ means h.
    let items : c.push.new.self.items ≡ c.self.inside.all.items ++ (c.args.first, c.args.second) ∷ []
    = c.push.ensures.items ∙ ap (λ b. cond b (c.self.inside.all.items ++ (c.args.first, c.args.second) ∷ []) c.self.inside.all.items) c.if-is_err.ensures.negation in
    let follow = c.self.invariant means (pushed_before means c.self.inside.all.items c.push.new.self.items c.args.first c.args.second (is_ok c.push.result) c.push.ensures.items h) in
    let same = last_agrees means c.self.inside.all.items c.push.new.self.items c.args.first c.args.second items h in
    c.lead.ensures means (c.root-2.ensures.kept means (c.root.ensures.kept means follow))
    (sym (c.in_ok-a.ensures.root means follow) ∙ same ∙ c.in_ok-b.ensures.root means (c.root.ensures.kept means follow))

pub returns : goal.returns
returns c =
    let items : c.push.new.self.items ≡ c.self.inside.all.items ++ (c.args.first, c.args.second) ∷ []
    = c.push.ensures.items ∙ ap (λ b. cond b (c.self.inside.all.items ++ (c.args.first, c.args.second) ∷ []) c.self.inside.all.items) c.if-is_err.ensures.negation in
    on_ok c.lead.result (added_after c.args.self.now c.self.inside.all.items c.push.new.self.items c.args.first c.args.second c.self.view_is items)
