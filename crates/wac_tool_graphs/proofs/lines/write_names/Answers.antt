use Rattle.std.proofs.Common.{◌≡◌, ◌∙◌, ◌++◌, ◌∷◌, [], ℕ, List, ap, subst, rules, codes, Err}
use Rattle.wac_tool_graphs.specs.Lines.{name_line}
use Rattle.wac_tool_graphs.specs.Puts.{Began}
use Rattle.wac_tool_graphs.proofs.Putting.{one_more, put_more, fails_in}
use Rattle.wac_tool_graphs.proofs.lines.write_names.Goals as goal

pub loop-name-preserved : goal.loop-name-preserved
loop-name-preserved g c =
    let i = c.loop-name.invariant in
    let p = c.in_ok-put_each.ensures in
    let before = c.args.before.now in
    let name = c.in-Some.name.now in
    let line = ap (λ (digits : List ℕ). before ++ (name ++ (codes " = " ++ (digits ++ codes "\n")))) c.format.ensures.text in
    record {
      written = i.written ++ (name, c.in-Some.node.0) ∷ [];
      all = one_more i.written _ _ _ _ i.all c.in-Some.ensures.steps;
      put = put_more (name_line before) _ _ _ i.written (name, c.in-Some.node.0) i.put (p.0 ∙ ap (λ x. g.S.Sink.bytes c.loop-name.out ++ x) line);
      failures = p.1 ∙ i.failures;
    }

pub returns-in_err-put_each : goal.returns-in_err-put_each
returns-in_err-put_each g c =
    let i = c.loop-name.invariant in
    let p = c.in_err-put_each.ensures in
    let before = c.args.before.now in
    let name = c.in-Some.name.now in
    let line = ap (λ (digits : List ℕ). before ++ (name ++ (codes " = " ++ (digits ++ codes "\n")))) c.format.ensures.text in
    let e : c.from_residual.result ≡ Err c.in_err-put_each.field-0.0 = search rules in
    fails_in (name_line before) _ _ _ _ _ _ _ _ i.written _ _ _ (name, c.in-Some.node.0) e i.all c.in-Some.ensures.steps i.put i.failures (subst (Began _ _) line p.0) p.1
