use Rattle.wac_printer.proofs.Common.{◌≡◌, rules, Err, ◌≤◌, length, [], ◌∷◌, ◌++◌, newline, part_at, starts, goes_at, stops_at, ends}
use Rattle.wac_printer.proofs.printer.DocumentPrinter.after_empty_lines.Goals as goal

pub loop-item-init : goal.loop-item-init
loop-item-init g c = starts _ _ _ _ _ c.in_ok-ready.ensures

pub after_empty_line-requires : goal.after_empty_line-requires
after_empty_line-requires g c = part_at g.T.Node.sliced (λ source depth x. newline ∷ (g.T.Node.layout source depth x ++ newline ∷ [])) c.args.items.now c.loop-item.item-index c.item-item.result c.args.self.now c.loop-item.self c.loop-item.invariant c.loop-item-test.true c.item-item.is c.requires

pub returns-in_err-after_empty_line : goal.returns-in_err-after_empty_line
returns-in_err-after_empty_line g c =
    let e : c.from_residual-in_err-after_empty_line.result ≡ Err c.in_err-after_empty_line.field-0.0 = search rules in
    stops_at (λ source depth x. newline ∷ (g.T.Node.layout source depth x ++ newline ∷ [])) c.args.items.now _ _ c.args.self.now _ _ _ _ c.loop-item.invariant c.loop-item-test.true c.item-item.is e c.in_err-after_empty_line.ensures

pub loop-item-preserved : goal.loop-item-preserved
loop-item-preserved g c =
    goes_at (λ source depth x. newline ∷ (g.T.Node.layout source depth x ++ newline ∷ [])) c.args.items.now _ _ c.args.self.now c.loop-item.self c.after_empty_line.new.self c.in_ok-after_empty_line.field-0 c.loop-item.invariant c.loop-item-test.true c.item-item.is c.in_ok-after_empty_line.ensures

pub returns : goal.returns
returns g c =
    let h : length c.args.items.now ≤ c.loop-item.item-index = search rules in
    ends (λ source depth x. newline ∷ (g.T.Node.layout source depth x ++ newline ∷ [])) c.args.items.now _ c.args.self.now _ _ c.loop-item.invariant h
