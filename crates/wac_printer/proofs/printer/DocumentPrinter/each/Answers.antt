use Rattle.wac_printer.proofs.Common.{◌≡◌, rules, Err, ◌≤◌, length, part_at, starts, goes_at, stops_at, ends}
use Rattle.wac_printer.proofs.printer.DocumentPrinter.each.Goals as goal

pub loop-item-init : goal.loop-item-init
loop-item-init g c = starts _ _ _ _ _ c.in_ok-ready.ensures

pub print-requires : goal.print-requires
print-requires g c = part_at g.T.Node.sliced (g.T.Node.layout) c.args.items.now c.loop-item.item-index c.item-item.result c.args.self.now c.loop-item.self c.loop-item.invariant c.loop-item-test.true c.item-item.is c.requires

pub returns-in_err-print : goal.returns-in_err-print
returns-in_err-print g c =
    let e : c.from_residual-in_err-print.result ≡ Err c.in_err-print.field-0.0 = search rules in
    stops_at (g.T.Node.layout) c.args.items.now _ _ c.args.self.now _ _ _ _ c.loop-item.invariant c.loop-item-test.true c.item-item.is e c.in_err-print.ensures

pub loop-item-preserved : goal.loop-item-preserved
loop-item-preserved g c =
    goes_at (g.T.Node.layout) c.args.items.now _ _ c.args.self.now c.loop-item.self c.print.new.printer c.in_ok-print.field-0 c.loop-item.invariant c.loop-item-test.true c.item-item.is c.in_ok-print.ensures

pub returns : goal.returns
returns g c =
    let h : length c.args.items.now ≤ c.loop-item.item-index = search rules in
    ends (g.T.Node.layout) c.args.items.now _ c.args.self.now _ _ c.loop-item.invariant h
