use Rattle.wac_printer.proofs.Common.{◌≡◌, ◌<◌, length, sym, subst, arith, Prints}
use Rattle.std.proofs.lemmas.Bool.Decides.{nat_tests}
use Rattle.wac_printer.proofs.PartsOf.{with-none, with-some}
use Rattle.wac_printer.proofs.printer.DocumentPrinter.with_items.Goals as goal

pub returns-then-is_empty : goal.returns-then-is_empty
returns-then-is_empty g c =
    let s = c.args.self.now in
    let none : length c.args.items.now ≡ 0 = grind (arith, nat_tests) in
    subst (Prints s c.ready.result s) (sym (with-none s.depth s.source c.args.items.now none)) c.ready.ensures

pub returns : goal.returns
returns g c =
    let s = c.args.self.now in
    let some : 0 < length c.args.items.now = grind (arith, nat_tests) in
    subst (Prints s c.with_rows.result c.with_rows.new.self) (sym (with-some s.depth s.source c.args.items.now some)) c.with_rows.ensures
