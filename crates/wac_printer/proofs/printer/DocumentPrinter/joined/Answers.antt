use Rattle.wac_printer.proofs.Common.{◌≡◌, rules, Err, [], ◌∷◌, ◌++◌, codes, flat_map, token, space, first_stops, first_goes, none_is, others_sliced}
use Rattle.wac_printer.proofs.PartsOf.{no_items, joined-none, joined-some, All-rest}
use Rattle.wac_printer.proofs.printer.DocumentPrinter.joined.Goals as goal

pub returns-in_err-print-in-Some : goal.returns-in_err-print-in-Some
returns-in_err-print-in-Some g c =
    let s = c.args.self.now in
    let e : c.from_residual.result ≡ Err c.in_err-print-in-Some.field-0.0 = search rules in
    first_stops _ _ _ _ _ _ _ (joined-some (g.T.Node.layout s.source s.depth) c.args.items.now c.in-Some.first.now c.in-Some.rest.now c.in-Some.ensures.cases.0) e c.in_err-print-in-Some.ensures

pub after_commas-requires : goal.after_commas-requires
after_commas-requires g c =
    others_sliced g.T.Node.sliced c.args.self.now c.print.new.printer _ _ c.in-Some.rest.now c.in_ok-print-in-Some.ensures
    (All-rest (g.T.Node.sliced c.args.self.now.source) c.args.items.now c.in-Some.first.now c.in-Some.rest.now c.in-Some.ensures.cases.0 c.requires)

pub returns-in-None : goal.returns-in-None
returns-in-None g c =
    let s = c.args.self.now in
    let none : c.args.items.now ≡ [] = no_items c.args.items.now c.in-None.ensures.cases in
    none_is _ _ _ (joined-none (g.T.Node.layout s.source s.depth) c.args.items.now none) c.ready.ensures

pub returns-in_ok-print-in-Some : goal.returns-in_ok-print-in-Some
returns-in_ok-print-in-Some g c =
    let s = c.args.self.now in
    first_goes _ _ _ _ _ _ _ (λ source depth. flat_map (λ x. (token (codes ",") ∷ space ∷ []) ++ g.T.Node.layout source depth x) c.in-Some.rest.now) (joined-some (g.T.Node.layout s.source s.depth) c.args.items.now c.in-Some.first.now c.in-Some.rest.now c.in-Some.ensures.cases.0)
    c.in_ok-print-in-Some.ensures c.after_commas.ensures
