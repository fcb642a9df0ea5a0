use Rattle.wac_printer_pieces.proofs.Common.{◌≡◌, ◌∙◌, ap, sym, subst, rules, Err, arith, ◌∷◌, [], blank}
use Rattle.wac_printer_pieces.specs.Printed.{after, Prints, spaces, Printer}
use Rattle.wac_printer_pieces.proofs.Printing.{wrote_all}
use Rattle.wac_printer_pieces.proofs.Indentation.{many_stops, spaces-more}
use Rattle.wac_printer_pieces.proofs.pieces.Pieces.many.Goals as goal

pub returns-in_err-blank : goal.returns-in_err-blank
returns-in_err-blank g c =
    let e : c.from_residual-in_err-blank.result ≡ Err c.in_err-blank.field-0.0 = search rules in
    let i = c.space.invariant in
    let same : c.blank.inside.space.now ≡ c.args.self.now.space = ap (λ (p : Printer). p.space) c.blank.view_is ∙ i.1 in
    many_stops c.args.count c.space.i c.args.self.now.space c.args.self.now c.space.self _ tt _ _ i.2 i.0 (omega arith) e
    (subst (λ t. Prints c.space.self (Err c.in_err-blank.field-0.0) c.blank-in-space.new.self (blank t ∷ [])) same c.in_err-blank.ensures)

pub space-preserved : goal.space-preserved
space-preserved g c =
    let i = c.space.invariant in
    let same : c.blank.inside.space.now ≡ c.args.self.now.space = ap (λ (p : Printer). p.space) c.blank.view_is ∙ i.1 in
    let p = c.in_ok-blank.ensures in (
      p.is.1 ∙ ap (λ t. after (blank t ∷ []) c.space.self) same ∙ ap (after (blank c.args.self.now.space ∷ [])) i.0 ∙ sym (spaces-more c.space.i c.args.self.now.space c.args.self.now),
      p.keeps.1 ∙ i.1,
      i.2,
    )

pub returns : goal.returns
returns g c =
    let i = c.space.invariant in
    let e : c.space.i ≡ c.args.count = omega arith in
    wrote_all c.args.self.now c.space.self tt (spaces c.args.count c.args.self.now.space) i.2 (i.0 ∙ ap (λ n. after (spaces n c.args.self.now.space) c.args.self.now) e)
