use Rattle.wac_printer_pieces.proofs.Common.{false, refl, ap, ◌++◌, ◌≡◌, ◌≤◌, ◌∙◌, subst, true, take, length, length-append, arith}
use Rattle.wac_printer_pieces.proofs.Printing.{refused, stuck, wrote, record_wrote}
use Rattle.wac_printer_pieces.specs.Printed.{is_front}
use Rattle.wac_printer_pieces.proofs.Fronts.{is_front-begun}
use Rattle.wac_printer_pieces.proofs.pieces.Pieces.blank.Goals as goal

pub returns-then-self : goal.returns-then-self
returns-then-self g c = refused _ _ _ _ c.self.view_is refl c.if-self.true

pub returns-then-not-put_all : goal.returns-then-not-put_all
returns-then-not-put_all g c =
    let o = c.put_all.ensures.failed c.if-not-put_all.true in
    let b = g.S.Sink.bytes c.self.inside.sink in
    let front = is_front-begun b (g.S.Sink.bytes c.put_all.new.sink) c.as_bytes.result.now o.0 o.1 o.2 in
    let longer : length b ≤ length (g.S.Sink.bytes c.put_all.new.sink) = omega (arith, ap length o.2, length-append b (take o.0 c.as_bytes.result.now)) in
    stuck _ _ _ _ c.self.view_is c.if-self.false refl o.3
    (subst (λ t. is_front false (g.S.Sink.bytes c.put_all.new.sink) (b ++ t) ≡ true) c.as_bytes.ensures.value front) longer (refl, refl, refl, c.put_all.ensures.same)

pub returns : goal.returns
returns g c =
    let o = c.put_all.ensures.taken c.if-not-put_all.false in
    let b = o.0 ∙ ap (λ t. g.S.Sink.bytes c.self.inside.sink ++ t) c.as_bytes.ensures.value in
    wrote _ _ _ _ _ c.self.view_is c.if-self.false (record_wrote _ _ _ _ _ _ _ _ _ _ _ _ b o.1 c.put_all.ensures.same c.is_fresh_after-self-inside.ensures)
