use Rattle.wac_printer_pieces.proofs.Common.{◌≡◌, sym, subst, rules, Err, arith, lines, doc_line, doc_layout, length_push}
use Rattle.wac_printer_layout.specs.Parts.{docs_layout}
use Rattle.wac_printer_pieces.specs.Printed.{Prints}
use Rattle.wac_printer_pieces.proofs.Progress.{IsSoFar, starts, goes_at, stops_at, ends}
use Rattle.wac_printer_pieces.proofs.Printing.{flat_map-of}
use Rattle.std.proofs.lemmas.Iterator.Splits.{YieldsList-from_lines}
use Rattle.std.proofs.lemmas.Iterator.Consumers.{YieldsList-turn, YieldsList-end}
use Rattle.wac_printer_pieces.proofs.pieces.Pieces.doc_lines.Goals as goal

pub loop-line-init : goal.loop-line-init
loop-line-init g c = starts _ _ _ _ _ c.in_ok-ready.ensures

pub loop-line-preserved : goal.loop-line-preserved
loop-line-preserved g c =
    let t = YieldsList-turn (YieldsList-from_lines c.args.text.now cc) c.loop-line.yielded _ c.loop-line.yielded_by _ _ c.in-Some.line c.in-Some.is c.next.ensures.steps in
    subst (λ n. IsSoFar (λ source depth x. doc_layout depth (doc_line x)) (lines c.args.text.now) n c.args.self.now c.doc_line.new.self) (sym (length_push c.loop-line.yielded c.in-Some.line))
    (goes_at (λ source depth x. doc_layout depth (doc_line x)) (lines c.args.text.now) _ c.in-Some.line.now c.args.self.now _ _ _ c.loop-line.invariant t.0 t.1 c.in_ok-doc_line.ensures)

pub returns-in_err-doc_line : goal.returns-in_err-doc_line
unfolding docs_layout
returns-in_err-doc_line g c =
    let s = c.args.self.now in
    let e : c.from_residual-in_err-doc_line.result ≡ Err c.in_err-doc_line.field-0.0 = search rules in
    let t = YieldsList-turn (YieldsList-from_lines c.args.text.now cc) c.loop-line.yielded _ c.loop-line.yielded_by _ _ c.in-Some.line c.in-Some.is c.next.ensures.steps in
    subst (Prints s _ c.doc_line.new.self) (sym (flat_map-of doc_line (doc_layout s.depth) (lines c.args.text.now)))
    (stops_at (λ source depth x. doc_layout depth (doc_line x)) (lines c.args.text.now) _ c.in-Some.line.now s _ _ _ _ c.loop-line.invariant t.0 t.1 e c.in_err-doc_line.ensures)

pub returns : goal.returns
unfolding docs_layout
returns g c =
    let s = c.args.self.now in
    let t = YieldsList-end (YieldsList-from_lines c.args.text.now cc) c.loop-line.yielded _ c.loop-line.yielded_by _ _ c.in-None.is c.next.ensures.steps in
    subst (Prints s _ c.loop-line.self) (sym (flat_map-of doc_line (doc_layout s.depth) (lines c.args.text.now)))
    (ends (λ source depth x. doc_layout depth (doc_line x)) (lines c.args.text.now) _ s _ _ c.loop-line.invariant (omega (arith, t.1)))
