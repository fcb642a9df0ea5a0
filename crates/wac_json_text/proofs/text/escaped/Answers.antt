use Rattle.wac_json_text.proofs.Common.{◌≡◌, ◌≤◌, ◌<◌, ◌++◌, ◌∷◌, [], ℕ, rules, take, length, ap, ◌∙◌, subst, arith, Err, IsCharBoundary, IsCharBoundary-start, IsCharBoundary-from_rest, escape, blank, stops, wrote_all}
use Rattle.wac_printer_pieces.specs.Printed.{after}
use Rattle.wac_json_text.proofs.Escapes.{escape_all, escape_parts, front_goes, nothing_written, then_fails}
use Rattle.wac_json_text.proofs.text.escaped.Goals as goal

pub returns-in_err-ready : goal.returns-in_err-ready
returns-in_err-ready g c =
    let e : c.from_residual.result ≡ Err c.in_err-ready.field-0.0 = search rules in
    stops c.args.out.now c.args.out.now c.in_err-ready.field-0.0 c.from_residual.result [] (blank (escape c.args.text.now) ∷ []) e c.in_err-ready.ensures

pub loop-place-init : goal.loop-place-init
loop-place-init g c =
    record {
      boundary = IsCharBoundary-start c.args.text.now c.utf8.text;
      wrote = nothing_written c.args.out.now;
      works = c.in_ok-ready.ensures.is.0;
    }

pub returns-in_err-place : goal.returns-in_err-place
returns-in_err-place g c =
    let text = c.args.text.now in
    let n = c.loop-place.place in
    let i = c.loop-place.invariant in
    let e : c.from_residual-in_err-place.result ≡ Err c.in_err-place.field-0.0 = search rules in
    then_fails {A = ℕ} c.args.out.now c.loop-place.out c.escaped_front.new.out c.in_err-place.field-0.0 c.from_residual-in_err-place.result (escape (take n text)) (escape c.split_at.result.1.now) (escape text)
    i.works i.wrote (ap (λ t. escape (take n text) ++ escape t) c.split_at.ensures.back ∙ escape_parts n text) e c.in_err-place.ensures

pub loop-place-preserved : goal.loop-place-preserved
loop-place-preserved g c =
    let text = c.args.text.now in
    let n = c.loop-place.place in
    let i = c.loop-place.invariant in
    let m = c.in_ok-place.field-0 in
    let o = c.in_ok-place.ensures in
    let inside : n < length text = c.loop-place-test.true in
    let within : n ≤ length text = omega (arith, inside) in
    record {
      boundary = IsCharBoundary-from_rest text n m within (subst (λ t. IsCharBoundary t m) c.split_at.ensures.back o.2);
      wrote = front_goes c.args.out.now c.loop-place.out c.escaped_front.new.out n m text c.split_at.result.1.now i.wrote c.split_at.ensures.back o.3.is.1;
      works = i.works;
    }

pub returns : goal.returns
returns g c =
    let text = c.args.text.now in
    let n = c.loop-place.place in
    let i = c.loop-place.invariant in
    let ends : length text ≤ n = search rules in
    wrote_all c.args.out.now c.loop-place.out tt (blank (escape text) ∷ []) i.works (i.wrote ∙ ap (λ t. after (blank t ∷ []) c.args.out.now) (escape_all n text ends))
