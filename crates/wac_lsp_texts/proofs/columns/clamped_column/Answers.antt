use Rattle.std.proofs.Common.{◌≡◌, ◌∙◌, refl, sym, subst, ap, ◌+◌, ◌<◌, arith, true, false, ℕ, length, take}
use Rattle.std.proofs.lemmas.Grind.{common_steps}
use Rattle.wac_positions.specs.Places.{units}
use Rattle.wac_lsp_texts.proofs.Clamping.{IsBestBefore, at_end, before_end, better, first, stays}
use Rattle.wac_lsp_texts.proofs.columns.clamped_column.Goals as goal
use Rattle.wac_lsp_texts.proofs.columns.clamped_column.Goals.{then-count-column+then-is_char_boundary, else-count-column, else-count-column-via-then-count-column+else-is_char_boundary, else-count-column-via-else-count-column}

pub loop-at-init : goal.loop-at-init
loop-at-init c = record { counted = refl; small = omega arith; best = first c.args.unit c.args.line.now c.args.column c.utf8.line }

best : (c : goal.After-width-count) → IsBestBefore c.args.unit c.args.line.now c.args.column (c.loop-at.at + 1) c.if-count-column.clamped.column c.if-count-column.clamped.offset
best c =
    let unit = c.args.unit in
    let line = c.args.line.now in
    let column = c.args.column in
    let at = c.loop-at.at in
    let count = c.loop-at.count in
    let counted = c.loop-at.invariant.counted in
    elim c.if-count-column.branch [
      | then-count-column+then-is_char_boundary w ↦
          subst (λ p. IsBestBefore unit line column (at + 1) p.column p.offset) (sym w.clamped-is)
          (better unit line column at count counted w.if-count-column.true (w.is_char_boundary.ensures.test.0 w.if-is_char_boundary.true))
      | else-count-column w ↦
          subst (λ p. IsBestBefore unit line column (at + 1) p.column p.offset) (sym w.clamped-is)
          (elim w.else-count-column.branch [
            | else-count-column-via-then-count-column+else-is_char_boundary v ↦
                stays unit line column at count c.loop-at.clamped.column c.loop-at.clamped.offset counted
                (λ here. let yes : v.is_char_boundary.result ≡ true = v.is_char_boundary.ensures.test.1 here in let no : v.is_char_boundary.result ≡ false = v.if-is_char_boundary.false in absurd (cc)) c.loop-at.invariant.best
            | else-count-column-via-else-count-column v ↦
                stays unit line column at count c.loop-at.clamped.column c.loop-at.clamped.offset counted (λ _. v.if-count-column.false) c.loop-at.invariant.best
          ])
    ]

pub loop-at-preserved : goal.loop-at-preserved
loop-at-preserved c = record { counted = grind (arith, common_steps); small = omega (arith, c.loop-at.invariant.small, c.width-count.ensures.most); best = best c }

pub returns-then-count-column-2 : goal.returns-then-count-column-2
returns-then-count-column-2 c =
    let whole : c.loop-at.at ≡ length c.args.line.now = omega arith in
    at_end c.args.unit c.args.line.now c.args.column c.loop-at.count
    (c.loop-at.invariant.counted ∙ ap (λ (n : ℕ). units c.args.unit (take n c.args.line.now)) whole) c.if-count-column-2.true

pub returns : goal.returns
returns c =
    let line = c.args.line.now in
    let whole : c.loop-at.at ≡ length line = omega arith in
    let after : c.args.column < c.loop-at.count = omega (arith, c.if-count-column-2.false) in
    before_end c.args.unit line c.args.column c.loop-at.count c.loop-at.clamped.column c.loop-at.clamped.offset
    (c.loop-at.invariant.counted ∙ ap (λ (n : ℕ). units c.args.unit (take n line)) whole) after
    (subst (λ (n : ℕ). IsBestBefore c.args.unit line c.args.column n c.loop-at.clamped.column c.loop-at.clamped.offset) whole c.loop-at.invariant.best)
