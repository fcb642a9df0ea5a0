use Rattle.std.proofs.Common.{◌≡◌, ◌∙◌, ◌≤◌, ◌+◌, ℕ, List, ap, subst, length, drop, take}
use Rattle.std.specs.List.{position_or_len}
use Rattle.std.specs.Str.{IsCharBoundary}
use Rattle.wac_positions.specs.Lines.{is_line_end}
use Rattle.wac_lsp_texts.specs.Started.{Starts}
use Rattle.wac_lsp_texts.proofs.Placing.{clamped}
use Rattle.wac_lsp_texts.proofs.finding.offset_from.Goals as goal

pub returns-clause-clamped : goal.returns-clause-clamped
returns-clause-clamped c =
    let text : List ℕ = c.args.text.now in
    let start : ℕ = c.in-Some.start in
    let starts : Starts text c.args.place.line start = subst (λ (t : List ℕ). Starts t c.args.place.line start) c.as_bytes.ensures.value c.in-Some.ensures.some in
    let bytes : c.as_bytes-2.result.now ≡ drop start text = c.as_bytes-2.ensures.value ∙ c.split_at.ensures.back in
    let len : c.line_len.result ≡ position_or_len is_line_end (drop start text) = c.line_len.ensures.len ∙ ap (position_or_len is_line_end) bytes in
    let within : c.line_len.result ≤ length (drop start text) = subst (λ (t : List ℕ). c.line_len.result ≤ length t) bytes c.line_len.ensures.within in
    let line : c.split_at-2.result.0.now ≡ take (position_or_len is_line_end (drop start text)) (drop start text) =
    c.split_at-2.ensures.front ∙ ap (take c.line_len.result) c.split_at.ensures.back ∙ ap (λ n. take n (drop start text)) len in
    let here : IsCharBoundary text (start + c.clamped_column-found.result.offset) = c.is_char_boundary.ensures.test.0 (let yes = c.if-not-is_char_boundary.false in cc) in
    clamped text c.args.unit c.args.place start c.clamped_column-found.result.offset c.clamped_column-found.result.column c.split_at-2.result.0.now starts
    (subst (λ n. n ≤ length (drop start text)) len within) line c.clamped_column-found.ensures here
