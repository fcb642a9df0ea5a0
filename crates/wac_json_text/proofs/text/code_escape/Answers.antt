use Rattle.wac_json_text.proofs.Common.{◌≤◌, ◌*◌, take, drop, length, sym, ap, ◌∙◌, subst, arith, IsAscii, IsCharBoundary-from_ascii, IsAscii-drop}
use Rattle.wac_json_text.specs.declared.text.TheConstants.{CODES}
use Rattle.wac_json_text.proofs.Escapes.{codes_are_ascii, code_at}
use Rattle.wac_json_text.proofs.text.code_escape.Goals as goal

pub split_at-requires : goal.split_at-requires
split_at-requires c =
    let fits : 6 * c.from.result ≤ 192 = omega (arith, c.from.ensures, c.requires) in
    IsCharBoundary-from_ascii CODES.now (6 * c.from.result) codes_are_ascii fits

pub split_at-requires-2 : goal.split_at-requires-2
split_at-requires-2 c =
    let rest = c.split_at.result.1.now in
    let ascii : IsAscii rest = subst IsAscii (sym c.split_at.ensures.back) (IsAscii-drop CODES.now (6 * c.from.result) codes_are_ascii) in
    let fits : 6 ≤ length rest = omega (arith, c.from.ensures, c.requires, c.split_at.ensures.back_len) in
    IsCharBoundary-from_ascii rest 6 ascii fits

pub returns : goal.returns
returns c =
    c.split_at-2.ensures.front
    ∙ ap (take 6) c.split_at.ensures.back
    ∙ ap (λ b. take 6 (drop (6 * b) CODES.now)) c.from.ensures
    ∙ code_at c.args.byte c.requires
