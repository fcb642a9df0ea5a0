use Rattle.wac_comments_layout.proofs.Common.{◌≡◌, ◌+◌, ◌≤◌, take, drop, length, sym, ap, ◌∙◌, arith, length-drop, part_len, bytes_eq_is}
use Rattle.wac_comments_layout.specs.Kept.{kept}
use Rattle.wac_comments_layout.proofs.Guided.{comment_step}
use Rattle.wac_comments_layout.proofs.standing.after_comment.Goals as goal

pub returns-then-eq : goal.returns-then-eq
returns-then-eq c =
    let bytes = c.args.bytes.now in
    let place = c.args.place in
    let len = c.part_len-len.result in
    let rest = c.rest-rest.ensures in
    let part : part_len (drop place bytes) ≡ len = ap part_len (sym rest) ∙ sym c.part_len-len.ensures.len in
    let within : place + len ≤ length bytes = omega (arith, c.requires, c.part_len-len.ensures.within, ap length rest, length-drop place bytes) in
    let front = c.split_at.ensures.front ∙ ap (take len) rest in
    let same = bytes_eq_is c.kept.result.now c.args.comment.now (sym c.eq.ensures ∙ c.if-eq.true) in
    (within, comment_step bytes c.args.comment.now place len part (omega (arith, c.if-len-lt2.false)) within (ap kept (sym front) ∙ sym c.kept.ensures ∙ same))
