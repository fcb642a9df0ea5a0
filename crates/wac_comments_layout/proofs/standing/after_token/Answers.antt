use Rattle.wac_comments_layout.proofs.Common.{◌≡◌, ◌+◌, ◌≤◌, true, take, drop, length, sym, ap, ◌∙◌, arith, bytes_eq, length-drop}
use Rattle.wac_comments_layout.specs.Following.{may_follow}
use Rattle.wac_comments_layout.proofs.Guided.{token_here}
use Rattle.wac_comments_layout.proofs.standing.after_token.Goals as goal

pub returns-then-may_follow : goal.returns-then-may_follow
returns-then-may_follow c =
    let bytes = c.args.bytes.now in
    let place = c.args.place in
    let token = c.args.token.now in
    let len = length c.as_bytes-text.result.now in
    let rest = c.rest-rest.ensures in
    let text = sym c.as_bytes-text.ensures.value in
    let within : place + len ≤ length bytes = omega (arith, c.requires.within, c.if-rest-text.false, ap length rest, length-drop place bytes) in
    let front = sym (c.split_at.ensures.front ∙ ap (take len) rest) in
    let same : bytes_eq (take len (drop place bytes)) token ≡ true = (λ i. bytes_eq (front i) (text i)) ∙ sym c.eq.ensures ∙ c.if-eq.true in
    let apart : may_follow token (drop len (drop place bytes)) ≡ true =
    ap (may_follow token) (sym (c.split_at.ensures.back ∙ ap (drop len) rest)) ∙ sym c.may_follow.ensures ∙ c.if-may_follow.true in
    (within, token_here bytes token place len c.requires.token.0 c.requires.token.1 (ap length c.as_bytes-text.ensures.value) same apart)
