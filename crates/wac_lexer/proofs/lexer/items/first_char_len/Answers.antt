use Rattle.wac_lexer.proofs.Common.{sym, ◌∙◌, subst, encode_utf8, IsCharBoundary, IsCharBoundary-at_seam, IsUtf8-past_char}
use Rattle.wac_lexer.proofs.lexer.items.first_char_len.Goals as goal

pub returns-in-Some-clause-within : goal.returns-in-Some-clause-within
returns-in-Some-clause-within c =
    let text = c.args.text.now in
    let e = sym c.chars.ensures.rest ∙ c.in-Some.ensures.steps.0 in
    subst (IsCharBoundary text) (sym c.len_utf8.ensures.len)
    (IsCharBoundary-at_seam text (encode_utf8 c.in-Some.first) _ e (IsUtf8-past_char text _ c.in-Some.first c.utf8.text e))
