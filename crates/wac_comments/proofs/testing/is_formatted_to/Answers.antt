use Rattle.std.proofs.Common.{ℕ, List, sym, subst, ◌∙◌}
use Rattle.wac_lexer.proofs.Texts.{bytes_eq_is}
use Rattle.wac_printer_layout.specs.Reread.{RereadAs}
use Rattle.wac_comments.proofs.testing.is_formatted_to.Goals as goal

pub returns-in-Ok-clause-yes : goal.returns-in-Ok-clause-yes
returns-in-Ok-clause-yes c = λ same.
    let back = c.in-Ok.ensures.again c.requires in
    let is = bytes_eq_is c.as_str.result.now c.args.formatted.now (sym c.eq.ensures ∙ same) in
    (back.0, back.1, subst (λ (text : List ℕ). RereadAs text c.args.text.now back.0) (sym c.as_str.ensures.value ∙ is) back.2.reread)
