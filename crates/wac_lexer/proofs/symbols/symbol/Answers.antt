use Rattle.wac_lexer.proofs.Common.{◌≡◌, ◌++◌, ◌∷◌, [], get_or, length, sym, ap, ◌∙◌}
use Rattle.wac_lexer.specs.Words.{find, brackets, separators}
use Rattle.wac_lexer.proofs.Lengths.{one_byte, symbol_of_one, symbol_of_more}
use Rattle.wac_lexer.proofs.symbols.symbol.Goals as goal

pub returns-then-text-eq1 : goal.returns-then-text-eq1
returns-then-text-eq1 c =
    let text = c.args.text.now in
    let one : length text ≡ 1 = c.if-text-eq1.true in
    let byte : get_or c.as_bytes.result.now 0 0 ∷ [] ≡ text = ap (λ t. get_or t 0 0 ∷ []) c.as_bytes.ensures.value ∙ sym (one_byte text one) in
    c.of_one.ensures ∙ ap (λ t. find t (brackets ++ separators)) byte ∙ symbol_of_one text one

pub returns-else-text-eq1 : goal.returns-else-text-eq1
returns-else-text-eq1 c =
    let text = c.args.text.now in
    c.long_symbol.ensures ∙ symbol_of_more text c.if-text-eq1.false
