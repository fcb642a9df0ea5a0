use Rattle.wac_lexer.proofs.Common.{sym, ◌∙◌, ap, Some, refl}
use Rattle.wac_lexer.proofs.Texts.{word_found, word_not_found, symbol_found, symbol_is_found, other_not_found}
use Rattle.wac_lexer.proofs.Fronts.{token_fixed, token_plain}
use Rattle.wac_lexer.specs.declared.shape.Shape.TheVariants.{Word, Name, Path, Quoted}
use Rattle.wac_lexer.proofs.lexer.items.token_of.Goals as goal

pub returns-in-Some : goal.returns-in-Some
returns-in-Some c = token_fixed c.args.text.now c.in-Some.token (word_found c.args.text.now c.in-Some.token (sym c.keyword.ensures ∙ c.in-Some.is))

pub returns-in-None : goal.returns-in-None
returns-in-None c =
    let shape = c.requires ∙ ap Some c.in-Word.is in
    token_plain c.args.text.now Word (word_not_found c.args.text.now shape (sym c.keyword.ensures ∙ c.in-None.is)) shape

pub returns-in-Name : goal.returns-in-Name
returns-in-Name c =
    let shape = c.requires ∙ ap Some c.in-Name.is in
    token_plain c.args.text.now Name (other_not_found c.args.text.now Name shape refl refl) shape

pub returns-in-Path : goal.returns-in-Path
returns-in-Path c =
    let shape = c.requires ∙ ap Some c.in-Path.is in
    token_plain c.args.text.now Path (other_not_found c.args.text.now Path shape refl refl) shape

pub returns-in-Quoted : goal.returns-in-Quoted
returns-in-Quoted c =
    let shape = c.requires ∙ ap Some c.in-Quoted.is in
    token_plain c.args.text.now Quoted (other_not_found c.args.text.now Quoted shape refl refl) shape

pub returns-in-Some-symbol : goal.returns-in-Some-symbol
returns-in-Some-symbol c =
    token_fixed c.args.text.now c.in-Some-symbol.token
    (symbol_found c.args.text.now c.in-Some-symbol.token (c.requires ∙ ap Some c.in-Symbol.is) (sym c.symbol.ensures ∙ c.in-Some-symbol.is))

pub unreachable-requires : goal.unreachable-requires
unreachable-requires c = symbol_is_found c.args.text.now (c.requires ∙ ap Some c.in-Symbol.is) (sym c.symbol.ensures ∙ c.in-None-symbol.is)
