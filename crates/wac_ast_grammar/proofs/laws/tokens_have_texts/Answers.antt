use Rattle.wac_ast_grammar.proofs.TokenTexts.{has_text}
use Rattle.wac_ast_grammar.proofs.laws.tokens_have_texts.Goals as goal

pub returns : goal.returns
returns c = has_text
