-- Each token has a text of its shape.
use Rattle.wac_ast_grammar.proofs.Common.{inl, inr, refl, Token}
use Rattle.wac_lexer.specs.declared.token.Token.TheVariants as t
use Rattle.wac_ast_grammar.specs.TokenTexts.{HasText}

pub has_text : (k : Token) → HasText k
has_text t.Comment = inl refl
has_text t.BlockComment = inl refl
has_text _ = inr (refl, refl)
