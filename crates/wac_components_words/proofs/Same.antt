-- When tokens are the same, and when a span begins where the text does.
use Rattle.std.proofs.Common.{◌≡◌, ℕ, true, rules}
use denote.Enum.Bare.{sameb, same_true}
use Rattle.wac_lexer.specs.contracts.token.Token.{the_type}
use Rattle.wac_lexer.specs.Span.{Span, span}
use Rattle.wac_lexer.specs.declared.token.Token.{Token}

pub same_token : (a b : Token) → sameb the_type a b ≡ true → a ≡ b
same_token a b h = same_true the_type (search rules) a b h

pub span_is : (s : Span) (n : ℕ) → s.offset ≡ 0 → s.len ≡ n → s ≡ span 0 n
span_is s n o l = λ i. span (o i) (l i)
