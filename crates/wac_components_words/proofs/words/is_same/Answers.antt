use Rattle.std.proofs.Common.{sym, ◌∙◌}
use denote.Enum.Bare.{true_same}
use Rattle.wac_lexer.specs.contracts.token.Token.{the_type}
use Rattle.wac_components_words.proofs.Same.{same_token}
use Rattle.wac_components_words.proofs.words.is_same.Goals as goal

pub returns : goal.returns
returns c = (
  λ t. same_token c.args.found c.args.token (sym c.eq.ensures ∙ t),
  λ e. c.eq.ensures ∙ true_same the_type c.args.found c.args.token e,
)
