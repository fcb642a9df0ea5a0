use Rattle.wac_json_text.proofs.Common.{sym, postfix_expr_of, printed_at}
use Rattle.wac_json_forms.specs.Forms.{postfix_expr_json}
use Rattle.json.specs.Print.{escape_byte}
use Rattle.wac_json_text.specs.Pieces.{pieces}
use Rattle.wac_json_text.proofs.expr.PostfixExprJson.write.Goals as goal

pub returns-in-Access : goal.returns-in-Access
unfolding postfix_expr_json escape_byte
returns-in-Access g c = printed_at (λ x. pieces (postfix_expr_json (postfix_expr_of x))) (sym c.in-Access.is) c.variant.ensures

pub returns-in-NamedAccess : goal.returns-in-NamedAccess
unfolding postfix_expr_json escape_byte
returns-in-NamedAccess g c = printed_at (λ x. pieces (postfix_expr_json (postfix_expr_of x))) (sym c.in-NamedAccess.is) c.variant-in-NamedAccess.ensures
