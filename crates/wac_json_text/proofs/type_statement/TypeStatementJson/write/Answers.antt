use Rattle.wac_json_text.proofs.Common.{sym, type_statement_of, printed_at}
use Rattle.wac_json_forms.specs.Forms.{type_statement_json}
use Rattle.json.specs.Print.{escape_byte}
use Rattle.wac_json_text.specs.Pieces.{pieces}
use Rattle.wac_json_text.proofs.type_statement.TypeStatementJson.write.Goals as goal

pub returns-in-Interface : goal.returns-in-Interface
unfolding type_statement_json escape_byte
returns-in-Interface g c = printed_at (λ x. pieces (type_statement_json (type_statement_of x))) (sym c.in-Interface.is) c.variant.ensures

pub returns-in-World : goal.returns-in-World
unfolding type_statement_json escape_byte
returns-in-World g c = printed_at (λ x. pieces (type_statement_json (type_statement_of x))) (sym c.in-World.is) c.variant-in-World.ensures

pub returns-in-Ty : goal.returns-in-Ty
unfolding type_statement_json escape_byte
returns-in-Ty g c = printed_at (λ x. pieces (type_statement_json (type_statement_of x))) (sym c.in-Ty.is) c.variant-in-Ty.ensures
