use Rattle.wac_json_text.proofs.Common.{sym, statement_of, printed_at}
use Rattle.wac_json_forms.specs.Forms.{statement_json}
use Rattle.json.specs.Print.{escape_byte}
use Rattle.wac_json_text.specs.Pieces.{pieces}
use Rattle.wac_json_text.proofs.document.StatementJson.write.Goals as goal

pub returns-in-Import : goal.returns-in-Import
unfolding statement_json escape_byte
returns-in-Import g c = printed_at (λ x. pieces (statement_json (statement_of x))) (sym c.in-Import.is) c.variant.ensures

pub returns-in-Ty : goal.returns-in-Ty
unfolding statement_json escape_byte
returns-in-Ty g c = printed_at (λ x. pieces (statement_json (statement_of x))) (sym c.in-Ty.is) c.variant-in-Ty.ensures

pub returns-in-Let : goal.returns-in-Let
unfolding statement_json escape_byte
returns-in-Let g c = printed_at (λ x. pieces (statement_json (statement_of x))) (sym c.in-Let.is) c.variant-in-Let.ensures

pub returns-in-Export : goal.returns-in-Export
unfolding statement_json escape_byte
returns-in-Export g c = printed_at (λ x. pieces (statement_json (statement_of x))) (sym c.in-Export.is) c.variant-in-Export.ensures
