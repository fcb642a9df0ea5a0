use Rattle.wac_json_text.proofs.Common.{access_expr_of}
use Rattle.wac_json_forms.specs.Forms.{access_expr_json, ident_json, span_json}
use Rattle.json.specs.Print.{escape_byte}
use Rattle.wac_json_text.proofs.Joined.{as_form, ends, put, then}
use Rattle.wac_json_text.proofs.expr.AccessExprJson.write.Goals as goal

pub returns : goal.returns
unfolding access_expr_json ident_json span_json escape_byte
returns g c =
    as_form (access_expr_json (access_expr_of c.args.self.now)) (ends c.and-4.ensures (then c.and-3.ensures (then c.and-2.ensures (then c.and.ensures (put c.blank.ensures) (put c.write_inside.ensures)) (put c.blank-2.ensures)) (put c.write_inside-2.ensures)) c.blank-3.ensures)
