use Rattle.wac_json_text.proofs.Common.{ident_of, use_item_of}
use Rattle.wac_json_forms.specs.Forms.{ident_json, span_json, use_item_json}
use Rattle.json.specs.Print.{escape_byte}
use Rattle.wac_json_text.proofs.Joined.{as_form, ends, form, put, then}
use Rattle.wac_json_text.proofs.Steps.{of_option}
use Rattle.wac_json_text.proofs.use_decl.UseItemJson.write.Goals as goal

pub returns : goal.returns
unfolding use_item_json ident_json span_json escape_byte
returns g c =
    as_form (use_item_json (use_item_of c.args.self.now)) (ends c.and-4.ensures (then c.and-3.ensures (then c.and-2.ensures (then c.and.ensures (put c.blank.ensures) (form _ (of_option ident_json ident_of _ c.write.ensures))) (put c.blank-2.ensures)) (put c.write_inside.ensures)) c.blank-3.ensures)
