use Rattle.wac_json_text.proofs.Common.{named_type_of}
use Rattle.wac_json_forms.specs.Forms.{ident_json, named_type_json, span_json}
use Rattle.json.specs.Print.{escape_byte}
use Rattle.wac_json_text.proofs.Joined.{as_form, ends, form, put, then}
use Rattle.wac_json_text.proofs.func_type.NamedTypeJson.write.Goals as goal

pub returns : goal.returns
unfolding named_type_json ident_json span_json escape_byte
returns g c =
    as_form (named_type_json (named_type_of c.args.self.now)) (ends c.and-4.ensures (then c.and-3.ensures (then c.and-2.ensures (then c.and.ensures (put c.blank.ensures) (put c.write_inside.ensures)) (put c.blank-2.ensures)) (form _ c.write.ensures)) c.blank-3.ensures)
