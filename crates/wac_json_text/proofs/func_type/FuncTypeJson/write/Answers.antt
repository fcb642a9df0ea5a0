use Rattle.wac_json_text.proofs.Common.{boolean, sym, func_type_of, named_type_of, items_of-map}
use Rattle.wac_json_forms.specs.Forms.{func_type_json, list_json, named_type_json}
use Rattle.json.specs.Print.{escape_byte}
use Rattle.wac_json_text.proofs.Joined.{as_form, ends, form, list_then, put, then}
use Rattle.wac_json_text.proofs.func_type.FuncTypeJson.write.Goals as goal

pub returns : goal.returns
unfolding func_type_json list_json escape_byte
returns g c =
    as_form (func_type_json (func_type_of c.args.self.now)) (ends c.and-6.ensures (then c.and-5.ensures (list_then (λ x. named_type_json (named_type_of x)) _ (sym (items_of-map named_type_json named_type_of _)) c.and-3.ensures c.and-4.ensures (then c.and-2.ensures (then c.and.ensures (put c.blank.ensures) (form (boolean c.args.self.now.is_async) c.write.ensures)) (put c.blank-2.ensures)) c.write_inside.ensures c.blank-3.ensures) (form _ c.write-2.ensures)) c.blank-4.ensures)
