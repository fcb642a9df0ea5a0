use Rattle.wac_json_text.proofs.Common.{sym, doc_comment_of, constructor_of, named_type_of, items_of-map}
use Rattle.wac_json_forms.specs.Forms.{constructor_json, doc_json, list_json, named_type_json, span_json}
use Rattle.json.specs.Print.{escape_byte}
use Rattle.wac_json_text.proofs.Joined.{as_form, ends, list_then, put, then}
use Rattle.wac_json_text.proofs.resource_decl.ConstructorJson.write.Goals as goal

pub returns : goal.returns
unfolding constructor_json list_json span_json escape_byte
returns g c =
    as_form (constructor_json (constructor_of c.args.self.now)) (ends c.and-6.ensures (then c.and-5.ensures (list_then (λ x. named_type_json (named_type_of x)) _ (sym (items_of-map named_type_json named_type_of _)) c.and-3.ensures c.and-4.ensures (list_then (λ x. doc_json (doc_comment_of x)) _ (sym (items_of-map doc_json doc_comment_of _)) c.and.ensures c.and-2.ensures (put c.blank.ensures) c.write_inside.ensures c.blank-2.ensures) c.write_inside-2.ensures c.blank-3.ensures) (put c.write_inside-3.ensures)) c.blank-4.ensures)
