use Rattle.wac_json_text.proofs.Common.{sym, doc_comment_of, field_of, record_decl_of, items_of-map}
use Rattle.wac_json_forms.specs.Forms.{doc_json, field_json, ident_json, list_json, record_decl_json, span_json}
use Rattle.json.specs.Print.{escape_byte}
use Rattle.wac_json_text.proofs.Joined.{as_form, ends, list_then, put, then}
use Rattle.wac_json_text.proofs.record_decl.RecordDeclJson.write.Goals as goal

pub returns : goal.returns
unfolding record_decl_json list_json ident_json span_json escape_byte
returns g c =
    as_form (record_decl_json (record_decl_of c.args.self.now)) (ends c.and-6.ensures (then c.and-5.ensures (list_then (λ x. field_json (field_of x)) _ (sym (items_of-map field_json field_of _)) c.and-3.ensures c.and-4.ensures (list_then (λ x. doc_json (doc_comment_of x)) _ (sym (items_of-map doc_json doc_comment_of _)) c.and.ensures c.and-2.ensures (put c.blank.ensures) c.write_inside.ensures c.blank-2.ensures) c.write_inside-2.ensures c.blank-3.ensures) (put c.write_inside-3.ensures)) c.blank-4.ensures)
