use Rattle.wac_json_text.proofs.Common.{sym, doc_comment_of, resource_decl_of, resource_method_of, items_of-map}
use Rattle.wac_json_forms.specs.Forms.{doc_json, ident_json, list_json, resource_decl_json, resource_method_json, span_json}
use Rattle.json.specs.Print.{escape_byte}
use Rattle.wac_json_text.proofs.Joined.{as_form, list_ends, list_then, put, then}
use Rattle.wac_json_text.proofs.resource_decl.ResourceDeclJson.write.Goals as goal

pub returns : goal.returns
unfolding resource_decl_json list_json ident_json span_json escape_byte
returns g c =
    as_form (resource_decl_json (resource_decl_of c.args.self.now)) (list_ends (λ x. resource_method_json (resource_method_of x)) _ (sym (items_of-map resource_method_json resource_method_of _)) c.and-5.ensures c.and-6.ensures (then c.and-4.ensures (then c.and-3.ensures (list_then (λ x. doc_json (doc_comment_of x)) _ (sym (items_of-map doc_json doc_comment_of _)) c.and.ensures c.and-2.ensures (put c.blank.ensures) c.write_inside.ensures c.blank-2.ensures) (put c.write_inside-2.ensures)) (put c.blank-3.ensures)) c.write_inside-3.ensures c.blank-4.ensures)
