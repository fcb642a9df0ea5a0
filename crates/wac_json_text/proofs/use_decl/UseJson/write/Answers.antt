use Rattle.wac_json_text.proofs.Common.{sym, doc_comment_of, use_item_of, use_of, items_of-map}
use Rattle.wac_json_forms.specs.Forms.{doc_json, list_json, use_item_json, use_json}
use Rattle.json.specs.Print.{escape_byte}
use Rattle.wac_json_text.proofs.Joined.{as_form, ends, form, list_then, put, then}
use Rattle.wac_json_text.proofs.use_decl.UseJson.write.Goals as goal

pub returns : goal.returns
unfolding use_json list_json escape_byte
returns g c =
    as_form (use_json (use_of c.args.self.now)) (ends c.and-6.ensures (then c.and-5.ensures (list_then (λ x. use_item_json (use_item_of x)) _ (sym (items_of-map use_item_json use_item_of _)) c.and-3.ensures c.and-4.ensures (list_then (λ x. doc_json (doc_comment_of x)) _ (sym (items_of-map doc_json doc_comment_of _)) c.and.ensures c.and-2.ensures (put c.blank.ensures) c.write_inside.ensures c.blank-2.ensures) c.write_inside-2.ensures c.blank-3.ensures) (form _ c.write.ensures)) c.blank-4.ensures)
