use Rattle.wac_json_text.proofs.Common.{sym, doc_comment_of, flag_of, items_of-map}
use Rattle.wac_json_forms.specs.Forms.{doc_json, flag_json, ident_json, list_json, span_json}
use Rattle.json.specs.Print.{escape_byte}
use Rattle.wac_json_text.proofs.Joined.{as_form, ends, list_then, put, then}
use Rattle.wac_json_text.proofs.flags_decl.FlagJson.write.Goals as goal

pub returns : goal.returns
unfolding flag_json list_json ident_json span_json escape_byte
returns g c =
    as_form (flag_json (flag_of c.args.self.now)) (ends c.and-4.ensures (then c.and-3.ensures (list_then (λ x. doc_json (doc_comment_of x)) _ (sym (items_of-map doc_json doc_comment_of _)) c.and.ensures c.and-2.ensures (put c.blank.ensures) c.write_inside.ensures c.blank-2.ensures) (put c.write_inside-2.ensures)) c.blank-3.ensures)
