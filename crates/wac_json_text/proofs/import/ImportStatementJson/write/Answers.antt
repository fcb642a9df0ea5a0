use Rattle.wac_json_text.proofs.Common.{sym, doc_comment_of, extern_name_of, import_statement_of, items_of-map}
use Rattle.wac_json_forms.specs.Forms.{doc_json, extern_name_json, ident_json, import_statement_json, list_json, span_json}
use Rattle.json.specs.Print.{escape_byte}
use Rattle.wac_json_text.proofs.Joined.{as_form, ends, form, list_then, put, then}
use Rattle.wac_json_text.proofs.Steps.{of_option}
use Rattle.wac_json_text.proofs.import.ImportStatementJson.write.Goals as goal

pub returns : goal.returns
unfolding import_statement_json list_json ident_json span_json escape_byte
returns g c =
    as_form (import_statement_json (import_statement_of c.args.self.now)) (ends c.and-8.ensures (then c.and-7.ensures (then c.and-6.ensures (then c.and-5.ensures (then c.and-4.ensures (then c.and-3.ensures (list_then (λ x. doc_json (doc_comment_of x)) _ (sym (items_of-map doc_json doc_comment_of _)) c.and.ensures c.and-2.ensures (put c.blank.ensures) c.write_inside.ensures c.blank-2.ensures) (put c.write_inside-2.ensures)) (put c.blank-3.ensures)) (form _ (of_option extern_name_json extern_name_of _ c.write.ensures))) (put c.blank-4.ensures)) (form _ c.write-2.ensures)) c.blank-5.ensures)
