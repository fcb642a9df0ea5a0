use Rattle.wac_json_text.proofs.Common.{◌≡◌, map, rules, sym, document_of, statement_of, doc_comment_of, printed_at, items_of-map}
use Rattle.wac_json_forms.specs.Forms.{doc_json, json_of, list_json, statement_json}
use Rattle.json.specs.Print.{escape_byte}
use Rattle.wac_json_text.specs.Pieces.{pieces}
use Rattle.wac_json_text.proofs.Joined.{as_form, ends, form, list_then, put, then}
use Rattle.wac_json_text.proofs.written.document.Goals as goal

pub returns : goal.returns
unfolding json_of list_json escape_byte
returns g c =
    let all : c.all.result.now ≡ c.page.inside.document.now.statements.items = search rules in
    let statements = printed_at (λ xs. pieces (list_json statement_json (map statement_of xs))) all c.write_statements.ensures in
    printed_at (λ x. pieces (json_of (document_of x))) c.page.view_is
    (as_form (json_of (document_of c.page.inside.document.now))
    (ends c.and-6.ensures
    (then c.and-5.ensures
    (list_then (λ x. doc_json (doc_comment_of x)) _ (sym (items_of-map doc_json doc_comment_of _)) c.and-3.ensures c.and-4.ensures (then c.and-2.ensures (then c.and.ensures (put c.blank.ensures) (form _ c.write.ensures)) (put c.blank-2.ensures)) c.write_inside.ensures c.blank-3.ensures)
    (form (list_json statement_json (map statement_of c.page.inside.document.now.statements.items)) statements))
    c.blank-4.ensures))
