use Rattle.wac_json_text.proofs.Common.{ident_of}
use Rattle.wac_json_forms.specs.Forms.{ident_json, span_json, ty_json}
use Rattle.json.specs.Print.{escape_byte}
use Rattle.wac_ast_grammar.specs.Tree as tree
use Rattle.wac_json_text.proofs.Joined.{as_form, ends, put, then}
use Rattle.wac_json_text.proofs.value_type.borrowed.Goals as goal

pub returns : goal.returns
unfolding ty_json ident_json span_json escape_byte
returns g c =
    as_form (ty_json (tree.Ty.borrow (ident_of c.args.id.now) c.args.span.now))
    (ends c.and-4.ensures (then c.and-3.ensures (then c.and-2.ensures (then c.and.ensures (put c.blank.ensures) (put c.write_inside.ensures)) (put c.blank-2.ensures)) (put c.write_inside-2.ensures)) c.blank-3.ensures)
