use Rattle.wac_json_text.proofs.Common.{codes, refl, sym, argument_name_of, ident_of, string_of, variant, printed_at}
use Rattle.wac_json_forms.specs.Forms.{argument_name_json, ident_json, span_json, string_json}
use Rattle.json.specs.Print.{escape_byte}
use Rattle.wac_json_text.proofs.Joined.{as_pieces}
use Rattle.wac_json_text.specs.Pieces.{pieces}
use Rattle.wac_json_text.proofs.expr.InstantiationArgumentNameJson.write.Goals as goal

pub returns-in-Ident : goal.returns-in-Ident
unfolding argument_name_json ident_json span_json escape_byte
returns-in-Ident g c = printed_at (λ x. pieces (argument_name_json (argument_name_of x))) (sym c.in-Ident.is) (as_pieces (variant (codes "ident") (ident_json (ident_of c.in-Ident.part))) (λ space fresh. refl) c.enclosed.ensures)

pub returns-in-String : goal.returns-in-String
unfolding argument_name_json string_json span_json escape_byte
returns-in-String g c = printed_at (λ x. pieces (argument_name_json (argument_name_of x))) (sym c.in-String.is) (as_pieces (variant (codes "string") (string_json (string_of c.in-String.part))) (λ space fresh. refl) c.enclosed-in-String.ensures)
