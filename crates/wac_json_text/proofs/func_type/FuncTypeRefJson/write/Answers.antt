use Rattle.wac_json_text.proofs.Common.{codes, refl, sym, func_type_ref_of, ident_of, variant, printed_at}
use Rattle.wac_json_forms.specs.Forms.{func_type_ref_json, ident_json, span_json}
use Rattle.json.specs.Print.{escape_byte}
use Rattle.wac_json_text.proofs.Joined.{as_pieces}
use Rattle.wac_json_text.specs.Pieces.{pieces}
use Rattle.wac_json_text.proofs.func_type.FuncTypeRefJson.write.Goals as goal

pub returns-in-Func : goal.returns-in-Func
unfolding func_type_ref_json escape_byte
returns-in-Func g c = printed_at (λ x. pieces (func_type_ref_json (func_type_ref_of x))) (sym c.in-Func.is) c.variant.ensures

pub returns-in-Ident : goal.returns-in-Ident
unfolding func_type_ref_json ident_json span_json escape_byte
returns-in-Ident g c = printed_at (λ x. pieces (func_type_ref_json (func_type_ref_of x))) (sym c.in-Ident.is) (as_pieces (variant (codes "ident") (ident_json (ident_of c.in-Ident.part))) (λ space fresh. refl) c.enclosed.ensures)
