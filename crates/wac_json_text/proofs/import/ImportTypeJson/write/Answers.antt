use Rattle.wac_json_text.proofs.Common.{codes, refl, sym, import_type_of, ident_of, variant, printed_at}
use Rattle.wac_json_forms.specs.Forms.{ident_json, import_type_json, span_json}
use Rattle.json.specs.Print.{escape_byte}
use Rattle.wac_json_text.proofs.Joined.{as_pieces}
use Rattle.wac_json_text.specs.Pieces.{pieces}
use Rattle.wac_json_text.proofs.import.ImportTypeJson.write.Goals as goal

pub returns-in-Package : goal.returns-in-Package
unfolding import_type_json escape_byte
returns-in-Package g c = printed_at (λ x. pieces (import_type_json (import_type_of x))) (sym c.in-Package.is) c.variant.ensures

pub returns-in-Func : goal.returns-in-Func
unfolding import_type_json escape_byte
returns-in-Func g c = printed_at (λ x. pieces (import_type_json (import_type_of x))) (sym c.in-Func.is) c.variant-in-Func.ensures

pub returns-in-Interface : goal.returns-in-Interface
unfolding import_type_json escape_byte
returns-in-Interface g c = printed_at (λ x. pieces (import_type_json (import_type_of x))) (sym c.in-Interface.is) c.variant-in-Interface.ensures

pub returns-in-Ident : goal.returns-in-Ident
unfolding import_type_json ident_json span_json escape_byte
returns-in-Ident g c = printed_at (λ x. pieces (import_type_json (import_type_of x))) (sym c.in-Ident.is) (as_pieces (variant (codes "ident") (ident_json (ident_of c.in-Ident.part))) (λ space fresh. refl) c.enclosed.ensures)
