use Rattle.wac_json_text.proofs.Common.{codes, refl, sym, world_ref_of, ident_of, variant, printed_at}
use Rattle.wac_json_forms.specs.Forms.{ident_json, span_json, world_ref_json}
use Rattle.json.specs.Print.{escape_byte}
use Rattle.wac_json_text.proofs.Joined.{as_pieces}
use Rattle.wac_json_text.specs.Pieces.{pieces}
use Rattle.wac_json_text.proofs.include.WorldRefJson.write.Goals as goal

pub returns-in-Ident : goal.returns-in-Ident
unfolding world_ref_json ident_json span_json escape_byte
returns-in-Ident g c = printed_at (λ x. pieces (world_ref_json (world_ref_of x))) (sym c.in-Ident.is) (as_pieces (variant (codes "ident") (ident_json (ident_of c.in-Ident.part))) (λ space fresh. refl) c.enclosed.ensures)

pub returns-in-Package : goal.returns-in-Package
unfolding world_ref_json escape_byte
returns-in-Package g c = printed_at (λ x. pieces (world_ref_json (world_ref_of x))) (sym c.in-Package.is) c.variant.ensures
