use Rattle.wac_json_text.proofs.Common.{codes, refl, sym, use_path_of, ident_of, variant, printed_at}
use Rattle.wac_json_forms.specs.Forms.{ident_json, span_json, use_path_json}
use Rattle.json.specs.Print.{escape_byte}
use Rattle.wac_json_text.proofs.Joined.{as_pieces}
use Rattle.wac_json_text.specs.Pieces.{pieces}
use Rattle.wac_json_text.proofs.use_decl.UsePathJson.write.Goals as goal

pub returns-in-Package : goal.returns-in-Package
unfolding use_path_json escape_byte
returns-in-Package g c = printed_at (λ x. pieces (use_path_json (use_path_of x))) (sym c.in-Package.is) c.variant.ensures

pub returns-in-Ident : goal.returns-in-Ident
unfolding use_path_json ident_json span_json escape_byte
returns-in-Ident g c = printed_at (λ x. pieces (use_path_json (use_path_of x))) (sym c.in-Ident.is) (as_pieces (variant (codes "ident") (ident_json (ident_of c.in-Ident.part))) (λ space fresh. refl) c.enclosed.ensures)
