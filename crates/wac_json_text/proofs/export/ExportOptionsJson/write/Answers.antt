use Rattle.wac_json_text.proofs.Common.{codes, refl, sym, export_options_of, variant, printed_at}
use Rattle.wac_json_forms.specs.Forms.{export_options_json, span_json}
use Rattle.json.specs.Print.{escape_byte}
use Rattle.wac_json_text.proofs.Joined.{as_pieces}
use Rattle.wac_json_text.specs.Pieces.{pieces}
use Rattle.wac_json_text.proofs.export.ExportOptionsJson.write.Goals as goal

pub returns-in-None : goal.returns-in-None
unfolding export_options_json escape_byte
returns-in-None g c = printed_at (λ x. pieces (export_options_json (export_options_of x))) (sym c.in-None.is) c.write.ensures

pub returns-in-Spread : goal.returns-in-Spread
unfolding export_options_json span_json escape_byte
returns-in-Spread g c = printed_at (λ x. pieces (export_options_json (export_options_of x))) (sym c.in-Spread.is) (as_pieces (variant (codes "spread") (span_json c.in-Spread.part)) (λ space fresh. refl) c.enclosed.ensures)

pub returns-in-Rename : goal.returns-in-Rename
unfolding export_options_json escape_byte
returns-in-Rename g c = printed_at (λ x. pieces (export_options_json (export_options_of x))) (sym c.in-Rename.is) c.variant.ensures
