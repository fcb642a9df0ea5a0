use Rattle.wac_json_text.proofs.Common.{codes, sym, interface_item_of, use_of, printed_at}
use Rattle.wac_json_forms.specs.Forms.{interface_item_json, use_json}
use Rattle.json.specs.Print.{escape_byte}
use Rattle.wac_json_text.specs.Contents.{variant_pieces}
use Rattle.wac_json_text.specs.Pieces.{pieces}
use Rattle.wac_json_text.proofs.interface_decl.InterfaceItemJson.write.Goals as goal

pub returns-in-Use : goal.returns-in-Use
unfolding interface_item_json escape_byte
returns-in-Use g c = printed_at (λ x. pieces (interface_item_json (interface_item_of x))) (sym c.in-Use.is) (printed_at (λ x. variant_pieces (codes "{\"use\":") (use_json (use_of x))) c.deref.ensures c.variant.ensures)

pub returns-in-Ty : goal.returns-in-Ty
unfolding interface_item_json escape_byte
returns-in-Ty g c = printed_at (λ x. pieces (interface_item_json (interface_item_of x))) (sym c.in-Ty.is) c.variant-in-Ty.ensures

pub returns-in-Export : goal.returns-in-Export
unfolding interface_item_json escape_byte
returns-in-Export g c = printed_at (λ x. pieces (interface_item_json (interface_item_of x))) (sym c.in-Export.is) c.variant-in-Export.ensures
