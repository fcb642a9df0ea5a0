use Rattle.wac_json_text.proofs.Common.{sym, world_item_of, printed_at}
use Rattle.wac_json_forms.specs.Forms.{world_item_json}
use Rattle.json.specs.Print.{escape_byte}
use Rattle.wac_json_text.specs.Pieces.{pieces}
use Rattle.wac_json_text.proofs.world_decl.WorldItemJson.write.Goals as goal

pub returns-in-Use : goal.returns-in-Use
unfolding world_item_json escape_byte
returns-in-Use g c = printed_at (λ x. pieces (world_item_json (world_item_of x))) (sym c.in-Use.is) c.variant.ensures

pub returns-in-Ty : goal.returns-in-Ty
unfolding world_item_json escape_byte
returns-in-Ty g c = printed_at (λ x. pieces (world_item_json (world_item_of x))) (sym c.in-Ty.is) c.variant-in-Ty.ensures

pub returns-in-Import : goal.returns-in-Import
unfolding world_item_json escape_byte
returns-in-Import g c = printed_at (λ x. pieces (world_item_json (world_item_of x))) (sym c.in-Import.is) c.variant-in-Import.ensures

pub returns-in-Export : goal.returns-in-Export
unfolding world_item_json escape_byte
returns-in-Export g c = printed_at (λ x. pieces (world_item_json (world_item_of x))) (sym c.in-Export.is) c.variant-in-Export.ensures

pub returns-in-Include : goal.returns-in-Include
unfolding world_item_json escape_byte
returns-in-Include g c = printed_at (λ x. pieces (world_item_json (world_item_of x))) (sym c.in-Include.is) c.variant-in-Include.ensures
