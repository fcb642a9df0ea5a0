use Rattle.wac_json_text.proofs.Common.{world_item_of, printed_at}
use Rattle.wac_json_forms.specs.Forms.{list_json, world_item_json}
use Rattle.wac_json_text.specs.Pieces.{pieces}
use Rattle.wac_json_text.proofs.Steps.{of_items}
use Rattle.wac_json_text.proofs.world_decl.write_items.Goals as goal

pub returns : goal.returns
returns g c =
    of_items world_item_json world_item_of c.args.decl.now.items.items
    (printed_at (λ xs. pieces (list_json (λ x. world_item_json (world_item_of x)) xs)) c.items_of.ensures c.list.ensures)
