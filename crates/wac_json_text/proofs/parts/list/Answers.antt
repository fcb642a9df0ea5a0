use Rattle.wac_json_text.proofs.Common.{first, last, printed_as}
use Rattle.wac_printer_pieces.proofs.Sequence.{after}
use Rattle.wac_json_text.proofs.Texts.{list_is}
use Rattle.wac_json_text.proofs.parts.list.Goals as goal

pub returns : goal.returns
returns g c = printed_as (list_is g.T.Json.form c.args.items.now) (last c.and-2.ensures (after c.and.ensures (first c.blank.ensures) c.joined.ensures) c.blank-2.ensures)
