use Rattle.wac_json_text.proofs.Common.{first, last}
use Rattle.wac_printer_pieces.proofs.Sequence.{after}
use Rattle.wac_json_text.proofs.name.IdentEnclosed.write_inside.Goals as goal

pub returns : goal.returns
returns g c = last c.and-2.ensures (after c.and.ensures (first c.write_inside.ensures) c.blank.ensures) c.write_inside-2.ensures
