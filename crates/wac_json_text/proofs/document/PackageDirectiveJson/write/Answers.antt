use Rattle.wac_json_text.proofs.Common.{first, last}
use Rattle.wac_json_forms.specs.Forms.{directive_json}
use Rattle.json.specs.Print.{escape_byte}
use Rattle.wac_printer_pieces.proofs.Sequence.{after}
use Rattle.wac_json_text.proofs.document.PackageDirectiveJson.write.Goals as goal

pub returns : goal.returns
unfolding directive_json escape_byte
returns g c = last c.and-2.ensures (after c.and.ensures (first c.blank.ensures) c.write.ensures) c.target.ensures
