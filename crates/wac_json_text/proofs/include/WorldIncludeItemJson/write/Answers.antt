use Rattle.wac_json_text.proofs.Common.{world_include_item_of}
use Rattle.wac_json_forms.specs.Forms.{ident_json, span_json, world_include_item_json}
use Rattle.json.specs.Print.{escape_byte}
use Rattle.wac_json_text.proofs.Joined.{as_form, ends, put, then}
use Rattle.wac_json_text.proofs.include.WorldIncludeItemJson.write.Goals as goal

pub returns : goal.returns
unfolding world_include_item_json ident_json span_json escape_byte
returns g c =
    as_form (world_include_item_json (world_include_item_of c.args.self.now)) (ends c.and-4.ensures (then c.and-3.ensures (then c.and-2.ensures (then c.and.ensures (put c.blank.ensures) (put c.write_inside.ensures)) (put c.blank-2.ensures)) (put c.write_inside-2.ensures)) c.blank-3.ensures)
