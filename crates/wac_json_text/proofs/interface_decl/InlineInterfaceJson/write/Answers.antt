use Rattle.wac_json_text.proofs.Common.{sym, inline_interface_of, interface_item_of, items_of-map}
use Rattle.wac_json_forms.specs.Forms.{inline_interface_json, interface_item_json, list_json}
use Rattle.json.specs.Print.{escape_byte}
use Rattle.wac_json_text.proofs.Joined.{as_form, list_ends, put}
use Rattle.wac_json_text.proofs.interface_decl.InlineInterfaceJson.write.Goals as goal

pub returns : goal.returns
unfolding inline_interface_json list_json escape_byte
returns g c =
    as_form (inline_interface_json (inline_interface_of c.args.self.now)) (list_ends (λ x. interface_item_json (interface_item_of x)) _ (sym (items_of-map interface_item_json interface_item_of _)) c.and.ensures c.and-2.ensures (put c.blank.ensures) c.write_inside.ensures c.blank-2.ensures)
