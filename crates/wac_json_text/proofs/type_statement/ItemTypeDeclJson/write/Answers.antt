use Rattle.wac_json_text.proofs.Common.{sym, item_type_decl_of, printed_at}
use Rattle.wac_json_forms.specs.Forms.{item_type_decl_json}
use Rattle.json.specs.Print.{escape_byte}
use Rattle.wac_json_text.specs.Pieces.{pieces}
use Rattle.wac_json_text.proofs.type_statement.ItemTypeDeclJson.write.Goals as goal

pub returns-in-Resource : goal.returns-in-Resource
unfolding item_type_decl_json escape_byte
returns-in-Resource g c = printed_at (λ x. pieces (item_type_decl_json (item_type_decl_of x))) (sym c.in-Resource.is) c.variant.ensures

pub returns-in-Variant : goal.returns-in-Variant
unfolding item_type_decl_json escape_byte
returns-in-Variant g c = printed_at (λ x. pieces (item_type_decl_json (item_type_decl_of x))) (sym c.in-Variant.is) c.variant-in-Variant.ensures

pub returns-in-Record : goal.returns-in-Record
unfolding item_type_decl_json escape_byte
returns-in-Record g c = printed_at (λ x. pieces (item_type_decl_json (item_type_decl_of x))) (sym c.in-Record.is) c.variant-in-Record.ensures

pub returns-in-Flags : goal.returns-in-Flags
unfolding item_type_decl_json escape_byte
returns-in-Flags g c = printed_at (λ x. pieces (item_type_decl_json (item_type_decl_of x))) (sym c.in-Flags.is) c.variant-in-Flags.ensures

pub returns-in-Enum : goal.returns-in-Enum
unfolding item_type_decl_json escape_byte
returns-in-Enum g c = printed_at (λ x. pieces (item_type_decl_json (item_type_decl_of x))) (sym c.in-Enum.is) c.variant-in-Enum.ensures

pub returns-in-Alias : goal.returns-in-Alias
unfolding item_type_decl_json escape_byte
returns-in-Alias g c = printed_at (λ x. pieces (item_type_decl_json (item_type_decl_of x))) (sym c.in-Alias.is) c.variant-in-Alias.ensures
