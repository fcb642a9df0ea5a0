use Rattle.wac_json_text.proofs.Common.{sym, type_alias_kind_of, printed_at}
use Rattle.wac_json_forms.specs.Forms.{type_alias_kind_json}
use Rattle.json.specs.Print.{escape_byte}
use Rattle.wac_json_text.specs.Pieces.{pieces}
use Rattle.wac_json_text.proofs.type_alias.TypeAliasKindJson.write.Goals as goal

pub returns-in-Func : goal.returns-in-Func
unfolding type_alias_kind_json escape_byte
returns-in-Func g c = printed_at (λ x. pieces (type_alias_kind_json (type_alias_kind_of x))) (sym c.in-Func.is) c.variant.ensures

pub returns-in-Ty : goal.returns-in-Ty
unfolding type_alias_kind_json escape_byte
returns-in-Ty g c = printed_at (λ x. pieces (type_alias_kind_json (type_alias_kind_of x))) (sym c.in-Ty.is) c.variant-in-Ty.ensures
