use Rattle.wac_json_text.proofs.Common.{sym, ◌∷◌, ◌++◌, [], codes, result_list_of, named_type_of, list_of-map, blank, printed_at}
use Rattle.wac_json_forms.specs.Forms.{result_list_json, named_type_json}
use Rattle.json.specs.Print.{escape_byte}
use Rattle.wac_json_text.specs.Pieces.{pieces}
use Rattle.wac_json_text.proofs.func_type.ResultListJson.write.Goals as goal

pub returns-in-Empty : goal.returns-in-Empty
unfolding result_list_json escape_byte
returns-in-Empty g c = printed_at (λ x. pieces (result_list_json (result_list_of x))) (sym c.in-Empty.is) c.write.ensures

pub returns-in-Scalar : goal.returns-in-Scalar
unfolding result_list_json escape_byte
returns-in-Scalar g c = printed_at (λ x. pieces (result_list_json (result_list_of x))) (sym c.in-Scalar.is) c.variant.ensures

pub returns-in-Named : goal.returns-in-Named
unfolding result_list_json escape_byte
returns-in-Named g c = printed_at (λ x. pieces (result_list_json (result_list_of x))) (sym c.in-Named.is) (printed_at (λ d. blank (codes "{\"named\":") ∷ (pieces d ++ blank (codes "}") ∷ [])) (sym (list_of-map named_type_json named_type_of _)) c.variant-in-Named.ensures)
