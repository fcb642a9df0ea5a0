use Rattle.wac_json_text.proofs.Common.{sym, resource_method_of, printed_at}
use Rattle.wac_json_forms.specs.Forms.{resource_method_json}
use Rattle.json.specs.Print.{escape_byte}
use Rattle.wac_json_text.specs.Pieces.{pieces}
use Rattle.wac_json_text.proofs.resource_decl.ResourceMethodJson.write.Goals as goal

pub returns-in-Constructor : goal.returns-in-Constructor
unfolding resource_method_json escape_byte
returns-in-Constructor g c = printed_at (λ x. pieces (resource_method_json (resource_method_of x))) (sym c.in-Constructor.is) c.variant.ensures

pub returns-in-Method : goal.returns-in-Method
unfolding resource_method_json escape_byte
returns-in-Method g c = printed_at (λ x. pieces (resource_method_json (resource_method_of x))) (sym c.in-Method.is) c.variant-in-Method.ensures
