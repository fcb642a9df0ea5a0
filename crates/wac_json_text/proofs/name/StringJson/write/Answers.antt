use Rattle.wac_json_text.proofs.Common.{refl, string_of}
use Rattle.wac_json_forms.specs.Forms.{string_json, span_json}
use Rattle.json.specs.Print.{escape_byte}
use Rattle.wac_json_text.proofs.Joined.{as_pieces}
use Rattle.wac_json_text.proofs.name.StringJson.write.Goals as goal

pub returns : goal.returns
unfolding string_json span_json escape_byte
returns g c = as_pieces (string_json (string_of c.args.self.now)) (λ space fresh. refl) c.enclosed.ensures
