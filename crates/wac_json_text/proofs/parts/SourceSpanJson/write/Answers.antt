use Rattle.wac_json_text.proofs.Common.{refl}
use Rattle.wac_json_forms.specs.Forms.{span_json}
use Rattle.json.specs.Print.{escape_byte}
use Rattle.wac_json_text.proofs.Joined.{as_pieces}
use Rattle.wac_json_text.proofs.parts.SourceSpanJson.write.Goals as goal

pub returns : goal.returns
unfolding span_json escape_byte
returns g c = as_pieces (span_json c.args.self.now) (λ space fresh. refl) c.enclosed.ensures
