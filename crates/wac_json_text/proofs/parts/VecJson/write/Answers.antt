use Rattle.wac_json_text.proofs.Common.{printed_as}
use Rattle.wac_json_text.proofs.Texts.{list_is}
use Rattle.wac_json_text.proofs.parts.VecJson.write.Goals as goal

pub returns : goal.returns
returns g c = printed_as (list_is g.T.Json.form c.args.self.now.items) c.enclosed.ensures
