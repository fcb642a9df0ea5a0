use Rattle.wac_ast_base.proofs.Common.{ap, ◌∙◌}
use Rattle.wac_ast_base.proofs.Strips.{stripped, unwrapped}
use Rattle.wac_ast_base.proofs.names.without_percent.Goals as goal

pub returns : goal.returns
returns c = ap (λ r. r.now) c.unwrap_or.ensures ∙ unwrapped c.args.text c.strip_prefix.result (stripped c.args.text.now c.strip_prefix.result c.strip_prefix.ensures.cases)
