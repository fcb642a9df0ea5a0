use Rattle.wac_resolution_expressions.proofs.Common.{◌∙◌, map, ap, string_bytes, by_name}
use Rattle.wac_resolution_expressions.proofs.Spreading.{spread_over}
use Rattle.wac_resolution_expressions.proofs.spread.spread_from.Goals as goal

pub returns : goal.returns
returns c =
    spread_over c.args.state.now.graph c.spread_names.new.state.graph (by_name c.args.given.now.entries) (by_name c.spread_names.new.given.entries) c.args.node.0 c.args.world (map string_bytes c.deref.result.now)
    c.types-types.ensures.means c.requires.world (ap (map string_bytes) c.deref.ensures.value ∙ c.in_ok-names.ensures) c.in_ok-spread_names.ensures
