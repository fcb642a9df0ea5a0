use Rattle.wac_resolution_expressions.proofs.Common.{map, take, arith, string_bytes, take_all, length-map, by_name}
use Rattle.wac_resolution_expressions.proofs.Spreading.{no_names, names_next, names_all}
use Rattle.wac_resolution_expressions.proofs.spread.spread_names.Goals as goal

pub loop-name-init : goal.loop-name-init
loop-name-init c = no_names c.args.state.now.graph (by_name c.args.given.now.entries) c.args.node.0 c.requires.agrees c.requires.there

pub spread_name-requires-clause-agrees : goal.spread_name-requires-clause-agrees
spread_name-requires-clause-agrees c = c.loop-name.invariant.grows.stand

pub spread_name-requires-clause-there : goal.spread_name-requires-clause-there
spread_name-requires-clause-there c = c.loop-name.invariant.there

pub loop-name-preserved : goal.loop-name-preserved
loop-name-preserved c =
    names_next c.args.state.now.graph c.loop-name.state.graph c.spread_name.new.state.graph (by_name c.args.given.now.entries) (by_name c.loop-name.given.entries) (by_name c.spread_name.new.given.entries) c.args.node.0
    c.args.names.now c.loop-name.name-index c.name-item.result c.as_str.result.now c.loop-name-test.true c.name-item.is c.as_str.ensures.value c.loop-name.invariant c.in_ok-spread_name.ensures

pub returns : goal.returns
returns c =
    names_all c.args.state.now.graph c.loop-name.state.graph (by_name c.args.given.now.entries) (by_name c.loop-name.given.entries) c.args.node.0 (take c.loop-name.name-index (map string_bytes c.args.names.now)) (map string_bytes c.args.names.now)
    (take_all c.loop-name.name-index (map string_bytes c.args.names.now) (omega (arith, length-map c.args.names.now string_bytes))) c.loop-name.invariant
