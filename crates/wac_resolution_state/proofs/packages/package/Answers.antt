use Rattle.wac_resolution_state.proofs.Common.{sym, key_of, held_of}
use Rattle.wac_resolution_state.specs.Context.{packages_in}
use Rattle.wac_resolution_state.proofs.Loading.{loads_held, loads_added, not_supplied}
use Rattle.wac_resolution_state.proofs.packages.package.Goals as goal

pub returns-in-Some : goal.returns-in-Some
returns-in-Some c = loads_held (packages_in c.args.context.now) c.args.state.now.graph (key_of c.args.key.now) c.in-Some.id.0 c.requires (sym c.in-Some.ensures.found)

pub returns-in_ok-id-in-Some-supplied : goal.returns-in_ok-id-in-Some-supplied
returns-in_ok-id-in-Some-supplied c =
    let added = c.in_ok-id-in-Some-supplied.ensures in
    loads_added (packages_in c.args.context.now) c.args.state.now.graph c.add_package.new.self (key_of c.args.key.now) c.in-Some-supplied.package.now c.in_ok-id-in-Some-supplied.id.0
    added.ok added.kinds added.names (held_of c.package-held.result) (sym c.in-Some-supplied.ensures) c.requires c.package-held.ensures.found c.package-held.ensures.named

pub returns-in-None : goal.returns-in-None
returns-in-None c = not_supplied (packages_in c.args.context.now) (key_of c.args.key.now) (sym c.in-None.ensures)
