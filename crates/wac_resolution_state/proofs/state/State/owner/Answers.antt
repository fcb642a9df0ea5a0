use Rattle.wac_resolution_state.proofs.Added.{owner_means, owner_named}
use Rattle.wac_resolution_state.proofs.state.State.owner.Goals as goal

pub returns-clause-means : goal.returns-clause-means
returns-clause-means c = owner_means c.args.self.now.graph c.args.resource c.written_owner.result c.types-types.ensures.means c.requires c.written_owner.ensures

pub returns-clause-named : goal.returns-clause-named
returns-clause-named c = owner_named c.args.self.now.graph c.args.resource c.written_owner.result c.types-types.ensures.entries c.requires c.written_owner.ensures
