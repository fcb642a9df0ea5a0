use Rattle.wac_resolution_state.proofs.Common.{subst, IfOk, MatchOption, Key}
use Rattle.wac_resolution_state.specs.Expands.{Loads, IsNotSupplied}
use Rattle.wac_resolution_state.specs.Context.{packages_in}
use Rattle.wac_resolution_state.proofs.foreign.load.Goals as goal

pub returns : goal.returns
returns c =
    subst (λ (k : Key). IfOk c.«package».result (λ o. MatchOption o (IsNotSupplied (packages_in c.args.context.now) k) (λ id. Loads (packages_in c.args.context.now) c.args.state.now.graph c.«package».new.state.graph k id.0)))
    c.in_ok-key.ensures c.«package».ensures
