use Rattle.wac_resolution_worlds.proofs.Common.{◌≡◌, List, Some, subst, slice_get, option_and_then, Entry, as_interface}
use Rattle.wac_resolution_worlds.proofs.Ids.{id_is}
use Rattle.wac_resolution_worlds.proofs.instances.instance_id.Goals as goal

pub returns-in-Some : goal.returns-in-Some
returns-in-Some c =
    id_is c.args.graph.now c.args.interface c.in-Some.interface.now c.text_or_empty.result.now c.types.ensures.means
    (subst (λ (es : List Entry). Some c.in-Some.interface.now ≡ option_and_then as_interface (slice_get es c.args.interface.0)) c.types.ensures.types c.in-Some.ensures) c.text_or_empty.ensures
