use Rattle.wac_graph.proofs.Common.{◌≡◌, ◌<◌, length, ap, subst, sym, arith, WorldId, InterfaceId}
use Rattle.wac_graph.specs.Moved.{ItemsFit}
use Rattle.wac_graph.proofs.Fitting.{items_fit}
use Rattle.wac_graph.proofs.packages.PackageCopy.moved.Goals as goal

pub copy_items-requires : goal.copy_items-requires
copy_items-requires c = subst (ItemsFit c.args.n) (sym c.definitions.ensures.definitions) (items_fit c.args.n c.args.from.now.types c.args.from.now.definitions c.definitions.ensures.named c.requires)

pub overflow_add-result : goal.overflow_add-result
overflow_add-result c =
    let number : c.world.result.0 ≡ c.args.from.now.world.0 = ap (λ (w : WorldId). w.0) c.world.ensures.world in
    let within : c.args.from.now.world.0 < length c.args.from.now.types = c.world.ensures.named.0 in
    omega arith

pub overflow_add-result-2 : goal.overflow_add-result-2
overflow_add-result-2 c =
    let number : c.instance.result.0 ≡ c.args.from.now.instance.0 = ap (λ (i : InterfaceId). i.0) c.instance.ensures.instance in
    let within : c.args.from.now.instance.0 < length c.args.from.now.types = c.instance.ensures.named.0 in
    omega arith
