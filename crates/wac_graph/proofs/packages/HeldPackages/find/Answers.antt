use Rattle.wac_graph.proofs.Common.{◌∙◌, ap}
use Rattle.wac_graph.specs.Package.{key_of, package_keyed}
use Rattle.wac_graph.proofs.Keyed.{keyed_place}
use Rattle.wac_graph.proofs.packages.HeldPackages.find.Goals as goal

pub returns : goal.returns
returns c =
    c.get_index_of.ensures.index
    ∙ keyed_place c.args.key.now c.self.inside.copies.entries
    ∙ ap (package_keyed (key_of c.args.key.now)) c.self.view_is
