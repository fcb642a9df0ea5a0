use Rattle.wac_declared_packages.proofs.Common.{sym, subst, option_map, document_of, IsTreeOf, key_of}
use Rattle.wac_ast.specs.declared.document.Document.{Document}
use Rattle.wac_declared_packages.specs.Together.{now_of}
use Rattle.wac_declared_packages.proofs.Declares.{declared_here}
use Rattle.wac_declared_packages.proofs.making.declared_by.Goals as goal

pub returns-in-Ok : goal.returns-in-Ok
returns-in-Ok c =
    let texts = now_of c.args.sources.now.texts.now in
    let document = document_of c.page.inside.document.now in
    let tree : IsTreeOf c.args.text.now document = subst (λ (d : Document). IsTreeOf c.args.text.now (document_of d)) (sym c.page.view_is) c.requires.tree in
    declared_here texts c.args.sources.now.worlds.now.entries c.args.text.now document c.args.packages.entries (key_of c.in-Ok.key) (option_map (λ s. s.now) c.world_of-world.result)
    c.declared_package.result c.requires.one tree c.requires.all c.in-Ok.ensures c.world_of-world.ensures c.declared_package.ensures.key c.declared_package.ensures.is c.declared_package.ensures.fits
