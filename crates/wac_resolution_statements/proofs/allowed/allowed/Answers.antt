use Rattle.wac_resolution_statements.proofs.Common.{◌∙◌, List, Option, sym, ap, subst, option_map, IfSome, Entry, ItemKind, Names, means}
use Rattle.wac_resolution_statements.specs.Used.{allowed_kind}
use Rattle.wac_resolution_statements.proofs.Meanings.{allowed_means, allowed_named}
use Rattle.wac_resolution_statements.proofs.allowed.allowed.Goals as goal

pub returns-clause-means : goal.returns-clause-means
returns-clause-means c numbering =
    ap (option_map (means numbering c.args.state.now.graph)) (c.written.ensures ∙ ap (λ (es : List Entry). allowed_kind es c.args.world.0 c.args.name.now) c.types-types.ensures.types)
    ∙ allowed_means c.args.state.now.graph c.types-types.ensures.means c.types-types.ensures.entries numbering c.args.world c.args.name.now c.requires

pub returns-clause-named : goal.returns-clause-named
returns-clause-named c =
    subst (λ (o : Option ItemKind). IfSome o (Names c.args.state.now.graph.types)) (sym (c.written.ensures ∙ ap (λ (es : List Entry). allowed_kind es c.args.world.0 c.args.name.now) c.types-types.ensures.types))
    (allowed_named c.args.state.now.graph.types c.args.world.0 c.args.name.now c.types-types.ensures.entries)
