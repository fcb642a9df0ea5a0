use Rattle.wac_resolution_expressions.proofs.Common.{◌∙◌, ℕ, List, Option, sym, ap, unwrap_or, by_name, items_mean, find_name}
use Rattle.wac_resolution_state.proofs.Found.{found_meant}
use Rattle.wac_resolution_expressions.proofs.meant.inferred.Goals as goal

pub returns-in-None : goal.returns-in-None
returns-in-None c f =
    c.find_name.ensures ∙ sym (found_meant f c.args.name.now (by_name c.args.imports.now.entries))
    ∙ ap (λ (o : Option (List ℕ)). unwrap_or o (find_name c.args.name.now (items_mean f (by_name c.args.imports.now.entries)))) (c.in-None.ensures f)
