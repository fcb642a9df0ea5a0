use Rattle.wac_graph_types.proofs.Common.{◌∙◌, ℕ, List, [], ◌∷◌, ◌++◌, subst, sym, ap}
use Rattle.wac_graph_types.specs.Names.{by_name}
use Rattle.wac_graph_types.specs.Scope.{IsFresh}
use Rattle.wac_graph_types.proofs.Maps.{inserted}
use Rattle.wac_graph_types.proofs.names.push.Goals as goal

pub returns-clause-ok : goal.returns-clause-ok
returns-clause-ok g c =
    let name = c.in_ok-key.ensures.ok in
    ap by_name c.in_ok-insert.ensures.entries
    ∙ inserted c.in_ok-key.key c.args.value c.args.all.now.entries (subst (λ (x : List ℕ). IsFresh x (by_name c.args.all.now.entries)) (sym name) c.requires)
    ∙ ap (λ (x : List ℕ). by_name c.args.all.now.entries ++ (x, c.args.value) ∷ []) name
