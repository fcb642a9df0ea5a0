use Rattle.std.proofs.Common.{◌∙◌, List, ap, sym, subst, map}
use Rattle.std.specs.Prelude.{All, IfSome}
use Rattle.std.specs.List.{filter_map}
use Rattle.wac_names.specs.declared.names.Mention.{Mention}
use Rattle.wac_names.specs.declared.names.Name.{Name}
use Rattle.wac_names.specs.declared.names.Names.{Names}
use Rattle.wac_names.specs.LookedUp.{StandsAt, name_found, said}
use Rattle.wac_names.specs.Places.{IsTied}
use Rattle.wac_names.proofs.Alone.{are_standing, are_tied, they_say}
use Rattle.wac_names.proofs.standing.plain_names.Goals as goal

pub returns-clause-tied : goal.returns-clause-tied
returns-clause-tied c =
    subst (λ (ns : List Name). All (IsTied c.args.source.now ns) c.in_ok-mentions.mentions.items) (sym c.in_ok-bindings.ensures)
    (subst (λ (ms : List Mention). All (IsTied c.args.source.now (map name_found c.args.all.now)) ms) (sym c.in_ok-mentions.ensures) (are_tied c.args.source.now c.args.all.now c.requires))

pub returns-clause-found : goal.returns-clause-found
returns-clause-found c = ap (filter_map said) c.in_ok-mentions.ensures ∙ they_say 0 c.args.all.now

pub returns-clause-stand : goal.returns-clause-stand
returns-clause-stand c =
    let names : Names = record { bindings = c.in_ok-bindings.bindings; mentions = c.in_ok-mentions.mentions } in
    subst (λ (ms : List Mention). All (λ m. IfSome m.bound (StandsAt names m.binding)) ms) (sym c.in_ok-mentions.ensures) (are_standing names c.args.all.now c.in_ok-bindings.ensures)
