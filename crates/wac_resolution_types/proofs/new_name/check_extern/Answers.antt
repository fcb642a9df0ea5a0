use Rattle.wac_resolution_types.proofs.Common.{inr, sym, means}
use Rattle.wac_resolution_types.specs.Lists.{lists_of}
use Rattle.wac_resolution_types.proofs.Lists.{extern_stands}
use Rattle.wac_resolution_types.proofs.new_name.check_extern.Goals as goal

pub returns-in_ok-conflict-in-Some-clause-err : goal.returns-in_ok-conflict-in-Some-clause-err
returns-in_ok-conflict-in-Some-clause-err c = inr (λ numbering g.
    (means numbering g c.in-Some.field-0, extern_stands numbering g c.args.section.now.side (lists_of c.args.body.now) c.args.name.now c.in-Some.field-0 (sym c.in-Some.ensures), c.in_ok-conflict-in-Some.ensures))
