use Rattle.wac_resolution_types.proofs.Common.{◌≡◌, ◌∙◌, ℕ, List, inr, sym, subst, rules, StandsFor, means, externs, constructor_name}
use Rattle.wac_resolution_types.specs.Bodies.{body_of}
use Rattle.wac_resolution_types.specs.Lists.{lists_of}
use Rattle.wac_resolution_types.proofs.Lists.{extern_stands}
use Rattle.wac_resolution_types.proofs.resource_methods.new_constructor_name.Goals as goal

pub returns-in_ok-from_str-in-Some-clause-err : goal.returns-in_ok-from_str-in-Some-clause-err
returns-in_ok-from_str-in-Some-clause-err c = inr (λ numbering g.
    let same : c.deref.result.now ≡ constructor_name c.args.resource.now = c.deref.ensures ∙ c.in_ok-name.ensures in
    let there = extern_stands numbering g c.args.side (lists_of c.args.body.now) c.deref.result.now c.in-Some.field-0 (sym c.in-Some.ensures) in
    (means numbering g c.in-Some.field-0, subst (λ (n : List ℕ). StandsFor (externs c.args.side (body_of numbering g c.args.body.now)) n (means numbering g c.in-Some.field-0)) same there, search rules))
