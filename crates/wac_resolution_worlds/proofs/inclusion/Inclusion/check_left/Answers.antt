use Rattle.wac_resolution_worlds.proofs.Common.{◌∙◌, inr}
use Rattle.wac_resolution_worlds.specs.Taking.{tree_of}
use Rattle.wac_resolution_worlds.proofs.Found.{left_over}
use Rattle.wac_resolution_worlds.proofs.inclusion.Inclusion.check_left.Goals as goal

pub returns-in_ok-from_str-in-Some-2-clause-err : goal.returns-in_ok-from_str-in-Some-2-clause-err
returns-in_ok-from_str-in-Some-2-clause-err c =
    inr (left_over (tree_of c.args.self.now) c.args.entries.now.entries c.in-Some.name.now c.in-Some.item.now _ _ c.in-Some.ensures.entry c.requires
    (c.in_ok-from_str-in-Some.ensures.ok ∙ c.name.ensures) (c.in_ok-from_str-in-Some-2.ensures.ok ∙ c.as_str.ensures.value))
