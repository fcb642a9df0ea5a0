use Rattle.wac_resolution_expressions.proofs.Common.{◌∙◌, refl, ap, string_bytes, by_name}
use Rattle.wac_resolution_expressions.proofs.Spreading.{copied_next, copied_end}
use Rattle.wac_resolution_expressions.proofs.spread.copied_names.Goals as goal

pub loop-name-init : goal.loop-name-init
loop-name-init c = rw (c.new-names.ensures.items, c.into_iter-name-iterator.ensures.into_iter_gives, c.iter-name-items.ensures.rest) refl

pub loop-name-preserved : goal.loop-name-preserved
loop-name-preserved c =
    copied_next (by_name c.args.all.now.entries) _ (by_name c.next.new.self) (string_bytes c.in-Some.name.now, c.in-Some.field-0-1.now) c.loop-name.names.items c.push.new.self.items c.in_ok-copy.copy
    (ap by_name c.in-Some.ensures.steps) (c.in_ok-copy.ensures.ok ∙ c.as_str.ensures.value) c.in_ok-push.ensures.items c.loop-name.invariant

pub returns : goal.returns
returns c = copied_end (by_name c.args.all.now.entries) _ c.loop-name.names.items (ap by_name c.in-None.ensures.steps.0) c.loop-name.invariant
