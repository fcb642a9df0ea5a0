use Rattle.std.proofs.Common.{arith, ◌∙◌}
use Rattle.wac_components_bytes.proofs.Groups.{below_weight, one_more, the_last}
use Rattle.wac_components_bytes.proofs.reader.Reader.groups.Goals as goal

pub with_group-value-requires-clause-value : goal.with_group-value-requires-clause-value
with_group-value-requires-clause-value c = below_weight _ _ _ _ c.loop-place.invariant.fronts

pub returns-then-byte-lt128-clause-ok : goal.returns-then-byte-lt128-clause-ok
returns-then-byte-lt128-clause-ok c =
    the_last _ _ _ _ _ _ _ c.loop-place.invariant.fronts c.in_ok-byte.ensures.ok c.if-byte-lt128.true c.loop-place-test.true c.with_group-value.ensures

pub loop-place-preserved : goal.loop-place-preserved
loop-place-preserved c = record {
  bytes = c.in_ok-byte.ensures.bytes ∙ c.loop-place.invariant.bytes;
  work = omega (arith, c.in_ok-byte.ensures.work, c.loop-place.invariant.work);
  fronts = one_more _ _ _ _ _ _ _ c.loop-place.invariant.fronts c.in_ok-byte.ensures.ok c.if-byte-lt128.false c.with_group-value.ensures;
}
