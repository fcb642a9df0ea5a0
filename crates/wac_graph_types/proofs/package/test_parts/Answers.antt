use Rattle.wac_graph_types.proofs.Common.{refl}
use Rattle.wac_graph_types.proofs.package.test_parts.Goals as goal

pub returns-then-not-ids_in_range-clause-err : goal.returns-then-not-ids_in_range-clause-err
returns-then-not-ids_in_range-clause-err c = λ h. let f = c.if-not-ids_in_range.ensures.1 h in cc

pub returns-then-not-ids_of_sort-clause-err : goal.returns-then-not-ids_of_sort-clause-err
returns-then-not-ids_of_sort-clause-err c = (c.if-not-ids_in_range.ensures.0 refl, λ h. let f = c.if-not-ids_of_sort.ensures.1 h in cc)

pub returns-then-not-ids_earlier-clause-err : goal.returns-then-not-ids_earlier-clause-err
returns-then-not-ids_earlier-clause-err c = (c.if-not-ids_in_range.ensures.0 refl, c.if-not-ids_of_sort.ensures.0 refl, λ h. let f = c.if-not-ids_earlier.ensures.1 h in cc)

pub returns-then-not-have_ids-clause-err : goal.returns-then-not-have_ids-clause-err
returns-then-not-have_ids-clause-err c = (c.if-not-ids_in_range.ensures.0 refl, c.if-not-ids_of_sort.ensures.0 refl, c.if-not-ids_earlier.ensures.0 refl, λ h. let f = c.if-not-have_ids.ensures.1 h in cc)

pub returns-then-not-same_exports-clause-err : goal.returns-then-not-same_exports-clause-err
returns-then-not-same_exports-clause-err c =
    (c.if-not-ids_in_range.ensures.0 refl, c.if-not-ids_of_sort.ensures.0 refl, c.if-not-ids_earlier.ensures.0 refl, c.if-not-have_ids.ensures.0 refl, c.if-not-same_exports.ensures.other (λ h. absurd (cc)))

pub returns-clause-ok : goal.returns-clause-ok
returns-clause-ok c = record {
  in_range = c.if-not-ids_in_range.ensures.0 refl;
  of_sort = c.if-not-ids_of_sort.ensures.0 refl;
  earlier = c.if-not-ids_earlier.ensures.0 refl;
  ids = c.if-not-have_ids.ensures.0 refl;
  exports = c.if-not-same_exports.ensures.same refl;
}
