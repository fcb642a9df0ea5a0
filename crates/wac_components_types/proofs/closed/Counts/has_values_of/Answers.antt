use Rattle.std.proofs.Common.{rules, tests}
use Rattle.std.proofs.lemmas.Iterator.Consumers.{YieldsList-from_rest}
use Rattle.std.proofs.lemmas.Iterator.Search.{all_from_yields_List}
use Rattle.indexmap.specs.IndexMap.{values}
use Rattle.wac_components_types.specs.Closed.{has_item}
use Rattle.wac_components_types.proofs.closed.Counts.has_values_of.Goals as goal

pub returns : goal.returns
returns c = all_from_yields_List (has_item c.args.self) _ _ _ c.all.ensures.ran (YieldsList-from_rest (values c.args.items.now) c.values.ensures.rest) (λ x b q k. search (rules, tests))
