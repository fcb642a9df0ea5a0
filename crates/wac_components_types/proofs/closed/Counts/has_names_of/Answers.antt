use Rattle.std.proofs.Common.{rules, tests}
use Rattle.std.proofs.lemmas.Iterator.Consumers.{YieldsList-from_rest}
use Rattle.std.proofs.lemmas.Iterator.Search.{all_from_yields_List}
use Rattle.indexmap.specs.IndexMap.{keys}
use Rattle.wac_components_types.specs.Closed.{has_name}
use Rattle.wac_components_types.proofs.closed.Counts.has_names_of.Goals as goal

pub returns : goal.returns
returns c = all_from_yields_List (has_name c.args.self) _ _ _ c.all.ensures.ran (YieldsList-from_rest (keys c.args.items.now) c.keys.ensures.rest) (λ x b q k. search (rules, tests))
