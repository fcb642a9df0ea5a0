use Rattle.wac_resolution.proofs.Common.{mentions}
use Rattle.wac_resolution.proofs.Between.{first_ones}
use Rattle.wac_resolution.proofs.Places.{mentions_ascend}
use Rattle.wac_resolution.proofs.mention_laws.mentions_stand_in_order.Goals as goal

pub returns-clause-all : goal.returns-clause-all
returns-clause-all c = λ document source utf8 is. mentions_ascend source document (c.items_stand_in_order.ensures source utf8) is

pub returns-clause-first : goal.returns-clause-first
returns-clause-first c = λ document source utf8 is. first_ones (mentions document) 0 (mentions_ascend source document (c.items_stand_in_order.ensures source utf8) is)
