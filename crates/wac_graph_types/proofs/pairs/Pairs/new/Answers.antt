use Rattle.wac_graph_types.specs.Pairs.{slot_of}
use Rattle.wac_graph_types.proofs.Remembered.{first_alone, zeros_alone}
use Rattle.wac_graph_types.proofs.pairs.Pairs.new.Goals as goal

pub returns-clause-alike : goal.returns-clause-alike
returns-clause-alike c = λ es. first_alone es 512

pub returns-clause-empty : goal.returns-clause-empty
returns-clause-empty c = λ i j. zeros_alone 512 (slot_of i j) i j
