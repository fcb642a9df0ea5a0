use Rattle.wac_resolution.specs.Resolved.{by_key, returned}
use Rattle.wac_resolution.proofs.Alike.{reread_same, same_alike, results_alike}
use Rattle.wac_resolution.proofs.laws.formatting_changes_no_graph.Goals as goal

pub returns-clause-printed : goal.returns-clause-printed
returns-clause-printed c = reread_same c.trees_stand_in_their_text.ensures

pub returns-clause-described : goal.returns-clause-described
returns-clause-described c = same_alike

pub returns-clause-returned : goal.returns-clause-returned
returns-clause-returned c = λ packages rules document other declared other_declared r s same h k numbering one.
    results_alike numbering (by_key packages) rules document other (returned numbering declared r) (returned numbering other_declared s) (same_alike document other same) (h numbering one) (k numbering one)
