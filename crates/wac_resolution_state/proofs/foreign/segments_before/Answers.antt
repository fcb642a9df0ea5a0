use Rattle.wac_resolution_state.proofs.Common.{◌∙◌, sym, package_path_of}
use Rattle.wac_resolution_state.proofs.Leading.{first_joined}
use Rattle.wac_resolution_state.proofs.foreign.segments_before.Goals as goal

pub returns : goal.returns
returns c = first_joined (package_path_of c.args.path.now) c.in-Some.first.now _ c.next.new.self (sym c.segment_spans-rest.ensures.segments ∙ c.in-Some.ensures.steps) c.args.count c.joined.result c.joined.ensures
