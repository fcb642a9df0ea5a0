use denote.Text.{Utf8}
use denote.Shadow.{shadow}
use Rattle.wac_resolution_state.proofs.Walks.{Walks}
use Rattle.wac_resolution_state.proofs.members.members.Given as goal

abbrev pub invariant-loop-segment : goal.invariant-loop-segment
invariant-loop-segment l =
    (goal.iterator-loop-segment).can_next l.segment-iterator ×
    (goal.iterator-loop-segment).is_finite l.segment-iterator ×
    shadow (Utf8 l.last) ×
    Walks l.graph l.fn.first l.fn.from l.fn.rest l.segment-iterator l.before l.last l.kind
