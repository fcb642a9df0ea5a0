use Rattle.wac_json_text.proofs.Common.{◌≡◌, ◌-◌, ◌∷◌, [], false, length, take, IsCharBoundary, escape, blank}
use Rattle.wac_printer_pieces.specs.Printed.{after}
use Rattle.wac_json_text.proofs.text.escaped.Given as goal

abbrev pub invariant-loop-place : goal.invariant-loop-place
invariant-loop-place g l =
    record {
      boundary : IsCharBoundary l.text l.place;
      wrote : l.out ≡ after (blank (escape (take l.place l.text)) ∷ []) l.fn.out;
      works : l.fn.out.failed ≡ false;
    }

abbrev pub decreases-loop-place : goal.decreases-loop-place
decreases-loop-place g l = length l.text - l.place
