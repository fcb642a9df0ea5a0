use Rattle.std.proofs.Common.{arith, ◌≡◌, ◌∙◌, ◌≤◌, ℕ, List, subst, sym, length, slice_index}
use Rattle.wac_positions.specs.Lines.{line_starts}
use Rattle.wac_positions.proofs.Starts.{stop_within}
use Rattle.wac_positions.proofs.lines.Lines.bytes_of.Goals as goal

stops : (c : goal.After-stop) → (slice_index (line_starts c.args.self.now) c.args.number ≤ c.stop.result) × (c.stop.result ≤ length c.args.self.now)
stops c = stop_within c.args.self.now c.args.number c.stop.result c.in_ok-start.ensures.some.0 c.stop.ensures.next c.stop.ensures.last

pub split_at-requires : goal.split_at-requires
split_at-requires c = subst (λ (t : List ℕ). c.stop.result ≤ length t) (sym (c.as_bytes.ensures.value ∙ c.self.view_is)) (stops c).1

pub split_at-requires-2 : goal.split_at-requires-2
split_at-requires-2 c =
    let begins : c.in_ok-start.start ≡ slice_index (line_starts c.args.self.now) c.args.number = c.in_ok-start.ensures.some.1 in
    let after : slice_index (line_starts c.args.self.now) c.args.number ≤ c.stop.result = (stop_within c.args.self.now c.args.number c.stop.result c.in_ok-start.ensures.some.0 c.stop.ensures.next c.stop.ensures.last).0 in
    let len : length c.split_at.result.0.now ≡ c.stop.result = c.split_at.ensures.front_len in
    omega arith
