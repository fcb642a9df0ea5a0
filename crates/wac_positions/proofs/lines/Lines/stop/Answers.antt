use Rattle.std.proofs.Common.{arith, ◌≡◌, ◌∙◌, ap, length}
use Rattle.wac_positions.specs.Lines.{line_starts}
use Rattle.wac_positions.proofs.lines.Lines.stop.Goals as goal

pub overflow_add-number : goal.overflow_add-number
overflow_add-number c =
    let same : length c.self.inside.starts.items ≡ length (line_starts c.args.self.now) = ap length (c.self.invariant.1 ∙ ap line_starts c.self.view_is) in
    omega arith
