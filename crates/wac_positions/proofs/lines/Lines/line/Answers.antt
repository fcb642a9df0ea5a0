use Rattle.std.proofs.Common.{ℕ, List, subst, sym}
use Rattle.std.specs.Str.{IsCharBoundary, IsUtf8}
use Rattle.wac_positions.proofs.Starts.{begins_boundary}
use Rattle.wac_positions.proofs.lines.Lines.line.Goals as goal

pub split_at-requires : goal.split_at-requires
split_at-requires c =
    subst (λ (t : List ℕ). IsCharBoundary t c.in-Some.start) (sym c.self.view_is)
    (begins_boundary c.args.self.now c.args.number c.in-Some.start (subst IsUtf8 c.self.view_is c.self.invariant.0) c.in-Some.ensures.some)
