use Rattle.wac_lexer.proofs.Common.{arith, IsCharBoundary-start}
use Rattle.wac_lexer.proofs.Unfolded.{between_start}
use Rattle.wac_lexer.proofs.lexer.Lexer.new.Goals as goal

pub scan_two-first-requires-clause-boundary : goal.scan_two-first-requires-clause-boundary
scan_two-first-requires-clause-boundary c = rw c.new-scanner.ensures.source (IsCharBoundary-start c.args.source.now c.utf8.source)

pub invariant_of-result : goal.invariant_of-result
invariant_of-result c =
    rw (c.scan_two-first.ensures.source, c.new-scanner.ensures.source, c.new.ensures) (
      record { boundary = IsCharBoundary-start c.args.source.now c.utf8.source; between = between_start c.args.source.now; last_ends = omega arith },
      rw (c.new-scanner.ensures.source) at c.scan_two-first.ensures.ahead,
    )
