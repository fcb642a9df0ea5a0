use Rattle.wac_lexer.proofs.Common.{◌<◌, ◌≤◌, length, arith, rules}
use Rattle.wac_lexer.specs.Span.{end_of}
use Rattle.wac_lexer.proofs.Found.{found_ends}
use Rattle.wac_lexer.proofs.Ahead.{counts, within_next, ahead_next, steps_next, within_end, ahead_end, steps_end}
use Rattle.wac_lexer.proofs.lexer.LexerIterator.next.Goals as goal

pub scan_after-self-inside-requires-clause-counts : goal.scan_after-self-inside-requires-clause-counts
scan_after-self-inside-requires-clause-counts c =
    let l = c.self.inside in
    let ahead = rw c.in-Some.is at c.self.invariant.1 in
    counts l.scanner.source.now l.place l.last (c.in-Some.found, c.in-Some.span) l.second l.scanner.scans c.self.invariant.0 ahead (omega (arith, c.self.told.1))

pub invariant_of-self : goal.invariant_of-self
invariant_of-self c =
    let l = c.self.inside in
    let source = l.scanner.source.now in
    let more = c.scan_after-self-inside in
    let ahead = rw c.in-Some.is at c.self.invariant.1 in
    rw (more.ensures.source, c.offset.ensures, c.len.ensures) (
      within_next source l.place l.last (c.in-Some.found, c.in-Some.span) l.second l.scanner.scans c.self.invariant.0 ahead,
      ahead_next source l.place l.last (c.in-Some.found, c.in-Some.span) l.second more.result l.scanner.scans more.new.self.scans c.self.invariant.0 ahead more.ensures.item more.ensures.scans,
    )

pub invariant_of-self-in-None : goal.invariant_of-self-in-None
invariant_of-self-in-None c =
    let l = c.self.inside in
    let source = l.scanner.source.now in
    let ahead = rw c.in-None.is at c.self.invariant.1 in
    rw (c.new-self-inside.ensures, c.in-None.is)
    (within_end source l.place l.last l.second l.scanner.scans c.self.invariant.0 ahead, ahead_end source l.place l.second l.scanner.scans ahead)

pub returns-in-Some-clause-steps : goal.returns-in-Some-clause-steps
returns-in-Some-clause-steps c =
    let l = c.self.inside in
    let source = l.scanner.source.now in
    let more = c.scan_after-self-inside in
    let ahead = rw c.in-Some.is at c.self.invariant.1 in
    rw (more.ensures.source, c.offset.ensures, c.len.ensures, ← c.self.view_is)
    (steps_next source l.place l.last (c.in-Some.found, c.in-Some.span) l.second more.result l.scanner.scans more.new.self.scans c.self.invariant.0 ahead more.ensures.item more.ensures.scans)

pub returns-in-Some-clause-goes : goal.returns-in-Some-clause-goes
returns-in-Some-clause-goes c =
    let l = c.self.inside in
    let source = l.scanner.source.now in
    let ahead = rw c.in-Some.is at c.self.invariant.1 in
    let ends : l.place < end_of c.in-Some.span = found_ends source l.place (c.in-Some.found, c.in-Some.span) ahead.first_is.is in
    let within : end_of c.in-Some.span ≤ length source = ahead.first_is.slices.1.0 in
    rw (c.scan_after-self-inside.ensures.source, c.offset.ensures, c.len.ensures, ← c.self.view_is) (search (rules, arith, ends, within))

pub returns-in-None-clause-steps : goal.returns-in-None-clause-steps
returns-in-None-clause-steps c =
    let l = c.self.inside in
    let source = l.scanner.source.now in
    let ahead = rw c.in-None.is at c.self.invariant.1 in
    rw (c.new-self-inside.ensures, ← c.self.view_is)
    (steps_end source l.place l.last l.second l.scanner.scans c.self.invariant.0 ahead)
