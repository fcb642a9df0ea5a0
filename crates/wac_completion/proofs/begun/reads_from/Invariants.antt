use Rattle.std.proofs.Common.{◌≡◌}
use Rattle.wac_lexer.specs.Reading.{left}
use Rattle.wac_completion.specs.Standing.{reads_from}
use Rattle.wac_completion.proofs.begun.reads_from.Given as goal

abbrev pub invariant-loop-item : goal.invariant-loop-item
invariant-loop-item l =
    record {
      can : (goal.iterator-loop-item).can_next l.lexer;
      finite : (goal.iterator-loop-item).is_finite l.lexer;
      found : reads_from l.place l.kind l.next (left l.lexer) ≡ reads_from l.place l.kind l.next (left l.fn.lexer);
    }
