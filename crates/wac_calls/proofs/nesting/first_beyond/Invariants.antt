use Rattle.std.proofs.Common.{◌≡◌, ◌≤◌}
use Rattle.wac_lexer.specs.Reading.{left}
use Rattle.wac_calls.specs.Nesting.{first_beyond}
use Rattle.wac_calls.proofs.nesting.first_beyond.Given as goal

abbrev pub invariant-loop-span : goal.invariant-loop-span
invariant-loop-span l =
    record {
      can : (goal.iterator-loop-span).can_next l.lexer;
      finite : (goal.iterator-loop-span).is_finite l.lexer;
      within : l.depth ≤ l.fn.limit;
      left : first_beyond l.fn.limit l.depth (left l.lexer) ≡ first_beyond l.fn.limit 0 (left l.fn.lexer);
    }
