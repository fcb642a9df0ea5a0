use Rattle.wac_comments_layout.proofs.Common.{◌≡◌, ◌≤◌, left}
use Rattle.wac_comments_layout.specs.Nesting.{first_beyond, most}
use Rattle.wac_comments_layout.proofs.nesting.first_too_deep.Given as goal

abbrev pub invariant-loop-span : goal.invariant-loop-span
invariant-loop-span l =
    record {
      can : (goal.iterator-loop-span).can_next l.lexer;
      finite : (goal.iterator-loop-span).is_finite l.lexer;
      within : l.depth ≤ most;
      left : first_beyond most l.depth (left l.lexer) ≡ first_beyond most 0 (left l.fn.lexer);
    }
