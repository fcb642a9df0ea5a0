use Rattle.std.proofs.Common.{◌≡◌, false}
use Rattle.wac_lexer.specs.Reading.{left}
use Rattle.wac_all_errors.specs.Naming.{declared_among}
use Rattle.wac_all_errors.proofs.blanking.declared_among.Given as goal

abbrev pub invariant-loop-item : goal.invariant-loop-item
invariant-loop-item l =
    record {
      can : (goal.iterator-loop-item).can_next l.lexer;
      finite : (goal.iterator-loop-item).is_finite l.lexer;
      found : declared_among l.left l.name l.is_after (left l.lexer) ≡ declared_among l.left l.name false (left l.fn.lexer);
    }
