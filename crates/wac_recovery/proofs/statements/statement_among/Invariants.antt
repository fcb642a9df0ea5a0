use Rattle.std.proofs.Common.{◌≡◌, ◌≤◌, length}
use Rattle.std.specs.Prelude.{IfSome, None}
use Rattle.wac_recovery.proofs.Stepping.{IsBegun}
use Rattle.wac_lexer.specs.Reading.{left}
use Rattle.wac_recovery.specs.Statements.{statement_among}
use Rattle.wac_recovery.proofs.statements.statement_among.Given as goal

abbrev pub invariant-loop-item : goal.invariant-loop-item
invariant-loop-item l =
    record {
      can : (goal.iterator-loop-item).can_next l.lexer;
      finite : (goal.iterator-loop-item).is_finite l.lexer;
      source : l.lexer.source ≡ l.source;
      found : statement_among (length l.source) l.place l.begun (left l.lexer) ≡ statement_among (length l.source) l.place None (left l.fn.lexer);
      begun : IfSome l.begun (IsBegun l.source l.lexer.place);
      within : l.lexer.place ≤ length l.source;
    }
