use Rattle.wac_lexer.proofs.Common.{length, ◌-◌, ◌≡◌, ◌++◌, map, ℕ, ◌+◌, ◌≤◌, IsCharBoundary}
use Rattle.wac_lexer.specs.Item.{doc_of}
use Rattle.wac_lexer.specs.Docs.{docs_at, docs_upto}
use Rattle.wac_lexer.proofs.docs.docs_at.Given as goal

abbrev pub invariant-loop-start : goal.invariant-loop-start
invariant-loop-start l =
    record {
      boundary : IsCharBoundary l.source l.start;
      found : (n : ℕ) × (length l.source ≤ l.start + n) × (map doc_of l.docs.items ++ docs_upto n l.source l.start ≡ docs_at l.source l.fn.place);
    }

abbrev pub decreases-loop-start : goal.decreases-loop-start
decreases-loop-start l = length l.source - l.start
