-- Statements that are executed in order.
use Rattle.wac_resolution.proofs.Common.{◌≡◌, ◌+◌, ◌<◌, ℕ, List, [], refl, subst, map, take, length, get_or, statement_of, Parts, Error, StatementBroken, Rules, Leads, Root, composed, Context, given_in, Externs, places_in, Stand, placed_in, StatementRun, Breaks}
use Rattle.wac_ast.specs.declared.statement.Statement.{Statement as CodeStatement}
use Rattle.wac_resolution_rules.proofs.StepLaws.{steps_on_map, fails_at_map}
use Rattle.wac_resolution.specs.Sequences.{StatementsRun, BreaksAfter, OneBreaks}

pub none_went : (context : Context) (rules : Rules) (g : Parts) (root : Root) (x : Externs) → Stand context g root x → StatementsRun context rules g g root root x x []
none_went context rules g root x h = record { stand = h; leads = λ numbering one. refl }

pub next_went : (context : Context) (rules : Rules) (old mid new : Parts) (before mid_root after : Root) (x y z : Externs) (all : List CodeStatement) (i : ℕ) (s : CodeStatement) → i < length all → s ≡ get_or all i s → StatementsRun context rules old mid before mid_root x y (take i (map statement_of all))
    → StatementRun context rules mid new mid_root after y z (statement_of s) → StatementsRun context rules old new before after x z (take (i + 1) (map statement_of all))
next_went context rules old mid new before mid_root after x y z all i s within is p step = record {
  stand = step.stand;
  leads = λ numbering one.
      steps_on_map (Leads (given_in numbering context rules)) statement_of (placed_in numbering old before x) all i s (placed_in numbering mid mid_root y) (placed_in numbering new after z) within (p.leads numbering one)
      (subst (λ (t : CodeStatement). Leads (given_in numbering context rules) (placed_in numbering mid mid_root y) (statement_of t) (placed_in numbering new after z)) is (step.leads numbering one));
}

pub next_breaks : (context : Context) (rules : Rules) (old mid : Parts) (before mid_root : Root) (x y : Externs) (all : List CodeStatement) (i : ℕ) (s : CodeStatement) (e : Error) → i < length all → s ≡ get_or all i s → StatementsRun context rules old mid before mid_root x y (take i (map statement_of all))
    → Breaks context rules mid mid_root y (statement_of s) e → OneBreaks context rules old before x (map statement_of all) e
next_breaks context rules old mid before mid_root x y all i s e within is p broken numbering one =
    fails_at_map (Leads (given_in numbering context rules)) (BreaksAfter (given_in numbering context rules) e) statement_of (placed_in numbering old before x) all i s (placed_in numbering mid mid_root y) within (p.leads numbering one)
    (subst (λ (t : CodeStatement). StatementBroken (given_in numbering context rules) (composed numbering mid mid_root) (places_in mid_root y) e (statement_of t)) is (broken numbering one))
