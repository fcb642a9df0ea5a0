-- The first statement of another sort, as statements are gone over.
use Rattle.wac_declared_packages.proofs.Common.{◌≡◌, ◌∙◌, ◌+◌, ◌<◌, ◌≤◌, ℕ, suc, Option, Some, None, List, ◌∷◌, length, drop, get_or, map, sym, ap, arith, statement_of}
use Rattle.std.proofs.Math.Seq.{drop-cons}
use Rattle.std.proofs.lemmas.List.{drop_all}
use Rattle.wac_lexer.specs.Span.{Span}
use Rattle.wac_ast.specs.declared.statement.Statement.{Statement}
use Rattle.wac_declared_packages.specs.Refusing.{first_other, other_place}

-- the first among what is left from a place on
abbrev pub first_from : ℕ → List Statement → Option Span
first_from i ss = first_other (map statement_of (drop i ss))

abbrev or_later : Option Span → Option Span → Option Span
or_later here later = elim here [ None ↦ later | Some place ↦ Some place ]

-- the next statement is tried, and then what is left
tried : (ss : List Statement) (i : ℕ) (s : Statement) → i < length ss → s ≡ get_or ss i s → first_from i ss ≡ or_later (other_place (statement_of s)) (first_from (suc i) ss)
tried ss i s below is =
    let left : drop i ss ≡ s ∷ drop (suc i) ss = drop-cons ss i s below ∙ ap (λ (y : Statement). y ∷ drop (suc i) ss) (sym is) in
    ap (λ (l : List Statement). first_other (map statement_of l)) left

pub found_here : (ss : List Statement) (i : ℕ) (s : Statement) (place : Span) → i < length ss → s ≡ get_or ss i s → Some place ≡ other_place (statement_of s)
    → first_from i ss ≡ first_other (map statement_of ss) → Some place ≡ first_other (map statement_of ss)
found_here ss i s place below is other so_far =
    ap (λ (o : Option Span). or_later o (first_from (suc i) ss)) other ∙ sym (tried ss i s below is) ∙ so_far

pub found_later : (ss : List Statement) (i : ℕ) (s : Statement) → i < length ss → s ≡ get_or ss i s → None ≡ other_place (statement_of s)
    → first_from i ss ≡ first_other (map statement_of ss) → first_from (i + 1) ss ≡ first_other (map statement_of ss)
found_later ss i s below is other so_far =
    let more : i + 1 ≡ suc i = omega arith in
    ap (λ (n : ℕ). first_from n ss) more ∙ ap (λ (o : Option Span). or_later o (first_from (suc i) ss)) other ∙ sym (tried ss i s below is) ∙ so_far

pub found_none : (ss : List Statement) (i : ℕ) → length ss ≤ i → first_from i ss ≡ first_other (map statement_of ss) → None ≡ first_other (map statement_of ss)
found_none ss i past so_far = sym (ap (λ (l : List Statement). first_other (map statement_of l)) (drop_all i ss past)) ∙ so_far
