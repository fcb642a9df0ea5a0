-- Neither printing nor reading introduces a rejected character.
use Rattle.wac_printer_layout.proofs.Common.{◌≡◌, ℕ, ◌<◌, Bool, true, List, [], ◌∷◌, ◌++◌, sym, refl, ap, ◌∙◌, subst, arith, ⊎_elim, ◌||◌, nat_eq, AllByRecursion, IsAscii, chars, trim, lines, or_cases, eqb-true, IsUtf8-nil, chars-nil, IsAscii-nil, IsAscii-cons, fault_of, is_blank, blank_ascii}
use Rattle.wac_printer_layout.specs.Printed.{Piece, token, blank, line, doc, text_of, text, fresh_after}
use Rattle.wac_printer_layout.specs.Joins.{AreBlanks, IsDocLine, Fits, JoinsBefore}
use Rattle.wac_printer_layout.specs.Accepted.{IsAccepted}
use Rattle.wac_printer_layout.proofs.Characters.{Holds, holds-append, holds_ascii, holds_trim}
use Rattle.wac_printer_layout.proofs.Fine.{Fine, fine, accepted}
use Rattle.wac_printer_layout.proofs.DocLines.{each, lines_hold, line_is, InLine}
use Rattle.wac_printer_layout.proofs.ReadBack.{line_blank}

-- what pieces write
blank_fine : (b : ℕ) → is_blank b ≡ true → Fine b
blank_fine b e =
    let at = λ (n : ℕ) (is : Fine n) (same : nat_eq b n ≡ true). ap fault_of (eqb-true b n same) ∙ is in
    ⊎_elim (at 32 refl)
    (λ f. ⊎_elim (at 9 refl)
    (λ g. ⊎_elim (at 13 refl) (at 10 refl) (or_cases (nat_eq b 13) (nat_eq b 10) g))
    (or_cases (nat_eq b 9) (nat_eq b 13 || nat_eq b 10) f))
    (or_cases (nat_eq b 32) (nat_eq b 9 || (nat_eq b 13 || nat_eq b 10)) e)

blanks_ascii : (t : List ℕ) → AreBlanks t → IsAscii t
blanks_ascii [] h = IsAscii-nil
blanks_ascii (b ∷ t) h = IsAscii-cons b t (blank_ascii b h.0) (blanks_ascii t h.1)

pub blanks_fine : (t : List ℕ) → AreBlanks t → Holds Fine t
blanks_fine t h = holds_ascii Fine t (blanks_ascii t h) (each (λ b. is_blank b ≡ true) Fine blank_fine t h)

pub marks_fine : Holds Fine (47 ∷ 47 ∷ 47 ∷ 32 ∷ [])
marks_fine =
    let slash : 47 < 128 = omega arith in
    holds_ascii Fine (47 ∷ 47 ∷ 47 ∷ 32 ∷ [])
    (IsAscii-cons 47 (47 ∷ 47 ∷ 32 ∷ []) slash (IsAscii-cons 47 (47 ∷ 32 ∷ []) slash (IsAscii-cons 47 (32 ∷ []) slash (IsAscii-cons 32 [] (omega arith) IsAscii-nil))))
    (refl, (refl, (refl, (refl, tt))))

piece_fine : (space rest : List ℕ) (fresh : Bool) (p : Piece) → AreBlanks space → Fits rest p → Holds Fine (text_of space fresh p)
piece_fine space rest fresh (token t) blanks h = fine t h.accepted
piece_fine space rest fresh (blank t) blanks h = blanks_fine t h
piece_fine space rest fresh (line depth) blanks h = blanks_fine (text_of space fresh (line depth)) (line_blank fresh depth space blanks)
piece_fine space rest fresh (doc t) blanks h = holds-append Fine (47 ∷ 47 ∷ 47 ∷ 32 ∷ []) t marks_fine (fine t h.0.0)

text_fine : (space rest : List ℕ) (fresh : Bool) (ps : List Piece) → AreBlanks space → JoinsBefore rest space fresh ps → Holds Fine (text space fresh ps)
text_fine space rest fresh [] blanks h = (IsUtf8-nil, subst (AllByRecursion Fine) (sym chars-nil) tt)
text_fine space rest fresh (p ∷ ps) blanks h =
    let t = text_of space fresh p in
    let later = fresh_after fresh t in
    holds-append Fine t (text space later ps) (piece_fine space (text space later ps ++ rest) fresh p blanks h.0) (text_fine space rest later ps blanks h.1)

pub text_accepted : (space rest : List ℕ) (fresh : Bool) (ps : List Piece) → AreBlanks space → JoinsBefore rest space fresh ps → IsAccepted (text space fresh ps)
text_accepted space rest fresh ps blanks h = accepted (text space fresh ps) (text_fine space rest fresh ps blanks h)

-- the lines of docs
pub doc_lines_are : (t : List ℕ) → IsAccepted t → AllByRecursion (λ l. IsDocLine (trim l)) (lines t)
doc_lines_are t h =
    each (Holds (InLine Fine)) (λ l. IsDocLine (trim l))
    (λ l k. let all = holds_trim (InLine Fine) l k in let is = line_is Fine l k in (accepted (trim l) (all.0, each (InLine Fine) Fine (λ c p. p.0) (chars (trim l)) all.1), is.0, is.1))
    (lines t) (lines_hold Fine t (fine t h))
