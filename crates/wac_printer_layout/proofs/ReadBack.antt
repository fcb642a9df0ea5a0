-- Pieces that join are read back, with their places and docs.
use Rattle.wac_printer_layout.proofs.Common.{◌≡◌, ℕ, zero, suc, ◌+◌, Bool, true, false, List, [], ◌∷◌, ◌++◌, take, drop, length, sym, ap, ◌∙◌, subst, arith, Some, None, Ok, Err, append_assoc, append-nil, take-append_seam, drop-append_seam, drop-drop, length-drop, span, part_len, first_item, items_from, items, token_of, IsToken, Token, gap_done, start_of, items_some, items_end, AreBytes, token_found, bytes_back, stands_alone}
use Rattle.wac_lexer.specs.Docs.{docs_at}
use Rattle.wac_lexer.specs.Follow.{Follows}
use Rattle.wac_lexer.specs.declared.error.Error.TheVariants.{UnexpectedToken}
use Rattle.wac_lexer.proofs.Trimmed.{docs_done}
use Rattle.wac_printer_layout.specs.Printed.{Piece, token, blank, line, doc, times, text_of, text, fresh_after}
use Rattle.wac_printer_layout.specs.Joins.{AreBlanks, Fits, Joins}
use Rattle.wac_printer_layout.specs.Placed.{kind_of, placed_before, placed}
use Rattle.wac_printer_layout.proofs.Skips.{skip_blanks, skip_doc}

-- where no part of a gap begins there are no docs
docs_none : (source : List ℕ) (place : ℕ) → part_len (drop place source) ≡ 0 → docs_at source place ≡ []
unfolding docs_at
docs_none source place e = docs_done source (length source) place e

-- a token at a place
pub kind_is : (t : List ℕ) (k : Token) → token_of t ≡ Some k → kind_of t ≡ Ok k
kind_is t k e = ap (λ o. elim o [ Some k ↦ Ok k | None ↦ Err UnexpectedToken ]) e

module _ (source t rest : List ℕ) (place : ℕ) (k : Token) (split : drop place source ≡ t ++ rest) (follow : Follows k t rest) where
  is : token_of t ≡ Some k
  is = token_found t k (subst (IsToken k) (take-append_seam t rest) follow.longest.is)

  at_once : part_len (drop place source) ≡ 0
  at_once = ap part_len split ∙ (stands_alone t rest k follow).0

  start_here : start_of source place ≡ place
  start_here = gap_done (drop place source) place (length (drop place source)) at_once

  text_here : drop (start_of source place) source ≡ t ++ rest
  text_here = ap (λ n. drop n source) start_here ∙ split

  pub take_token : items_from source place ≡ record { token = kind_of t; text = t; span = span place (length t); docs = [] } ∷ items_from source (place + length t)
  take_token =
      let text : take (length t) (drop (start_of source place) source) ≡ t = ap (take (length t)) text_here ∙ take-append_seam t rest in
      let kind_back : Ok k ≡ kind_of t = sym (kind_is t k is) in
      items_some source place (Ok k, length t) (ap first_item text_here ∙ (stands_alone t rest k follow).1)
      ∙ (λ i. record { token = kind_back i; text = text i; span = span (start_here i) (length t); docs = docs_none source place at_once i } ∷ items_from source (start_here i + length t))

-- the indentation
blanks-append : (a b : List ℕ) → AreBlanks a → AreBlanks b → AreBlanks (a ++ b)
blanks-append [] b ha hb = hb
blanks-append (x ∷ a) b ha hb = (ha.0, blanks-append a b ha.1 hb)

times_blank : (depth : ℕ) (space : List ℕ) → AreBlanks space → AreBlanks (times depth space)
times_blank zero space h = tt
times_blank (suc n) space h = blanks-append space (times n space) h (times_blank n space h)

pub line_blank : (fresh : Bool) (depth : ℕ) (space : List ℕ) → AreBlanks space → AreBlanks (text_of space fresh (line depth))
line_blank true depth space h = times_blank depth space h
line_blank false depth space h = tt

-- one piece
module _ (source space : List ℕ) (blanks : AreBlanks space) where
  piece : (p : Piece) (fresh : Bool) (place : ℕ) (rest : List ℕ) → drop place source ≡ text_of space fresh p ++ rest → AreBytes (text_of space fresh p ++ rest) → Fits rest p
      → items_from source place ≡ placed_before place p (items_from source (place + length (text_of space fresh p)))
  piece (token t) fresh place rest split bytes fits = take_token source t rest place fits.kind split fits.follows
  piece (blank t) fresh place rest split bytes fits = skip_blanks source t rest place fits split
  piece (line depth) fresh place rest split bytes fits = skip_blanks source (text_of space fresh (line depth)) rest place (line_blank fresh depth space blanks) split
  piece (doc t) fresh place rest split bytes fits = skip_doc source t rest place fits.0 fits.1 split

  read : (ps : List Piece) (fresh : Bool) (place : ℕ) → drop place source ≡ text space fresh ps ++ [] → AreBytes (text space fresh ps ++ []) → Joins space fresh ps → items_from source place ≡ placed place space fresh ps
  read [] fresh place split bytes joins = items_end source place (omega (arith, ap length split, length-drop place source))
  read (p ∷ ps) fresh place split bytes joins =
      let t = text_of space fresh p in
      let later = fresh_after fresh t in
      let rest = text space later ps ++ [] in
      let apart : (t ++ text space later ps) ++ [] ≡ t ++ rest = append_assoc t (text space later ps) [] in
      let here : drop place source ≡ t ++ rest = split ∙ apart in
      let all : AreBytes (t ++ rest) = subst AreBytes apart bytes in
      let there : drop (place + length t) source ≡ rest = sym (drop-drop (length t) place source) ∙ ap (drop (length t)) here ∙ drop-append_seam t rest in
      piece p fresh place rest here all joins.0
      ∙ ap (placed_before place p) (read ps later (place + length t) there (bytes_back t rest all) joins.1)

-- THE LAW
pub read_back : (space : List ℕ) (fresh : Bool) (ps : List Piece) → AreBlanks space → AreBytes (text space fresh ps) → Joins space fresh ps → items (text space fresh ps) ≡ placed 0 space fresh ps
read_back space fresh ps blanks bytes joins =
    let all = sym (append-nil (text space fresh ps)) in
    read (text space fresh ps) space blanks ps fresh 0 all (subst AreBytes all bytes) joins
