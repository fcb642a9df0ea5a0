-- Indentation.
use Rattle.wac_printer_pieces.proofs.Common.{◌≡◌, ℕ, zero, suc, ◌+◌, ◌*◌, ◌<◌, ◌≤◌, Bool, true, false, cond, List, [], ◌∷◌, ◌++◌, length, take, replicate, append_assoc, append-nil, refl, sym, ap, ◌∙◌, subst, arith, add-one, ⊎_elim, ◌⊎◌, list_all, and_parts, eqb-true, replicate-append-replicate, take-replicate, Piece, blank, line, text, fresh_after, times, Result, Ok, Err}
use Rattle.std.specs.Str.{IsAscii}
use Rattle.std.proofs.Math.Nat.{mul-suc}
use Rattle.std.proofs.lemmas.List.Elements.{All-replicate}
use Rattle.std.proofs.lemmas.Str.Ascii.{IsAscii-from_all}
use Rattle.wac_printer_pieces.specs.Printed.{Printer, after, is_front, is_space, Prints, spaces, has_failed}
use Rattle.wac_printer_pieces.specs.declared.error.PrintError.{PrintError}
use Rattle.wac_printer_pieces.proofs.Printing.{goes, wrote_all, after-append, text-append, fresh_after-append, front-after, seq, after-nil}

pub spaces-more : (n : ℕ) (space : List ℕ) (s : Printer) → after (spaces (n + 1) space) s ≡ after (blank space ∷ []) (after (spaces n space) s)
spaces-more n space s = rw add-one (after-append (spaces n space) (blank space ∷ []) s)

spaces_up : (w : Bool) (d n : ℕ) (space b : List ℕ) (s : Printer) → n ≤ d → is_front w b (after (spaces n space) s).bytes ≡ true → is_front w b (after (spaces d space) s).bytes ≡ true
spaces_up w zero n space b s h f = let e : n ≡ zero = omega arith in subst (λ k. is_front w b (after (spaces k space) s).bytes ≡ true) e f
spaces_up w (suc d) n space b s h f = ⊎_elim (λ e. subst (λ k. is_front w b (after (spaces k space) s).bytes ≡ true) e f) (λ l. subst (λ (p : Printer). is_front w b p.bytes ≡ true) (sym (after-append (spaces d space) (blank space ∷ []) s)) (front-after w b (blank space ∷ []) (after (spaces d space) s) (spaces_up w d n space b s l f))) (split n d h)
  where
    split : (n d : ℕ) → n ≤ suc d → (n ≡ suc d) ⊎ (n ≤ d)
    split n d h = search arith

pub spaces-front : (w : Bool) (d n : ℕ) (space b : List ℕ) (s : Printer) → n < d → is_front w b (after (blank space ∷ []) (after (spaces n space) s)).bytes ≡ true → is_front w b (after (spaces d space) s).bytes ≡ true
spaces-front w d n space b s h f = spaces_up w d (n + 1) space b s (omega arith) (subst (λ (p : Printer). is_front w b p.bytes ≡ true) (sym (spaces-more n space s)) f)

times_snoc : (n : ℕ) (t : List ℕ) → times n t ++ t ≡ t ++ times n t
times_snoc zero t = sym (append-nil t)
times_snoc (suc n) t = append_assoc t (times n t) t ∙ ap (λ x. t ++ x) (times_snoc n t)

spaces_text : (n : ℕ) (space other : List ℕ) (f : Bool) → text other f (spaces n space) ≡ times n space
spaces_text zero space other f = refl
spaces_text (suc n) space other f =
    text-append other f (spaces n space) (blank space ∷ []) ∙ ap (λ x. text other f (spaces n space) ++ x) (append-nil space) ∙ ap (λ x. x ++ space) (spaces_text n space other f) ∙ times_snoc n space

pub line-fresh : (d : ℕ) (s : Printer) → s.fresh ≡ true → after (line d ∷ []) s ≡ after (spaces d s.space) s
unfolding after
line-fresh d s h =
    let e : text s.space s.fresh (line d ∷ []) ≡ text s.space s.fresh (spaces d s.space) =
    ap (λ f. cond f (times d s.space) [] ++ []) h ∙ append-nil (times d s.space) ∙ sym (spaces_text d s.space s.space s.fresh) in
    (λ i. record s { bytes = s.bytes ++ e i; fresh = fresh_after s.fresh (e i) })

pub line-stale : (d : ℕ) (s : Printer) → s.fresh ≡ false → after (line d ∷ []) s ≡ after [] s
unfolding after
line-stale d s h =
    let e : text s.space s.fresh (line d ∷ []) ≡ [] = ap (λ f. cond f (times d s.space) [] ++ []) h in
    (λ i. record s { bytes = s.bytes ++ e i; fresh = fresh_after s.fresh (e i) })

-- a text that is the space so many times, written at once
pub at_once : (count : ℕ) (whole : List ℕ) (s : Printer) → whole ≡ times count s.space → after (blank whole ∷ []) s ≡ after (spaces count s.space) s
unfolding after
at_once count whole s e =
    let same : text s.space s.fresh (blank whole ∷ []) ≡ text s.space s.fresh (spaces count s.space) = append-nil whole ∙ e ∙ sym (spaces_text count s.space s.space s.fresh) in
    (λ i. record s { bytes = s.bytes ++ same i; fresh = fresh_after s.fresh (same i) })

-- pieces that write the same
pub prints_same : {A : Type 0} (old new : Printer) (r : Result A PrintError) (ps qs : List Piece) → after ps old ≡ after qs old → Prints old r new ps → Prints old r new qs
prints_same old new (Ok a) ps qs e h = wrote_all old new a qs h.is.0 (h.is.1 ∙ e)
prints_same old new (Err x) ps qs e h =
    let o = h.is in
    record { is = (o.0, o.1, o.2, o.3, subst (λ (p : Printer). is_front (has_failed x) new.bytes p.bytes ≡ true) e o.4, o.5); keeps = h.keeps }

-- the code's blanks
pub blanks_are_ascii : IsAscii (replicate 64 32)
blanks_are_ascii = IsAscii-from_all (replicate 64 32) (All-replicate (λ b. b < 128) 64 32 (omega arith))

times_blanks : (count n : ℕ) → times count (replicate n 32) ≡ replicate (n * count) 32
times_blanks zero n =
    let none : 0 ≡ n * 0 = omega arith in
    ap (λ k. replicate k 32) none
times_blanks (suc count) n =
    let all : n + n * count ≡ n * suc count = omega (arith, mul-suc n count) in
    ap (λ t. replicate n 32 ++ t) (times_blanks count n) ∙ replicate-append-replicate n (n * count) 32 ∙ ap (λ k. replicate k 32) all

are_blanks_is : (text : List ℕ) → list_all is_space text ≡ true → text ≡ replicate (length text) 32
are_blanks_is [] e = refl
are_blanks_is (b ∷ text) e =
    let t = and_parts (is_space b) (list_all is_space text) e in
    let head = eqb-true b 32 t.0 in
    let tail = are_blanks_is text t.1 in
    (λ i. head i ∷ tail i)

-- a prefix of some blanks is a text of blanks so many times
pub times_of_blanks : (count n m : ℕ) (text : List ℕ) → list_all is_space text ≡ true → n ≡ length text * count → n ≤ m → take n (replicate m 32) ≡ times count text
times_of_blanks count n m text e len fits =
    take-replicate n m 32 fits
    ∙ ap (λ k. replicate k 32) len
    ∙ sym (times_blanks count (length text))
    ∙ ap (times count) (sym (are_blanks_is text e))

pub ruleset seq_many = (seq, spaces-more, spaces-front)

pub ruleset indents = (line-fresh, line-stale)

-- a text so many times, as a list of one element's pieces
pub many_stops : {A B : Type 0} (d n : ℕ) (space : List ℕ) (old mid new : Printer) (a : A) (e : PrintError) (r : Result B PrintError) → old.failed ≡ false → mid ≡ after (spaces n space) old → n < d
    → r ≡ Err e → Prints {A = A} mid (Err e) new (blank space ∷ []) → Prints old r new (spaces d space)
many_stops {B = B} d n space old mid new a e r ok m h is p =
    let all : Prints {A = B} old (Err e) new (spaces n space ++ blank space ∷ []) = goes old mid new a (Err e) (spaces n space) (blank space ∷ []) (wrote_all old mid a (spaces n space) ok m) (record { is = p.is; keeps = p.keeps }) in
    let o = all.is in
    subst (λ x. Prints old x new (spaces d space)) (sym is)
    (record { is = (o.0, o.1, o.2, o.3, spaces_up (has_failed e) d (suc n) space new.bytes old (omega arith) o.4, o.5); keeps = all.keeps })
