-- Parts printed in order.
use Rattle.wac_printer_pieces.proofs.Common.{◌≡◌, ℕ, List, [], ◌∷◌, ◌++◌, Result, Ok, Err, ap, sym, ◌∙◌, subst, arith, true, false, refl, Piece}
use Rattle.std.specs.Result.{IsErrAnd, result_and}
use Rattle.std.proofs.lemmas.Result.{err_from_is_err_and}
use Rattle.wac_printer_pieces.specs.declared.error.PrintError.{PrintError}
use Rattle.wac_printer_pieces.specs.declared.error.PrintError.TheVariants.{Writer, Failed}
use Rattle.wac_printer_pieces.specs.Printed.{Printer, Prints, is_front, has_failed}
use Rattle.wac_printer_pieces.specs.Printed as printed
use Rattle.wac_printer_pieces.proofs.Printing as one

-- what the exit of a `?` returns
pub is_err : {B : Type 0} (r : Result B PrintError) (e : PrintError) → IsErrAnd r (λ y. y ≡ e) → r ≡ Err e
is_err r e h = let p = err_from_is_err_and r h in p.1 ∙ ap Err p.2

-- a piece before fails, or parts before do
pub fail : {A B : Type 0} {old new : Printer} {e : PrintError} {r : Result B PrintError} {p : Piece} {qs : List Piece} → IsErrAnd r (λ y. y ≡ e) → Prints {A = A} old (Err e) new (p ∷ []) → Prints old r new (p ∷ qs)
fail {e = e} {r = r} is h = one.stop _ _ _ _ _ _ (is_err r e is) h

pub fails : {A B : Type 0} {old new : Printer} {e : PrintError} {r : Result B PrintError} {ps : List Piece} (qs : List Piece) → IsErrAnd r (λ y. y ≡ e) → Prints {A = A} old (Err e) new ps → Prints old r new (ps ++ qs)
fails {e = e} {r = r} qs is h = one.stops _ _ _ _ _ _ (is_err r e is) h

-- what is called after a failed step fails and writes nothing
stopped : {A B : Type 0} {old mid new : Printer} {e : PrintError} (t : Result B PrintError) {ps qs : List Piece} → Prints {A = A} old (Err e) mid ps → Prints mid t new qs → Prints {A = B} old (Err e) new (ps ++ qs)
stopped (Ok b) h k = let no : true ≡ false = sym h.is.1 ∙ k.is.0 in absurd cc
stopped (Err Writer) h k = let no : true ≡ false = sym h.is.1 ∙ k.is.0 in absurd cc
stopped {old = old} {mid = mid} {new = new} {e = e} (Err Failed) {ps = ps} {qs = qs} h k =
    let b : new.bytes ≡ mid.bytes = k.is.5 refl in
    record {
      is = (
        h.is.0,
        k.is.1,
        omega (arith, k.is.2, h.is.2),
        omega (arith, k.is.3, h.is.3),
        subst (λ x. is_front (has_failed e) x (printed.after (ps ++ qs) old).bytes ≡ true) (sym b) (one.after-longer (has_failed e) ps qs mid.bytes old h.is.4),
        λ f. b ∙ h.is.5 f,
      );
      keeps = (k.keeps.0 ∙ h.keeps.0, k.keeps.1 ∙ h.keeps.1, k.keeps.2 ∙ h.keeps.2, k.keeps.3 ∙ h.keeps.3);
    }

both : {A B : Type 0} {old mid new : Printer} (r : Result A PrintError) (t : Result B PrintError) (ps qs : List Piece) → Prints old r mid ps → Prints mid t new qs → Prints old (result_and r t) new (ps ++ qs)
both (Ok a) t ps qs h k = one.goes _ _ _ a _ _ _ h k
both (Err e) t ps qs h k = stopped t h k

-- steps joined by `and`, so far: what is printed next comes where `f` has it, and the first error is the result
pub record Steps {A : Type 0} (old : Printer) (r : Result A PrintError) (mid : Printer) (f : List Piece → List Piece) : Type 1 where
  pub next : {B : Type 0} (t : Result B PrintError) (new : Printer) (qs : List Piece) → Prints mid t new qs → Prints old (result_and r t) new (f qs)

bracketed : {A B C E : Type 0} (a : Result A E) (b : Result B E) (c : Result C E) → result_and a (result_and b c) ≡ result_and (result_and a b) c
bracketed (Ok v) b c = refl
bracketed (Err v) b c = refl

pub first : {A : Type 0} {old mid : Printer} {r : Result A PrintError} {ps : List Piece} → Prints old r mid ps → Steps old r mid (λ qs. ps ++ qs)
first {r = r} {ps = ps} h = record { next = λ t new qs k. both r t ps qs h k }

pub after : {A B : Type 0} {old mid new : Printer} {r : Result A PrintError} {t x : Result B PrintError} {f : List Piece → List Piece} {ps : List Piece} → x ≡ result_and r t → Steps old r mid f → Prints mid t new ps → Steps old x new (λ qs. f (ps ++ qs))
after {old = old} {new = new} {r = r} {t = t} {f = f} {ps = ps} e s h = record {
  next = λ u later qs k.
      subst (λ y. Prints old y later (f (ps ++ qs))) (bracketed r t u ∙ ap (λ y. result_and y u) (sym e)) (s.next (result_and t u) later (ps ++ qs) (both t u ps qs h k));
}

pub last : {A B : Type 0} {old mid new : Printer} {r : Result A PrintError} {t x : Result B PrintError} {f : List Piece → List Piece} {qs : List Piece} → x ≡ result_and r t → Steps old r mid f → Prints mid t new qs → Prints old x new (f qs)
last {old = old} {new = new} {t = t} {f = f} {qs = qs} e s h = subst (λ y. Prints old y new (f qs)) (sym e) (s.next t new qs h)

-- a piece, or parts, and what follows it
pub piece : {A B : Type 0} {old mid new : Printer} {a : A} {r : Result B PrintError} {p : Piece} {qs : List Piece} → Prints old (Ok a) mid (p ∷ []) → Prints mid r new qs → Prints old r new (p ∷ qs)
piece h k = one.go _ _ _ _ _ _ _ h k

pub parts : {A B : Type 0} {old mid new : Printer} {a : A} {r : Result B PrintError} {ps qs : List Piece} → Prints old (Ok a) mid ps → Prints mid r new qs → Prints old r new (ps ++ qs)
parts h k = one.goes _ _ _ _ _ _ _ h k

-- the same pieces, of what is equal
pub printed_at : {X A : Type 0} {x y : X} {old new : Printer} {r : Result A PrintError} (f : X → List Piece) → x ≡ y → Prints old r new (f x) → Prints old r new (f y)
printed_at {old = old} {new = new} {r = r} f e h = subst (λ z. Prints old r new (f z)) e h

pub there : {A : Type 0} {s t : List ℕ} {d k : ℕ} {old new : Printer} {r : Result A PrintError} (f : List ℕ → ℕ → List Piece) → s ≡ t → d ≡ k → Prints old r new (f s d) → Prints old r new (f t k)
there {s = s} {k = k} f e h p = printed_at (λ source. f source k) e (printed_at (λ depth. f s depth) h p)

pub printed_as : {A : Type 0} {old new : Printer} {r : Result A PrintError} {ps qs : List Piece} → ps ≡ qs → Prints old r new ps → Prints old r new qs
printed_as e h = printed_at (λ l. l) e h
