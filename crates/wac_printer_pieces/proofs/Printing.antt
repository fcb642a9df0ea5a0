-- What a printer writes, piece by piece.
use Rattle.wac_printer_pieces.proofs.Common.{◌≡◌, ℕ, ◌+◌, Bool, true, false, List, [], ◌∷◌, ◌++◌, take, drop, append_assoc, append-nil, refl, sym, ap, ◌∙◌, subst, Result, Ok, Err, arith, length, get_or, ◌-◌, ◌≤◌, ◌<◌, map, length-append, suc, Some, None, slice_get, flat_map, take_more, take-append-drop, take_all, nat_eq, Piece, token, blank, doc, text, text_of, fresh_after}
use Rattle.wac_printer_pieces.specs.declared.error.PrintError.{PrintError}
use Rattle.wac_printer_pieces.specs.declared.error.PrintError.TheVariants.{Writer, Failed}
use Rattle.wac_printer_pieces.specs.Printed.{Printer, after, is_front, Prints, Keeps, has_failed, failures_of}
use Rattle.wac_printer_pieces.proofs.Fronts.{is_front-append, is_front-longer}

pub fresh_after-append : (f : Bool) (xs ys : List ℕ) → fresh_after f (xs ++ ys) ≡ fresh_after (fresh_after f xs) ys
fresh_after-append f [] ys = refl
fresh_after-append f (x ∷ xs) ys = fresh_after-append (nat_eq x 10) xs ys

pub text-append : (space : List ℕ) (f : Bool) (ps qs : List Piece) → text space f (ps ++ qs) ≡ text space f ps ++ text space (fresh_after f (text space f ps)) qs
text-append space f [] qs = refl
text-append space f (p ∷ ps) qs =
    let t = text_of space f p in
    let g = fresh_after f t in
    ap (λ r. t ++ r) (text-append space g ps qs)
    ∙ sym (append_assoc t (text space g ps) (text space (fresh_after g (text space g ps)) qs))
    ∙ ap (λ h. (t ++ text space g ps) ++ text space h qs) (sym (fresh_after-append f t (text space g ps)))

pub after-append : (ps qs : List Piece) (p : Printer) → after (ps ++ qs) p ≡ after qs (after ps p)
unfolding after
after-append ps qs p =
    let t = text p.space p.fresh ps in
    let e = text-append p.space p.fresh ps qs in
    let u = text p.space (fresh_after p.fresh t) qs in
    let b : p.bytes ++ text p.space p.fresh (ps ++ qs) ≡ (p.bytes ++ t) ++ u = ap (λ r. p.bytes ++ r) e ∙ sym (append_assoc p.bytes t u) in
    let f : fresh_after p.fresh (text p.space p.fresh (ps ++ qs)) ≡ fresh_after (fresh_after p.fresh t) u = ap (fresh_after p.fresh) e ∙ fresh_after-append p.fresh t u in
    (λ i. record p { bytes = b i; fresh = f i })

pub after-nil : (p : Printer) → after [] p ≡ p
unfolding after
after-nil p = (λ i. record p { bytes = append-nil p.bytes i })

pub after-longer : (w : Bool) (ps qs : List Piece) (b : List ℕ) (p : Printer) → is_front w b (after ps p).bytes ≡ true → is_front w b (after (ps ++ qs) p).bytes ≡ true
unfolding after
after-longer w ps qs b p h =
    let t = text p.space p.fresh ps in
    let e : p.bytes ++ text p.space p.fresh (ps ++ qs) ≡ (p.bytes ++ t) ++ text p.space (fresh_after p.fresh t) qs =
    ap (λ r. p.bytes ++ r) (text-append p.space p.fresh ps qs) ∙ sym (append_assoc p.bytes t (text p.space (fresh_after p.fresh t) qs)) in
    subst (λ y. is_front w b y ≡ true) (sym e) (is_front-longer w b (p.bytes ++ t) (text p.space (fresh_after p.fresh t) qs) h)

pub after-front : (ps : List Piece) (p : Printer) → is_front true p.bytes (after ps p).bytes ≡ true
unfolding after
after-front ps p = is_front-append p.bytes (text p.space p.fresh ps)

pub after-failed : (ps : List Piece) (p : Printer) → (after ps p).failed ≡ p.failed
unfolding after
after-failed ps p = refl

pub after-failures : (ps : List Piece) (p : Printer) → (after ps p).failures ≡ p.failures
unfolding after
after-failures ps p = refl

pub after-length : (ps : List Piece) (s : Printer) → length s.bytes ≤ length (after ps s).bytes
unfolding after
after-length ps s = omega (arith, length-append s.bytes (text s.space s.fresh ps))

pub after-source : (ps : List Piece) (p : Printer) → (after ps p).source ≡ p.source
unfolding after
after-source ps p = refl

pub after-space : (ps : List Piece) (p : Printer) → (after ps p).space ≡ p.space
unfolding after
after-space ps p = refl

pub after-depth : (ps : List Piece) (p : Printer) → (after ps p).depth ≡ p.depth
unfolding after
after-depth ps p = refl

pub after-borrow : (ps : List Piece) (p : Printer) → (after ps p).borrow ≡ p.borrow
unfolding after
after-borrow ps p = refl

pub after-deeper : (ps : List Piece) (p : Printer) (d : ℕ) → after ps (record p { depth = d }) ≡ record (after ps p) { depth = d }
unfolding after
after-deeper ps p d = refl

pub wrote_all : {A : Type 0} (old new : Printer) (a : A) (ps : List Piece) → old.failed ≡ false → new ≡ after ps old → Prints old (Ok a) new ps
wrote_all old new a ps f e = record {
  is = (
    f,
    e,
    ap (λ p. p.failed) e ∙ after-failed ps old ∙ f,
    ap (λ p. p.failures) e ∙ after-failures ps old,
    subst (λ (p : Printer). length old.bytes ≤ length p.bytes) (sym e) (after-length ps old),
  );
  keeps = (
    ap (λ p. p.source) e ∙ after-source ps old,
    ap (λ p. p.space) e ∙ after-space ps old,
    ap (λ p. p.depth) e ∙ after-depth ps old,
    ap (λ p. p.borrow) e ∙ after-borrow ps old,
  );
}

-- the error of a part is the error of the whole
pub stops : {A B : Type 0} (old new : Printer) (e : PrintError) (r : Result B PrintError) (ps qs : List Piece) → r ≡ Err e → Prints {A = A} old (Err e) new ps → Prints old r new (ps ++ qs)
stops old new e r ps qs is h =
    let o = h.is in
    subst (λ x. Prints old x new (ps ++ qs)) (sym is)
    (record { is = (o.0, o.1, o.2, o.3, after-longer (has_failed e) ps qs new.bytes old o.4, o.5); keeps = h.keeps })

-- the rest of a call, after a part that was written
pub goes : {A B : Type 0} (old mid new : Printer) (a : A) (r : Result B PrintError) (ps qs : List Piece) → Prints old (Ok a) mid ps → Prints mid r new qs → Prints old r new (ps ++ qs)
goes {B = B} old mid new a r ps qs h k = go r k
  where
    go : (r : Result B PrintError) → Prints mid r new qs → Prints old r new (ps ++ qs)
    go (Ok b) k = wrote_all old new b (ps ++ qs) h.is.0 (k.is.1 ∙ ap (after qs) h.is.1 ∙ sym (after-append ps qs old))
    go (Err e) k =
        let o = k.is in
        let m = h.is.1 in
        let same : mid.failed ≡ old.failed = ap (λ p. p.failed) m ∙ after-failed ps old in
        let count : mid.failures ≡ old.failures = ap (λ p. p.failures) m ∙ after-failures ps old in
        let front : length old.bytes ≤ length mid.bytes = subst (λ (p : Printer). length old.bytes ≤ length p.bytes) (sym m) (after-length ps old) in
        let whole : after qs mid ≡ after (ps ++ qs) old = ap (after qs) m ∙ sym (after-append ps qs old) in
        record {
          is = (
            sym same ∙ o.0,
            o.1,
            o.2 ∙ ap (λ n. n + failures_of e) count,
            omega (arith, o.3, front),
            subst (λ p. is_front (has_failed e) new.bytes p.bytes ≡ true) whole o.4,
            λ f. let no : false ≡ true = sym h.is.0 ∙ sym same ∙ o.0 ∙ f in absurd cc,
          );
          keeps = (k.keeps.0 ∙ h.keeps.0, k.keeps.1 ∙ h.keeps.1, k.keeps.2 ∙ h.keeps.2, k.keeps.3 ∙ h.keeps.3);
        }

-- the same for a single piece before
pub stop : {A B : Type 0} (old new : Printer) (e : PrintError) (r : Result B PrintError) (p : Piece) (qs : List Piece) → r ≡ Err e → Prints {A = A} old (Err e) new (p ∷ []) → Prints old r new (p ∷ qs)
stop old new e r p qs is h = stops old new e r (p ∷ []) qs is h

pub go : {A B : Type 0} (old mid new : Printer) (a : A) (r : Result B PrintError) (p : Piece) (qs : List Piece) → Prints old (Ok a) mid (p ∷ []) → Prints mid r new qs → Prints old r new (p ∷ qs)
go old mid new a r p qs h k = goes old mid new a r (p ∷ []) qs h k

pub ruleset printing = (stops, goes, stop, go)

pub fresh_after-last : (f : Bool) (text : List ℕ) (b : ℕ) → fresh_after f (text ++ b ∷ []) ≡ nat_eq b 10
fresh_after-last f text b = fresh_after-append f text (b ∷ [])

pub refused : {A : Type 0} (inside old new : Printer) (ps : List Piece) → inside ≡ old → new ≡ old → inside.failed ≡ true → Prints {A = A} old (Err Failed) new ps
refused {A = A} inside old new ps is same h = subst (λ n. Prints {A = A} old (Err Failed) n ps) (sym same) (subst (λ o. Prints {A = A} o (Err Failed) o ps) is (here inside h))
  where
    plus : (n : ℕ) → n ≡ n + 0
    plus n = omega arith

    here : (p : Printer) → p.failed ≡ true → Prints {A = A} p (Err Failed) p ps
    here p h = record { is = (h, h, plus p.failures, omega arith, after-front ps p, λ f. refl); keeps = (refl, refl, refl, refl) }

pub after-blank : (t : List ℕ) (p : Printer) → after (blank t ∷ []) p ≡ record p { bytes = p.bytes ++ t; fresh = fresh_after p.fresh t }
unfolding after
after-blank t p = (λ i. record p { bytes = p.bytes ++ append-nil t i; fresh = fresh_after p.fresh (append-nil t i) })

pub as_token : {A : Type 0} (old new : Printer) (r : Result A PrintError) (t : List ℕ) → Prints old r new (blank t ∷ []) → Prints old r new (token t ∷ [])
unfolding after
as_token old new (Ok a) t h = wrote_all old new a (token t ∷ []) h.is.0 h.is.1
as_token old new (Err e) t h = record { is = h.is; keeps = h.keeps }

pub stuck : {A : Type 0} (inside old new : Printer) (t : List ℕ) → inside ≡ old → inside.failed ≡ false → new.failed ≡ true → new.failures ≡ inside.failures + 1
    → is_front false new.bytes (inside.bytes ++ t) ≡ true → length inside.bytes ≤ length new.bytes → Keeps inside new → Prints {A = A} old (Err Writer) new (blank t ∷ [])
stuck {A = A} inside old new t is a b c d e keeps =
    subst (λ o. Prints {A = A} o (Err Writer) new (blank t ∷ [])) is
    (record { is = (a, b, c, e, subst (λ (p : Printer). is_front false new.bytes p.bytes ≡ true) (sym (after-blank t inside)) d, λ f. absurd cc); keeps = keeps })

pub wrote : {A : Type 0} (inside old new : Printer) (a : A) (t : List ℕ) → inside ≡ old → inside.failed ≡ false → new ≡ record inside { bytes = inside.bytes ++ t; fresh = fresh_after inside.fresh t } → Prints old (Ok a) new (blank t ∷ [])
wrote inside old new a t is h e = subst (λ o. Prints o (Ok a) new (blank t ∷ [])) is (wrote_all inside new a (blank t ∷ []) h (e ∙ sym (after-blank t inside)))

pub fresh_after-get : (f : Bool) (text : List ℕ) (b : ℕ) → slice_get text (length text - 1) ≡ Some b → nat_eq b 10 ≡ fresh_after f text
fresh_after-get f [] b h = absurd cc
fresh_after-get f (x ∷ []) b h = let e : length (x ∷ []) - 1 ≡ 0 = omega arith in let k : slice_get (x ∷ []) 0 ≡ Some b = subst (λ (n : ℕ). slice_get (x ∷ []) n ≡ Some b) e h in let s : x ≡ b = cc in ap (λ n. nat_eq n 10) (sym s)
fresh_after-get f (x ∷ y ∷ ys) b h = let e : length (x ∷ y ∷ ys) - 1 ≡ suc (length (y ∷ ys) - 1) = omega arith in fresh_after-get (nat_eq x 10) (y ∷ ys) b (subst (λ (n : ℕ). slice_get (x ∷ y ∷ ys) n ≡ Some b) e h)

pub fresh_after-none : (f : Bool) (text : List ℕ) → slice_get text (length text - 1) ≡ None → f ≡ fresh_after f text
fresh_after-none f [] h = refl
fresh_after-none f (x ∷ xs) h = absurd (some_at x xs h)
  where
    some_at : (y : ℕ) (ys : List ℕ) → slice_get (y ∷ ys) (length (y ∷ ys) - 1) ≡ None → ⊥
    some_at y [] h = let e : length (y ∷ []) - 1 ≡ 0 = omega arith in let k : slice_get (y ∷ []) 0 ≡ None = subst (λ (n : ℕ). slice_get (y ∷ []) n ≡ None) e h in cc
    some_at y (z ∷ zs) h = let e : length (y ∷ z ∷ zs) - 1 ≡ suc (length (z ∷ zs) - 1) = omega arith in some_at z zs (subst (λ (n : ℕ). slice_get (y ∷ z ∷ zs) n ≡ None) e h)

abbrev pub made : List ℕ → ℕ → ℕ → List ℕ → List ℕ → ℕ → Bool → Bool → Printer
made b n w source space depth f failed = record { bytes = b; failures = n; borrow = w; source = source; space = space; depth = depth; fresh = f; failed = failed }

pub record_wrote : (b b' : List ℕ) (n n' w w' : ℕ) (source space : List ℕ) (depth : ℕ) (f f' failed : Bool) → b ≡ b' → n ≡ n' → w ≡ w' → f ≡ f'
    → made b n w source space depth f failed ≡ made b' n' w' source space depth f' failed
record_wrote b b' n n' w w' source space depth f f' failed e m k h = (λ i. made (e i) (m i) (k i) source space depth (h i) failed)

pub after-cons : (p : Piece) (ps : List Piece) (s : Printer) → after (p ∷ ps) s ≡ after ps (after (p ∷ []) s)
after-cons p ps s = after-append (p ∷ []) ps s

pub front-after : (w : Bool) (b : List ℕ) (ps : List Piece) (s : Printer) → is_front w b s.bytes ≡ true → is_front w b (after ps s).bytes ≡ true
unfolding after
front-after w b ps s h = is_front-longer w b s.bytes (text s.space s.fresh ps) h

pub ruleset seq = (after-cons, after-append, front-after, after-nil)

-- LISTS: one more element, an error within, and the end
pub flat_map-append : {X : Type 0} (f : X → List Piece) (xs ys : List X) → flat_map f (xs ++ ys) ≡ flat_map f xs ++ flat_map f ys
flat_map-append f [] ys = refl
flat_map-append f (x ∷ xs) ys = ap (λ r. f x ++ r) (flat_map-append f xs ys) ∙ sym (append_assoc (f x) (flat_map f xs) (flat_map f ys))

flat_map-more : {X : Type 0} (f : X → List Piece) (xs : List X) (i : ℕ) (d : X) → i < length xs → flat_map f (take (i + 1) xs) ≡ flat_map f (take i xs) ++ f (get_or xs i d)
flat_map-more f xs i d h =
    ap (flat_map f) (take_more xs i d h) ∙ flat_map-append f (take i xs) (get_or xs i d ∷ []) ∙ ap (λ r. flat_map f (take i xs) ++ r) (append-nil (f (get_or xs i d)))

pub list_goes : {X A : Type 0} (f : X → List Piece) (xs : List X) (i : ℕ) (d : X) (old mid new : Printer) (a : A) → mid ≡ after (flat_map f (take i xs)) old → i < length xs → Prints mid (Ok a) new (f (get_or xs i d))
    → new ≡ after (flat_map f (take (i + 1) xs)) old
list_goes f xs i d old mid new a e h p =
    p.is.1 ∙ ap (after (f (get_or xs i d))) e ∙ sym (after-append (flat_map f (take i xs)) (f (get_or xs i d)) old)
    ∙ ap (λ ps. after ps old) (sym (flat_map-more f xs i d h))

pub list_stops : {X A B : Type 0} (f : X → List Piece) (xs : List X) (i : ℕ) (d : X) (old mid new : Printer) (a : A) (e : PrintError) (r : Result B PrintError) → old.failed ≡ false
    → mid ≡ after (flat_map f (take i xs)) old → i < length xs → r ≡ Err e → Prints {A = A} mid (Err e) new (f (get_or xs i d)) → Prints old r new (flat_map f xs)
list_stops {B = B} f xs i d old mid new a e r ok m h is p =
    let front : Prints old (Ok a) mid (flat_map f (take i xs)) = wrote_all old mid a (flat_map f (take i xs)) ok m in
    let all : Prints {A = B} old (Err e) new (flat_map f (take i xs) ++ f (get_or xs i d)) = goes old mid new a (Err e) (flat_map f (take i xs)) (f (get_or xs i d)) front (record { is = p.is; keeps = p.keeps }) in
    let split : (flat_map f (take i xs) ++ f (get_or xs i d)) ++ flat_map f (drop (i + 1) xs) ≡ flat_map f xs =
    ap (λ ps. ps ++ flat_map f (drop (i + 1) xs)) (sym (flat_map-more f xs i d h)) ∙ sym (flat_map-append f (take (i + 1) xs) (drop (i + 1) xs)) ∙ ap (flat_map f) (take-append-drop (i + 1) xs) in
    subst (Prints old r new) split (stops old new e r (flat_map f (take i xs) ++ f (get_or xs i d)) (flat_map f (drop (i + 1) xs)) is all)

pub list_ends : {X A : Type 0} (f : X → List Piece) (xs : List X) (i : ℕ) (old new : Printer) (a : A) → old.failed ≡ false → new ≡ after (flat_map f (take i xs)) old → length xs ≤ i → Prints old (Ok a) new (flat_map f xs)
list_ends f xs i old new a ok m h = wrote_all old new a (flat_map f xs) ok (m ∙ ap (λ ys. after (flat_map f ys) old) (take_all i xs h))

pub flat_map-of : {X Y : Type 0} (g : X → Y) (f : Y → List Piece) (xs : List X) → flat_map f (map g xs) ≡ flat_map (λ x. f (g x)) xs
flat_map-of g f [] = refl
flat_map-of g f (x ∷ xs) = ap (λ r. f (g x) ++ r) (flat_map-of g f xs)

-- what is printed at another depth, which is then put back
pub reindent : {A : Type 0} (old mid later new : Printer) (r : Result A PrintError) (ps : List Piece) → mid ≡ record old { depth = mid.depth } → Prints mid r later ps → new ≡ record later { depth = old.depth } → Prints old r new ps
unfolding after
reindent old mid later new (Ok a) ps e p n =
    wrote_all old new a ps (ap (λ (q : Printer). q.failed) (sym e) ∙ p.is.0)
    (n ∙ ap (λ (q : Printer). record q { depth = old.depth }) (p.is.1 ∙ ap (after ps) e))
reindent {A = A} old mid later new (Err x) ps e p n =
    let o = p.is in
    let whole : (after ps mid).bytes ≡ (after ps old).bytes = ap (λ (q : Printer). (after ps q).bytes) e in
    subst (λ (q : Printer). Prints {A = A} old (Err x) q ps) (sym n)
    (record {
      is = (
        ap (λ (q : Printer). q.failed) (sym e) ∙ o.0,
        o.1,
        o.2 ∙ ap (λ (q : Printer). q.failures + failures_of x) e,
        subst (λ (q : Printer). length q.bytes ≤ length later.bytes) e o.3,
        subst (λ b. is_front (has_failed x) later.bytes b ≡ true) whole o.4,
        λ f. o.5 f ∙ ap (λ (q : Printer). q.bytes) e,
      );
      keeps = (p.keeps.0 ∙ ap (λ (q : Printer). q.source) e, p.keeps.1 ∙ ap (λ (q : Printer). q.space) e, refl, p.keeps.3 ∙ ap (λ (q : Printer). q.borrow) e);
    })

pub doc-is : (t : List ℕ) (p : Printer) → after (doc t ∷ []) p ≡ after (blank t ∷ []) (after (blank (47 ∷ 47 ∷ 47 ∷ 32 ∷ []) ∷ []) p)
unfolding after
doc-is t p =
    let u : List ℕ = 47 ∷ 47 ∷ 47 ∷ 32 ∷ [] in
    (λ i. record p { bytes = sym (append_assoc p.bytes u (t ++ [])) i; fresh = fresh_after p.fresh (u ++ (t ++ [])) })

pub ruleset doc_is = (seq, doc-is)
