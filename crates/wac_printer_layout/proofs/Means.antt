-- Items that say what pieces are meant to say, piece by piece.
use Rattle.wac_printer_layout.proofs.Common.{◌≡◌, ℕ, ◌+◌, Bool, List, [], ◌∷◌, ◌++◌, map, length, sym, refl, ap, ◌∙◌, subst, append_assoc, append-nil, AllByRecursion, span, Item, Doc, slice}
use Rattle.wac_printer_layout.specs.Printed.{Piece, token, blank, line, doc, text_of, fresh_after}
use Rattle.wac_printer_layout.specs.Placed.{kind_of, with_docs, placed}

abbrev pub texts_of : List Doc → List (List ℕ)
texts_of docs = map (λ d. d.comment) docs

-- the docs after the last token of pieces
abbrev pub pending : List (List ℕ) → List Piece → List (List ℕ)
pending ds [] = ds
pending ds (token t ∷ ps) = pending [] ps
pending ds (blank t ∷ ps) = pending ds ps
pending ds (line n ∷ ps) = pending ds ps
pending ds (doc t ∷ ps) = pending (ds ++ t ∷ []) ps

pub pending-append : (ds : List (List ℕ)) (ps qs : List Piece) → pending ds (ps ++ qs) ≡ pending (pending ds ps) qs
pending-append ds [] qs = refl
pending-append ds (token t ∷ ps) qs = pending-append [] ps qs
pending-append ds (blank t ∷ ps) qs = pending-append ds ps qs
pending-append ds (line n ∷ ps) qs = pending-append ds ps qs
pending-append ds (doc t ∷ ps) qs = pending-append (ds ++ t ∷ []) ps qs

module _ (source : List ℕ) where
  -- the item is this token in the source, after these docs
  abbrev pub Says : List (List ℕ) → List ℕ → Item → Type 0
  Says ds t y = (y.token ≡ kind_of t) × (y.text ≡ t) × (slice source y.span ≡ t) × (texts_of y.docs ≡ ds)

  -- the items say what the pieces are meant to say, after these docs
  abbrev pub Means : List (List ℕ) → List Item → List Piece → Type 0
  Means ds ys [] = ys ≡ []
  Means ds ys (token t ∷ ps) = (y : Item) × (zs : List Item) × (ys ≡ y ∷ zs) × Says ds t y × Means [] zs ps
  Means ds ys (blank t ∷ ps) = Means ds ys ps
  Means ds ys (line n ∷ ps) = Means ds ys ps
  Means ds ys (doc t ∷ ps) = Means (ds ++ t ∷ []) ys ps

  -- items of pieces, and of those after them
  pub split : (ds : List (List ℕ)) (ys : List Item) (ps qs : List Piece) → Means ds ys (ps ++ qs)
      → (front : List Item) × (back : List Item) × (ys ≡ front ++ back) × Means ds front ps × Means (pending ds ps) back qs
  split ds ys [] qs h = ([], ys, refl, refl, h)
  split ds ys (token t ∷ ps) qs h =
      let r = split [] h.1 ps qs h.4 in
      (h.0 ∷ r.0, r.1, h.2 ∙ ap (λ zs. h.0 ∷ zs) r.2, (h.0, r.0, refl, h.3, r.3), r.4)
  split ds ys (blank t ∷ ps) qs h = split ds ys ps qs h
  split ds ys (line n ∷ ps) qs h = split ds ys ps qs h
  split ds ys (doc t ∷ ps) qs h = split (ds ++ t ∷ []) ys ps qs h

  -- the placed items say it
  sliced_docs : (docs : List Doc) (xs : List Item) → AllByRecursion (λ y. y.text ≡ slice source y.span) (with_docs docs xs) → AllByRecursion (λ y. y.text ≡ slice source y.span) xs
  sliced_docs docs [] h = tt
  sliced_docs docs (x ∷ xs) h = h

  more_docs : (docs more : List Doc) (xs : List Item) → with_docs docs (with_docs more xs) ≡ with_docs (docs ++ more) xs
  more_docs docs more [] = refl
  more_docs docs more (x ∷ xs) = ap (λ ds. record x { docs = ds } ∷ xs) (sym (append_assoc docs more x.docs))

  no_docs : (xs : List Item) → with_docs [] xs ≡ xs
  no_docs [] = refl
  no_docs (x ∷ xs) = refl

  texts-append : (a b : List Doc) → texts_of (a ++ b) ≡ texts_of a ++ texts_of b
  texts-append [] b = refl
  texts-append (d ∷ a) b = ap (λ ts. d.comment ∷ ts) (texts-append a b)

  placed_from : (gap : List ℕ) (place : ℕ) (fresh : Bool) (docs : List Doc) (ps : List Piece)
      → AllByRecursion (λ y. y.text ≡ slice source y.span) (placed place gap fresh ps) → Means (texts_of docs) (with_docs docs (placed place gap fresh ps)) ps
  placed_from gap place fresh docs [] h = refl
  placed_from gap place fresh docs (token t ∷ ps) h =
      let later = placed (place + length t) gap (fresh_after fresh t) ps in
      let rest = subst (λ xs. Means [] xs ps) (no_docs later) (placed_from gap (place + length t) (fresh_after fresh t) [] ps h.1) in
      (record { token = kind_of t; text = t; span = span place (length t); docs = docs ++ [] }, later, refl, (refl, refl, sym h.0, ap texts_of (append-nil docs)), rest)
  placed_from gap place fresh docs (blank t ∷ ps) h = placed_from gap (place + length t) (fresh_after fresh t) docs ps h
  placed_from gap place fresh docs (line n ∷ ps) h = let t = text_of gap fresh (line n) in placed_from gap (place + length t) (fresh_after fresh t) docs ps h
  placed_from gap place fresh docs (doc t ∷ ps) h =
      let w = text_of gap fresh (doc t) in
      let d : Doc = record { comment = t; span = span place (4 + length t) } in
      let later = placed (place + length w) gap (fresh_after fresh w) ps in
      let rest = placed_from gap (place + length w) (fresh_after fresh w) (docs ++ d ∷ []) ps (sliced_docs (d ∷ []) later h) in
      subst (λ xs. Means (texts_of docs ++ t ∷ []) xs ps) (sym (more_docs docs (d ∷ []) later))
      (subst (λ ts. Means ts (with_docs (docs ++ d ∷ []) later) ps) (texts-append docs (d ∷ [])) rest)

  pub placed_means : (gap : List ℕ) (place : ℕ) (fresh : Bool) (ps : List Piece) → AllByRecursion (λ y. y.text ≡ slice source y.span) (placed place gap fresh ps) → Means [] (placed place gap fresh ps) ps
  placed_means gap place fresh ps h = subst (λ xs. Means [] xs ps) (no_docs (placed place gap fresh ps)) (placed_from gap place fresh [] ps h)
