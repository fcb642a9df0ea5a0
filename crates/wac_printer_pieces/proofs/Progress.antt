-- A list printed element by element.
use Rattle.wac_printer_pieces.proofs.Common.{zero, suc, map, arith, ◌≡◌, ℕ, ◌+◌, ◌<◌, ◌≤◌, false, List, [], ◌∷◌, ◌++◌, take, length, get_or, refl, sym, ap, ◌∙◌, subst, Result, Ok, Err, flat_map, All, Piece, deeper}
use Rattle.wac_printer_pieces.specs.declared.error.PrintError.{PrintError}
use Rattle.wac_printer_pieces.specs.Printed.{Printer, after, Prints}
use Rattle.wac_printer_pieces.proofs.Printing as one
use Rattle.wac_printer_pieces.proofs.Printing.{after-source, after-depth}

-- what elements print, where the source and the depth are the printer's
abbrev pub each : {X : Type 0} → (List ℕ → ℕ → X → List Piece) → List X → Printer → List Piece
each f xs p = flat_map (f p.source p.depth) xs

-- written so far
pub record IsSoFar {X : Type 0} (f : List ℕ → ℕ → X → List Piece) (xs : List X) (i : ℕ) (old mid : Printer) : Type 0 where
  pub wrote : mid ≡ after (flat_map (f old.source old.depth) (take i xs)) old
  pub works : old.failed ≡ false

same_layout : {X : Type 0} (f : List ℕ → ℕ → X → List Piece) (ps : List Piece) (old mid : Printer) (x : X) → mid ≡ after ps old → f mid.source mid.depth x ≡ f old.source old.depth x
same_layout f ps old mid x e = (λ i. f ((ap (λ (p : Printer). p.source) e ∙ after-source ps old) i) ((ap (λ (p : Printer). p.depth) e ∙ after-depth ps old) i) x)

pub starts : {X A : Type 0} (f : List ℕ → ℕ → X → List Piece) (xs : List X) (old mid : Printer) (a : A) → Prints old (Ok a) mid [] → IsSoFar f xs 0 old mid
starts f xs old mid a p = record { wrote = p.is.1; works = p.is.0 }

pub goes : {X A : Type 0} (f : List ℕ → ℕ → X → List Piece) (xs : List X) (i : ℕ) (d : X) (old mid new : Printer) (a : A) → IsSoFar f xs i old mid → i < length xs
    → Prints mid (Ok a) new (f mid.source mid.depth (get_or xs i d)) → IsSoFar f xs (i + 1) old new
goes f xs i d old mid new a s h p = record {
  wrote = one.list_goes (f old.source old.depth) xs i d old mid new a s.wrote h (subst (Prints mid (Ok a) new) (same_layout f (flat_map (f old.source old.depth) (take i xs)) old mid (get_or xs i d) s.wrote) p);
  works = s.works;
}

pub stops : {X B : Type 0} (f : List ℕ → ℕ → X → List Piece) (xs : List X) (i : ℕ) (d : X) (old mid new : Printer) (e : PrintError) (r : Result B PrintError) → IsSoFar f xs i old mid → i < length xs
    → r ≡ Err e → Prints {A = Unit {0}} mid (Err e) new (f mid.source mid.depth (get_or xs i d)) → Prints old r new (each f xs old)
stops f xs i d old mid new e r s h is p =
    one.list_stops (f old.source old.depth) xs i d old mid new tt e r s.works s.wrote h is (subst (Prints mid (Err e) new) (same_layout f (flat_map (f old.source old.depth) (take i xs)) old mid (get_or xs i d) s.wrote) p)

pub ends : {X A : Type 0} (f : List ℕ → ℕ → X → List Piece) (xs : List X) (i : ℕ) (old new : Printer) (a : A) → IsSoFar f xs i old new → length xs ≤ i → Prints old (Ok a) new (each f xs old)
ends f xs i old new a s h = one.list_ends (f old.source old.depth) xs i old new a s.works s.wrote h

-- what is required of each element
pub part : {X : Type 0} (P : List ℕ → X → Type 0) (f : List ℕ → ℕ → X → List Piece) (xs : List X) (i : ℕ) (d : X) (old mid : Printer) → IsSoFar f xs i old mid → i < length xs → All (P old.source) xs → P mid.source (get_or xs i d)
part P f xs i d old mid s h each = subst (λ t. P t (get_or xs i d)) (sym (ap (λ (p : Printer). p.source) s.wrote ∙ after-source (flat_map (f old.source old.depth) (take i xs)) old)) (each i d h)

pub All-of-map : {X Y : Type 0} (P : Y → Type 0) (g : X → Y) (xs : List X) → All P (map g xs) → All (λ x. P (g x)) xs
All-of-map P g (x ∷ xs) h zero d k = h 0 (g d) (omega arith)
All-of-map P g (x ∷ xs) h (suc i) d k = All-of-map P g xs (λ j e l. h (suc j) e (omega arith)) i d (omega arith)
All-of-map P g [] h i d k = absurd (omega arith)

-- the same where the code has the element by a name of its own
pub goes_at : {X A : Type 0} (f : List ℕ → ℕ → X → List Piece) (xs : List X) (i : ℕ) (x : X) (old mid new : Printer) (a : A) → IsSoFar f xs i old mid → i < length xs → x ≡ get_or xs i x
    → Prints mid (Ok a) new (f mid.source mid.depth x) → IsSoFar f xs (i + 1) old new
goes_at f xs i x old mid new a s h e p = goes f xs i x old mid new a s h (subst (λ y. Prints mid (Ok a) new (f mid.source mid.depth y)) e p)

pub stops_at : {X B : Type 0} (f : List ℕ → ℕ → X → List Piece) (xs : List X) (i : ℕ) (x : X) (old mid new : Printer) (e : PrintError) (r : Result B PrintError) → IsSoFar f xs i old mid → i < length xs → x ≡ get_or xs i x
    → r ≡ Err e → Prints {A = Unit {0}} mid (Err e) new (f mid.source mid.depth x) → Prints old r new (each f xs old)
stops_at f xs i x old mid new e r s h q is p = stops f xs i x old mid new e r s h is (subst (λ y. Prints {A = Unit {0}} mid (Err e) new (f mid.source mid.depth y)) q p)

pub part_at : {X : Type 0} (P : List ℕ → X → Type 0) (f : List ℕ → ℕ → X → List Piece) (xs : List X) (i : ℕ) (x : X) (old mid : Printer) → IsSoFar f xs i old mid → i < length xs → x ≡ get_or xs i x → All (P old.source) xs → P mid.source x
part_at P f xs i x old mid s h e each = subst (P mid.source) (sym e) (part P f xs i x old mid s h each)

-- a list printed one deeper
pub deeper_list : {X A : Type 0} (f : List ℕ → ℕ → X → List Piece) (xs : List X) (inside old last later new : Printer) (d : ℕ) (r : Result A PrintError) → inside ≡ old → d ≡ deeper inside.depth → last ≡ later
    → Prints (record inside { depth = d }) r later (flat_map (f inside.source d) xs) → new ≡ record last { depth = inside.depth } → Prints old r new (flat_map (f old.source (deeper old.depth)) xs)
deeper_list f xs inside old last later new d r is at back p n =
    subst (λ (o : Printer). Prints o r new (flat_map (f o.source (deeper o.depth)) xs)) is
    (subst (λ k. Prints inside r new (flat_map (f inside.source k) xs)) at
    (one.reindent inside (record inside { depth = d }) later new r (flat_map (f inside.source d) xs) refl p (n ∙ ap (λ (q : Printer). record q { depth = inside.depth }) back)))

-- a whole of two parts
pub first_stops : {A B : Type 0} (old new : Printer) (e : PrintError) (r : Result B PrintError) (whole first others : List Piece) → whole ≡ first ++ others → r ≡ Err e → Prints {A = A} old (Err e) new first → Prints old r new whole
first_stops old new e r whole first others split is p = subst (Prints old r new) (sym split) (one.stops old new e r first others is p)

pub first_goes : {A B : Type 0} (old mid new : Printer) (a : A) (r : Result B PrintError) (whole first : List Piece) (others : List ℕ → ℕ → List Piece) → whole ≡ first ++ others old.source old.depth
    → Prints old (Ok a) mid first → Prints mid r new (others mid.source mid.depth) → Prints old r new whole
first_goes old mid new a r whole first others split p q =
    let same : others mid.source mid.depth ≡ others old.source old.depth = (λ i. others (p.keeps.0 i) (p.keeps.2 i)) in
    subst (Prints old r new) (sym split) (one.goes old mid new a r first (others old.source old.depth) p (subst (Prints mid r new) same q))

pub none_is : {B : Type 0} (old : Printer) (r : Result B PrintError) (whole : List Piece) → whole ≡ [] → Prints old r old [] → Prints old r old whole
none_is old r whole e p = subst (Prints old r old) (sym e) p

-- what is required of the others
pub others_sliced : {X A : Type 0} (P : List ℕ → X → Type 0) (old mid : Printer) (a : A) (first : List Piece) (xs : List X) → Prints old (Ok a) mid first → All (P old.source) xs → All (P mid.source) xs
others_sliced P old mid a first xs p h = subst (λ s. All (P s) xs) (sym p.keeps.0) h

-- what is printed one deeper, before the depth is put back
pub deeper_part : {A : Type 0} (old mid later new : Printer) (depth : ℕ) (r : Result A PrintError) (others : List ℕ → ℕ → List Piece) → depth ≡ old.depth → mid ≡ record old { depth = deeper old.depth }
    → Prints mid r later (others mid.source mid.depth) → new ≡ record later { depth = depth } → Prints old r new (others old.source (deeper old.depth))
deeper_part old mid later new depth r others d m p n =
    one.reindent old mid later new r (others old.source (deeper old.depth)) (m ∙ ap (λ k. record old { depth = k }) (sym (ap (λ (q : Printer). q.depth) m)))
    (subst (Prints mid r later) (λ i. others (m i).source (m i).depth) p)
    (n ∙ ap (λ k. record later { depth = k }) d)

-- what is required of each tree, of the values that they are the trees of, where the source is the same
pub All-at : {X Y : Type 0} (P : List ℕ → Y → Type 0) (g : X → Y) (xs : List X) (s t : List ℕ) → t ≡ s → All (P s) (map g xs) → All (λ x. P t (g x)) xs
All-at P g xs s t e h = All-of-map (P t) g xs (subst (λ u. All (P u) (map g xs)) (sym e) h)
