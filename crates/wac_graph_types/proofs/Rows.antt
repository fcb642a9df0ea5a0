-- Rows of meanings are compared place by place: what is left decides.
use Rattle.wac_graph_types.proofs.Common.{◌≡◌, ◌≢◌, ◌+◌, ◌*◌, ◌<◌, ◌≤◌, ℕ, zero, suc, List, [], ◌∷◌, length, drop, refl, sym, ◌∙◌, ap, arith, Option, Some, None, subst, get_or, add-one, true, false, slice_get, IfSome, IsTrue, slice_get_read}
use Rattle.wac_graph_types.specs.declared.kind.ItemKind.{ItemKind}
use Rattle.wac_graph_types.specs.declared.entry.Entry.{Entry}
use Rattle.wac_graph_types.specs.Kind.{named_by}
use Rattle.wac_graph_types.specs.Entry.{Slot, children, label}
use Rattle.wac_graph_types.specs.Label.{Label}
use Rattle.wac_graph_types.proofs.Meanings.{meaning_at_entry}
use Rattle.wac_graph_types.specs.Meaning.{Meaning, meaning_at, node, Row, done, more, of_child, row, NamesBefore, ChildrenBefore, EarlierFrom, IsEarlier}

-- the rows are equal if and only if what is left of them from place k is
pub record RestDecides (f : ℕ → Meaning) (cs ds : List (Slot × Option ItemKind)) (k : ℕ) : Type 0 where
  pub whole : row f (drop k cs) ≡ row f (drop k ds) → row f cs ≡ row f ds
  pub rest : row f cs ≡ row f ds → row f (drop k cs) ≡ row f (drop k ds)

pub rest_decides_start : (f : ℕ → Meaning) (cs ds : List (Slot × Option ItemKind)) → RestDecides f cs ds 0
rest_decides_start f cs ds = record { whole = λ h. h; rest = λ h. h }

pub drop_some : {X : Type 0} (xs : List X) (k : ℕ) (x : X) → slice_get xs k ≡ Some x → drop k xs ≡ x ∷ drop (suc k) xs
drop_some [] k x is = absurd (cc)
drop_some (y ∷ ys) zero x is = let e : y ≡ x = cc in cc
drop_some (y ∷ ys) (suc k) x is = drop_some ys k x is

pub rest_decides_step : (f : ℕ → Meaning) (cs ds : List (Slot × Option ItemKind)) (k : ℕ) (c d : Slot × Option ItemKind)
    → slice_get cs k ≡ Some c → slice_get ds k ≡ Some d → c.0 ≡ d.0 → of_child f c.1 ≡ of_child f d.1
    → RestDecides f cs ds k → RestDecides f cs ds (k + 1)
rest_decides_step f cs ds k c d isc isd slot child r = rw add-one (
    let ec : row f (drop k cs) ≡ more c.0 (of_child f c.1) (row f (drop (suc k) cs)) = ap (row f) (drop_some cs k c isc) in
    let ed : row f (drop k ds) ≡ more d.0 (of_child f d.1) (row f (drop (suc k) ds)) = ap (row f) (drop_some ds k d isd) in
    record {
      whole = λ h. r.whole (cc);
      rest = λ h. let e : row f (drop k cs) ≡ row f (drop k ds) = r.rest h in cc;
    })

pub rest_differs : (f : ℕ → Meaning) (cs ds : List (Slot × Option ItemKind)) (k : ℕ) (c d : Slot × Option ItemKind)
    → slice_get cs k ≡ Some c → slice_get ds k ≡ Some d → (c.0 ≡ d.0 → of_child f c.1 ≡ of_child f d.1 → ⊥)
    → RestDecides f cs ds k → row f cs ≢ row f ds
rest_differs f cs ds k c d isc isd differ r h =
    let ec : row f (drop k cs) ≡ more c.0 (of_child f c.1) (row f (drop (suc k) cs)) = ap (row f) (drop_some cs k c isc) in
    let ed : row f (drop k ds) ≡ more d.0 (of_child f d.1) (row f (drop (suc k) ds)) = ap (row f) (drop_some ds k d isd) in
    let e : row f (drop k cs) ≡ row f (drop k ds) = r.rest h in
    differ (cc) (cc)

pub drop_past : {X : Type 0} (xs : List X) → drop (length xs) xs ≡ []
drop_past [] = refl
drop_past (x ∷ xs) = drop_past xs

pub rest_decides_end : (f : ℕ → Meaning) (cs ds : List (Slot × Option ItemKind)) (k : ℕ) → length cs ≡ k → length ds ≡ k → RestDecides f cs ds k → row f cs ≡ row f ds
rest_decides_end f cs ds k lc ld r =
    let ec : drop k cs ≡ [] = subst (λ (n : ℕ). drop n cs ≡ []) lc (drop_past cs) in
    let ed : drop k ds ≡ [] = subst (λ (n : ℕ). drop n ds ≡ []) ld (drop_past ds) in
    r.whole (ap (row f) (ec ∙ sym ed))

row_length : Row → ℕ
row_length done = 0
row_length (more s m r) = suc (row_length r)

length_row : (f : ℕ → Meaning) (cs : List (Slot × Option ItemKind)) → row_length (row f cs) ≡ length cs
unfolding row_length
length_row f [] = refl
length_row f (c ∷ cs) = ap suc (length_row f cs)

-- rows of two lengths differ
pub lengths_differ : (f : ℕ → Meaning) (cs ds : List (Slot × Option ItemKind)) → row f cs ≡ row f ds → length cs ≡ length ds
lengths_differ f cs ds h = sym (length_row f cs) ∙ ap row_length h ∙ length_row f ds

pub child_before : (n : ℕ) (cs : List (Slot × Option ItemKind)) (k : ℕ) (c : Slot × Option ItemKind) → ChildrenBefore n cs → slice_get cs k ≡ Some c → IfSome c.1 (NamesBefore n)
child_before n [] k c h is = absurd (cc)
child_before n (x ∷ cs) zero c h is = let e : x ≡ c = cc in subst (λ (y : Slot × Option ItemKind). IfSome y.1 (NamesBefore n)) e h.0
child_before n (x ∷ cs) (suc k) c h is = child_before n cs k c h.1 is

pub earlier_from : (m n : ℕ) (es : List Entry) (i : ℕ) (e : Entry) → n ≡ m + i → EarlierFrom m es → slice_get es i ≡ Some e → ChildrenBefore n (children e)
earlier_from m n [] i e at h is = absurd (cc)
earlier_from m n (x ∷ es) zero e at h is =
    let first : x ≡ e = cc in
    let number : m ≡ n = omega arith in
    subst (λ (y : Entry). ChildrenBefore n (children y)) first (subst (λ (k : ℕ). ChildrenBefore k (children x)) number h.0)
earlier_from m n (x ∷ es) (suc i) e at h is = earlier_from (suc m) n es i e (omega arith) h.1 is

-- the kinds in an entry name earlier entries
pub earlier_child : (es : List Entry) (i k : ℕ) (e : Entry) (c : Slot × Option ItemKind) → IsEarlier es → slice_get es i ≡ Some e → slice_get (children e) k ≡ Some c → IfSome c.1 (NamesBefore i)
earlier_child es i k e c h is at = child_before i (children e) k c (earlier_from 0 i es i e (omega arith) h is) at

pub stands : {X : Type 0} (es : List X) (i : ℕ) (d : X) → i < length es → d ≡ get_or es i d → slice_get es i ≡ Some d
stands es i d within read = slice_get_read es (length es) i d refl within read

-- two entries mean the same if and only if their labels are equal, and so are the rows of the kinds in them
pub node_same : (o : ℕ → ℕ) (es : List Entry) (i j : ℕ) (d e : Entry) → IsEarlier es → i < length es → d ≡ get_or es i d → j < length es → e ≡ get_or es j e
    → meaning_at o es i ≡ meaning_at o es j → (label (o i) d ≡ label (o j) e) × (row (meaning_at o es) (children d) ≡ row (meaning_at o es) (children e))
node_same o es i j d e h wi rd wj re same =
    let ed : meaning_at o es i ≡ node (label (o i) d) (row (meaning_at o es) (children d)) = meaning_at_entry o es i d h (stands es i d wi rd) in
    let ee : meaning_at o es j ≡ node (label (o j) e) (row (meaning_at o es) (children e)) = meaning_at_entry o es j e h (stands es j e wj re) in
    let both : node (label (o i) d) (row (meaning_at o es) (children d)) ≡ node (label (o j) e) (row (meaning_at o es) (children e)) = sym ed ∙ same ∙ ee in
    (ap label_in both, ap row_in both)
  where
    label_in : Meaning → Label
    label_in (node l r) = l

    row_in : Meaning → Row
    row_in (node l r) = r

pub same_node : (o : ℕ → ℕ) (es : List Entry) (i j : ℕ) (d e : Entry) → IsEarlier es → i < length es → d ≡ get_or es i d → j < length es → e ≡ get_or es j e
    → label (o i) d ≡ label (o j) e → row (meaning_at o es) (children d) ≡ row (meaning_at o es) (children e) → meaning_at o es i ≡ meaning_at o es j
same_node o es i j d e h wi rd wj re l r =
    let ed : meaning_at o es i ≡ node (label (o i) d) (row (meaning_at o es) (children d)) = meaning_at_entry o es i d h (stands es i d wi rd) in
    let ee : meaning_at o es j ≡ node (label (o j) e) (row (meaning_at o es) (children e)) = meaning_at_entry o es j e h (stands es j e wj re) in
    ed ∙ ap (λ x. node x (row (meaning_at o es) (children d))) l ∙ ap (node (label (o j) e)) r ∙ sym ee

pub refuted : {P : Type 0} → (P → ⊥) → (IsTrue false → P) × (P → IsTrue false)
refuted deny = (λ f. absurd (cc), λ p. absurd (deny p))

pub shown : {P : Type 0} → P → (IsTrue true → P) × (P → IsTrue true)
shown p = (λ _. p, λ _. refl)

pub none_within : {X : Type 0} (xs : List X) (k : ℕ) → slice_get xs k ≡ None → k < length xs → ⊥
none_within [] k is within = omega arith
none_within (x ∷ xs) zero is within = cc
none_within (x ∷ xs) (suc k) is within = none_within xs k is (omega arith)

-- what is above twice the entry that a kind names
abbrev pub above_id : Option ℕ → ℕ
above_id None = 0
above_id (Some n) = 2 * n + 2

abbrev pub above : Option ItemKind → ℕ
above None = 0
above (Some k) = above_id (named_by k)

above_id_falls : (i : ℕ) (x : Option ℕ) → IfSome x (λ n. n < i) → above_id x < 2 * i + 1
above_id_falls i None h = omega arith
above_id_falls i (Some n) h = omega arith

pub above_falls : (i : ℕ) (x : Option ItemKind) → IfSome x (NamesBefore i) → above x < 2 * i + 1
above_falls i None h = omega arith
above_falls i (Some k) h = above_id_falls i (named_by k) h

before_id : (i n : ℕ) (x : Option ℕ) → i ≤ n → IfSome x (λ m. m < i) → IfSome x (λ m. m < n)
before_id i n None le h = tt
before_id i n (Some m) le h = omega arith

pub before_more : (i n : ℕ) (x : Option ItemKind) → i < n → IfSome x (NamesBefore i) → IfSome x (NamesBefore n)
before_more i n None le h = tt
before_more i n (Some k) le h = before_id i n (named_by k) (omega arith) h
