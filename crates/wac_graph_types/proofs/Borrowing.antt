-- Whether an entry's meaning contains a borrow is decided by what is in it, place by place, and known of each entry.
use Rattle.wac_graph_types.proofs.Common.{◌≡◌, ◌∙◌, ◌+◌, ℕ, zero, suc, List, [], ◌∷◌, ◌++◌, length, drop, map, Option, Some, None, Bool, true, false, ◌||◌, refl, sym, ap, subst, add-one, map-append, slice_get}
use Rattle.wac_graph_types.specs.declared.kind.ItemKind.{ItemKind}
use Rattle.wac_graph_types.specs.declared.entry.Entry.{Entry}
use Rattle.wac_graph_types.specs.declared.entry.Entry.TheVariants as entries
use Rattle.wac_graph_types.specs.declared.entry.DefinedType.TheVariants as defined
use Rattle.wac_graph_types.specs.Entry.{Slot, children, label}
use Rattle.wac_graph_types.specs.Meaning.{Meaning, look, over, meanings_from, meaning_at, meaning, of_child, row}
use Rattle.wac_graph_types.specs.Borrows.{AreBorrows}
use Rattle.wac_graph_types.specs.Readings.{is_resource}
use Rattle.wac_graph_types.specs.Shape.{borrows, contains_borrow, row_contains_borrow}
use Rattle.wac_graph_types.proofs.Meanings.{split}
use Rattle.wac_graph_types.proofs.Rows.{drop_some, drop_past}

-- what is left from place k has a borrow if and only if the whole has
pub record RestBorrows (f : ℕ → Meaning) (cs : List (Slot × Option ItemKind)) (k : ℕ) : Type 0 where
  pub same : row_contains_borrow (row f cs) ≡ row_contains_borrow (row f (drop k cs))

pub rest_borrows_start : (f : ℕ → Meaning) (cs : List (Slot × Option ItemKind)) → RestBorrows f cs 0
rest_borrows_start f cs = record { same = refl }

rest_is : (f : ℕ → Meaning) (cs : List (Slot × Option ItemKind)) (k : ℕ) (c : Slot × Option ItemKind) → slice_get cs k ≡ Some c → RestBorrows f cs k
    → row_contains_borrow (row f cs) ≡ (contains_borrow (of_child f c.1) || row_contains_borrow (row f (drop (suc k) cs)))
rest_is f cs k c is r = r.same ∙ ap (λ (l : List (Slot × Option ItemKind)). row_contains_borrow (row f l)) (drop_some cs k c is)

pub rest_borrows_step : (f : ℕ → Meaning) (cs : List (Slot × Option ItemKind)) (k : ℕ) (c : Slot × Option ItemKind) → slice_get cs k ≡ Some c → false ≡ contains_borrow (of_child f c.1)
    → RestBorrows f cs k → RestBorrows f cs (k + 1)
rest_borrows_step f cs k c is none r = rw add-one (record { same = rest_is f cs k c is r ∙ ap (λ (b : Bool). b || row_contains_borrow (row f (drop (suc k) cs))) (sym none) })

pub rest_borrows_found : (f : ℕ → Meaning) (cs : List (Slot × Option ItemKind)) (k : ℕ) (c : Slot × Option ItemKind) → slice_get cs k ≡ Some c → true ≡ contains_borrow (of_child f c.1)
    → RestBorrows f cs k → row_contains_borrow (row f cs) ≡ true
rest_borrows_found f cs k c is one r = rest_is f cs k c is r ∙ ap (λ (b : Bool). b || row_contains_borrow (row f (drop (suc k) cs))) (sym one)

pub rest_borrows_end : (f : ℕ → Meaning) (cs : List (Slot × Option ItemKind)) (k : ℕ) → length cs ≡ k → RestBorrows f cs k → row_contains_borrow (row f cs) ≡ false
rest_borrows_end f cs k len r =
    let e : drop k cs ≡ [] = subst (λ (n : ℕ). drop n cs ≡ []) len (drop_past cs) in
    r.same ∙ ap (λ (l : List (Slot × Option ItemKind)). row_contains_borrow (row f l)) e

resource_label : (origin : ℕ) (e : Entry) (rest : Bool) → true ≡ is_resource e → borrows (label origin e) rest ≡ false
resource_label origin (entries.Defined d) rest h = absurd (cc)
resource_label origin (entries.Resource r) rest h = refl
resource_label origin (entries.Func f) rest h = absurd (cc)
resource_label origin (entries.Interface i) rest h = absurd (cc)
resource_label origin (entries.World w) rest h = absurd (cc)

other_label : (origin : ℕ) (e : Entry) (rest : Bool) → false ≡ is_resource e → borrows (label origin e) rest ≡ rest
other_label origin (entries.Defined (defined.Tuple ts)) rest h = refl
other_label origin (entries.Defined (defined.List t)) rest h = refl
other_label origin (entries.Defined (defined.Option t)) rest h = refl
other_label origin (entries.Defined (defined.Result o e)) rest h = refl
other_label origin (entries.Defined (defined.Variant cs)) rest h = refl
other_label origin (entries.Defined (defined.Record fs)) rest h = refl
other_label origin (entries.Defined (defined.Flags ns)) rest h = refl
other_label origin (entries.Defined (defined.Enum ns)) rest h = refl
other_label origin (entries.Defined (defined.Alias t)) rest h = refl
other_label origin (entries.Defined (defined.Stream t)) rest h = refl
other_label origin (entries.Defined (defined.Future t)) rest h = refl
other_label origin (entries.Resource r) rest h = absurd (cc)
other_label origin (entries.Func f) rest h = refl
other_label origin (entries.Interface i) rest h = refl
other_label origin (entries.World w) rest h = refl

pub resource_has_none : (o : ℕ → ℕ) (ms : List Meaning) (e : Entry) → true ≡ is_resource e → false ≡ contains_borrow (over o ms e)
resource_has_none o ms e res = sym (resource_label (o (length ms)) e (row_contains_borrow (row (look ms) (children e))) res)

pub entry_has : (o : ℕ → ℕ) (ms : List Meaning) (e : Entry) (b : Bool) → false ≡ is_resource e → row_contains_borrow (row (look ms) (children e)) ≡ b → b ≡ contains_borrow (over o ms e)
entry_has o ms e b res found = sym (other_label (o (length ms)) e (row_contains_borrow (row (look ms) (children e))) res ∙ found)

-- what is known of a number is what its meaning has, and what names no entry has none
pub known_some : (ms : List Meaning) (i : ℕ) (b : Bool) → slice_get (map contains_borrow ms) i ≡ Some b → b ≡ contains_borrow (look ms i)
known_some [] i b is = absurd (cc)
known_some (m ∷ ms) zero b is = let e : contains_borrow m ≡ b = cc in sym e
known_some (m ∷ ms) (suc i) b is = known_some ms i b is

pub known_none : (ms : List Meaning) (i : ℕ) → slice_get (map contains_borrow ms) i ≡ None → false ≡ contains_borrow (look ms i)
known_none [] i is = refl
known_none (m ∷ ms) zero is = absurd (cc)
known_none (m ∷ ms) (suc i) is = known_none ms i is

-- one more entry, and what is known of it
pub borrows_added : (es : List Entry) (known : List Bool) (e : Entry) (b : Bool)
    → ((o : ℕ → ℕ) (ms : List Meaning) → known ≡ map contains_borrow ms → b ≡ contains_borrow (over o ms e))
    → AreBorrows es known → AreBorrows (es ++ e ∷ []) (known ++ b ∷ [])
borrows_added es known e b is all = record {
  each = λ o.
      let ms : List Meaning = meanings_from o [] es in
      ap (λ (l : List Bool). l ++ b ∷ []) (all.each o)
      ∙ ap (λ (c : Bool). map contains_borrow ms ++ c ∷ []) (is o ms (all.each o))
      ∙ sym (map-append contains_borrow ms (over o ms e ∷ []))
      ∙ ap (map contains_borrow) (sym (split o es (e ∷ []) []));
}

-- so it is known of what a kind means
pub known_of : (o : ℕ → ℕ) (es : List Entry) (known : List Bool) (k : ItemKind) (b : Bool) → AreBorrows es known
    → ((ms : List Meaning) → known ≡ map contains_borrow ms → b ≡ contains_borrow (of_child (look ms) (Some k)))
    → b ≡ contains_borrow (meaning o es k)
unfolding meaning_at
known_of o es known k b all is = is (meanings_from o [] es) (all.each o)
