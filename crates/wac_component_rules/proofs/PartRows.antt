-- Parts are compared place by place: what is left decides.
use Rattle.std.proofs.Common.{◌≡◌, ◌∙◌, ◌+◌, ℕ, zero, suc, List, [], ◌∷◌, length, drop, refl, sym, ap, Option, Some, subst, add-one, Bool, true, false}
use Rattle.std.specs.Prelude.{slice_get, IfSome, ◌&&◌}
use Rattle.wac_graph_types.specs.declared.kind.ItemKind.{ItemKind}
use Rattle.wac_graph_types.specs.declared.entry.Entry.{Entry}
use Rattle.wac_graph_types.specs.declared.entry.Entry.TheVariants as entries
use Rattle.wac_graph_types.specs.Entry.{Slot, children}
use Rattle.wac_graph_types.specs.Label.{Plain}
use Rattle.wac_graph_types.specs.Meaning.{Meaning, of_child, row, EachKind}
use Rattle.wac_graph_types.proofs.Rows.{drop_some, drop_past}
use Rattle.wac_component_rules.specs.Seen.{seen, items}
use Rattle.wac_component_rules.specs.Fits.{fits, each_fits, same_slot, same_plain}
use Rattle.wac_component_rules.specs.Parts.{parts_of}
use Rattle.wac_component_rules.proofs.Turning.{and_false, slot_same, slot_differs, plain_same, plain_differs}

abbrev pub row_fits : (ℕ → Meaning) → List (Slot × Option ItemKind) → List (Slot × Option ItemKind) → Bool
row_fits f cs ds = each_fits (items (row f cs)) (items (row f ds))

-- the parts fit if and only if what is left of them from place k does
abbrev pub RestFits : (ℕ → Meaning) → List (Slot × Option ItemKind) → List (Slot × Option ItemKind) → ℕ → Type 0
RestFits f cs ds k = row_fits f (drop k cs) (drop k ds) ≡ row_fits f cs ds

split : (f : ℕ → Meaning) (cs ds : List (Slot × Option ItemKind)) (k : ℕ) (c d : Slot × Option ItemKind)
    → slice_get cs k ≡ Some c → slice_get ds k ≡ Some d
    → row_fits f (drop k cs) (drop k ds) ≡ same_slot c.0 d.0 && (fits (seen (of_child f c.1)) (seen (of_child f d.1)) && row_fits f (drop (suc k) cs) (drop (suc k) ds))
split f cs ds k c d isc isd =
    ap (λ (l : List (Slot × Option ItemKind)). row_fits f l (drop k ds)) (drop_some cs k c isc)
    ∙ ap (λ (l : List (Slot × Option ItemKind)). row_fits f (c ∷ drop (suc k) cs) l) (drop_some ds k d isd)

pub rest_fits_step : (f : ℕ → Meaning) (cs ds : List (Slot × Option ItemKind)) (k : ℕ) (c d : Slot × Option ItemKind)
    → slice_get cs k ≡ Some c → slice_get ds k ≡ Some d → c.0 ≡ d.0 → true ≡ fits (seen (of_child f c.1)) (seen (of_child f d.1))
    → RestFits f cs ds k → RestFits f cs ds (k + 1)
rest_fits_step f cs ds k c d isc isd slot fit r = rw add-one (
    let same : same_slot c.0 d.0 ≡ true = slot_same c.0 d.0 slot in
    let here : row_fits f (drop k cs) (drop k ds) ≡ row_fits f (drop (suc k) cs) (drop (suc k) ds) =
    split f cs ds k c d isc isd
    ∙ ap (λ (b : Bool). b && (fits (seen (of_child f c.1)) (seen (of_child f d.1)) && row_fits f (drop (suc k) cs) (drop (suc k) ds))) same
    ∙ ap (λ (b : Bool). b && row_fits f (drop (suc k) cs) (drop (suc k) ds)) (sym fit) in
    sym here ∙ r)

pub slot_refuses : (f : ℕ → Meaning) (cs ds : List (Slot × Option ItemKind)) (k : ℕ) (c d : Slot × Option ItemKind)
    → slice_get cs k ≡ Some c → slice_get ds k ≡ Some d → (c.0 ≡ d.0 → ⊥) → RestFits f cs ds k → row_fits f cs ds ≡ false
slot_refuses f cs ds k c d isc isd n r =
    sym r ∙ split f cs ds k c d isc isd
    ∙ ap (λ (b : Bool). b && (fits (seen (of_child f c.1)) (seen (of_child f d.1)) && row_fits f (drop (suc k) cs) (drop (suc k) ds))) (slot_differs c.0 d.0 n)

pub part_refuses : (f : ℕ → Meaning) (cs ds : List (Slot × Option ItemKind)) (k : ℕ) (c d : Slot × Option ItemKind)
    → slice_get cs k ≡ Some c → slice_get ds k ≡ Some d → false ≡ fits (seen (of_child f c.1)) (seen (of_child f d.1)) → RestFits f cs ds k → row_fits f cs ds ≡ false
part_refuses f cs ds k c d isc isd n r =
    sym r ∙ split f cs ds k c d isc isd
    ∙ ap (λ (b : Bool). same_slot c.0 d.0 && (b && row_fits f (drop (suc k) cs) (drop (suc k) ds))) (sym n)
    ∙ and_false (same_slot c.0 d.0)

pub rest_fits_end : (f : ℕ → Meaning) (cs ds : List (Slot × Option ItemKind)) (k : ℕ) → length cs ≡ k → length ds ≡ k → RestFits f cs ds k → row_fits f cs ds ≡ true
rest_fits_end f cs ds k lc ld r =
    let ec : drop k cs ≡ [] = subst (λ (n : ℕ). drop n cs ≡ []) lc (drop_past cs) in
    let ed : drop k ds ≡ [] = subst (λ (n : ℕ). drop n ds ≡ []) ld (drop_past ds) in
    sym r ∙ ap (λ (l : List (Slot × Option ItemKind)). row_fits f l (drop k ds)) ec ∙ ap (λ (l : List (Slot × Option ItemKind)). row_fits f [] l) ed

-- rows of two lengths don't fit
pub lengths_refuse : (f : ℕ → Meaning) (cs ds : List (Slot × Option ItemKind)) → (length cs ≡ length ds → ⊥) → row_fits f cs ds ≡ false
lengths_refuse f [] [] n = absurd (n refl)
lengths_refuse f [] (d ∷ ds) n = refl
lengths_refuse f (c ∷ cs) [] n = refl
lengths_refuse f (c ∷ cs) (d ∷ ds) n =
    let rest : row_fits f cs ds ≡ false = lengths_refuse f cs ds (λ e. n (ap suc e)) in
    ap (λ (b : Bool). same_slot c.0 d.0 && (fits (seen (of_child f c.1)) (seen (of_child f d.1)) && b)) rest
    ∙ ap (λ (b : Bool). same_slot c.0 d.0 && b) (and_false (fits (seen (of_child f c.1)) (seen (of_child f d.1))))
    ∙ and_false (same_slot c.0 d.0)

pub each_at : (P : ItemKind → Type 0) (cs : List (Slot × Option ItemKind)) (k : ℕ) (c : Slot × Option ItemKind) → EachKind P cs → slice_get cs k ≡ Some c → IfSome c.1 P
each_at P [] k c h is = absurd (cc)
each_at P (x ∷ cs) zero c h is = let e : x ≡ c = cc in subst (λ (y : Slot × Option ItemKind). IfSome y.1 P) e h.0
each_at P (x ∷ cs) (suc k) c h is = each_at P cs k c h.1 is

-- a part names what the kinds in the entry name
pub part_named : (P : ItemKind → Type 0) (e : Entry) (k : ℕ) (c : Slot × Option ItemKind) → EachKind P (children e) → slice_get (parts_of e) k ≡ Some c → IfSome c.1 P
part_named P (entries.Defined d) k c h is = each_at P (parts_of (entries.Defined d)) k c h is
part_named P (entries.Resource r) k c h is = absurd (cc)
part_named P (entries.Func f) k c h is = each_at P (parts_of (entries.Func f)) k c h is
part_named P (entries.Interface i) k c h is = absurd (cc)
part_named P (entries.World w) k c h is = absurd (cc)

pub no_constructor : (p q : Plain) (b : Bool) → (p ≡ q → ⊥) → same_plain p q && b ≡ false
no_constructor p q b n = ap (λ (a : Bool). a && b) (plain_differs p q n)

pub one_constructor : (p q : Plain) (b c : Bool) → p ≡ q → b ≡ c → same_plain p q && b ≡ c
one_constructor p q b c e h = ap (λ (a : Bool). a && b) (plain_same p q e) ∙ h
