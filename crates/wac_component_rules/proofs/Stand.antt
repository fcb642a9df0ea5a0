-- Entries of a table that are compared, and what is read of them.
use Rattle.std.proofs.Common.{◌≡◌, ◌∙◌, ◌*◌, ◌≤◌, ℕ, suc, List, [], ◌∷◌, Option, Some, None, Bool, true, false, refl, sym, ap, subst, arith, length}
use Rattle.std.specs.Prelude.{slice_get, option_map, IfSome, ◌&&◌, IsTrue, ◌↔◌, String}
use Rattle.std.specs.declared.alloc.Global.{Global}
use Rattle.wac_graph_types.specs.Names.{by_name}
use Rattle.wac_graph_types.specs.declared.kind.ItemKind.{ItemKind}
use Rattle.wac_graph_types.specs.declared.kind.Sort.TheVariants as sorts
use Rattle.wac_graph_types.specs.declared.entry.Entry.{Entry}
use Rattle.wac_graph_types.specs.Entry.{Slot, sort_of}
use Rattle.wac_graph_types.specs.Meaning.{Meaning, of_child, meaning_at, NamesBefore, IsEarlier}
use Rattle.wac_graph_types.specs.Scope.{Named, look_up}
use Rattle.wac_graph_types.specs.Table.{IsTable, IsOfSort, Names}
use Rattle.wac_graph_types.proofs.Tables.{entry_names, each_entry_named}
use Rattle.wac_component_rules.specs.declared.sides.Side.{Side}
use Rattle.wac_component_rules.specs.declared.sides.Side.TheVariants as sides
use Rattle.wac_component_rules.specs.Seen.{seen, what}
use Rattle.wac_component_rules.specs.Fits.{fits, stands, same_plain, each_found}
use Rattle.wac_component_rules.specs.Parts.{parts_of, plain_of, side_items, OfOneSort, IsSided}
use Rattle.wac_component_rules.specs.Sides.{side_fits, parts_fit}
use Rattle.wac_component_rules.proofs.Turning.{and_false}
use Rattle.wac_component_rules.proofs.Aliases.{entry_there}
use Rattle.wac_component_rules.proofs.Entries.{IsMade, made_stands, sided, sided_stands}
use Rattle.wac_component_rules.proofs.Measures.{above, above_within}
use Rattle.wac_component_rules.proofs.PartRows.{row_fits, part_named, no_constructor, one_constructor}
use Rattle.wac_component_rules.proofs.SideRows.{seen_items, fit_items, side_is, side_each, named_at, named_found}

-- what holds of two entries of a table holds of whatever is read there
pub same_entries : (P : Entry → Entry → Type 0) (es : List Entry) (i j : ℕ) (d e : Entry) → slice_get es i ≡ Some d → slice_get es j ≡ Some e → P d e
    → (x y : Entry) → slice_get es i ≡ Some x → slice_get es j ≡ Some y → P x y
same_entries P es i j d e isd ise h x y isx isy =
    let first : Some d ≡ Some x = sym isd ∙ isx in
    let second : Some e ≡ Some y = sym ise ∙ isy in
    let p : d ≡ x = cc in
    let q : e ≡ y = cc in
    subst (λ (z : Entry). P z y) p (subst (λ (z : Entry). P d z) q h)

pub one_entry : (es : List Entry) (i : ℕ) (d e : Entry) → slice_get es i ≡ Some d → slice_get es i ≡ Some e → d ≡ e
one_entry es i d e isd ise = let both : Some d ≡ Some e = sym isd ∙ ise in cc

-- the other entry of a pair of one sort
other : (es : List Entry) (i j : ℕ) (d : Entry) → slice_get es i ≡ Some d → OfOneSort es i j → (e : Entry) × (slice_get es j ≡ Some e) × (sort_of e ≡ sort_of d)
other es i j d isd sorts = entry_there es j (sort_of d) (sym sorts ∙ ap (option_map sort_of) isd)

pub made_answer : (o : ℕ → ℕ) (es : List Entry) (i j : ℕ) (d : Entry) (r : Bool) → IsEarlier es → slice_get es i ≡ Some d → OfOneSort es i j → IsMade d
    → ((x y : Entry) → slice_get es i ≡ Some x → slice_get es j ≡ Some y → r ≡ parts_fit (meaning_at o es) x y)
    → r ≡ stands (what (meaning_at o es i)) (what (meaning_at o es j))
made_answer o es i j d r earlier isd sorts made h =
    let there = other es i j d isd sorts in
    h d there.0 isd there.1 ∙ sym (made_stands o es i j d there.0 earlier isd there.1 made (sym there.2))

pub interface_answer : (o : ℕ → ℕ) (es : List Entry) (i j : ℕ) (d : Entry) (r : Bool) → IsEarlier es → slice_get es i ≡ Some d → OfOneSort es i j → sort_of d ≡ sorts.Interface
    → ((x y : Entry) → slice_get es i ≡ Some x → slice_get es j ≡ Some y → IsSided x → IsSided y → r ≡ side_fits (meaning_at o es) sides.Exports x y)
    → r ≡ stands (what (meaning_at o es i)) (what (meaning_at o es j))
interface_answer o es i j d r earlier isd alike k h =
    let there = other es i j d isd alike in
    let l : sort_of there.0 ≡ sorts.Interface = there.2 ∙ k in
    h d there.0 isd there.1 (sided d sorts.Interface tt k) (sided there.0 sorts.Interface tt l) ∙ sym (sided_stands o es i j sorts.Interface d there.0 earlier isd there.1 tt k l)

-- a world's imports decide first
world_is : (o : ℕ → ℕ) (es : List Entry) (i j : ℕ) (d e : Entry) (b : Bool) → IsEarlier es → slice_get es i ≡ Some d → slice_get es j ≡ Some e → sort_of d ≡ sorts.World → sort_of e ≡ sorts.World
    → b ≡ side_fits (meaning_at o es) sides.Imports e d → stands (what (meaning_at o es i)) (what (meaning_at o es j)) ≡ b && side_fits (meaning_at o es) sides.Exports d e
world_is o es i j d e b earlier isd ise k l imports =
    sided_stands o es i j sorts.World d e earlier isd ise tt k l ∙ ap (λ (x : Bool). x && side_fits (meaning_at o es) sides.Exports d e) (sym imports)

pub world_answer : (o : ℕ → ℕ) (es : List Entry) (i j : ℕ) (d : Entry) (r : Bool) → IsEarlier es → slice_get es i ≡ Some d → OfOneSort es i j → sort_of d ≡ sorts.World
    → ((x y : Entry) → slice_get es j ≡ Some x → slice_get es i ≡ Some y → IsSided x → IsSided y → true ≡ side_fits (meaning_at o es) sides.Imports x y)
    → ((x y : Entry) → slice_get es i ≡ Some x → slice_get es j ≡ Some y → IsSided x → IsSided y → r ≡ side_fits (meaning_at o es) sides.Exports x y)
    → r ≡ stands (what (meaning_at o es i)) (what (meaning_at o es j))
world_answer o es i j d r earlier isd alike k imports exports =
    let there = other es i j d isd alike in
    let l : sort_of there.0 ≡ sorts.World = there.2 ∙ k in
    let one = sided d sorts.World tt k in
    let two = sided there.0 sorts.World tt l in
    exports d there.0 isd there.1 one two ∙ sym (world_is o es i j d there.0 true earlier isd there.1 k l (imports there.0 d there.1 isd two one))

pub world_refuses : (o : ℕ → ℕ) (es : List Entry) (i j : ℕ) (d : Entry) → IsEarlier es → slice_get es i ≡ Some d → OfOneSort es i j → sort_of d ≡ sorts.World
    → ((x y : Entry) → slice_get es j ≡ Some x → slice_get es i ≡ Some y → IsSided x → IsSided y → false ≡ side_fits (meaning_at o es) sides.Imports x y)
    → false ≡ stands (what (meaning_at o es i)) (what (meaning_at o es j))
world_refuses o es i j d earlier isd alike k imports =
    let there = other es i j d isd alike in
    let l : sort_of there.0 ≡ sorts.World = there.2 ∙ k in
    let one = sided d sorts.World tt k in
    let two = sided there.0 sorts.World tt l in
    sym (world_is o es i j d there.0 false earlier isd there.1 k l (imports there.0 d there.1 isd two one))

-- ---- part by part

pub constructors_differ : (f : ℕ → Meaning) (d e : Entry) → (plain_of d ≡ plain_of e → ⊥) → false ≡ parts_fit f d e
constructors_differ f d e n = sym (no_constructor (plain_of d) (plain_of e) (row_fits f (parts_of d) (parts_of e)) n)

pub rows_refuse : (f : ℕ → Meaning) (d e : Entry) → row_fits f (parts_of d) (parts_of e) ≡ false → false ≡ parts_fit f d e
rows_refuse f d e h = sym (ap (λ (b : Bool). same_plain (plain_of d) (plain_of e) && b) h ∙ and_false (same_plain (plain_of d) (plain_of e)))

pub rows_fit : (f : ℕ → Meaning) (d e : Entry) → plain_of d ≡ plain_of e → row_fits f (parts_of d) (parts_of e) ≡ true → true ≡ parts_fit f d e
rows_fit f d e same h = sym (one_constructor (plain_of d) (plain_of e) (row_fits f (parts_of d) (parts_of e)) true same h)

earlier_one : (es : List Entry) (i : ℕ) (x : Option ItemKind) → IfSome x (λ k. NamesBefore i k × IsOfSort es k) → IfSome x (NamesBefore i)
earlier_one es i None h = h
earlier_one es i (Some k) h = h.0

-- a part is below its entry, and names what is in the table
pub part_below : (es : List Entry) (i : ℕ) (e : Entry) (k : ℕ) (c : Slot × Option ItemKind) (x : Option ItemKind) → IsTable es → slice_get es i ≡ Some e → slice_get (parts_of e) k ≡ Some c → x ≡ c.1
    → (above x ≤ 4 * i) × IfSome x (Names es)
part_below es i e k c x table isd there is =
    subst (λ (y : Option ItemKind). (above y ≤ 4 * i) × IfSome y (Names es)) (sym is) (
      above_within i c.1 (earlier_one es i c.1 (part_named (λ k. NamesBefore i k × IsOfSort es k) e k c (entry_names es i e table isd) there)),
      part_named (Names es) e k c (each_entry_named es table i e isd) there,
    )

-- parts are compared by their kinds
pub of_parts : (f : ℕ → Meaning) (x y p q : Option ItemKind) (r : Bool) → x ≡ p → y ≡ q → r ≡ fits (seen (of_child f x)) (seen (of_child f y)) → r ≡ fits (seen (of_child f p)) (seen (of_child f q))
of_parts f x y p q r isx isy h =
    subst (λ (z : Option ItemKind). r ≡ fits (seen (of_child f z)) (seen (of_child f q))) isx
    (subst (λ (z : Option ItemKind). r ≡ fits (seen (of_child f x)) (seen (of_child f z))) isy h)

-- ---- imports and exports

pub sides_fit : (f : ℕ → Meaning) (side : Side) (given asked : Named ItemKind) (r : Bool) (d e : Entry) → given ≡ side_items side d → asked ≡ side_items side e
    → r ≡ each_found (fit_items f given) (seen_items f asked) → IsSided d → IsSided e → r ≡ side_fits f side d e
sides_fit f side given asked r d e isd ise h hd he =
    h ∙ sym (side_is f side d e hd he
    ∙ ap (λ (l : Named ItemKind). each_found (fit_items f l) (seen_items f (side_items side e))) (sym isd)
    ∙ ap (λ (l : Named ItemKind). each_found (fit_items f given) (seen_items f l)) (sym ise))

-- where nothing is given, nothing may be asked
pub nothing_given : (f : ℕ → Meaning) (asked : List (String Global × ItemKind)) (r : Bool) → (IsTrue r ↔ (length asked ≡ 0)) → r ≡ each_found (fit_items f []) (seen_items f (by_name asked))
nothing_given f [] true h = refl
nothing_given f [] false h = absurd (let bad = h.1 refl in cc)
nothing_given f (e ∷ asked) true h = absurd (let bad = h.0 refl in omega (arith, bad))
nothing_given f (e ∷ asked) false h = refl

pub named_length : (all : List (String Global × ItemKind)) → length (by_name all) ≡ length all
named_length [] = refl
named_length (e ∷ all) = ap suc (named_length all)

pub offer_below : (es : List Entry) (i : ℕ) (e : Entry) (side : Side) (all : Named ItemKind) (name : List ℕ) (k : ItemKind) → IsTable es → slice_get es i ≡ Some e → all ≡ side_items side e → Some k ≡ look_up name all
    → (above (Some k) ≤ 4 * i) × Names es k
offer_below es i e side all name k table isd is there =
    let found = subst (λ (l : Named ItemKind). Some k ≡ look_up name l) is there in
    let before = named_found (λ k. NamesBefore i k × IsOfSort es k) (side_items side e) name k (side_each (λ k. NamesBefore i k × IsOfSort es k) side e (entry_names es i e table isd)) found in
    (above_within i (Some k) before.0, named_found (Names es) (side_items side e) name k (side_each (Names es) side e (each_entry_named es table i e isd)) found)

pub asked_below : (es : List Entry) (i : ℕ) (e : Entry) (side : Side) (all : Named ItemKind) (n : ℕ) (x : List ℕ × ItemKind) → IsTable es → slice_get es i ≡ Some e → all ≡ side_items side e → slice_get all n ≡ Some x
    → (above (Some x.1) ≤ 4 * i) × Names es x.1
asked_below es i e side all n x table isd is there =
    let found = subst (λ (l : Named ItemKind). slice_get l n ≡ Some x) is there in
    let before = named_at (λ k. NamesBefore i k × IsOfSort es k) (side_items side e) n x (side_each (λ k. NamesBefore i k × IsOfSort es k) side e (entry_names es i e table isd)) found in
    (above_within i (Some x.1) before.0, named_at (Names es) (side_items side e) n x (side_each (Names es) side e (each_entry_named es table i e isd)) found)
