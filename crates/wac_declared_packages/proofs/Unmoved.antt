-- A copy with the numbers of what it is a copy of.
use Rattle.wac_declared_packages.proofs.Common.{◌≡◌, ◌∙◌, ◌+◌, ◌<◌, ◌^◌, ℕ, List, [], ◌∷◌, length, refl, ap, subst, arith, Entry, ItemKind, KeepsMeanings, AreCopies, IsGrownBy, MeansTheSame}
use Rattle.std.proofs.Math.Nat.{zero-add}
use Rattle.std.proofs.Math.Path.{fun_ext}
use Rattle.wac_graph_types.specs.declared.kind.ValueType.{ValueType}
use Rattle.wac_graph_types.specs.declared.kind.ValueType.TheVariants as values
use Rattle.wac_graph_types.specs.declared.kind.«Type».{«Type» as ItemType}
use Rattle.wac_graph_types.specs.declared.kind.«Type».TheVariants as types
use Rattle.wac_graph_types.specs.declared.kind.ItemKind.TheVariants as kinds
use Rattle.wac_graph_types.specs.Meaning.{meaning}
use Rattle.wac_graph_types.specs.Table.{ItemsNamed}
use Rattle.wac_graph.specs.Moved.{moved, moved_value, moved_type, moved_items, ItemsFit}
use Rattle.wac_graph.proofs.Fitting.{items_fit}

value_stays : (v : ValueType) → moved_value 0 v ≡ v
value_stays (values.Primitive p) = refl
value_stays (values.Borrow id) = ap (λ (i : ℕ). values.Borrow (record { 0 = i })) (zero-add id.0)
value_stays (values.Own id) = ap (λ (i : ℕ). values.Own (record { 0 = i })) (zero-add id.0)
value_stays (values.Defined id) = ap (λ (i : ℕ). values.Defined (record { 0 = i })) (zero-add id.0)

type_stays : (t : ItemType) → moved_type 0 t ≡ t
type_stays (types.Resource id) = ap (λ (i : ℕ). types.Resource (record { 0 = i })) (zero-add id.0)
type_stays (types.Func id) = ap (λ (i : ℕ). types.Func (record { 0 = i })) (zero-add id.0)
type_stays (types.Value v) = ap types.Value (value_stays v)
type_stays (types.Interface id) = ap (λ (i : ℕ). types.Interface (record { 0 = i })) (zero-add id.0)
type_stays (types.World id) = ap (λ (i : ℕ). types.World (record { 0 = i })) (zero-add id.0)
type_stays (types.Module id) = refl

-- a kind that is moved by nothing stays
pub stays : (k : ItemKind) → moved 0 k ≡ k
stays (kinds.Ty t) = ap kinds.Ty (type_stays t)
stays (kinds.Func id) = ap (λ (i : ℕ). kinds.Func (record { 0 = i })) (zero-add id.0)
stays (kinds.Instance id) = ap (λ (i : ℕ). kinds.Instance (record { 0 = i })) (zero-add id.0)
stays (kinds.Component id) = ap (λ (i : ℕ). kinds.Component (record { 0 = i })) (zero-add id.0)
stays (kinds.Module id) = refl
stays (kinds.Value v) = ap kinds.Value (value_stays v)

-- so do named kinds
pub items_stay : (ds : List (List ℕ × ItemKind)) → moved_items 0 ds ≡ ds
items_stay [] = refl
items_stay (d ∷ ds) = (let one : (d.0, moved 0 d.1) ≡ d = ap (λ (k : ItemKind). (d.0, k)) (stays d.1) in let rest = items_stay ds in cc)

-- copies in an empty table mean what is copied
pub keeps_copied : (es new : List Entry) → MeansTheSame [] es new → KeepsMeanings es new
keeps_copied es new same = λ o k names.
    let f : (λ (i : ℕ). o (0 + i)) ≡ o = fun_ext (λ i. ap o (zero-add i)) in
    subst (λ (m : ItemKind). meaning o new m ≡ meaning o es k) (stays k)
    (subst (λ (g : ℕ → ℕ). meaning o new (moved 0 k) ≡ meaning g es k) f (same o k names))

copies_length : (n : ℕ) (es ds : List Entry) → AreCopies n es ds → length ds ≡ length es
copies_length n [] [] c = refl
copies_length n [] (d ∷ ds) c = absurd c
copies_length n (e ∷ es) [] c = absurd c
copies_length n (e ∷ es) (d ∷ ds) c = (let rest = copies_length n es ds c.1 in omega arith)

-- and there are as many
pub copied_length : (es new : List Entry) → IsGrownBy [] es new → length new ≡ length es
copied_length es new g = ap length g.1 ∙ copies_length 0 es g.0 g.2

pub items_fit_here : (es : List Entry) (ds : List (List ℕ × ItemKind)) → ItemsNamed es ds → length es < 2 ^ 64 → ItemsFit 0 ds
items_fit_here es ds named room = items_fit 0 es ds named (omega arith)
