-- What falls as kinds and entries are compared.
use Rattle.std.proofs.Common.{◌≡◌, ◌+◌, ◌*◌, ◌<◌, ◌≤◌, ℕ, suc, Option, Some, None, arith, subst, sym}
use Rattle.std.specs.Prelude.{IfSome}
use Rattle.wac_graph_types.specs.declared.kind.ValueType.{ValueType}
use Rattle.wac_graph_types.specs.declared.kind.ValueType.TheVariants as values
use Rattle.wac_graph_types.specs.declared.kind.DefinedTypeId.{DefinedTypeId}
use Rattle.wac_graph_types.specs.declared.kind.ItemKind.{ItemKind}
use Rattle.wac_graph_types.specs.declared.kind.ItemKind.TheVariants as kinds
use Rattle.wac_graph_types.specs.Kind.{named_by, value_named_by}
use Rattle.wac_graph_types.specs.Meaning.{NamesBefore}

-- what is above four times the entry that a kind names
abbrev pub above_id : Option ℕ → ℕ
above_id None = 0
above_id (Some n) = 4 * n + 4

abbrev pub above : Option ItemKind → ℕ
above None = 0
above (Some k) = above_id (named_by k)

id_within : (i : ℕ) (x : Option ℕ) → IfSome x (λ n. n < i) → above_id x ≤ 4 * i
id_within i None h = omega arith
id_within i (Some n) h = omega arith

-- a kind in an entry is below the entry
pub above_within : (i : ℕ) (x : Option ItemKind) → IfSome x (NamesBefore i) → above x ≤ 4 * i
above_within i None h = omega arith
above_within i (Some k) h = id_within i (named_by k) h

id_follows : (x y : Option ℕ) → ((n : ℕ) → IfSome x (λ m. m < n) → IfSome y (λ m. m < n)) → above_id y ≤ above_id x
id_follows x None h = omega arith
id_follows None (Some n) h = absurd (let bad : n < 0 = h 0 tt in omega arith)
id_follows (Some m) (Some n) h = let w : n < suc m = h (suc m) (omega arith) in omega arith

-- a kind that names nothing later is no higher
pub above_follows : (a b : ItemKind) → ((n : ℕ) → NamesBefore n a → NamesBefore n b) → above (Some b) ≤ above (Some a)
above_follows a b h = id_follows (named_by a) (named_by b) h

-- what an alias is of is below the alias
pub above_defined : (v : ValueType) (id : DefinedTypeId) (t : ValueType) → v ≡ values.Defined id → NamesBefore id.0 (kinds.Value t) → above_id (value_named_by t) < above_id (value_named_by v)
above_defined v id t is before =
    let w = above_within id.0 (Some (kinds.Value t)) before in
    subst (λ (x : ValueType). above_id (value_named_by t) < above_id (value_named_by x)) (sym is) (omega (arith, w))

-- kinds that name nothing later than two given ones are no higher
pub above_both : (a b : Option ItemKind) (x y p q : ItemKind) → a ≡ Some x → b ≡ Some y → ((n : ℕ) → NamesBefore n x → NamesBefore n p) → ((n : ℕ) → NamesBefore n y → NamesBefore n q)
    → above_id (named_by p) + above_id (named_by q) ≤ above a + above b
above_both a b x y p q isa isb h k =
    let first = above_follows x p h in
    let second = above_follows y q k in
    subst (λ (z : Option ItemKind). above_id (named_by p) + above_id (named_by q) ≤ above z + above b) (sym isa)
    (subst (λ (z : Option ItemKind). above_id (named_by p) + above_id (named_by q) ≤ above_id (named_by x) + above z) (sym isb) (omega (arith, first, second)))
