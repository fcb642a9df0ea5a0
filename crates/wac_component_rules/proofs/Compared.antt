-- Kinds that are compared and are no aliases, with an entry or without.
use Rattle.std.proofs.Common.{◌≡◌, ℕ, Option, Some, None, Bool, true, false, sym, subst}
use Rattle.wac_graph_types.specs.declared.kind.ItemKind.{ItemKind}
use Rattle.wac_graph_types.specs.Kind.{form, named_by}
use Rattle.wac_graph_types.specs.Meaning.{Meaning, named}
use Rattle.wac_component_rules.specs.Seen as view
use Rattle.wac_component_rules.specs.Seen.{Seen, What, what, entry_seen}
use Rattle.wac_component_rules.specs.Fits.{fits, stands, is_type}
use Rattle.wac_component_rules.proofs.Entries.{other_form, nothing_fits, entry_refuses, type_fits, item_fits}

-- what a kind that is no alias is seen as
abbrev pub whole : (ℕ → Meaning) → ItemKind → Seen
whole f k = view.a_kind (form k) (entry_seen (named f (named_by k)))

pub forms_differ : (f : ℕ → Meaning) (a b : ItemKind) → (form a ≡ form b → ⊥) → false ≡ fits (whole f a) (whole f b)
forms_differ f a b n = sym (other_form (form a) (form b) (entry_seen (named f (named_by a))) (entry_seen (named f (named_by b))) n)

pub without_entries : (f : ℕ → Meaning) (a b : ItemKind) → form a ≡ form b → None ≡ named_by a → None ≡ named_by b → true ≡ fits (whole f a) (whole f b)
without_entries f a b same isa isb =
    subst (λ (x : Option ℕ). true ≡ fits (view.a_kind (form a) (entry_seen (named f x))) (whole f b)) isa
    (subst (λ (x : Option ℕ). true ≡ fits (view.a_kind (form a) view.nothing) (view.a_kind (form b) (entry_seen (named f x)))) isb
    (sym (nothing_fits (form a) (form b) same)))

-- a statement of two kinds is one of the entries that they name
of_entries : (P : What → What → Type 0) (f : ℕ → Meaning) (a b : ItemKind) (i j : ℕ) → Some i ≡ named_by a → Some j ≡ named_by b
    → P (what (f i)) (what (f j)) → P (entry_seen (named f (named_by a))) (entry_seen (named f (named_by b)))
of_entries P f a b i j isa isb h =
    subst (λ (x : Option ℕ). P (entry_seen (named f x)) (entry_seen (named f (named_by b)))) isa
    (subst (λ (y : Option ℕ). P (what (f i)) (entry_seen (named f y))) isb h)

pub entries_refuse : (f : ℕ → Meaning) (a b : ItemKind) (i j : ℕ) → Some i ≡ named_by a → Some j ≡ named_by b
    → stands (what (f i)) (what (f j)) ≡ false → false ≡ fits (whole f a) (whole f b)
entries_refuse f a b i j isa isb h =
    of_entries (λ w v. false ≡ fits (view.a_kind (form a) w) (view.a_kind (form b) v)) f a b i j isa isb
    (sym (entry_refuses (form a) (form b) (what (f i)) (what (f j)) h))

pub types_fit : (f : ℕ → Meaning) (a b : ItemKind) (i j : ℕ) (r : Bool) → form a ≡ form b → Some i ≡ named_by a → Some j ≡ named_by b → is_type (form a) ≡ true
    → stands (what (f i)) (what (f j)) ≡ true → r ≡ stands (what (f j)) (what (f i)) → r ≡ fits (whole f a) (whole f b)
types_fit f a b i j r same isa isb type h back =
    of_entries (λ w v. r ≡ fits (view.a_kind (form a) w) (view.a_kind (form b) v)) f a b i j isa isb
    (type_fits (form a) (form b) (what (f i)) (what (f j)) r same h type back)

pub items_fit : (f : ℕ → Meaning) (a b : ItemKind) (i j : ℕ) → form a ≡ form b → Some i ≡ named_by a → Some j ≡ named_by b → is_type (form a) ≡ false
    → stands (what (f i)) (what (f j)) ≡ true → true ≡ fits (whole f a) (whole f b)
items_fit f a b i j same isa isb type h =
    of_entries (λ w v. true ≡ fits (view.a_kind (form a) w) (view.a_kind (form b) v)) f a b i j isa isb
    (sym (item_fits (form a) (form b) (what (f i)) (what (f j)) same h type))
