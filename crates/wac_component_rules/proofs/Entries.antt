-- What entries and kinds of a table are to the rules.
use Rattle.std.proofs.Common.{◌≡◌, ◌∙◌, ◌<◌, ℕ, List, Option, Some, None, Bool, true, false, refl, sym, ap, subst, length}
use Rattle.std.specs.Prelude.{slice_get, option_map, IfSome, ◌&&◌, ◌||◌, not}
use Rattle.wac_graph_types.specs.declared.kind.ValueType.{ValueType}
use Rattle.wac_graph_types.specs.declared.kind.ValueType.TheVariants as values
use Rattle.wac_graph_types.specs.declared.kind.«Type».TheVariants as types
use Rattle.wac_graph_types.specs.declared.kind.ItemKind.{ItemKind}
use Rattle.wac_graph_types.specs.declared.kind.ItemKind.TheVariants as kinds
use Rattle.wac_graph_types.specs.declared.kind.Sort.{Sort}
use Rattle.wac_graph_types.specs.declared.kind.Sort.TheVariants as sorts
use Rattle.wac_graph_types.specs.declared.entry.Entry.{Entry}
use Rattle.wac_graph_types.specs.declared.entry.Entry.TheVariants as entries
use Rattle.wac_graph_types.specs.declared.entry.DefinedType.{DefinedType}
use Rattle.wac_graph_types.specs.declared.entry.DefinedType.TheVariants as defined
use Rattle.wac_graph_types.specs.Kind.{Form, form, named_by, sort_named, value_form, value_named_by}
use Rattle.wac_graph_types.specs.Kind as forms
use Rattle.wac_graph_types.specs.Entry.{children, sort_of, label, defined_label}
use Rattle.wac_graph_types.specs.Meaning.{Meaning, row, meaning_at, IsEarlier}
use Rattle.wac_graph_types.specs.Shape.{slot_import}
use Rattle.wac_graph_types.specs.Table.{Names}
use Rattle.wac_graph_types.proofs.Meanings.{meaning_at_entry}
use Rattle.wac_component_rules.specs.declared.sides.Side.TheVariants as sides
use Rattle.wac_component_rules.specs.Seen as view
use Rattle.wac_component_rules.specs.Seen.{Seen, What, Items, plain_what, seen, what, entry_seen, items, entry_what, through}
use Rattle.wac_component_rules.specs.Fits.{fits, stands, serves, same_form, is_type}
use Rattle.wac_component_rules.specs.Parts.{IsSided}
use Rattle.wac_component_rules.specs.Sides.{side_fits, parts_fit}
use Rattle.wac_component_rules.proofs.Turning.{serves_stands, taken_is_found, form_same, form_differs, and_false}

-- what an entry of a table is, of its label and its parts
pub what_at : (o : ℕ → ℕ) (es : List Entry) (i : ℕ) (e : Entry) → IsEarlier es → slice_get es i ≡ Some e
    → what (meaning_at o es i) ≡ entry_what (label (o i) e) (items (row (meaning_at o es) (children e)))
what_at o es i e earlier is = ap what (meaning_at_entry o es i e earlier is)

stands_at : (o : ℕ → ℕ) (es : List Entry) (i j : ℕ) (d e : Entry) → IsEarlier es → slice_get es i ≡ Some d → slice_get es j ≡ Some e
    → stands (what (meaning_at o es i)) (what (meaning_at o es j))
    ≡ stands (entry_what (label (o i) d) (items (row (meaning_at o es) (children d)))) (entry_what (label (o j) e) (items (row (meaning_at o es) (children e))))
stands_at o es i j d e earlier isd ise =
    ap (λ (w : What). stands w (what (meaning_at o es j))) (what_at o es i d earlier isd)
    ∙ ap (λ (w : What). stands (entry_what (label (o i) d) (items (row (meaning_at o es) (children d)))) w) (what_at o es j e earlier ise)

-- ---- entries of one sort

pub one_sort : (es : List Entry) (i j : ℕ) (d e : Entry) → slice_get es i ≡ Some d → slice_get es j ≡ Some e → option_map sort_of (slice_get es i) ≡ option_map sort_of (slice_get es j) → sort_of d ≡ sort_of e
one_sort es i j d e isd ise h =
    let both : option_map sort_of (Some d) ≡ option_map sort_of (Some e) = sym (ap (option_map sort_of) isd) ∙ h ∙ ap (option_map sort_of) ise in cc

-- defined types and function types stand part by part
abbrev pub IsMade : Entry → Type 0
IsMade (entries.Defined d) = Unit {0}
IsMade (entries.Resource r) = ⊥
IsMade (entries.Func f) = Unit {0}
IsMade (entries.Interface i) = ⊥
IsMade (entries.World w) = ⊥

made_label : (d : DefinedType) (xs : Items) → plain_what (defined_label d) xs ≡ view.made_of (defined_label d) xs
made_label (defined.Tuple t) xs = refl
made_label (defined.List t) xs = refl
made_label (defined.Option t) xs = refl
made_label (defined.Result o e) xs = refl
made_label (defined.Variant t) xs = refl
made_label (defined.Record t) xs = refl
made_label (defined.Flags t) xs = refl
made_label (defined.Enum t) xs = refl
made_label (defined.Alias t) xs = refl
made_label (defined.Stream t) xs = refl
made_label (defined.Future t) xs = refl

both_made : (f : ℕ → Meaning) (d e : DefinedType)
    → stands (plain_what (defined_label d) (items (row f (children (entries.Defined d))))) (plain_what (defined_label e) (items (row f (children (entries.Defined e))))) ≡ parts_fit f (entries.Defined d) (entries.Defined e)
both_made f d e =
    ap (λ (w : What). stands w (plain_what (defined_label e) (items (row f (children (entries.Defined e)))))) (made_label d (items (row f (children (entries.Defined d)))))
    ∙ ap (stands (view.made_of (defined_label d) (items (row f (children (entries.Defined d)))))) (made_label e (items (row f (children (entries.Defined e)))))

entries_made : (f : ℕ → Meaning) (m n : ℕ) (d e : Entry) → IsMade d → sort_of d ≡ sort_of e
    → stands (entry_what (label m d) (items (row f (children d)))) (entry_what (label n e) (items (row f (children e)))) ≡ parts_fit f d e
entries_made f m n (entries.Defined d) (entries.Defined e) h s = both_made f d e
entries_made f m n (entries.Defined d) (entries.Resource r) h s = absurd (cc)
entries_made f m n (entries.Defined d) (entries.Func g) h s = absurd (cc)
entries_made f m n (entries.Defined d) (entries.Interface i) h s = absurd (cc)
entries_made f m n (entries.Defined d) (entries.World w) h s = absurd (cc)
entries_made f m n (entries.Func d) (entries.Func e) h s = refl
entries_made f m n (entries.Func d) (entries.Defined e) h s = absurd (cc)
entries_made f m n (entries.Func d) (entries.Resource r) h s = absurd (cc)
entries_made f m n (entries.Func d) (entries.Interface i) h s = absurd (cc)
entries_made f m n (entries.Func d) (entries.World w) h s = absurd (cc)
entries_made f m n (entries.Resource r) e h s = absurd h
entries_made f m n (entries.Interface i) e h s = absurd h
entries_made f m n (entries.World w) e h s = absurd h

pub made_stands : (o : ℕ → ℕ) (es : List Entry) (i j : ℕ) (d e : Entry) → IsEarlier es → slice_get es i ≡ Some d → slice_get es j ≡ Some e
    → IsMade d → sort_of d ≡ sort_of e → stands (what (meaning_at o es i)) (what (meaning_at o es j)) ≡ parts_fit (meaning_at o es) d e
made_stands o es i j d e earlier isd ise h s = stands_at o es i j d e earlier isd ise ∙ entries_made (meaning_at o es) (o i) (o j) d e h s

-- interfaces stand by their exports, worlds by their imports, the other way round, and their exports
abbrev pub HasSides : Sort → Type 0
HasSides sorts.Defined = ⊥
HasSides sorts.Resource = ⊥
HasSides sorts.Func = ⊥
HasSides sorts.Interface = Unit {0}
HasSides sorts.World = Unit {0}

abbrev pub by_sides : Sort → (ℕ → Meaning) → Entry → Entry → Bool
by_sides sorts.Interface f d e = side_fits f sides.Exports d e
by_sides sorts.World f d e = side_fits f sides.Imports e d && side_fits f sides.Exports d e
by_sides _ f d e = false

pub sided : (d : Entry) (s : Sort) → HasSides s → sort_of d ≡ s → IsSided d
sided (entries.Interface d) s h is = tt
sided (entries.World d) s h is = tt
sided (entries.Defined d) s h is = absurd (subst HasSides (sym is) h)
sided (entries.Resource d) s h is = absurd (subst HasSides (sym is) h)
sided (entries.Func d) s h is = absurd (subst HasSides (sym is) h)

both_sided : (f : ℕ → Meaning) (m n : ℕ) (s : Sort) (d e : Entry) → HasSides s → sort_of d ≡ s → sort_of e ≡ s
    → stands (entry_what (label m d) (items (row f (children d)))) (entry_what (label n e) (items (row f (children e)))) ≡ by_sides s f d e
both_sided f m n sorts.Interface (entries.Interface d) (entries.Interface e) h isd ise = refl
both_sided f m n sorts.Interface (entries.Interface d) (entries.Defined e) h isd ise = absurd (cc)
both_sided f m n sorts.Interface (entries.Interface d) (entries.Resource e) h isd ise = absurd (cc)
both_sided f m n sorts.Interface (entries.Interface d) (entries.Func e) h isd ise = absurd (cc)
both_sided f m n sorts.Interface (entries.Interface d) (entries.World e) h isd ise = absurd (cc)
both_sided f m n sorts.Interface (entries.Defined d) e h isd ise = absurd (cc)
both_sided f m n sorts.Interface (entries.Resource d) e h isd ise = absurd (cc)
both_sided f m n sorts.Interface (entries.Func d) e h isd ise = absurd (cc)
both_sided f m n sorts.Interface (entries.World d) e h isd ise = absurd (cc)
both_sided f m n sorts.World (entries.World d) (entries.World e) h isd ise =
    ap (λ (b : Bool). b && side_fits f sides.Exports (entries.World d) (entries.World e))
    (taken_is_found slot_import (items (row f (children (entries.World d)))) (items (row f (children (entries.World e)))))
both_sided f m n sorts.World (entries.World d) (entries.Defined e) h isd ise = absurd (cc)
both_sided f m n sorts.World (entries.World d) (entries.Resource e) h isd ise = absurd (cc)
both_sided f m n sorts.World (entries.World d) (entries.Func e) h isd ise = absurd (cc)
both_sided f m n sorts.World (entries.World d) (entries.Interface e) h isd ise = absurd (cc)
both_sided f m n sorts.World (entries.Defined d) e h isd ise = absurd (cc)
both_sided f m n sorts.World (entries.Resource d) e h isd ise = absurd (cc)
both_sided f m n sorts.World (entries.Func d) e h isd ise = absurd (cc)
both_sided f m n sorts.World (entries.Interface d) e h isd ise = absurd (cc)
both_sided f m n sorts.Defined d e h isd ise = absurd h
both_sided f m n sorts.Resource d e h isd ise = absurd h
both_sided f m n sorts.Func d e h isd ise = absurd h

pub sided_stands : (o : ℕ → ℕ) (es : List Entry) (i j : ℕ) (s : Sort) (d e : Entry) → IsEarlier es → slice_get es i ≡ Some d → slice_get es j ≡ Some e
    → HasSides s → sort_of d ≡ s → sort_of e ≡ s → stands (what (meaning_at o es i)) (what (meaning_at o es j)) ≡ by_sides s (meaning_at o es) d e
sided_stands o es i j s d e earlier isd ise h hd he = stands_at o es i j d e earlier isd ise ∙ both_sided (meaning_at o es) (o i) (o j) s d e h hd he

-- ---- kinds

sort_of_value : forms.ValueForm → Sort
sort_of_value (forms.primitive p) = sorts.Defined
sort_of_value forms.borrow = sorts.Resource
sort_of_value forms.own = sorts.Resource
sort_of_value forms.defined = sorts.Defined

sort_of_form : Form → Sort
sort_of_form forms.a_resource = sorts.Resource
sort_of_form forms.a_func = sorts.Func
sort_of_form forms.an_interface = sorts.Interface
sort_of_form forms.a_world = sorts.World
sort_of_form forms.func = sorts.Func
sort_of_form forms.instance = sorts.Interface
sort_of_form forms.component = sorts.World
sort_of_form (forms.a_core_module n) = sorts.Defined
sort_of_form (forms.core_module n) = sorts.Defined
sort_of_form (forms.a_value v) = sort_of_value v
sort_of_form (forms.value v) = sort_of_value v

value_sort : (v : ValueType) → forms.value_sort_named v ≡ sort_of_value (value_form v)
unfolding sort_of_value
value_sort (values.Primitive p) = refl
value_sort (values.Borrow id) = refl
value_sort (values.Own id) = refl
value_sort (values.Defined id) = refl

kind_sort : (k : ItemKind) → sort_named k ≡ sort_of_form (form k)
unfolding sort_of_form
kind_sort (kinds.Ty (types.Resource id)) = refl
kind_sort (kinds.Ty (types.Func id)) = refl
kind_sort (kinds.Ty (types.Value v)) = value_sort v
kind_sort (kinds.Ty (types.Interface id)) = refl
kind_sort (kinds.Ty (types.World id)) = refl
kind_sort (kinds.Ty (types.Module id)) = refl
kind_sort (kinds.Func id) = refl
kind_sort (kinds.Instance id) = refl
kind_sort (kinds.Component id) = refl
kind_sort (kinds.Module id) = refl
kind_sort (kinds.Value v) = value_sort v

-- what a kind names is in the table, and of its sort
pub names_number : (es : List Entry) (k : ItemKind) (i : ℕ) → Names es k → Some i ≡ named_by k → (i < length es) × (option_map sort_of (slice_get es i) ≡ Some (sort_named k))
names_number es k i h is = (
  subst (λ (x : Option ℕ). IfSome x (λ n. n < length es)) (sym is) h.0,
  subst (λ (x : Option ℕ). IfSome x (λ n. option_map sort_of (slice_get es n) ≡ Some (sort_named k))) (sym is) h.1,
)

pub kinds_of_one_sort : (es : List Entry) (a b : ItemKind) (i j : ℕ) → Names es a → Names es b → form a ≡ form b → Some i ≡ named_by a → Some j ≡ named_by b
    → option_map sort_of (slice_get es i) ≡ option_map sort_of (slice_get es j)
kinds_of_one_sort es a b i j ha hb same isa isb =
    let one : sort_named a ≡ sort_named b = kind_sort a ∙ ap sort_of_form same ∙ sym (kind_sort b) in
    (names_number es a i ha isa).1 ∙ ap Some one ∙ sym ((names_number es b j hb isb).1)

pub or_true : (b : Bool) → b || true ≡ true
or_true true = refl
or_true false = refl

-- two kinds of one form fit where their entries stand, types both ways
pub other_form : (F G : Form) (w v : What) → (F ≡ G → ⊥) → fits (view.a_kind F w) (view.a_kind G v) ≡ false
other_form F G w v n = ap (λ (b : Bool). b && (stands w v && (not (is_type F) || serves w v))) (form_differs F G n)

one_form : (F G : Form) (w v : What) → F ≡ G → fits (view.a_kind F w) (view.a_kind G v) ≡ stands w v && (not (is_type F) || serves w v)
one_form F G w v e = ap (λ (b : Bool). b && (stands w v && (not (is_type F) || serves w v))) (form_same F G e)

pub nothing_fits : (F G : Form) → F ≡ G → fits (view.a_kind F view.nothing) (view.a_kind G view.nothing) ≡ true
nothing_fits F G e = one_form F G view.nothing view.nothing e ∙ or_true (not (is_type F))

pub entry_refuses : (F G : Form) (w v : What) → stands w v ≡ false → fits (view.a_kind F w) (view.a_kind G v) ≡ false
entry_refuses F G w v h =
    ap (λ (b : Bool). same_form F G && (b && (not (is_type F) || serves w v))) h ∙ and_false (same_form F G)

pub type_fits : (F G : Form) (w v : What) (r : Bool) → F ≡ G → stands w v ≡ true → is_type F ≡ true → r ≡ stands v w → r ≡ fits (view.a_kind F w) (view.a_kind G v)
type_fits F G w v r e h t back =
    back ∙ sym (serves_stands w v)
    ∙ sym (one_form F G w v e
    ∙ ap (λ (b : Bool). b && (not (is_type F) || serves w v)) h
    ∙ ap (λ (b : Bool). not b || serves w v) t)

pub item_fits : (F G : Form) (w v : What) → F ≡ G → stands w v ≡ true → is_type F ≡ false → fits (view.a_kind F w) (view.a_kind G v) ≡ true
item_fits F G w v e h t =
    one_form F G w v e
    ∙ ap (λ (b : Bool). b && (not (is_type F) || serves w v)) h
    ∙ ap (λ (b : Bool). not b || serves w v) t

-- of two kinds of one form both name an entry, or none
value_names : forms.ValueForm → Bool
value_names (forms.primitive p) = false
value_names forms.borrow = true
value_names forms.own = true
value_names forms.defined = true

form_names : Form → Bool
form_names forms.a_resource = true
form_names forms.a_func = true
form_names forms.an_interface = true
form_names forms.a_world = true
form_names forms.func = true
form_names forms.instance = true
form_names forms.component = true
form_names (forms.a_core_module n) = false
form_names (forms.core_module n) = false
form_names (forms.a_value v) = value_names v
form_names (forms.value v) = value_names v

is_some : Option ℕ → Bool
is_some None = false
is_some (Some n) = true

value_named : (v : ValueType) → is_some (value_named_by v) ≡ value_names (value_form v)
unfolding is_some value_names
value_named (values.Primitive p) = refl
value_named (values.Borrow id) = refl
value_named (values.Own id) = refl
value_named (values.Defined id) = refl

kind_named : (k : ItemKind) → is_some (named_by k) ≡ form_names (form k)
unfolding is_some form_names
kind_named (kinds.Ty (types.Resource id)) = refl
kind_named (kinds.Ty (types.Func id)) = refl
kind_named (kinds.Ty (types.Value v)) = value_named v
kind_named (kinds.Ty (types.Interface id)) = refl
kind_named (kinds.Ty (types.World id)) = refl
kind_named (kinds.Ty (types.Module id)) = refl
kind_named (kinds.Func id) = refl
kind_named (kinds.Instance id) = refl
kind_named (kinds.Component id) = refl
kind_named (kinds.Module id) = refl
kind_named (kinds.Value v) = value_named v

pub both_name : (a b : ItemKind) (i : ℕ) → form a ≡ form b → None ≡ named_by a → Some i ≡ named_by b → ⊥
unfolding is_some
both_name a b i same isa isb =
    let e : is_some None ≡ is_some (Some i) = ap is_some isa ∙ kind_named a ∙ ap form_names same ∙ sym (kind_named b) ∙ sym (ap is_some isb) in cc
