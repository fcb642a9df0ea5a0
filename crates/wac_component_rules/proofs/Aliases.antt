-- What aliases are seen as, and kinds that are none.
use Rattle.std.proofs.Common.{◌≡◌, ◌∙◌, ◌<◌, ℕ, List, Option, Some, None, refl, sym, ap, subst, length}
use Rattle.std.specs.Prelude.{slice_get, option_map, IfSome, string_bytes}
use Rattle.wac_graph_types.specs.declared.kind.ValueType.{ValueType}
use Rattle.wac_graph_types.specs.declared.kind.ValueType.TheVariants as values
use Rattle.wac_graph_types.specs.declared.kind.DefinedTypeId.{DefinedTypeId}
use Rattle.wac_graph_types.specs.declared.kind.ItemKind.{ItemKind}
use Rattle.wac_graph_types.specs.declared.kind.ItemKind.TheVariants as kinds
use Rattle.wac_graph_types.specs.declared.kind.«Type».TheVariants as types
use Rattle.wac_graph_types.specs.declared.kind.Sort.{Sort}
use Rattle.wac_graph_types.specs.declared.kind.Sort.TheVariants as sorts
use Rattle.wac_graph_types.specs.declared.entry.Entry.{Entry}
use Rattle.wac_graph_types.specs.declared.entry.Entry.TheVariants as entries
use Rattle.wac_graph_types.specs.declared.entry.DefinedType.TheVariants as defined
use Rattle.wac_graph_types.specs.declared.entry.Resource.{Resource}
use Rattle.wac_graph_types.specs.declared.entry.ResourceAlias.{ResourceAlias}
use Rattle.wac_graph_types.specs.Kind.{Form, form, named_by, sort_named, value_form, value_named_by}
use Rattle.wac_graph_types.specs.Kind as forms
use Rattle.wac_graph_types.specs.Entry as slots
use Rattle.wac_graph_types.specs.Entry.{children, sort_of, label}
use Rattle.wac_graph_types.specs.Label.{Plain}
use Rattle.wac_graph_types.specs.Meaning.{Meaning, EachKind, row, named, of_kind, meaning_at, NamesBefore, IsEarlier}
use Rattle.wac_graph_types.specs.Readings.{as_resource}
use Rattle.wac_graph_types.specs.Table.{IsTable, IsOfSort, Names}
use Rattle.wac_graph_types.proofs.Tables.{entry_names, each_entry_named}
use Rattle.wac_component_rules.specs.Seen as view
use Rattle.wac_component_rules.specs.Seen.{Seen, What, seen, what, entry_seen, items, entry_what, seen_through, through}
use Rattle.wac_component_rules.specs.Compared.{SeenAs, type_kind}
use Rattle.wac_component_rules.specs.Parts.{aliased_in}
use Rattle.std.specs.Str.{bytes_eq}
use Rattle.wac_component_rules.specs.Fits.{stands}
use Rattle.wac_component_rules.proofs.Entries.{what_at, names_number}

-- an entry of a sort
pub entry_there : (es : List Entry) (i : ℕ) (s : Sort) → option_map sort_of (slice_get es i) ≡ Some s → (e : Entry) × (slice_get es i ≡ Some e) × (sort_of e ≡ s)
entry_there es i s h = go (slice_get es i) refl h
  where
    go : (x : Option Entry) → slice_get es i ≡ x → option_map sort_of x ≡ Some s → (e : Entry) × (slice_get es i ≡ Some e) × (sort_of e ≡ s)
    go None is h = absurd (cc)
    go (Some e) is h = (e, is, cc)

pub sort_at : (es : List Entry) (i : ℕ) (e : Entry) (s : Sort) → slice_get es i ≡ Some e → option_map sort_of (slice_get es i) ≡ Some s → sort_of e ≡ s
sort_at es i e s is h = let there : option_map sort_of (Some e) ≡ Some s = sym (ap (option_map sort_of) is) ∙ h in cc

pub unaliased : (e : Entry) → (sort_of e ≡ sorts.Defined → ⊥) → aliased_in e ≡ None
unaliased (entries.Defined d) n = absurd (n refl)
unaliased (entries.Resource r) n = refl
unaliased (entries.Func f) n = refl
unaliased (entries.Interface i) n = refl
unaliased (entries.World w) n = refl

-- what is no alias is what its entry is
plain_through : (G : Form) (f : ℕ → Meaning) (n : ℕ) (e : Entry) → aliased_in e ≡ None
    → seen_through G (entry_what (label n e) (items (row f (children e)))) ≡ view.a_kind G (entry_what (label n e) (items (row f (children e))))
plain_through G f n (entries.Defined (defined.Tuple t)) h = refl
plain_through G f n (entries.Defined (defined.List t)) h = refl
plain_through G f n (entries.Defined (defined.Option t)) h = refl
plain_through G f n (entries.Defined (defined.Result o e)) h = refl
plain_through G f n (entries.Defined (defined.Variant t)) h = refl
plain_through G f n (entries.Defined (defined.Record t)) h = refl
plain_through G f n (entries.Defined (defined.Flags t)) h = refl
plain_through G f n (entries.Defined (defined.Enum t)) h = refl
plain_through G f n (entries.Defined (defined.Alias t)) h = absurd (cc)
plain_through G f n (entries.Defined (defined.Stream t)) h = refl
plain_through G f n (entries.Defined (defined.Future t)) h = refl
plain_through G f n (entries.Resource r) h = refl
plain_through G f n (entries.Func g) h = refl
plain_through G f n (entries.Interface i) h = refl
plain_through G f n (entries.World w) h = refl

pub through_entry : (o : ℕ → ℕ) (es : List Entry) (i : ℕ) (e : Entry) (G : Form) → IsEarlier es → slice_get es i ≡ Some e → aliased_in e ≡ None
    → seen_through G (what (meaning_at o es i)) ≡ view.a_kind G (what (meaning_at o es i))
through_entry o es i e G earlier is none =
    let w = what_at o es i e earlier is in
    subst (λ (x : What). seen_through G x ≡ view.a_kind G x) (sym w) (plain_through G (meaning_at o es) (o i) e none)

-- a kind that names no defined type is no alias
pub through_kind : (o : ℕ → ℕ) (es : List Entry) (k : ItemKind) (i : ℕ) (G : Form) → IsTable es → Names es k → Some i ≡ named_by k → (sort_named k ≡ sorts.Defined → ⊥)
    → seen_through G (what (meaning_at o es i)) ≡ view.a_kind G (what (meaning_at o es i))
through_kind o es k i G table names is n =
    let there = entry_there es i (sort_named k) (names_number es k i names is).1 in
    through_entry o es i there.0 G table.0 there.1 (unaliased there.0 (λ s. n (sym there.2 ∙ s)))

-- a kind that can't be an alias: it is no type of values
abbrev pub IsWhole : ItemKind → Type 0
IsWhole (kinds.Ty (types.Resource id)) = Unit {0}
IsWhole (kinds.Ty (types.Func id)) = Unit {0}
IsWhole (kinds.Ty (types.Value v)) = ⊥
IsWhole (kinds.Ty (types.Interface id)) = Unit {0}
IsWhole (kinds.Ty (types.World id)) = Unit {0}
IsWhole (kinds.Ty (types.Module id)) = Unit {0}
IsWhole (kinds.Func id) = Unit {0}
IsWhole (kinds.Instance id) = Unit {0}
IsWhole (kinds.Component id) = Unit {0}
IsWhole (kinds.Module id) = Unit {0}
IsWhole (kinds.Value v) = ⊥

-- the kind is seen as its form, over what its entry is
abbrev pub SeenWhole : (ℕ → ℕ) → List Entry → Form → Option ℕ → Type 0
SeenWhole o es G id = seen_through G (entry_seen (named (meaning_at o es) id)) ≡ view.a_kind G (entry_seen (named (meaning_at o es) id))

pub whole_kind : (o : ℕ → ℕ) (es : List Entry) (k : ItemKind) → IsTable es → Names es k → IsWhole k → SeenWhole o es (form k) (named_by k)
whole_kind o es (kinds.Ty (types.Resource id)) table names h = through_kind o es (kinds.Ty (types.Resource id)) id.0 forms.a_resource table names refl (λ e. absurd (cc))
whole_kind o es (kinds.Ty (types.Func id)) table names h = through_kind o es (kinds.Ty (types.Func id)) id.0 forms.a_func table names refl (λ e. absurd (cc))
whole_kind o es (kinds.Ty (types.Value v)) table names h = absurd h
whole_kind o es (kinds.Ty (types.Interface id)) table names h = through_kind o es (kinds.Ty (types.Interface id)) id.0 forms.an_interface table names refl (λ e. absurd (cc))
whole_kind o es (kinds.Ty (types.World id)) table names h = through_kind o es (kinds.Ty (types.World id)) id.0 forms.a_world table names refl (λ e. absurd (cc))
whole_kind o es (kinds.Ty (types.Module id)) table names h = refl
whole_kind o es (kinds.Func id) table names h = through_kind o es (kinds.Func id) id.0 forms.func table names refl (λ e. absurd (cc))
whole_kind o es (kinds.Instance id) table names h = through_kind o es (kinds.Instance id) id.0 forms.instance table names refl (λ e. absurd (cc))
whole_kind o es (kinds.Component id) table names h = through_kind o es (kinds.Component id) id.0 forms.component table names refl (λ e. absurd (cc))
whole_kind o es (kinds.Module id) table names h = refl
whole_kind o es (kinds.Value v) table names h = absurd h

-- a value without a defined type is no alias, as a kind of any form
pub whole_value : (o : ℕ → ℕ) (es : List Entry) (v : ValueType) (G : Form) → IsTable es → Names es (kinds.Value v) → ((id : DefinedTypeId) → v ≡ values.Defined id → ⊥)
    → SeenWhole o es G (value_named_by v)
whole_value o es (values.Primitive p) G table names n = refl
whole_value o es (values.Borrow id) G table names n = through_kind o es (kinds.Value (values.Borrow id)) id.0 G table names refl (λ e. absurd (cc))
whole_value o es (values.Own id) G table names n = through_kind o es (kinds.Value (values.Own id)) id.0 G table names refl (λ e. absurd (cc))
whole_value o es (values.Defined id) G table names n = absurd (n id refl)

-- nor is one of a defined type that is none
pub whole_defined : (o : ℕ → ℕ) (es : List Entry) (v : ValueType) (id : DefinedTypeId) (e : Entry) (G : forms.ValueForm → Form) → IsEarlier es → v ≡ values.Defined id → slice_get es id.0 ≡ Some e → aliased_in e ≡ None
    → seen_through (G (value_form v)) (entry_seen (named (meaning_at o es) (value_named_by v))) ≡ view.a_kind (G forms.defined) (what (meaning_at o es id.0))
whole_defined o es v id e G earlier is at none =
    subst (λ (w : ValueType). seen_through (G (value_form w)) (entry_seen (named (meaning_at o es) (value_named_by w))) ≡ view.a_kind (G forms.defined) (what (meaning_at o es id.0))) (sym is) (through_entry o es id.0 e (G forms.defined) earlier at none)

-- the entry of a defined type that is named is there
pub defined_within : (es : List Entry) (v : ValueType) (id : DefinedTypeId) → Names es (kinds.Value v) → v ≡ values.Defined id → id.0 < length es
defined_within es v id names is = subst (λ (w : ValueType). IfSome (value_named_by w) (λ n. n < length es)) is names.0

pub defined_before : (n : ℕ) (v : ValueType) (id : DefinedTypeId) → NamesBefore n (kinds.Value v) → v ≡ values.Defined id → id.0 < n
defined_before n v id names is = subst (λ (w : ValueType). IfSome (value_named_by w) (λ m. m < n)) is names

-- an alias is what it is an alias of
alias_what : (f : ℕ → Meaning) (n : ℕ) (e : Entry) (t : ValueType) → Some t ≡ aliased_in e
    → entry_what (label n e) (items (row f (children e))) ≡ view.made_of Plain.alias (view.item slots.only (seen (of_kind f (kinds.Value t))) view.end)
alias_what f n (entries.Defined (defined.Alias t)) u h = (let same : t ≡ u = cc in subst (λ (v : ValueType). entry_what (label n (entries.Defined (defined.Alias t))) (items (row f (children (entries.Defined (defined.Alias t))))) ≡ view.made_of Plain.alias (view.item slots.only (seen (of_kind f (kinds.Value v))) view.end)) same refl)
alias_what f n (entries.Defined (defined.Tuple t)) u h = absurd (cc)
alias_what f n (entries.Defined (defined.List t)) u h = absurd (cc)
alias_what f n (entries.Defined (defined.Option t)) u h = absurd (cc)
alias_what f n (entries.Defined (defined.Result o e)) u h = absurd (cc)
alias_what f n (entries.Defined (defined.Variant t)) u h = absurd (cc)
alias_what f n (entries.Defined (defined.Record t)) u h = absurd (cc)
alias_what f n (entries.Defined (defined.Flags t)) u h = absurd (cc)
alias_what f n (entries.Defined (defined.Enum t)) u h = absurd (cc)
alias_what f n (entries.Defined (defined.Stream t)) u h = absurd (cc)
alias_what f n (entries.Defined (defined.Future t)) u h = absurd (cc)
alias_what f n (entries.Resource r) u h = absurd (cc)
alias_what f n (entries.Func g) u h = absurd (cc)
alias_what f n (entries.Interface i) u h = absurd (cc)
alias_what f n (entries.World w) u h = absurd (cc)

pub through_alias : (o : ℕ → ℕ) (es : List Entry) (i : ℕ) (e : Entry) (t : ValueType) (G : Form) → IsEarlier es → slice_get es i ≡ Some e → Some t ≡ aliased_in e
    → seen_through G (what (meaning_at o es i)) ≡ through G (seen (of_kind (meaning_at o es) (kinds.Value t)))
through_alias o es i e t G earlier is h = ap (seen_through G) (what_at o es i e earlier is ∙ alias_what (meaning_at o es) (o i) e t h)

pub defined_alias : (o : ℕ → ℕ) (es : List Entry) (v : ValueType) (id : DefinedTypeId) (e : Entry) (t : ValueType) (G : Form) → IsEarlier es → v ≡ values.Defined id → slice_get es id.0 ≡ Some e → Some t ≡ aliased_in e
    → seen_through G (entry_seen (named (meaning_at o es) (value_named_by v))) ≡ through G (seen (of_kind (meaning_at o es) (kinds.Value t)))
defined_alias o es v id e t G earlier is at h =
    subst (λ (w : ValueType). seen_through G (entry_seen (named (meaning_at o es) (value_named_by w))) ≡ through G (seen (of_kind (meaning_at o es) (kinds.Value t)))) (sym is) (through_alias o es id.0 e t G earlier at h)

alias_child : (P : ItemKind → Type 0) (e : Entry) (t : ValueType) → Some t ≡ aliased_in e → EachKind P (children e) → P (kinds.Value t)
alias_child P (entries.Defined (defined.Alias t)) u h each = (let same : t ≡ u = cc in subst (λ (v : ValueType). P (kinds.Value v)) same each.0)
alias_child P (entries.Defined (defined.Tuple t)) u h each = absurd (cc)
alias_child P (entries.Defined (defined.List t)) u h each = absurd (cc)
alias_child P (entries.Defined (defined.Option t)) u h each = absurd (cc)
alias_child P (entries.Defined (defined.Result o e)) u h each = absurd (cc)
alias_child P (entries.Defined (defined.Variant t)) u h each = absurd (cc)
alias_child P (entries.Defined (defined.Record t)) u h each = absurd (cc)
alias_child P (entries.Defined (defined.Flags t)) u h each = absurd (cc)
alias_child P (entries.Defined (defined.Enum t)) u h each = absurd (cc)
alias_child P (entries.Defined (defined.Stream t)) u h each = absurd (cc)
alias_child P (entries.Defined (defined.Future t)) u h each = absurd (cc)
alias_child P (entries.Resource r) u h each = absurd (cc)
alias_child P (entries.Func g) u h each = absurd (cc)
alias_child P (entries.Interface i) u h each = absurd (cc)
alias_child P (entries.World w) u h each = absurd (cc)

pub alias_names : (es : List Entry) (i : ℕ) (e : Entry) (t : ValueType) → IsTable es → slice_get es i ≡ Some e → Some t ≡ aliased_in e → Names es (kinds.Value t)
alias_names es i e t table is h = alias_child (Names es) e t h (each_entry_named es table i e is)

pub alias_before : (es : List Entry) (i : ℕ) (e : Entry) (t : ValueType) → IsTable es → slice_get es i ≡ Some e → Some t ≡ aliased_in e → NamesBefore i (kinds.Value t)
alias_before es i e t table is h = (alias_child (λ k. NamesBefore i k × IsOfSort es k) e t h (entry_names es i e table is)).0

-- ---- resources

source_what : (f : ℕ → Meaning) (n : ℕ) (r : Resource) (a : ResourceAlias) → r.alias ≡ Some a
    → entry_what (label n (entries.Resource r)) (items (row f (children (entries.Resource r)))) ≡ view.named_resource (view.source_name (string_bytes r.name) (seen (of_kind f (kinds.Ty (types.Resource a.source)))))
source_what f n r a h = ap (λ (x : Option ResourceAlias). view.named_resource (view.source_name (string_bytes r.name) (view.second_item (items (row f (slots.alias_children x)))))) h

own_what : (f : ℕ → Meaning) (n : ℕ) (r : Resource) → r.alias ≡ None
    → entry_what (label n (entries.Resource r)) (items (row f (children (entries.Resource r)))) ≡ view.named_resource (string_bytes r.name)
own_what f n r h = ap (λ (x : Option ResourceAlias). view.named_resource (view.source_name (string_bytes r.name) (view.second_item (items (row f (slots.alias_children x)))))) h

pub resource_entry : (e : Entry) (r : Resource) → Some r ≡ as_resource e → e ≡ entries.Resource r
resource_entry (entries.Resource q) r h = (let same : q ≡ r = cc in ap entries.Resource same)
resource_entry (entries.Defined d) r h = absurd (cc)
resource_entry (entries.Func d) r h = absurd (cc)
resource_entry (entries.Interface d) r h = absurd (cc)
resource_entry (entries.World d) r h = absurd (cc)

pub no_resource : (e : Entry) → None ≡ as_resource e → sort_of e ≡ sorts.Resource → ⊥
no_resource (entries.Resource q) h s = absurd (cc)
no_resource (entries.Defined d) h s = absurd (cc)
no_resource (entries.Func d) h s = absurd (cc)
no_resource (entries.Interface d) h s = absurd (cc)
no_resource (entries.World d) h s = absurd (cc)

-- a resource without a source has its own name
pub own_name : (o : ℕ → ℕ) (es : List Entry) (i : ℕ) (r : Resource) → IsEarlier es → slice_get es i ≡ Some (entries.Resource r) → r.alias ≡ None
    → what (meaning_at o es i) ≡ view.named_resource (string_bytes r.name)
own_name o es i r earlier is h = what_at o es i (entries.Resource r) earlier is ∙ own_what (meaning_at o es) (o i) r h

-- an alias has its source's name
pub sources_name : (o : ℕ → ℕ) (es : List Entry) (i : ℕ) (r : Resource) (a : ResourceAlias) (name : List ℕ) → IsEarlier es → slice_get es i ≡ Some (entries.Resource r) → r.alias ≡ Some a
    → what (meaning_at o es a.source.0) ≡ view.named_resource name → what (meaning_at o es i) ≡ view.named_resource name
sources_name o es i r a name earlier is h there =
    what_at o es i (entries.Resource r) earlier is ∙ source_what (meaning_at o es) (o i) r a h
    ∙ ap (λ (w : What). view.named_resource (view.source_name (string_bytes r.name) (seen_through Form.a_resource w))) there

alias_kinds : (P : ItemKind → Type 0) (r : Resource) (a : ResourceAlias) → r.alias ≡ Some a → EachKind P (children (entries.Resource r)) → P (kinds.Ty (types.Resource a.source))
alias_kinds P r a h each = (subst (λ (x : Option ResourceAlias). EachKind P (slots.alias_children x)) h each).1.0

-- the source is an earlier resource
pub source_before : (es : List Entry) (i : ℕ) (r : Resource) (a : ResourceAlias) → IsTable es → slice_get es i ≡ Some (entries.Resource r) → r.alias ≡ Some a → a.source.0 < i
source_before es i r a table is h = (alias_kinds (λ k. NamesBefore i k × IsOfSort es k) r a h (entry_names es i (entries.Resource r) table is)).0

pub source_sort : (es : List Entry) (i : ℕ) (r : Resource) (a : ResourceAlias) → IsTable es → slice_get es i ≡ Some (entries.Resource r) → r.alias ≡ Some a
    → (a.source.0 < length es) × (option_map sort_of (slice_get es a.source.0) ≡ Some sorts.Resource)
source_sort es i r a table is h =
    let named = alias_kinds (Names es) r a h (each_entry_named es table i (entries.Resource r) is) in
    (named.0, named.1)

pub resources_stand : (o : ℕ → ℕ) (es : List Entry) (i j : ℕ) (n m : List ℕ) → what (meaning_at o es i) ≡ view.named_resource n → what (meaning_at o es j) ≡ view.named_resource m
    → stands (what (meaning_at o es i)) (what (meaning_at o es j)) ≡ bytes_eq n m
resources_stand o es i j n m a b = ap (λ (w : What). stands w (what (meaning_at o es j))) a ∙ ap (λ (w : What). stands (view.named_resource n) w) b

-- ---- along aliases

-- what the second type is seen as, the first one is
abbrev pub StandsFor : List Entry → ValueType → ValueType → Type 0
StandsFor es v w = (o : ℕ → ℕ) (r : ValueType) → SeenAs o es (kinds.Value w) (kinds.Value r) × SeenAs o es (type_kind w) (type_kind r)
    → SeenAs o es (kinds.Value v) (kinds.Value r) × SeenAs o es (type_kind v) (type_kind r)

pub stands_for_itself : (es : List Entry) (v : ValueType) → StandsFor es v v
stands_for_itself es v = λ o r h. h

pub stands_for_source : (es : List Entry) (v w : ValueType) (id : DefinedTypeId) (e : Entry) (t : ValueType) → IsEarlier es → StandsFor es v w → w ≡ values.Defined id → slice_get es id.0 ≡ Some e → Some t ≡ aliased_in e → StandsFor es v t
stands_for_source es v w id e t earlier before is at h = λ o r there. before o r (
  defined_alias o es w id e t (forms.value (value_form w)) earlier is at h ∙ ap (through (forms.value (value_form w))) there.0,
  defined_alias o es w id e t (forms.a_value (value_form w)) earlier is at h ∙ ap (through (forms.a_value (value_form w))) there.0,
)

pub stands_for_whole : (es : List Entry) (v w : ValueType) → IsTable es → Names es (kinds.Value w) → ((id : DefinedTypeId) → w ≡ values.Defined id → ⊥) → StandsFor es v w
    → (o : ℕ → ℕ) → SeenAs o es (kinds.Value v) (kinds.Value w) × SeenAs o es (type_kind v) (type_kind w)
stands_for_whole es v w table names n before = λ o. before o w (whole_value o es w (forms.value (value_form w)) table names n, whole_value o es w (forms.a_value (value_form w)) table names n)

pub stands_for_unaliased : (es : List Entry) (v w : ValueType) (id : DefinedTypeId) (e : Entry) → IsEarlier es → w ≡ values.Defined id → slice_get es id.0 ≡ Some e → None ≡ aliased_in e → StandsFor es v w
    → (o : ℕ → ℕ) → SeenAs o es (kinds.Value v) (kinds.Value (values.Defined id)) × SeenAs o es (type_kind v) (type_kind (values.Defined id))
stands_for_unaliased es v w id e earlier is at h before = λ o. before o (values.Defined id) (whole_defined o es w id e forms.value earlier is at (sym h), whole_defined o es w id e forms.a_value earlier is at (sym h))

-- the name of the second resource's source is that of the first one's
abbrev pub NamedAfter : List Entry → ℕ → ℕ → Type 0
NamedAfter es i j = (o : ℕ → ℕ) (name : List ℕ) → what (meaning_at o es j) ≡ view.named_resource name → what (meaning_at o es i) ≡ view.named_resource name
