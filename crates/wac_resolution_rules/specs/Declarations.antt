-- Which kind a type declaration declares.
use Rattle.std.specs.Prelude.{◌≡◌, ℕ, suc, List, [], Option, Some, None, option_map}
use Rattle.wac_graph_types.specs.Kind.{Form, a_func, func, a_value, a_resource}
use Rattle.wac_graph_types.specs.Label.{Plain}
use Rattle.wac_graph_types.specs.Meaning.{Meaning}
use Rattle.wac_graph_types.specs.Scope.{Named, Scope, StandsFor, IsFresh, with_named}
use Rattle.wac_graph_types.specs.Steps.{Steps}
use Rattle.wac_graph_types.specs.Shape.{form_of, kind_of, entry_of, as_value, nothing, defined_type, naming_each, alias_type}
use Rattle.wac_graph.specs.Origin.{Numbering}
use Rattle.wac_graph.specs.Resources.{alias_entry}
use Rattle.wac_ast_grammar.specs.Tree.{Ident, Ty, VariantCase, VariantDecl, Field, RecordDecl, Flag, FlagsDecl, EnumCase, EnumDecl, TypeAliasKind, TypeDecl}
use Rattle.wac_resolution_rules.specs.Types.{HasType, IsFunc}

abbrev pub HasOption : Scope → Option Ty → Meaning → Type 0
HasOption scope None v = v ≡ nothing
HasOption scope (Some t) v = HasType scope t v

-- a case perhaps has a type, and no earlier one has its name
abbrev pub HasCase : Scope → Named Meaning → VariantCase → Named Meaning → Type 0
HasCase scope old c new = (v : Meaning) × HasOption scope c.ty v × IsFresh c.id.string old
    × (new ≡ with_named old c.id.string v)

-- a field has a type, and no earlier one has its name
abbrev pub HasField : Scope → Named Meaning → Field → Named Meaning → Type 0
HasField scope old f new = (v : Meaning) × HasType scope f.ty v × IsFresh f.id.string old
    × (new ≡ with_named old f.id.string v)

-- no earlier flag has the name
abbrev pub HasFlag : Named Meaning → Flag → Named Meaning → Type 0
HasFlag old f new = IsFresh f.id.string old × (new ≡ with_named old f.id.string nothing)

-- no earlier case has the name
abbrev pub HasEnumCase : Named Meaning → EnumCase → Named Meaning → Type 0
HasEnumCase old c new = IsFresh c.id.string old × (new ≡ with_named old c.id.string nothing)

abbrev pub IsVariant : Scope → VariantDecl → Meaning → Type 0
IsVariant scope d m = (all : Named Meaning) × Steps (HasCase scope) [] d.cases all
    × (m ≡ defined_type Plain.variant (naming_each all))

abbrev pub IsRecord : Scope → RecordDecl → Meaning → Type 0
IsRecord scope d m = (all : Named Meaning) × Steps (HasField scope) [] d.fields all
    × (m ≡ defined_type Plain.fields (naming_each all))

abbrev pub IsFlags : FlagsDecl → Meaning → Type 0
IsFlags d m = (all : Named Meaning) × Steps HasFlag [] d.flags all × (m ≡ defined_type Plain.flags (naming_each all))

abbrev pub IsEnum : EnumDecl → Meaning → Type 0
IsEnum d m = (all : Named Meaning) × Steps HasEnumCase [] d.cases all × (m ≡ defined_type Plain.cases (naming_each all))

-- ---- aliases

-- a kind, and the count of declared resources after it
abbrev pub Counted : Type 0
Counted = Meaning × ℕ

abbrev pub alias_of_form : Option Form → Meaning → Option Meaning
alias_of_form (Some (a_value v)) k = Some (alias_type (as_value k))
alias_of_form (Some a_func) k = Some (kind_of a_func (entry_of k))
alias_of_form (Some func) k = Some (kind_of a_func (entry_of k))
alias_of_form _ k = None

-- another name of a kind: of a type of values a type of its own, of a function or function type a copy
abbrev pub alias_of : Meaning → Option Meaning
alias_of k = alias_of_form (form_of k) k

-- what an identifier in an alias makes
abbrev pub Aliasing : Type 0
Aliasing = ℕ → List ℕ → Meaning → Option Counted

-- at root
abbrev pub at_root : Aliasing
at_root n name k = option_map (λ m. (m, n)) (alias_of k)

abbrev pub in_body_of_form : Numbering → Option Form → Aliasing
in_body_of_form numbering (Some a_resource) n name k =
    Some (kind_of a_resource (alias_entry numbering n name (entry_of k)), suc n)
in_body_of_form numbering _ n name k = at_root n name k

-- in a body a resource may be aliased too: that is a new resource
abbrev pub in_body : Numbering → Aliasing
in_body numbering n name k = in_body_of_form numbering (form_of k) n name k

-- the identifier that a type is
abbrev pub alone : Ty → Option Ident
alone (Ty.ident x) = Some x
alone _ = None

-- an alias of what an identifier denotes, or of a type expression
abbrev pub IsTypeAlias : Aliasing → Scope → ℕ → List ℕ → Option Ident → Ty → Meaning → ℕ → Type 0
IsTypeAlias aliasing scope n name None t m after = (v : Meaning) × HasType scope t v × (m ≡ alias_type v) × (after ≡ n)
IsTypeAlias aliasing scope n name (Some x) t m after = (k : Meaning) × StandsFor scope x.string k
    × (aliasing n name k ≡ Some (m, after))

-- an alias of this name
abbrev pub IsAlias : Aliasing → Scope → ℕ → List ℕ → TypeAliasKind → Meaning → ℕ → Type 0
IsAlias aliasing scope n name (TypeAliasKind.func f) m after = (entry : Meaning) × IsFunc scope f entry
    × (m ≡ kind_of a_func entry) × (after ≡ n)
IsAlias aliasing scope n name (TypeAliasKind.ty t) m after = IsTypeAlias aliasing scope n name (alone t) t m after

-- what a declaration at root declares, and the count of declared resources after it
abbrev pub IsTypeDecl : Scope → ℕ → TypeDecl → Meaning → ℕ → Type 0
IsTypeDecl scope n (TypeDecl.variant d) m after = IsVariant scope d m × (after ≡ n)
IsTypeDecl scope n (TypeDecl.record_decl d) m after = IsRecord scope d m × (after ≡ n)
IsTypeDecl scope n (TypeDecl.flags d) m after = IsFlags d m × (after ≡ n)
IsTypeDecl scope n (TypeDecl.enum d) m after = IsEnum d m × (after ≡ n)
IsTypeDecl scope n (TypeDecl.alias d) m after = IsAlias at_root scope n d.id.string d.kind m after
