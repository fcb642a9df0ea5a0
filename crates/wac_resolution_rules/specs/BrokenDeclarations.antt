-- Which rule of declarations an error says is broken, as in BrokenTypes.
use Rattle.std.specs.Prelude.{◌≡◌, ◌⊎◌, ℕ, List, [], Option, Some, None}
use Rattle.wac_lexer.specs.Span.{Span}
use Rattle.wac_graph_types.specs.declared.kind.FuncKind.TheVariants as funcs
use Rattle.wac_graph_types.specs.Meaning.{Meaning}
use Rattle.wac_graph_types.specs.Scope.{Named, Scope, StandsFor}
use Rattle.wac_graph_types.specs.Steps.{Fails}
use Rattle.wac_graph_types.specs.Shape.{described}
use Rattle.wac_ast_grammar.specs.Tree.{Ident, Ty, VariantCase, VariantDecl, Field, RecordDecl, FlagsDecl, EnumDecl, TypeAliasKind, TypeDecl}
use Rattle.wac_resolution_errors.specs.Error.{Error, duplicate_variant_case, duplicate_record_field, duplicate_enum_case, duplicate_flag, invalid_alias_type}
use Rattle.wac_resolution_rules.specs.Types.{HasType}
use Rattle.wac_resolution_rules.specs.Declarations.{HasOption, HasCase, HasField, HasFlag, HasEnumCase, Aliasing, at_root, alone}
use Rattle.wac_resolution_rules.specs.BrokenTypes.{IsUndefined, IsRepeated, TypeBroken, FuncBroken}

-- an earlier case, field or flag has the name
abbrev pub IsRepeatedPart : (List ℕ → List ℕ → Span → Error) → Ident → Named Meaning → Ident → Error → Type 0
IsRepeatedPart error declared old x e = IsRepeated old x.string (error x.string declared.string x.span) e

abbrev pub OptionBroken : Scope → Option Ty → Error → Type 0
OptionBroken scope None e = ⊥
OptionBroken scope (Some t) e = TypeBroken scope t e

abbrev pub CaseBroken : Scope → Ident → Error → Named Meaning → List VariantCase → VariantCase → Type 0
CaseBroken scope declared e old before c = OptionBroken scope c.ty e
    ⊎ ((v : Meaning) × HasOption scope c.ty v × IsRepeatedPart duplicate_variant_case declared old c.id e)

abbrev pub FieldBroken : Scope → Ident → Error → Named Meaning → List Field → Field → Type 0
FieldBroken scope declared e old before f = TypeBroken scope f.ty e
    ⊎ ((v : Meaning) × HasType scope f.ty v × IsRepeatedPart duplicate_record_field declared old f.id e)

abbrev pub VariantBroken : Scope → VariantDecl → Error → Type 0
VariantBroken scope d e = Fails (HasCase scope) (CaseBroken scope d.id e) [] d.cases

abbrev pub RecordBroken : Scope → RecordDecl → Error → Type 0
RecordBroken scope d e = Fails (HasField scope) (FieldBroken scope d.id e) [] d.fields

abbrev pub FlagsBroken : FlagsDecl → Error → Type 0
FlagsBroken d e = Fails HasFlag (λ old before x. IsRepeatedPart duplicate_flag d.id old x.id e) [] d.flags

abbrev pub EnumBroken : EnumDecl → Error → Type 0
EnumBroken d e = Fails HasEnumCase (λ old before x. IsRepeatedPart duplicate_enum_case d.id old x.id e) [] d.cases

-- what the identifier denotes can't be aliased there
abbrev pub IsNoAlias : Aliasing → Scope → ℕ → List ℕ → Ident → Error → Type 0
IsNoAlias aliasing scope n name x e = (k : Meaning) × StandsFor scope x.string k × (aliasing n name k ≡ None)
    × (e ≡ invalid_alias_type x.string (described k) x.span)

abbrev pub TypeAliasBroken : Aliasing → Scope → ℕ → List ℕ → Option Ident → Ty → Error → Type 0
TypeAliasBroken aliasing scope n name None t e = TypeBroken scope t e
TypeAliasBroken aliasing scope n name (Some x) t e = IsUndefined scope x e ⊎ IsNoAlias aliasing scope n name x e

abbrev pub AliasBroken : Aliasing → Scope → ℕ → List ℕ → TypeAliasKind → Error → Type 0
AliasBroken aliasing scope n name (TypeAliasKind.func f) e = FuncBroken funcs.Free scope [] f e
AliasBroken aliasing scope n name (TypeAliasKind.ty t) e = TypeAliasBroken aliasing scope n name (alone t) t e

abbrev pub TypeDeclBroken : Scope → ℕ → TypeDecl → Error → Type 0
TypeDeclBroken scope n (TypeDecl.variant d) e = VariantBroken scope d e
TypeDeclBroken scope n (TypeDecl.record_decl d) e = RecordBroken scope d e
TypeDeclBroken scope n (TypeDecl.flags d) e = FlagsBroken d e
TypeDeclBroken scope n (TypeDecl.enum d) e = EnumBroken d e
TypeDeclBroken scope n (TypeDecl.alias d) e = AliasBroken at_root scope n d.id.string d.kind e
