-- Which meaning a type has in a scope.
use Rattle.std.specs.Prelude.{◌≡◌, List, [], ◌∷◌, Bool, true, false, codes}
use Rattle.wac_graph_types.specs.declared.kind.PrimitiveType.TheVariants as primitives
use Rattle.wac_graph_types.specs.Label.{Plain}
use Rattle.wac_graph_types.specs.Entry.{Slot}
use Rattle.wac_graph_types.specs.Meaning.{Meaning}
use Rattle.wac_graph_types.specs.Scope.{Named, Scope, StandsFor, IsFresh, with_named}
use Rattle.wac_graph_types.specs.Steps.{Steps}
use Rattle.wac_graph_types.specs.Shape.{IsA, is_resource_form, is_resource_or_value_form, entry_of, as_value, nothing, primitive_value, borrow_of, own_of, defined_value, in_order, one_child, result_children, one_result, named_results, func_entry, contains_borrow}
use Rattle.wac_ast_grammar.specs.Tree.{Ty, OptionalTy, Types, NamedType, ResultList, FuncType}

abbrev mutual
  -- the type of values
  pub HasType : Scope → Ty → Meaning → Type 0
  HasType scope (Ty.u8 s) m = m ≡ primitive_value primitives.U8
  HasType scope (Ty.s8 s) m = m ≡ primitive_value primitives.S8
  HasType scope (Ty.u16 s) m = m ≡ primitive_value primitives.U16
  HasType scope (Ty.s16 s) m = m ≡ primitive_value primitives.S16
  HasType scope (Ty.u32 s) m = m ≡ primitive_value primitives.U32
  HasType scope (Ty.s32 s) m = m ≡ primitive_value primitives.S32
  HasType scope (Ty.u64 s) m = m ≡ primitive_value primitives.U64
  HasType scope (Ty.s64 s) m = m ≡ primitive_value primitives.S64
  HasType scope (Ty.f32 s) m = m ≡ primitive_value primitives.F32
  HasType scope (Ty.f64 s) m = m ≡ primitive_value primitives.F64
  HasType scope (Ty.char s) m = m ≡ primitive_value primitives.Char
  HasType scope (Ty.bool s) m = m ≡ primitive_value primitives.Bool
  HasType scope (Ty.string s) m = m ≡ primitive_value primitives.String
  HasType scope (Ty.tuple ts s) m = (vs : List Meaning) × HaveTypes scope ts vs
      × (m ≡ defined_value Plain.tuple (in_order vs))
  HasType scope (Ty.list t s) m = (v : Meaning) × HasType scope t v × (m ≡ defined_value Plain.list (one_child v))
  HasType scope (Ty.option t s) m = (v : Meaning) × HasType scope t v × (m ≡ defined_value Plain.option (one_child v))
  HasType scope (Ty.result o e s) m = (v : Meaning) × (w : Meaning) × HasOptional scope o v × HasOptional scope e w
      × (m ≡ defined_value Plain.result (result_children v w))
  -- an identifier of a resource type
  HasType scope (Ty.borrow x s) m = (k : Meaning) × StandsFor scope x.string k × IsA is_resource_form k
      × (m ≡ borrow_of (entry_of k))
  HasType scope (Ty.stream t s) m = (v : Meaning) × HasOptional scope t v
      × (m ≡ defined_value Plain.stream (one_child v))
  HasType scope (Ty.future t s) m = (v : Meaning) × HasOptional scope t v
      × (m ≡ defined_value Plain.future (one_child v))
  HasType scope (Ty.error_context s) m = m ≡ primitive_value primitives.ErrorContext
  -- an identifier of a resource type denotes an owned resource, one of a value type that type
  HasType scope (Ty.ident x) m = (k : Meaning) × StandsFor scope x.string k × IsA is_resource_or_value_form k
      × (m ≡ as_value k)

  pub HasOptional : Scope → OptionalTy → Meaning → Type 0
  HasOptional scope OptionalTy.absent m = m ≡ nothing
  HasOptional scope (OptionalTy.present t) m = HasType scope t m

  pub HaveTypes : Scope → Types → List Meaning → Type 0
  HaveTypes scope Types.none vs = vs ≡ []
  HaveTypes scope (Types.more t ts) vs = (v : Meaning) × (ws : List Meaning) × HasType scope t v × HaveTypes scope ts ws
      × (vs ≡ v ∷ ws)

-- ---- function types

-- a parameter has a type, and no earlier one has its name
abbrev pub HasParam : Scope → Named Meaning → NamedType → Named Meaning → Type 0
HasParam scope old p new = (v : Meaning) × HasType scope p.ty v × IsFresh p.id.string old
    × (new ≡ with_named old p.id.string v)

-- a result has a type that contains no borrow
abbrev pub HasResultType : Scope → Ty → Meaning → Type 0
HasResultType scope t v = HasType scope t v × (contains_borrow v ≡ false)

-- a result with a name: no earlier one has it
abbrev pub HasResult : Scope → Named Meaning → NamedType → Named Meaning → Type 0
HasResult scope old r new = (v : Meaning) × HasResultType scope r.ty v × IsFresh r.id.string old
    × (new ≡ with_named old r.id.string v)

abbrev pub HasResults : Scope → ResultList → List (Slot × Meaning) → Type 0
HasResults scope ResultList.empty rs = rs ≡ []
HasResults scope (ResultList.scalar t) rs = (v : Meaning) × HasResultType scope t v × (rs ≡ one_result v)
HasResults scope (ResultList.named xs) rs = (all : Named Meaning) × Steps (HasResult scope) [] xs all
    × (rs ≡ named_results all)

-- the entry of a function type, where these parameters come first
abbrev pub IsFuncWith : Scope → Named Meaning → FuncType → Meaning → Type 0
IsFuncWith scope first f entry = (ps : Named Meaning) × (rs : List (Slot × Meaning))
    × Steps (HasParam scope) first f.params ps × HasResults scope f.results rs × (entry ≡ func_entry f.is_async rs ps)

-- the entry of a function type
abbrev pub IsFunc : Scope → FuncType → Meaning → Type 0
IsFunc scope f entry = IsFuncWith scope [] f entry

-- the entry of a constructor: it is not async, and its result is an owned resource
abbrev pub IsConstructor : Scope → Meaning → List NamedType → Meaning → Type 0
IsConstructor scope resource params entry = (ps : Named Meaning) × Steps (HasParam scope) [] params ps
    × (entry ≡ func_entry false (one_result (own_of resource)) ps)

-- what comes before the parameters of a method: its resource, borrowed; nothing where it is static
abbrev pub first_params : Bool → Meaning → Named Meaning
first_params true resource = []
first_params false resource = (codes "self", borrow_of resource) ∷ []
