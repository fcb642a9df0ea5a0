-- The trees of types.
use Rattle.std.specs.Prelude.{◌≡◌, List, [], ◌∷◌, Option, Some, None, Ok, Box}
use Rattle.std.proofs.Common.{Global, inl, inr}
use Rattle.wac_lexer.specs.Span.{Span}
use Rattle.wac_lexer.specs.Item.{Item, NextToken, after_first_item}
use Rattle.wac_ast_base.specs.Answer.{first_item}
use Rattle.wac_ast_grammar.specs.Consumed.{Consumed}
use Rattle.wac_lexer.specs.declared.token.Token.{Token}
use Rattle.wac_lexer.specs.declared.token.Token.TheVariants as tokens
use Rattle.wac_ast_grammar.specs.Tree.{Ty, Types, OptionalTy, join}
use Rattle.wac_ast_grammar.specs.Grammar.{Grammar, Parts, token, sym, optional, ◌▸◌, ty, payload, result_part}
use Rattle.wac_ast_grammar.specs.Reading.{refuse, mapped, read}
use Rattle.wac_ast_base.specs.Lists.{Reads}
use Rattle.wac_ast_base.specs.Names.{ident_of}
use Rattle.wac_ast_types.specs.declared.types.Type as code

abbrev mutual
  pub ty_of : code.Type → Ty
  ty_of (code.U8 s) = Ty.u8 s
  ty_of (code.S8 s) = Ty.s8 s
  ty_of (code.U16 s) = Ty.u16 s
  ty_of (code.S16 s) = Ty.s16 s
  ty_of (code.U32 s) = Ty.u32 s
  ty_of (code.S32 s) = Ty.s32 s
  ty_of (code.U64 s) = Ty.u64 s
  ty_of (code.S64 s) = Ty.s64 s
  ty_of (code.F32 s) = Ty.f32 s
  ty_of (code.F64 s) = Ty.f64 s
  ty_of (code.Char s) = Ty.char s
  ty_of (code.Bool s) = Ty.bool s
  ty_of (code.String s) = Ty.string s
  ty_of (code.Tuple' shape row s) = Ty.tuple (types_of_row row) s
  ty_of (code.List' p t s) = Ty.list (ty_of t) s
  ty_of (code.Option' p t s) = Ty.option (ty_of t) s
  ty_of (code.Result' ok err s) = Ty.result (held_of ok) (held_of err) s
  ty_of (code.Borrow x s) = Ty.borrow (ident_of x) s
  ty_of (code.Stream' held s) = Ty.stream (held_of held) s
  ty_of (code.Future' held s) = Ty.future (held_of held) s
  ty_of (code.ErrorContext s) = Ty.error_context s
  ty_of (code.Ident x) = Ty.ident (ident_of x)

  pub held_of : code.Held-Type-Result-0 → OptionalTy
  held_of code.None' = OptionalTy.absent
  held_of (code.Some' p t) = OptionalTy.present (ty_of t)

  pub types_of_row : {n : _} → code.Row_of-Type n → Types
  types_of_row code.end_of-Type = Types.none
  types_of_row (code.more_of-Type t others) = Types.more (ty_of t) (types_of_row others)

-- an optional type in a box
abbrev pub optional_of : Option (Box code.Type Global) → OptionalTy
optional_of None = OptionalTy.absent
optional_of (Some b) = OptionalTy.present (ty_of b.value)

-- ---- how types are parsed

-- the keywords of types with parts
abbrev pub compound : List Token
compound = tokens.TupleKeyword ∷ tokens.ListKeyword ∷ tokens.OptionKeyword ∷ tokens.ResultKeyword ∷ tokens.BorrowKeyword ∷ tokens.StreamKeyword ∷ tokens.FutureKeyword ∷ []

-- the type that a keyword is alone
abbrev pub word_type : Token → Span → Option Ty
word_type tokens.U8Keyword s = Some (Ty.u8 s)
word_type tokens.S8Keyword s = Some (Ty.s8 s)
word_type tokens.U16Keyword s = Some (Ty.u16 s)
word_type tokens.S16Keyword s = Some (Ty.s16 s)
word_type tokens.U32Keyword s = Some (Ty.u32 s)
word_type tokens.S32Keyword s = Some (Ty.s32 s)
word_type tokens.U64Keyword s = Some (Ty.u64 s)
word_type tokens.S64Keyword s = Some (Ty.s64 s)
word_type tokens.F32Keyword s = Some (Ty.f32 s)
word_type tokens.F64Keyword s = Some (Ty.f64 s)
word_type tokens.CharKeyword s = Some (Ty.char s)
word_type tokens.BoolKeyword s = Some (Ty.bool s)
word_type tokens.StringKeyword s = Some (Ty.string s)
word_type tokens.ErrorContextKeyword s = Some (Ty.error_context s)
word_type _ s = None

-- the type that the next item is alone
abbrev pub word_at : NextToken → Option Ty
word_at (Some (Ok keyword, span)) = word_type keyword span
word_at _ = None

-- a keyword and a type in angle brackets: the type, and the span of all
abbrev pub angled : Token → Grammar
angled keyword = token keyword ▸ token tokens.OpenAngle ▸ sym ty ▸ token tokens.CloseAngle

-- a type in a box and a span, as values have them
abbrev pub angled_of : Box code.Type Global × Span → Ty × Span
angled_of x = (ty_of x.0.value, x.1)

abbrev pub angled_parts : Item × (Item × (Ty × Item)) → Ty × Span
angled_parts p = (p.1.1.0, join p.0.span p.1.1.1.span)

-- what an item holds, by what follows it
abbrev pub held_from : Item → Option (Ty × Item) → OptionalTy × Span
held_from x None = (OptionalTy.absent, x.span)
held_from x (Some (inner, last)) = (OptionalTy.present inner, join x.span last.span)

-- the next item, whatever it is, and perhaps a type in angle brackets after it: the type, and the span of all
abbrev pub with_payload : List Item → Reads (OptionalTy × Span)
with_payload [] = refuse [] []
with_payload (x ∷ xs) = mapped (held_from x) (read payload xs)

-- a result's second part, after a comma
abbrev pub second_rule : Grammar
second_rule = optional (token tokens.Comma ▸ sym result_part)

abbrev pub second_of : Parts second_rule → OptionalTy
second_of (inl p) = p.1
second_of (inr p) = OptionalTy.absent

-- The next item was taken, and what derives perhaps a type in angle brackets: this type is held, and the span is that of all.
abbrev pub TakesPayload : List Item → List Item → OptionalTy → Span → Type 0
TakesPayload old new held s = (p : Option (Ty × Item)) × Consumed payload (after_first_item old) new p × ◌≡◌ {A = OptionalTy × Span} (held, s) (held_from (first_item old) p)

-- a type that a constructor made of what was taken
abbrev pub MadeOf : (Option (Box code.Type Global) → Span → code.Type → Type 0) → code.Type → List Item → List Item → Type 0
MadeOf makes x old new = (inner : Option (Box code.Type Global)) × (s : Span) × makes inner s x × (with_payload old ≡ Ok ((optional_of inner, s), new)) × TakesPayload old new (optional_of inner) s
