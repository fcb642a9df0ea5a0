-- The spans of parts of a tree, and the texts that name them.
use Rattle.std.specs.Prelude.{ℕ, List}
use Rattle.wac_lexer.specs.Span.{Span}
use Rattle.wac_ast_grammar.specs.Tree.{Ty, ExternName, WorldRef, InstantiationArgumentName}

abbrev pub extern_name_text : ExternName → List ℕ
extern_name_text (ExternName.ident x) = x.string
extern_name_text (ExternName.string x) = x.value

abbrev pub extern_name_span : ExternName → Span
extern_name_span (ExternName.ident x) = x.span
extern_name_span (ExternName.string x) = x.span

-- the name of a world, or its whole path
abbrev pub world_ref_name : WorldRef → List ℕ
world_ref_name (WorldRef.path x) = x.string
world_ref_name (WorldRef.ident x) = x.string

abbrev pub world_ref_span : WorldRef → Span
world_ref_span (WorldRef.path x) = x.span
world_ref_span (WorldRef.ident x) = x.span

abbrev pub argument_name_span : InstantiationArgumentName → Span
argument_name_span (InstantiationArgumentName.ident x) = x.span
argument_name_span (InstantiationArgumentName.string x) = x.span

abbrev pub argument_name_text : InstantiationArgumentName → List ℕ
argument_name_text (InstantiationArgumentName.ident x) = x.string
argument_name_text (InstantiationArgumentName.string x) = x.value

-- the whole of a type
abbrev pub ty_span : Ty → Span
ty_span (Ty.u8 s) = s
ty_span (Ty.s8 s) = s
ty_span (Ty.u16 s) = s
ty_span (Ty.s16 s) = s
ty_span (Ty.u32 s) = s
ty_span (Ty.s32 s) = s
ty_span (Ty.u64 s) = s
ty_span (Ty.s64 s) = s
ty_span (Ty.f32 s) = s
ty_span (Ty.f64 s) = s
ty_span (Ty.char s) = s
ty_span (Ty.bool s) = s
ty_span (Ty.string s) = s
ty_span (Ty.tuple _ s) = s
ty_span (Ty.list _ s) = s
ty_span (Ty.option _ s) = s
ty_span (Ty.result _ _ s) = s
ty_span (Ty.borrow _ s) = s
ty_span (Ty.stream _ s) = s
ty_span (Ty.future _ s) = s
ty_span (Ty.error_context s) = s
ty_span (Ty.ident id) = id.span
