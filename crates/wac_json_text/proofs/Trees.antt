-- The trees of types and of expressions, which hold others of their kind, as JSON.
use Rattle.wac_json_text.proofs.Common.{◌≡◌, ℕ, List, [], ◌∷◌, ◌++◌, codes, decimal, sym, Result, Data, blank, ty_of, Printer, Prints, PrintError, printed_at}
use Rattle.wac_json_forms.specs.Forms.{ty_json}
use Rattle.wac_lexer.specs.Span.{Span}
use Rattle.wac_ast_grammar.specs.Tree as tree
use Rattle.wac_ast_types.specs.declared.types.«Type» as code
use Rattle.wac_ast_types.specs.declared.types.«Type».{«Type»}
use Rattle.wac_json_text.specs.Contents.{held_pieces, span_inside}
use Rattle.wac_json_text.specs.Pieces.{pieces}
use Rattle.wac_json_text.proofs.Joined.{around, before}

-- a type that holds one, as one text
pub held_put : {A : Type 0} {old new : Printer} {r : Result A PrintError} (opening : List ℕ) (d : Data) (s : Span) → Prints old r new (held_pieces opening d s)
    → Prints old r new (blank (opening ++ before d (codes ",{\"length\":" ++ (decimal s.len ++ (codes ",\"offset\":" ++ (decimal s.offset ++ codes "}]}"))))) ∷ [])
held_put opening d s h = around d (blank (codes ",{\"length\":") ∷ (span_inside s ++ blank (codes "}]}") ∷ [])) h

-- ---- types

-- a type that is another
pub as_ty : {A : Type 0} {x y : «Type»} {old new : Printer} {r : Result A PrintError} → x ≡ y → Prints old r new (pieces (ty_json (ty_of y))) → Prints old r new (pieces (ty_json (ty_of x)))
as_ty e h = printed_at (λ z. pieces (ty_json (ty_of z))) (sym e) h
