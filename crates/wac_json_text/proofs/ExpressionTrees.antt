-- The trees of expressions, which hold others of their kind, as JSON.
use Rattle.wac_json_text.proofs.Common.{◌≡◌, sym, Result, argument_of, expr_of, primary_expr_of, InstantiationArgument, PrimaryExpr, Printer, Prints, PrintError, printed_at}
use Rattle.wac_json_forms.specs.Forms.{argument_json, primary_expr_json}
use Rattle.wac_ast_grammar.specs.Tree as tree
use Rattle.wac_json_text.specs.Pieces.{pieces}

-- a primary expression, or an argument, that is another
pub as_primary : {A : Type 0} {x y : PrimaryExpr} {old new : Printer} {r : Result A PrintError} → x ≡ y → Prints old r new (pieces (primary_expr_json (primary_expr_of y))) → Prints old r new (pieces (primary_expr_json (primary_expr_of x)))
as_primary e h = printed_at (λ z. pieces (primary_expr_json (primary_expr_of z))) (sym e) h

pub as_argument : {A : Type 0} {x y : InstantiationArgument} {old new : Printer} {r : Result A PrintError} → x ≡ y → Prints old r new (pieces (argument_json (argument_of y))) → Prints old r new (pieces (argument_json (argument_of x)))
as_argument e h = printed_at (λ z. pieces (argument_json (argument_of z))) (sym e) h
