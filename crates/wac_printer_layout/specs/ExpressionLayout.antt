-- How expressions are printed.
use Rattle.std.specs.Prelude.{◌≡◌, ℕ, false, List, [], ◌∷◌, ◌++◌, None, codes, refl}
use Rattle.std.specs.List.{flat_map}
use Rattle.wac_ast_grammar.specs.Tree as tree
use Rattle.wac_ast_grammar.specs.Tree.{Ident, PackageName, AccessExpr, NamedAccessExpr, PostfixExpr, InstantiationArgumentName, Expr, PrimaryExpr, Arguments, InstantiationArgument}
use Rattle.wac_printer_layout.specs.Printed.{Piece, token, line, deeper, text}
use Rattle.wac_printer_layout.specs.Parts.{space, newline}
use Rattle.wac_printer_layout.specs.Bare.{nowhere}

abbrev pub access_expr_layout : AccessExpr → List Piece
access_expr_layout x = token (codes ".") ∷ token x.id.string ∷ []

abbrev pub named_access_expr_layout : NamedAccessExpr → List Piece
named_access_expr_layout x = token (codes "[") ∷ token x.string.value ∷ token (codes "]") ∷ []

abbrev pub postfix_expr_layout : PostfixExpr → List Piece
postfix_expr_layout (tree.PostfixExpr.access x) = access_expr_layout x
postfix_expr_layout (tree.PostfixExpr.named_access x) = named_access_expr_layout x

abbrev pub argument_name_layout : InstantiationArgumentName → List Piece
argument_name_layout (tree.InstantiationArgumentName.ident x) = token x.string ∷ []
argument_name_layout (tree.InstantiationArgumentName.string x) = token x.value ∷ []

-- a comma follows each argument but a fill that is the last
abbrev pub comma_layout : InstantiationArgument → Arguments → List Piece
comma_layout (tree.InstantiationArgument.fill s) tree.Arguments.none = []
comma_layout _ _ = token (codes ",") ∷ []

-- between braces nothing, or ` ... `, or each argument on a line of its own, which are these
abbrev pub braced_layout : ℕ → Arguments → List Piece → List Piece
braced_layout depth tree.Arguments.none lines = []
braced_layout depth (tree.Arguments.more (tree.InstantiationArgument.fill s) tree.Arguments.none) lines = space ∷ token (codes "...") ∷ space ∷ []
braced_layout depth _ lines = newline ∷ (lines ++ line depth ∷ [])

unfoldable mutual
  pub expr_layout : ℕ → Expr → List Piece
  expr_layout depth (tree.Expr.expr s first others) = primary_expr_layout depth first ++ flat_map postfix_expr_layout others

  pub primary_expr_layout : ℕ → PrimaryExpr → List Piece
  primary_expr_layout depth (tree.PrimaryExpr.new s name arguments) =
      token (codes "new") ∷ space ∷ token name.string ∷ space ∷ token (codes "{") ∷ (braced_layout depth arguments (arguments_layout (deeper depth) arguments) ++ token (codes "}") ∷ [])
  primary_expr_layout depth (tree.PrimaryExpr.nested s x) = token (codes "(") ∷ (expr_layout depth x ++ token (codes ")") ∷ [])
  primary_expr_layout depth (tree.PrimaryExpr.ident x) = token x.string ∷ []

  pub arguments_layout : ℕ → Arguments → List Piece
  arguments_layout depth tree.Arguments.none = []
  arguments_layout depth (tree.Arguments.more x xs) = line depth ∷ (argument_layout depth x ++ (comma_layout x xs ++ newline ∷ arguments_layout depth xs))

  pub argument_layout : ℕ → InstantiationArgument → List Piece
  argument_layout depth (tree.InstantiationArgument.fill s) = token (codes "...") ∷ []
  argument_layout depth (tree.InstantiationArgument.spread x) = token (codes "...") ∷ token x.string ∷ []
  argument_layout depth (tree.InstantiationArgument.named name x) = argument_name_layout name ++ token (codes ":") ∷ space ∷ expr_layout depth x
  argument_layout depth (tree.InstantiationArgument.inferred x) = token x.string ∷ []

abbrev named : List ℕ → Ident
named text = record { string = text; span = nowhere }

abbrev instantiation : Arguments → PrimaryExpr
instantiation arguments = tree.PrimaryExpr.new nowhere (record { string = codes "a:b"; name = codes "a:b"; version = None; span = nowhere }) arguments

abbrev fill : InstantiationArgument
fill = tree.InstantiationArgument.fill nowhere

new_1 : text (codes "\t") false (primary_expr_layout 0 (instantiation tree.Arguments.none)) ≡ codes "new a:b {}"
unfolding expr_layout primary_expr_layout arguments_layout argument_layout
new_1 = refl

new_2 : text (codes "\t") false (primary_expr_layout 0 (instantiation (tree.Arguments.more fill tree.Arguments.none))) ≡ codes "new a:b { ... }"
unfolding expr_layout primary_expr_layout arguments_layout argument_layout
new_2 = refl

-- a fill that is not the last has a comma after it
new_3 : text (codes "\t") false (primary_expr_layout 0 (instantiation (tree.Arguments.more fill (tree.Arguments.more (tree.InstantiationArgument.inferred (named (codes "x"))) (tree.Arguments.more fill tree.Arguments.none)))))
    ≡ codes "new a:b {\n\t...,\n\tx,\n\t...\n}"
unfolding expr_layout primary_expr_layout arguments_layout argument_layout
new_3 = refl
