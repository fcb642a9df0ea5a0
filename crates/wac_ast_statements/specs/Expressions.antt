-- The trees of expressions.
use Rattle.std.specs.Prelude.{List, map, ◌<◌, ◌^◌}
use Rattle.wac_lexer.specs.Span.{Span, end_of}
use Rattle.wac_lexer.specs.Item.{Item}
use Rattle.wac_ast_grammar.specs.Grammar.{last_span, build, expr, postfixes as postfix_list}
use Rattle.wac_ast_grammar.specs.Reading.{mapped, read}
use Rattle.wac_ast_base.specs.Lists.{Reads}
use Rattle.wac_ast_grammar.specs.Tree as tree
use Rattle.wac_ast_grammar.specs.Tree.{arguments_from, Expr, PrimaryExpr, PostfixExpr}
use Rattle.wac_ast_statements.specs.declared.expr.AccessExpr.{AccessExpr as CodeAccessExpr}
use Rattle.wac_ast_statements.specs.declared.expr.NamedAccessExpr.{NamedAccessExpr as CodeNamedAccessExpr}
use Rattle.wac_ast_statements.specs.declared.expr.PostfixExpr.{PostfixExpr as CodePostfixExpr}
use Rattle.wac_ast_statements.specs.declared.expr.PostfixExpr.TheVariants as postfixes
use Rattle.wac_ast_statements.specs.declared.expr.PrimaryExpr.{PrimaryExpr as CodePrimaryExpr, New', Nested}
use Rattle.wac_ast_statements.specs.declared.expr.NestedExpr.{NestedExpr as CodeNestedExpr, NestedExpr'}
use Rattle.wac_ast_statements.specs.declared.expr.NewExpr.{NewExpr as CodeNewExpr, Row_of-InstantiationArgument, end_of-InstantiationArgument, more_of-InstantiationArgument}
use Rattle.wac_ast_statements.specs.declared.expr.InstantiationArgument.{InstantiationArgument as CodeArgument, Inferred, Spread, Named', Fill}
use Rattle.wac_ast_statements.specs.declared.expr.NamedInstantiationArgument.{NamedInstantiationArgument as CodeNamedArgument}
use Rattle.wac_ast_statements.specs.declared.expr.InstantiationArgumentName.{InstantiationArgumentName as CodeArgumentName}
use Rattle.wac_ast_statements.specs.declared.expr.InstantiationArgumentName.TheVariants as argument_names
use Rattle.wac_ast_statements.specs.declared.expr.PrimaryExpr.TheVariants as primaries
use Rattle.wac_ast_statements.specs.declared.expr.Expr.{Expr as CodeExpr}
use Rattle.wac_ast_base.specs.Names.{ident_of, string_of, package_name_of}

abbrev pub access_expr_of : CodeAccessExpr → tree.AccessExpr
access_expr_of x = record { span = x.span; id = ident_of x.id }

abbrev pub named_access_expr_of : CodeNamedAccessExpr → tree.NamedAccessExpr
named_access_expr_of x = record { span = x.span; string = string_of x.string }

abbrev pub postfix_expr_of : CodePostfixExpr → tree.PostfixExpr
postfix_expr_of (postfixes.Access x) = PostfixExpr.access (access_expr_of x)
postfix_expr_of (postfixes.NamedAccess x) = PostfixExpr.named_access (named_access_expr_of x)

abbrev pub argument_name_of : CodeArgumentName → tree.InstantiationArgumentName
argument_name_of (argument_names.Ident x) = tree.InstantiationArgumentName.ident (ident_of x)
argument_name_of (argument_names.String x) = tree.InstantiationArgumentName.string (string_of x)

abbrev mutual
  pub primary_expr_of : CodePrimaryExpr → tree.PrimaryExpr
  primary_expr_of (New' span name shape row) = PrimaryExpr.new span (package_name_of name) (arguments_of_row row)
  primary_expr_of (Nested x) = nested_expr_of x
  primary_expr_of (primaries.Ident x) = PrimaryExpr.ident (ident_of x)

  pub nested_expr_of : CodeNestedExpr → tree.PrimaryExpr
  nested_expr_of (NestedExpr' span p outer primary postfix) = PrimaryExpr.nested span (Expr.expr outer (primary_expr_of primary) (map postfix_expr_of postfix.items))

  pub argument_of : CodeArgument → tree.InstantiationArgument
  argument_of (Inferred x) = tree.InstantiationArgument.inferred (ident_of x)
  argument_of (Spread x) = tree.InstantiationArgument.spread (ident_of x)
  argument_of (Named' name span primary postfix) = tree.InstantiationArgument.named (argument_name_of name) (Expr.expr span (primary_expr_of primary) (map postfix_expr_of postfix.items))
  argument_of (Fill s) = tree.InstantiationArgument.fill s

  pub arguments_of_row : {n : _} → Row_of-InstantiationArgument n → tree.Arguments
  arguments_of_row end_of-InstantiationArgument = tree.Arguments.none
  arguments_of_row (more_of-InstantiationArgument x others) = tree.Arguments.more (argument_of x) (arguments_of_row others)

abbrev pub expr_of : CodeExpr → tree.Expr
expr_of x = Expr.expr x.span (primary_expr_of x.primary) (map postfix_expr_of x.postfix.items)

abbrev pub new_expr_of : CodeNewExpr → tree.PrimaryExpr
new_expr_of x = PrimaryExpr.new x.span (package_name_of x.«package») (arguments_from (map argument_of x.arguments.items))

abbrev pub named_argument_of : CodeNamedArgument → tree.NamedInstantiationArgument
named_argument_of x = record { name = argument_name_of x.name; expr = expr_of x.expr }

-- Accesses after a span whose end fits a machine word end at one that fits it too.
abbrev pub EndFits : List PostfixExpr → Type 0
EndFits others = (s : Span) → end_of s < 2 ^ 64 → end_of (last_span s others) < 2 ^ 64

-- an expression, after what comes first in it
abbrev pub after_primary : PrimaryExpr → List Item → Reads Expr
after_primary first xs = mapped (λ others. build expr (first, others)) (read postfix_list xs)

abbrev pub after_first : CodePrimaryExpr → List Item → Reads Expr
after_first x = after_primary (primary_expr_of x)
