-- The pieces of expressions join.
use Rattle.wac_ast_grammar.specs.Walk.{walk_arguments, walk_expr, walk_instantiation_argument, walk_instantiation_argument_name, walk_postfix_expr, walk_primary_expr}
use Rattle.wac_printer_layout.proofs.Common.{◌≡◌, ℕ, Bool, true, List, [], ◌∷◌, ◌++◌, refl, AllByRecursion, flat_map, follows, PostfixExpr, InstantiationArgumentName, Expr, PrimaryExpr, Arguments, InstantiationArgument}
use Rattle.wac_lexer.specs.declared.token.Token.TheVariants as kinds
use Rattle.wac_ast_grammar.specs.Tree as tree
use Rattle.wac_printer_layout.specs.Printed.{Piece, line, text, deeper}
use Rattle.wac_printer_layout.specs.Parts.{newline}
use Rattle.wac_printer_layout.specs.Texts.{Spelled, has}
use Rattle.wac_printer_layout.specs.ExpressionLayout.{postfix_expr_layout, argument_name_layout, comma_layout, braced_layout, expr_layout, primary_expr_layout, arguments_layout, argument_layout}
use Rattle.wac_printer_layout.proofs.Joints.{J, also, known, dot, word, string, name, colon, comma, ellipsis, open_paren, close_paren, open_brace, close_brace, open_bracket, close_bracket}

module _ (gap : List ℕ) where
  postfix_join : (x : PostfixExpr) (rest : List ℕ) (fresh : Bool) → walk_postfix_expr (has Spelled) x → follows kinds.Ident rest ≡ true → J gap rest fresh (postfix_expr_layout x)
  postfix_join (tree.PostfixExpr.access x) rest fresh is h = (known _ refl _ (dot x.id.string [] rest is), (word _ _ is h, tt))
  postfix_join (tree.PostfixExpr.named_access x) rest fresh is h = (open_bracket _, (string _ _ is, (close_bracket _, tt)))

  postfixes_follow : (xs : List PostfixExpr) (rest : List ℕ) (fresh : Bool) → follows kinds.Ident rest ≡ true → follows kinds.Ident (text gap fresh (flat_map postfix_expr_layout xs) ++ rest) ≡ true
  postfixes_follow [] rest fresh h = h
  postfixes_follow (tree.PostfixExpr.access x ∷ xs) rest fresh h = refl
  postfixes_follow (tree.PostfixExpr.named_access x ∷ xs) rest fresh h = refl

  postfixes_join : (xs : List PostfixExpr) (rest : List ℕ) (fresh : Bool) → AllByRecursion (walk_postfix_expr (has Spelled)) xs → follows kinds.Ident rest ≡ true → J gap rest fresh (flat_map postfix_expr_layout xs)
  postfixes_join [] rest fresh is h = tt
  postfixes_join (x ∷ xs) rest fresh is h =
      also gap rest fresh (postfix_expr_layout x) (flat_map postfix_expr_layout xs) (postfix_join x _ fresh is.0 (postfixes_follow xs rest _ h)) (postfixes_join xs rest _ is.1 h)

  -- arguments
  comma_follows : (x : InstantiationArgument) (xs : Arguments) (more : List Piece) (rest : List ℕ) (fresh : Bool) → follows kinds.Ident (text gap fresh (comma_layout x xs ++ newline ∷ more) ++ rest) ≡ true
  comma_follows (tree.InstantiationArgument.fill s) tree.Arguments.none more rest fresh = refl
  comma_follows (tree.InstantiationArgument.fill s) (tree.Arguments.more y ys) more rest fresh = refl
  comma_follows (tree.InstantiationArgument.spread x) xs more rest fresh = refl
  comma_follows (tree.InstantiationArgument.named n x) xs more rest fresh = refl
  comma_follows (tree.InstantiationArgument.inferred x) xs more rest fresh = refl

  comma_join : (x : InstantiationArgument) (xs : Arguments) (rest : List ℕ) (fresh : Bool) → J gap rest fresh (comma_layout x xs)
  comma_join (tree.InstantiationArgument.fill s) tree.Arguments.none rest fresh = tt
  comma_join (tree.InstantiationArgument.fill s) (tree.Arguments.more y ys) rest fresh = (comma _, tt)
  comma_join (tree.InstantiationArgument.spread x) xs rest fresh = (comma _, tt)
  comma_join (tree.InstantiationArgument.named n x) xs rest fresh = (comma _, tt)
  comma_join (tree.InstantiationArgument.inferred x) xs rest fresh = (comma _, tt)

  lines_join : (depth : ℕ) (lines : List Piece) (rest : List ℕ) (fresh : Bool) → ((rest : List ℕ) (fresh : Bool) → J gap rest fresh lines) → J gap rest fresh (newline ∷ (lines ++ line depth ∷ []))
  lines_join depth lines rest fresh is = ((refl, tt), also gap rest _ lines (line depth ∷ []) (is _ _) (tt, tt))

  braced_join : (depth : ℕ) (xs : Arguments) (lines : List Piece) (rest : List ℕ) (fresh : Bool) → ((rest : List ℕ) (fresh : Bool) → J gap rest fresh lines) → J gap rest fresh (braced_layout depth xs lines)
  braced_join depth tree.Arguments.none lines rest fresh is = tt
  braced_join depth (tree.Arguments.more (tree.InstantiationArgument.fill s) tree.Arguments.none) lines rest fresh is = ((refl, tt), (ellipsis _, ((refl, tt), tt)))
  braced_join depth (tree.Arguments.more (tree.InstantiationArgument.fill s) (tree.Arguments.more y ys)) lines rest fresh is = lines_join depth lines rest fresh is
  braced_join depth (tree.Arguments.more (tree.InstantiationArgument.spread x) xs) lines rest fresh is = lines_join depth lines rest fresh is
  braced_join depth (tree.Arguments.more (tree.InstantiationArgument.named n x) xs) lines rest fresh is = lines_join depth lines rest fresh is
  braced_join depth (tree.Arguments.more (tree.InstantiationArgument.inferred x) xs) lines rest fresh is = lines_join depth lines rest fresh is

  argument_name_join : (x : InstantiationArgumentName) (rest : List ℕ) (fresh : Bool) → walk_instantiation_argument_name (has Spelled) x → follows kinds.Ident rest ≡ true → J gap rest fresh (argument_name_layout x)
  argument_name_join (tree.InstantiationArgumentName.ident x) rest fresh is h = (word _ _ is h, tt)
  argument_name_join (tree.InstantiationArgumentName.string x) rest fresh is h = (string _ _ is, tt)

  mutual
    unfolding expr_layout primary_expr_layout arguments_layout argument_layout

    pub expr_join : (depth : ℕ) (x : Expr) (rest : List ℕ) (fresh : Bool) → walk_expr (has Spelled) x → follows kinds.Ident rest ≡ true → J gap rest fresh (expr_layout depth x)
    expr_join depth (tree.Expr.expr s first others) rest fresh is h =
        also gap rest fresh (primary_expr_layout depth first) (flat_map postfix_expr_layout others) (primary_join depth first _ fresh is.0 (postfixes_follow others rest _ h)) (postfixes_join others rest _ is.1 h)

    primary_join : (depth : ℕ) (x : PrimaryExpr) (rest : List ℕ) (fresh : Bool) → walk_primary_expr (has Spelled) x → follows kinds.Ident rest ≡ true → J gap rest fresh (primary_expr_layout depth x)
    primary_join depth (tree.PrimaryExpr.new s n xs) rest fresh is h = (
      known _ refl _ refl,
      (
        (refl, tt),
        (
          name _ _ is.0.0.0 refl,
          (
            (refl, tt),
            (
              open_brace _,
              also gap _ _ (braced_layout depth xs (arguments_layout (deeper depth) xs)) _ (braced_join depth xs (arguments_layout (deeper depth) xs) _ _ (λ rest fresh. arguments_join (deeper depth) xs rest fresh is.1)) (close_brace _, tt),
            ),
          ),
        ),
      ),
    )
    primary_join depth (tree.PrimaryExpr.nested s x) rest fresh is h = (open_paren _, also gap _ _ (expr_layout depth x) _ (expr_join depth x _ _ is refl) (close_paren _, tt))
    primary_join depth (tree.PrimaryExpr.ident x) rest fresh is h = (word _ _ is h, tt)

    arguments_join : (depth : ℕ) (xs : Arguments) (rest : List ℕ) (fresh : Bool) → walk_arguments (has Spelled) xs → J gap rest fresh (arguments_layout depth xs)
    arguments_join depth tree.Arguments.none rest fresh is = tt
    arguments_join depth (tree.Arguments.more x xs) rest fresh is = (
      tt,
      also gap _ _ (argument_layout depth x) _ (argument_join depth x _ _ is.0 (comma_follows x xs _ _ _))
          (also gap _ _ (comma_layout x xs) _ (comma_join x xs _ _) ((refl, tt), arguments_join depth xs rest _ is.1)),
    )

    argument_join : (depth : ℕ) (x : InstantiationArgument) (rest : List ℕ) (fresh : Bool) → walk_instantiation_argument (has Spelled) x → follows kinds.Ident rest ≡ true → J gap rest fresh (argument_layout depth x)
    argument_join depth (tree.InstantiationArgument.fill s) rest fresh is h = (ellipsis _, tt)
    argument_join depth (tree.InstantiationArgument.spread x) rest fresh is h = (ellipsis _, (word _ _ is h, tt))
    argument_join depth (tree.InstantiationArgument.named n x) rest fresh is h =
        also gap _ _ (argument_name_layout n) _ (argument_name_join n _ _ is.0 refl) (colon _, ((refl, tt), expr_join depth x rest _ is.1 h))
    argument_join depth (tree.InstantiationArgument.inferred x) rest fresh is h = (word _ _ is h, tt)
