-- Expressions are read back.
use Rattle.std.proofs.Common.{◌≡◌, ℕ, List, [], ◌∷◌, ◌++◌, map, sym as back, refl, ap, subst, inl, inr, codes}
use Rattle.wac_ast_grammar.specs.Walk.{walk_arguments, walk_expr, walk_instantiation_argument, walk_postfix_expr, walk_primary_expr}
use Rattle.wac_printer_layout.proofs.Common.{AllByRecursion, flat_map, Item, slice, is_token, Ident, String, PackageName, AccessExpr, NamedAccessExpr, PostfixExpr, InstantiationArgumentName, Expr, PrimaryExpr, Arguments, InstantiationArgument, arguments_from, build, Derives, access_expr, named_access_expr, postfix_expr, postfixes, argument, arguments, new_expr, nested_expr, primary_expr, expr, by_rule, list_items, more_items}
use Rattle.wac_lexer.specs.declared.token.Token.TheVariants as kinds
use Rattle.wac_ast_grammar.specs.Tree as tree
use Rattle.wac_ast_grammar.specs.Grammar.{identifier}
use Rattle.wac_printer_layout.specs.Printed.{Piece, token, line, deeper}
use Rattle.wac_printer_layout.specs.Bare.{nowhere, bare}
use Rattle.wac_printer_layout.specs.Parts.{newline, close_body}
use Rattle.wac_printer_layout.specs.ExpressionLayout.{postfix_expr_layout, comma_layout, braced_layout, expr_layout, primary_expr_layout, arguments_layout, argument_layout}
use Rattle.wac_printer_layout.specs.Texts.{Spelled, has}
use Rattle.wac_printer_layout.proofs.Means.{Means, split}
use Rattle.wac_printer_layout.proofs.NamesBack.{alone, is_kind, word_back, string_back, name_back}
use Rattle.wac_printer_layout.proofs.ListsBack.{regroup}

module _ (S P : List ℕ) where
  postfix_back : (x : PostfixExpr) (ds : List (List ℕ)) (ys : List Item) → walk_postfix_expr (has Spelled) (walk_postfix_expr (bare S) x) → Means P ds ys (postfix_expr_layout (walk_postfix_expr (bare S) x))
      → (u : PostfixExpr) × Derives postfix_expr ys u × (walk_postfix_expr (bare P) u ≡ walk_postfix_expr (bare S) x)
  postfix_back (tree.PostfixExpr.access x) ds ys is h =
      let h1 = h.4 in
      let w = word_back S P x.id _ h1.0 is h1.3 in
      let a = by_rule access_expr ys (h.0, w.0) (h.0 ∷ [], h.1, h.2, (refl, ap (is_token kinds.Dot) h.3.0, refl), subst (λ zs. Derives identifier zs w.0) (back (alone h1.0 h1.1 h.1 h1.2 h1.4)) w.1) in
      (tree.PostfixExpr.access (build access_expr (h.0, w.0)), by_rule postfix_expr ys (inl (build access_expr (h.0, w.0))) a, (λ i. tree.PostfixExpr.access (record { span = nowhere; id = w.2 i })))
  postfix_back (tree.PostfixExpr.named_access x) ds ys is h =
      let h1 = h.4 in
      let w = string_back S P x.string _ h1.0 is h1.3 in
      let l = h1.4 in
      let a = by_rule named_access_expr ys (h.0, (w.0, l.0)) (h.0 ∷ [], h.1, h.2, (refl, ap (is_token kinds.OpenBracket) h.3.0, refl), (h1.0 ∷ [], h1.1, h1.2, w.1, (alone l.0 l.1 h1.1 l.2 l.4, ap (is_token kinds.CloseBracket) l.3.0, refl))) in
      (tree.PostfixExpr.named_access (build named_access_expr (h.0, (w.0, l.0))), by_rule postfix_expr ys (inr (build named_access_expr (h.0, (w.0, l.0)))) a, (λ i. tree.PostfixExpr.named_access (record { span = nowhere; string = w.2 i })))

  postfixes_back : (xs : List PostfixExpr) (ds : List (List ℕ)) (ys : List Item) → AllByRecursion (walk_postfix_expr (has Spelled)) (map (walk_postfix_expr (bare S)) xs) → Means P ds ys (flat_map postfix_expr_layout (map (walk_postfix_expr (bare S)) xs))
      → (us : List PostfixExpr) × Derives postfixes ys us × (map (walk_postfix_expr (bare P)) us ≡ map (walk_postfix_expr (bare S)) xs)
  postfixes_back [] ds ys is h = ([], by_rule postfixes ys (inr tt) h, refl)
  postfixes_back (x ∷ xs) ds ys is h =
      let c = split P ds ys (postfix_expr_layout (walk_postfix_expr (bare S) x)) (flat_map postfix_expr_layout (map (walk_postfix_expr (bare S)) xs)) h in
      let r = postfix_back x _ c.0 is.0 c.3 in
      let q = postfixes_back xs _ c.1 is.1 c.4 in
      (r.0 ∷ q.0, by_rule postfixes ys (inl (r.0, q.0)) (c.0, c.1, c.2, r.1, q.1), (λ i. r.2 i ∷ q.2 i))

  -- what is read back of expressions and arguments
  abbrev ExprBack : Expr → List Item → Type 0
  ExprBack x ys = (u : Expr) × Derives expr ys u × (walk_expr (bare P) u ≡ walk_expr (bare S) x)

  abbrev ArgumentsBack : Arguments → List Item → Type 0
  ArgumentsBack xs ys = (q : List InstantiationArgument × Item) × Derives (list_items arguments) ys q × (walk_arguments (bare P) (arguments_from q.0) ≡ walk_arguments (bare S) xs)

  abbrev MoreBack : Arguments → List Item → Type 0
  MoreBack xs ys = (q : List InstantiationArgument × Item) × Derives (more_items arguments) ys q × (walk_arguments (bare P) (arguments_from q.0) ≡ walk_arguments (bare S) xs)

  -- after an argument: the brace, or a comma and the others
  brace : (ds : List (List ℕ)) (ys : List Item) → Means P ds ys (token (codes "}") ∷ []) → MoreBack tree.Arguments.none ys
  brace ds ys h = (([], h.0), by_rule (more_items arguments) ys (inl h.0) (alone h.0 h.1 ys h.2 h.4, ap (is_token kinds.CloseBrace) h.3.0, refl), refl)

  after_comma : (xs : Arguments) (depth : ℕ) (rest : List Piece) (ds : List (List ℕ)) (ys : List Item) → Means P ds ys ((token (codes ",") ∷ newline ∷ arguments_layout depth (walk_arguments (bare S) xs)) ++ rest)
      → ((zs : List Item) → Means P [] zs (arguments_layout depth (walk_arguments (bare S) xs) ++ rest) → ArgumentsBack xs zs) → MoreBack xs ys
  after_comma xs depth rest ds ys h others =
      let q = others h.1 h.4 in
      (q.0, by_rule (more_items arguments) ys (inr (h.0, q.0)) (h.0 ∷ [], h.1, h.2, (refl, ap (is_token kinds.Comma) h.3.0, refl), q.1), q.2)

  more_back : (x : InstantiationArgument) (xs : Arguments) (depth outer : ℕ) (ds : List (List ℕ)) (ys : List Item)
      → Means P ds ys ((comma_layout (walk_instantiation_argument (bare S) x) (walk_arguments (bare S) xs) ++ newline ∷ arguments_layout depth (walk_arguments (bare S) xs)) ++ close_body outer)
      → ((zs : List Item) → Means P [] zs (arguments_layout depth (walk_arguments (bare S) xs) ++ close_body outer) → ArgumentsBack xs zs) → MoreBack xs ys
  unfolding arguments_layout
  more_back (tree.InstantiationArgument.fill s) tree.Arguments.none depth outer ds ys h others = brace ds ys h
  more_back (tree.InstantiationArgument.fill s) (tree.Arguments.more y zs) depth outer ds ys h others = after_comma (tree.Arguments.more y zs) depth (close_body outer) ds ys h others
  more_back (tree.InstantiationArgument.spread x) xs depth outer ds ys h others = after_comma xs depth (close_body outer) ds ys h others
  more_back (tree.InstantiationArgument.named n x) xs depth outer ds ys h others = after_comma xs depth (close_body outer) ds ys h others
  more_back (tree.InstantiationArgument.inferred x) xs depth outer ds ys h others = after_comma xs depth (close_body outer) ds ys h others

  -- between braces
  braced_back : (depth : ℕ) (xs : Arguments) (ds : List (List ℕ)) (ys : List Item) → Means P [] ys (braced_layout depth (walk_arguments (bare S) xs) (arguments_layout (deeper depth) (walk_arguments (bare S) xs)) ++ token (codes "}") ∷ [])
      → ((zs : List Item) → Means P [] zs (arguments_layout (deeper depth) (walk_arguments (bare S) xs) ++ close_body depth) → ArgumentsBack xs zs) → ArgumentsBack xs ys
  braced_back depth tree.Arguments.none ds ys h others = (([], h.0), by_rule (list_items arguments) ys (inl h.0) (alone h.0 h.1 ys h.2 h.4, ap (is_token kinds.CloseBrace) h.3.0, refl), refl)
  braced_back depth (tree.Arguments.more (tree.InstantiationArgument.fill s) tree.Arguments.none) ds ys h others =
      let m = brace [] h.1 h.4 in
      let a = by_rule argument (h.0 ∷ []) (inl (h.0, inr tt)) (h.0 ∷ [], [], refl, (refl, ap (is_token kinds.Ellipsis) h.3.0, refl), refl) in
      ((build argument (inl (h.0, inr tt)) ∷ m.0.0, m.0.1), by_rule (list_items arguments) ys (inr (build argument (inl (h.0, inr tt)), m.0)) (h.0 ∷ [], h.1, h.2, a, m.1), ap (λ b. tree.Arguments.more (tree.InstantiationArgument.fill nowhere) b) m.2)
  braced_back depth (tree.Arguments.more (tree.InstantiationArgument.fill s) (tree.Arguments.more y zs)) ds ys h others = others ys (regroup P [] ys (arguments_layout (deeper depth) (walk_arguments (bare S) (tree.Arguments.more (tree.InstantiationArgument.fill s) (tree.Arguments.more y zs)))) (line depth ∷ []) (token (codes "}") ∷ []) h)
  braced_back depth (tree.Arguments.more (tree.InstantiationArgument.spread x) xs) ds ys h others = others ys (regroup P [] ys (arguments_layout (deeper depth) (walk_arguments (bare S) (tree.Arguments.more (tree.InstantiationArgument.spread x) xs))) (line depth ∷ []) (token (codes "}") ∷ []) h)
  braced_back depth (tree.Arguments.more (tree.InstantiationArgument.named n x) xs) ds ys h others = others ys (regroup P [] ys (arguments_layout (deeper depth) (walk_arguments (bare S) (tree.Arguments.more (tree.InstantiationArgument.named n x) xs))) (line depth ∷ []) (token (codes "}") ∷ []) h)
  braced_back depth (tree.Arguments.more (tree.InstantiationArgument.inferred x) xs) ds ys h others = others ys (regroup P [] ys (arguments_layout (deeper depth) (walk_arguments (bare S) (tree.Arguments.more (tree.InstantiationArgument.inferred x) xs))) (line depth ∷ []) (token (codes "}") ∷ []) h)

  mutual
    unfolding expr_layout primary_expr_layout arguments_layout argument_layout

    pub expr_back : (depth : ℕ) (x : Expr) (ds : List (List ℕ)) (ys : List Item) → walk_expr (has Spelled) (walk_expr (bare S) x) → Means P ds ys (expr_layout depth (walk_expr (bare S) x)) → ExprBack x ys
    expr_back depth (tree.Expr.expr s first others) ds ys is h =
        let c = split P ds ys (primary_expr_layout depth (walk_primary_expr (bare S) first)) (flat_map postfix_expr_layout (map (walk_postfix_expr (bare S)) others)) h in
        let a = primary_back depth first ds c.0 is.0 c.3 in
        let q = postfixes_back others _ c.1 is.1 c.4 in
        (build expr (a.0, q.0), by_rule expr ys (a.0, q.0) (c.0, c.1, c.2, a.1, q.1), (λ i. tree.Expr.expr nowhere (a.2 i) (q.2 i)))

    primary_back : (depth : ℕ) (x : PrimaryExpr) (ds : List (List ℕ)) (ys : List Item) → walk_primary_expr (has Spelled) (walk_primary_expr (bare S) x) → Means P ds ys (primary_expr_layout depth (walk_primary_expr (bare S) x))
        → (u : PrimaryExpr) × Derives primary_expr ys u × (walk_primary_expr (bare P) u ≡ walk_primary_expr (bare S) x)
    primary_back depth (tree.PrimaryExpr.new s name xs) ds ys is h =
        let h1 = h.4 in
        let w = name_back S P name _ h1.0 is.0 h1.3 in
        let h2 = h1.4 in
        let q = braced_back depth xs [] h2.1 h2.4 (λ zs m. arguments_back (deeper depth) depth xs zs is.1 m) in
        let n = by_rule new_expr ys (h.0, (w.0, (h2.0, q.0))) (h.0 ∷ [], h.1, h.2, (refl, ap (is_token kinds.NewKeyword) h.3.0, refl), (h1.0 ∷ [], h1.1, h1.2, w.1, (h2.0 ∷ [], h2.1, h2.2, (refl, ap (is_token kinds.OpenBrace) h2.3.0, refl), q.1))) in
        (build new_expr (h.0, (w.0, (h2.0, q.0))), by_rule primary_expr ys (inl (build new_expr (h.0, (w.0, (h2.0, q.0))))) n, (λ i. tree.PrimaryExpr.new nowhere (w.2 i) (q.2 i)))
    primary_back depth (tree.PrimaryExpr.nested s x) ds ys is h =
        let h1 = h.4 in
        let c = split P [] h.1 (expr_layout depth (walk_expr (bare S) x)) (token (codes ")") ∷ []) h1 in
        let r = expr_back depth x _ c.0 is c.3 in
        let l = c.4 in
        let n = by_rule nested_expr ys (h.0, (r.0, l.0)) (h.0 ∷ [], h.1, h.2, (refl, ap (is_token kinds.OpenParen) h.3.0, refl), (c.0, c.1, c.2, r.1, (alone l.0 l.1 c.1 l.2 l.4, ap (is_token kinds.CloseParen) l.3.0, refl))) in
        (build nested_expr (h.0, (r.0, l.0)), by_rule primary_expr ys (inr (inl (build nested_expr (h.0, (r.0, l.0))))) n, ap (λ b. tree.PrimaryExpr.nested nowhere b) r.2)
    primary_back depth (tree.PrimaryExpr.ident x) ds ys is h =
        let w = word_back S P x ds h.0 is h.3 in
        (tree.PrimaryExpr.ident w.0, by_rule primary_expr ys (inr (inr w.0)) (subst (λ zs. Derives identifier zs w.0) (back (alone h.0 h.1 ys h.2 h.4)) w.1), ap tree.PrimaryExpr.ident w.2)

    arguments_back : (depth outer : ℕ) (xs : Arguments) (ys : List Item) → walk_arguments (has Spelled) (walk_arguments (bare S) xs) → Means P [] ys (arguments_layout depth (walk_arguments (bare S) xs) ++ close_body outer) → ArgumentsBack xs ys
    arguments_back depth outer tree.Arguments.none ys is h = (([], h.0), by_rule (list_items arguments) ys (inl h.0) (alone h.0 h.1 ys h.2 h.4, ap (is_token kinds.CloseBrace) h.3.0, refl), refl)
    arguments_back depth outer (tree.Arguments.more x xs) ys is h =
        let m = regroup P [] ys (argument_layout depth (walk_instantiation_argument (bare S) x)) (comma_layout (walk_instantiation_argument (bare S) x) (walk_arguments (bare S) xs) ++ newline ∷ arguments_layout depth (walk_arguments (bare S) xs)) (close_body outer) h in
        let c = split P [] ys (argument_layout depth (walk_instantiation_argument (bare S) x)) _ m in
        let r = argument_back depth x c.0 is.0 c.3 in
        let q = more_back x xs depth outer _ c.1 c.4 (λ zs k. arguments_back depth outer xs zs is.1 k) in
        ((r.0 ∷ q.0.0, q.0.1), by_rule (list_items arguments) ys (inr (r.0, q.0)) (c.0, c.1, c.2, r.1, q.1), (λ i. tree.Arguments.more (r.2 i) (q.2 i)))

    argument_back : (depth : ℕ) (x : InstantiationArgument) (ys : List Item) → walk_instantiation_argument (has Spelled) (walk_instantiation_argument (bare S) x) → Means P [] ys (argument_layout depth (walk_instantiation_argument (bare S) x))
        → (u : InstantiationArgument) × Derives argument ys u × (walk_instantiation_argument (bare P) u ≡ walk_instantiation_argument (bare S) x)
    argument_back depth (tree.InstantiationArgument.fill s) ys is h =
        (build argument (inl (h.0, inr tt)), by_rule argument ys (inl (h.0, inr tt)) (h.0 ∷ [], h.1, h.2, (refl, ap (is_token kinds.Ellipsis) h.3.0, refl), h.4), refl)
    argument_back depth (tree.InstantiationArgument.spread x) ys is h =
        let h1 = h.4 in
        let w = word_back S P x _ h1.0 is h1.3 in (
          build argument (inl (h.0, inl w.0)),
          by_rule argument ys (inl (h.0, inl w.0)) (h.0 ∷ [], h.1, h.2, (refl, ap (is_token kinds.Ellipsis) h.3.0, refl), subst (λ zs. Derives identifier zs w.0) (back (alone h1.0 h1.1 h.1 h1.2 h1.4)) w.1),
          ap tree.InstantiationArgument.spread w.2,
        )
    argument_back depth (tree.InstantiationArgument.named (tree.InstantiationArgumentName.ident n) x) ys is h =
        let w = word_back S P n _ h.0 is.0 h.3 in
        let h1 = h.4 in
        let r = expr_back depth x _ h1.1 is.1 h1.4 in (
          build argument (inr (inl (w.0, inl (h1.0, r.0)))),
          by_rule argument ys (inr (inl (w.0, inl (h1.0, r.0)))) (h.0 ∷ [], h.1, h.2, w.1, (h1.0 ∷ [], h1.1, h1.2, (refl, ap (is_token kinds.Colon) h1.3.0, refl), r.1)),
          (λ i. tree.InstantiationArgument.named (tree.InstantiationArgumentName.ident (w.2 i)) (r.2 i)),
        )
    argument_back depth (tree.InstantiationArgument.named (tree.InstantiationArgumentName.string n) x) ys is h =
        let h1 = h.4 in
        let r = expr_back depth x _ h1.1 is.1 h1.4 in (
          build argument (inr (inr (h.0, (h1.0, r.0)))),
          by_rule argument ys (inr (inr (h.0, (h1.0, r.0))))
              (h.1, h.2, is_kind S P kinds.String _ (slice S n.span) h.0 h.3 is.0.0, refl, (h1.0 ∷ [], h1.1, h1.2, (refl, ap (is_token kinds.Colon) h1.3.0, refl), r.1)),
          (λ i. tree.InstantiationArgument.named (tree.InstantiationArgumentName.string (record { value = h.3.2 i; span = nowhere })) (r.2 i)),
        )
    argument_back depth (tree.InstantiationArgument.inferred x) ys is h =
        let w = word_back S P x _ h.0 is h.3 in
        (build argument (inr (inl (w.0, inr tt))), by_rule argument ys (inr (inl (w.0, inr tt))) (h.0 ∷ [], h.1, h.2, w.1, h.4), ap tree.InstantiationArgument.inferred w.2)
