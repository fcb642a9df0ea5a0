-- The span of the last postfix expression.
use Rattle.wac_ast_statements.proofs.Common.{◌≡◌, ◌-◌, ◌^◌, ◌<◌, ℕ, suc, List, [], ◌∷◌, ◌++◌, length, map, Some, subst, refl, sym, arith, Span, end_of, PostfixExpr, last_span, postfix_span}
use Rattle.std.specs.List.{slice_get}
use Rattle.wac_ast_statements.specs.declared.expr.PostfixExpr.{PostfixExpr as CodePostfixExpr}
use Rattle.wac_ast_statements.specs.Expressions.{postfix_expr_of}

pub last_is : (before : Span) (xs : List CodePostfixExpr) (x : CodePostfixExpr) → slice_get xs (length xs - 1) ≡ Some x → last_span before (map postfix_expr_of xs) ≡ postfix_span (postfix_expr_of x)
last_is before [] x h = absurd cc
last_is before (y ∷ []) x h = let e : length (y ∷ []) - 1 ≡ 0 = omega arith in let k : slice_get (y ∷ []) 0 ≡ Some x = subst (λ (n : ℕ). slice_get (y ∷ []) n ≡ Some x) e h in cc
last_is before (y ∷ z ∷ zs) x h = let e : length (y ∷ z ∷ zs) - 1 ≡ suc (length (z ∷ zs) - 1) = omega arith in last_is (postfix_span (postfix_expr_of y)) (z ∷ zs) x (subst (λ (n : ℕ). slice_get (y ∷ z ∷ zs) n ≡ Some x) e h)

last_of_more : (before : Span) (xs : List PostfixExpr) (x : PostfixExpr) → last_span before (xs ++ x ∷ []) ≡ postfix_span x
last_of_more before [] x = refl
last_of_more before (y ∷ ys) x = last_of_more (postfix_span y) ys x

pub fits_more : (xs : List PostfixExpr) (x : PostfixExpr) → end_of (postfix_span x) < 2 ^ 64 → (s : Span) → end_of s < 2 ^ 64 → end_of (last_span s (xs ++ x ∷ [])) < 2 ^ 64
fits_more xs x h s fits = subst (λ (a : Span). end_of a < 2 ^ 64) (sym (last_of_more s xs x)) h
