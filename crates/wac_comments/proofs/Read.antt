-- Each item of a text that has a tree is a token.
use Rattle.std.proofs.Common.{◌≡◌, ℕ, zero, suc, List, [], ◌∷◌, ◌++◌, true, sym as back, refl, subst, inl, inr, Ok, Err, Result}
use Rattle.std.specs.List.{AllByRecursion}
use Rattle.std.proofs.lemmas.Bool.{false≢true}
use Rattle.wac_lexer.specs.Item.{Item}
use Rattle.wac_lexer.specs.Items.{items}
use Rattle.wac_lexer.specs.declared.error.Error.{Error}
use Rattle.wac_lexer.specs.declared.token.Token.{Token}
use Rattle.wac_ast_grammar.specs.Tokens.{is_token}
use Rattle.wac_ast_grammar.specs.Tree.{Document}
use Rattle.wac_ast_grammar.specs.TextTree.{IsTreeOf}
use Rattle.wac_ast_grammar.specs.Grammar.{Sym, rule, TreeOf, Parts, Grammar, token, sym, then, either, nothing, to_end, docs, not_empty, more, or_told, document, DerivesIn, DerivesBy}
use Rattle.wac_ast_grammar.proofs.Complete.{Family}
use Rattle.wac_comments_layout.proofs.Known.{IsTokenItem}

abbrev Tokens : List Item → Type 0
Tokens xs = AllByRecursion IsTokenItem xs

both : (xs ys : List Item) → Tokens xs → Tokens ys → Tokens (xs ++ ys)
both [] ys h k = k
both (x ∷ xs) ys h k = (h.0, both xs ys h.1 k)

is_some_token : (k : Token) (x : Item) → is_token k x.token ≡ true → IsTokenItem x
is_some_token k x e = go x.token refl e
  where
    go : (found : Result Token Error) → x.token ≡ found → is_token k found ≡ true → IsTokenItem x
    go (Ok l) same e = (l, same)
    go (Err f) same e = absurd (false≢true e)

module _ (D : Family) (h : (s : Sym) (xs : List Item) (t : TreeOf s) → D s xs t → Tokens xs) where
  tokens_in : (g : Grammar) (xs : List Item) (p : Parts g) → DerivesIn D g xs p → Tokens xs
  tokens_in (token k) xs x d = subst Tokens (back d.0) (is_some_token k x d.1, tt)
  tokens_in (sym s) xs t d = h s xs t d
  tokens_in (then g k) xs p d = subst Tokens (back d.2) (both d.0 d.1 (tokens_in g d.0 p.0 d.3) (tokens_in k d.1 p.1 d.4))
  tokens_in (either loud g k) xs (inl p) d = tokens_in g xs p d
  tokens_in (either loud g k) xs (inr p) d = tokens_in k xs p d
  tokens_in (nothing b) xs p d = subst Tokens (back d) tt
  tokens_in (to_end g) xs (inl p) d = subst Tokens (back d) tt
  tokens_in (to_end g) xs (inr p) d = tokens_in g xs p d
  tokens_in (docs g) xs p d = tokens_in g xs p.1 d.1
  tokens_in (not_empty e k g) xs p d = tokens_in g xs p d
  tokens_in (more k m g) xs p d = tokens_in g xs p d
  tokens_in (or_told g k l) xs (inl p) d = tokens_in g xs p d
  tokens_in (or_told g k l) xs (inr p) d = subst Tokens (back d.1) (is_some_token k p.0 d.2, tokens_in l d.0 p.1 d.4)

tokens_by : (n : ℕ) (s : Sym) (xs : List Item) (t : TreeOf s) → DerivesBy n s xs t → Tokens xs
tokens_by zero s xs t d = absurd d
tokens_by (suc n) s xs t d = tokens_in (DerivesBy n) (tokens_by n) (rule s) xs d.0 d.1

pub are_tokens : (source : List ℕ) (tree : Document) → IsTreeOf source tree → AllByRecursion IsTokenItem (items source)
are_tokens source tree is = tokens_by is.derives.0 document (items source) tree is.derives.1
