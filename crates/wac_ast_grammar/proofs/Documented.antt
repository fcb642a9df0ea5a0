-- The items of a text and their docs slice it.
use Rattle.wac_ast_grammar.proofs.Common.{◌≡◌, ℕ, zero, suc, ◌+◌, List, [], ◌∷◌, ◌++◌, take, drop, length, sym, refl, ap, ◌∙◌, subst, arith, Option, Some, None, Result, ◌==◌, AllByRecursion, IsUtf8, IsCharBoundary, cond_both, length-take-le, length-drop, Item, Doc, OnFirst, first_item, items_from, InOrder, Slices, span, end_of, Token, Error}
use Rattle.wac_lexer.specs.Comments.{part_len}
use Rattle.wac_lexer.specs.Docs.{doc_text, doc_of_part, docs_upto, docs_at}
use Rattle.wac_lexer.proofs.Boundaries.{part_boundary}
use Rattle.wac_lexer.proofs.Unfolded.{made, start_of, items_none, items_some, first_docs}
use Rattle.wac_ast_grammar.specs.Slices.{DocsSlice}

module _ (source : List ℕ) (utf8 : IsUtf8 source) where
  both : (a b : List Doc) → DocsSlice source a → DocsSlice source b → DocsSlice source (a ++ b)
  both [] b h k = k
  both (d ∷ a) b h k = (h.0, both a b h.1 k)

  part_slices : (place : ℕ) (part : List ℕ) → IsCharBoundary source place → IsCharBoundary source (place + length part) → DocsSlice source (doc_of_part place part)
  part_slices place part at end = go (doc_text part)
    where
      go : (found : Option (List ℕ)) → DocsSlice source (elim found [ Some text ↦ record { comment = text; span = span place (length part) } ∷ [] | None ↦ [] ])
      go None = tt
      go (Some text) = ((at, end), tt)

  upto_slices : (n place : ℕ) → IsCharBoundary source place → DocsSlice source (docs_upto n source place)
  upto_slices zero place at = tt
  upto_slices (suc n) place at =
      let text = drop place source in
      let len = part_len text in
      let end = part_boundary source utf8 place at in
      let whole : length (take len text) ≡ len = length-take-le len text (omega (arith, end.0, length-drop place source)) in
      let later = upto_slices n (place + len) end in
      cond_both (len == 0) [] (doc_of_part place (take len text) ++ docs_upto n source (place + len)) (DocsSlice source) (λ e. tt)
      (λ e. both (doc_of_part place (take len text)) (docs_upto n source (place + len)) (part_slices place (take len text) at (subst (λ k. IsCharBoundary source (place + k)) (sym whole) end)) later)

  docs_slice : (place : ℕ) → IsCharBoundary source place → DocsSlice source (docs_at source place)
  unfolding docs_at
  docs_slice place at = upto_slices (length source) place at

  pub items_slice : (xs : List Item) (place : ℕ) → items_from source place ≡ xs → IsCharBoundary source place → InOrder source place xs → AllByRecursion (λ x. Slices source x.span × DocsSlice source x.docs) xs
  items_slice [] place e at order = tt
  items_slice (x ∷ xs) place e at order =
      let docs : x.docs ≡ docs_at source place = subst (λ items. OnFirst items (λ item. item.docs ≡ docs_at source place)) e (first_docs source place) in
      ((order.2, subst (DocsSlice source) (sym docs) (docs_slice place at)), items_slice xs (end_of x.span) (next (first_item (drop (start_of source place) source)) refl) order.2.1 order.4)
    where
      next : (found : Option (Result Token Error × ℕ)) → first_item (drop (start_of source place) source) ≡ found → items_from source (end_of x.span) ≡ xs
      next None f = let none : [] ≡ x ∷ xs = sym (items_none source place f) ∙ e in absurd cc
      next (Some found) f =
          let same : made source place found ∷ items_from source (start_of source place + found.1) ≡ x ∷ xs = sym (items_some source place found f) ∙ e in
          let first : made source place found ≡ x = cc in
          let others : items_from source (start_of source place + found.1) ≡ xs = cc in
          ap (λ item. items_from source (end_of item.span)) (sym first) ∙ others
