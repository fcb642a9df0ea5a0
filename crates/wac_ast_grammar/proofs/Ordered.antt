-- The tree of a text slices it.
use Rattle.wac_ast_grammar.proofs.Common.{◌≡◌, ◌<◌, ◌≤◌, ℕ, List, [], ◌∷◌, Result, Ok, Err, refl, ap, subst, arith, ⊎_elim, IfOk, AllByRecursion, IsUtf8, IsCharBoundary, cases_lt, Span, end_of, Item, Doc, items, Slices, slice, InOrder}
use Rattle.std.proofs.lemmas.Str.{IsCharBoundary-start}
use Rattle.wac_ast_grammar.specs.Version.{unversioned, path_name, path_segments, version_of}
use Rattle.wac_ast_grammar.specs.Tree.{without_percent, between_quotes, join, Document}
use Rattle.wac_ast_grammar.specs.Grammar.{document}
use Rattle.wac_ast_grammar.specs.TextTree.{IsTreeOf}
use Rattle.wac_ast_grammar.specs.Slices.{sliced, DocsSlice, DocumentSlices}
use Rattle.wac_ast_grammar.specs.Spelled.{spelled, DocumentSpelled}
use Rattle.wac_ast_grammar.proofs.Derived.{Made, MadeSpans, derived_holds, derived_document}
use Rattle.wac_ast_grammar.proofs.Documented.{items_slice}

abbrev no_matter : List Doc → Type 0
no_matter ds = Unit {0}

-- items whose spans, and those of their docs, slice the source make such trees
abbrev ItemSlices : List ℕ → Item → Type 0
ItemSlices source x = Slices source x.span × DocsSlice source x.docs

abbrev sliced_items : (source : List ℕ) → Made (sliced source) (DocsSlice source)
sliced_items source =
    record {
      Known = ItemSlices source;
      ident = λ x h e. h.0;
      string = λ x h e. h.0;
      name = λ x h e v. h.0;
      path = λ x h e v. h.0;
      docs = λ x h. h.1;
      no_docs = tt;
      filled = tt;
    }

-- the end of joined spans is the end of the second, or where that comes before the first, the first one's place
joined_slices : (source : List ℕ) (a b : Span) → Slices source a → Slices source b → Slices source (join a b)
joined_slices source a b h k =
    let end : IsCharBoundary source (end_of (join a b)) =
    ⊎_elim
    (λ (l : end_of b < a.offset). let same : a.offset ≡ end_of (join a b) = omega arith in subst (IsCharBoundary source) same h.0)
    (λ (l : a.offset ≤ end_of b). let same : end_of b ≡ end_of (join a b) = omega arith in subst (IsCharBoundary source) same k.1)
    (cases_lt (end_of b) a.offset) in
    (h.0, end)

sliced_spans : (source : List ℕ) → MadeSpans (sliced source) (Slices source) (DocsSlice source) (sliced_items source)
sliced_spans source = record { item = λ x h. h.0; ident = λ x h. h; joined = joined_slices source }

-- THE SPANS OF A TEXT'S TREE slice the text
pub document_slices : (source : List ℕ) (tree : Document) → IsUtf8 source → InOrder source 0 (items source) → IsTreeOf source tree → DocumentSlices source tree
document_slices source tree utf8 order i =
    derived_holds (sliced source) (Slices source) (DocsSlice source) (sliced_items source) (sliced_spans source) document (items source) tree (items_slice source utf8 (items source) 0 refl (IsCharBoundary-start source utf8) order) i.derives

-- items with the source's text make such trees
abbrev spelled_items : (source : List ℕ) → Made (spelled source) no_matter
spelled_items source =
    record {
      Known = λ x. x.text ≡ slice source x.span;
      ident = λ x h e. ap without_percent h;
      string = λ x h e. ap between_quotes h;
      name = λ x h e v. (h, ap unversioned h, ap version_of h);
      path = λ x h e v. (h, ap path_name h, ap path_segments h, ap version_of h);
      docs = λ x h. tt;
      no_docs = tt;
      filled = tt;
    }

in_order_spelled : (source : List ℕ) (place : ℕ) (xs : List Item) → InOrder source place xs → AllByRecursion (λ x. x.text ≡ slice source x.span) xs
in_order_spelled source place [] h = tt
in_order_spelled source place (x ∷ xs) h = (h.3, in_order_spelled source (end_of x.span) xs h.4)

-- THE TEXTS OF A TEXT'S TREE are those of the text at its spans
pub document_spelled : (source : List ℕ) (tree : Document) → InOrder source 0 (items source) → IsTreeOf source tree → DocumentSpelled source tree
document_spelled source tree order i = derived_document (spelled source) no_matter (spelled_items source) (items source) tree (in_order_spelled source 0 (items source) order) i.derives

-- the document that is returned
pub is_sliced : {D E : Type 0} (view : D → Document) (source : List ℕ) (r : Result D E) → IsUtf8 source → InOrder source 0 (items source) → IfOk r (λ d. IsTreeOf source (view d)) → IfOk r (λ d. DocumentSlices source (view d))
is_sliced view source (Ok d) utf8 order found = document_slices source (view d) utf8 order found
is_sliced view source (Err e) utf8 order found = tt
