-- A tree whose spans slice the source, as parsing promises it, can be printed.
use Rattle.wac_printer.proofs.Common.{ℕ, List, [], ◌∷◌, Option, Some, None, zero, suc, arith, All, AllByRecursion, Slices, Document}
use Rattle.wac_ast_grammar.specs.Leaves.{IfThere, changed, holds_with_spans, unchanged}
use Rattle.wac_ast_grammar.specs.Slices.{sliced, DocsSlice, DocumentSlices}
use Rattle.wac_ast_grammar.proofs.Linked.{Link, link_document}
use Rattle.wac_printer.specs.Sliced.{IdentSliced, StringSliced, PackageNameSliced, PackagePathSliced, printable, any_docs, DocumentSliced}

each_printable : {A : Type 0} (v : A → A) (w u : A → Type 0) (c : A → A) → ((x : A) → u x → w x) → (xs : List A) → AllByRecursion u xs → All w xs
each_printable v w u c f [] h i d k = absurd (omega arith)
each_printable v w u c f (x ∷ xs) h zero d k = f x h.0
each_printable v w u c f (x ∷ xs) h (suc i) d k = each_printable v w u c f xs h.1 i d (omega arith)

perhaps_printable : {A : Type 0} (v : A → A) (w u : A → Type 0) (c : A → A) → ((x : A) → u x → w x) → (x : Option A) → IfThere u x → IfThere w x
perhaps_printable v w u c f None h = tt
perhaps_printable v w u c f (Some x) h = f x h

-- WHAT SLICES CAN BE PRINTED
slicing : (source : List ℕ) → Link {0, 1, 1, 0} (changed unchanged) (printable source) (holds_with_spans (sliced source) (Slices source)) unchanged
unfolding IdentSliced StringSliced PackageNameSliced PackagePathSliced
slicing source =
    record {
      R = λ x v w u. u → w;
      ident = λ x h. h;
      string = λ x h. h;
      name = λ x h. h;
      path = λ x h. h;
      none = λ x h. tt;
      each = each_printable;
      perhaps = perhaps_printable;
      spanned = λ r s h. r h.0;
      filled = λ e r h. r h.0;
      one = λ r h. r h;
      two = λ r s h. (r h.0, s h.1);
      three = λ r s t h. (r h.0, s h.1, t h.2);
      four = λ r s t q h. (r h.0, s h.1, t h.2, q h.3);
    }

pub document : (source : List ℕ) (x : Document) → DocumentSlices source x → DocumentSliced source x
unfolding slicing
document source x h = link_document (changed unchanged) (printable source) (holds_with_spans (sliced source) (Slices source)) unchanged (slicing source) (λ ds. ds) (λ ds. ds) any_docs (DocsSlice source) (λ ds h. tt) x h
