-- The clauses of parsing a text, from what reading its items gives.
use Rattle.std.proofs.Common.{◌≡◌, ℕ, List, [], Option, Some, None, Result, Ok, Err, refl, sym as back, ap, subst, ◌∙◌, ◌⊎◌, inl, inr}
use Rattle.wac_ast.proofs.Common.{IfOk, IfErr, MatchResult, alloc_error, append-nil, Span, Item, items, Document, document, Derives, read, Error, told_in}
use Rattle.wac_lexer.specs.declared.error.Error.{Error as Fault}
use Rattle.wac_ast_grammar.specs.TextTree.{IsTreeOf}
use Rattle.wac_ast_base.specs.declared.error.Error.TheVariants as errors
use Rattle.wac_ast_base.specs.Error.{told_by}
use Rattle.wac_ast_base.specs.FirstFault.{TellsFirstFault}
use Rattle.wac_ast.specs.Document.{ErrorOf, end_of_text, refused_or, Parses}
use Rattle.wac_ast_grammar.proofs.Complete.{complete, tree_or}
use Rattle.wac_ast_grammar.proofs.Sound.{sound}
use Rattle.wac_ast_base.proofs.FirstFaults.{no_memory_is, tells_first, told_of_reading}

-- FOUND: the document that is returned is the text's tree
pub is_found : {D : Type 0} (view : D → Document) (text : List ℕ) (r : Result D Error) → Parses view r text → IfOk r (λ d. IsTreeOf text (view d))
is_found view text (Ok d) h =
    let s = sound document (items text) (view d) [] h.1 in
    record { clean = h.0; derives = subst (λ (ys : List Item). Derives document ys (view d)) (back (s.1 ∙ append-nil s.0)) s.2 }
is_found view text (Err e) h = tt

-- ONLY: where the text has a tree, that one is returned, unless memory runs out
pub is_only : {D : Type 0} (view : D → Document) (text : List ℕ) (r : Result D Error) → Parses view r text → (tree : Document) → IsTreeOf text tree → MatchResult r (λ d. view d ≡ tree) (λ e. e ≡ errors.Memory alloc_error)
is_only view text (Ok d) h tree i = ap (tree_or tree) (back h.1 ∙ complete document (items text) tree refl i.derives)
is_only view text (Err e) (inl m) tree i = no_memory_is e m
is_only view text (Err e) (inr (inl h)) tree i = absurd (let k = back i.clean ∙ h.2 in cc)
is_only view text (Err e) (inr (inr h)) tree i =
    absurd (let k : None ≡ Some (told_by e) = back (ap (told_in (end_of_text text)) (complete document (items text) tree refl i.derives)) ∙ h.1 in cc)

-- ONE: a text has at most one tree
pub is_one : (text : List ℕ) (a b : Document) → IsTreeOf text a → IsTreeOf text b → a ≡ b
is_one text a b i j = ap (tree_or a) (back (complete document (items text) a refl i.derives) ∙ complete document (items text) b refl j.derives)

-- ERROR: the error that is returned lies at the first fault, unless memory ran out
pub is_error : {D : Type 0} (view : D → Document) (text : List ℕ) (r : Result D Error) → Parses view r text → IfErr r (λ e. (e ≡ errors.Memory alloc_error) ⊎ ErrorOf (told_by e) text)
is_error view text (Ok d) h = tt
is_error view text (Err e) (inl m) = inl (no_memory_is e m)
is_error view text (Err e) (inr (inl h)) = inr (record { is = ap (λ (f : Option (Fault × Span)). refused_or f (told_in (end_of_text text) (read document (items text)))) h.2 ∙ ap Some (back h.3); lies = inl h })
is_error view text (Err e) (inr (inr h)) = go (told_of_reading e (end_of_text text) (read document (items text)) (TellsFirstFault document (end_of_text text) (items text)) (λ stop i. tells_first document refl (end_of_text text) (items text) stop i) h.1)
  where
    go : (e ≡ errors.Memory alloc_error) ⊎ TellsFirstFault document (end_of_text text) (items text) (told_by e) → (e ≡ errors.Memory alloc_error) ⊎ ErrorOf (told_by e) text
    go (inl m) = inl m
    go (inr f) = inr (record { is = ap (λ (f : Option (Fault × Span)). refused_or f (told_in (end_of_text text) (read document (items text)))) h.0 ∙ h.1; lies = inr (h.0, f) })
