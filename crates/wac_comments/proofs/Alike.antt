-- Texts that are formatted alike have the same bare tree.
use Rattle.std.proofs.Common.{◌≡◌, ◌⊎◌, inl, inr, ℕ, zero, suc, Bool, true, false, cond, List, [], ◌∷◌, sym, refl, ap, ◌∙◌}
use Rattle.std.specs.Prelude.{◌||◌, filter, replicate, Result, Ok, Err, IfOk, alloc_error}
use Rattle.std.specs.List.{filter_map, list_any}
use Rattle.wac_lexer.specs.Docs.{doc_text}
use Rattle.wac_ast.proofs.Documents.{is_one}
use Rattle.wac_ast.specs.Document.{ErrorOf}
use Rattle.wac_ast_base.specs.Error.{told_by}
use Rattle.wac_ast_base.specs.declared.error.Error.{Error}
use Rattle.wac_ast_base.specs.declared.error.Error.TheVariants as errors
use Rattle.wac_ast_grammar.specs.Tree.{Document}
use Rattle.wac_printer_layout.specs.Bare.{bare_document}
use Rattle.wac_printer_layout.specs.Joins.{AreBlanks}
use Rattle.wac_printer_layout.specs.Reread.{read_docs}
use Rattle.wac_comments_layout.specs.Kept.{is_comment}
use Rattle.wac_comments_layout.specs.Pieces.{texts}
use Rattle.wac_comments_layout.specs.Printing.{Texts, printed}
use Rattle.wac_comments_layout.proofs.Keeping.{comments_printed}
use Rattle.wac_comments.specs.Comments.{comment_texts, doc_texts, has_comments}
use Rattle.wac_comments.specs.Errors.{is_memory}
use Rattle.wac_comments.specs.Options.{indent_text}
use Rattle.wac_comments.specs.Tidied.{Kept, ReadsBackAs, SameTree}
use Rattle.wac_comments.specs.declared.options.Indent.{Indent}
use Rattle.wac_comments.specs.declared.options.Indent.TheVariants.{Tab, Blanks}

-- what holds of a value that is returned, where it follows from what is known of it
pub on_ok : {A E : Type 0} {P Q : A → Type 0} (r : Result A E) → ((a : A) → P a → Q a) → IfOk r P → IfOk r Q
on_ok (Ok a) follows known = follows a known
on_ok (Err e) follows known = tt

-- what both are formatted to has one tree
pub same_tree : (source text formatted : List ℕ) → ReadsBackAs source formatted → ReadsBackAs text formatted → SameTree source text
same_tree source text formatted s t =
    let one = is_one formatted s.2.0 t.2.0 s.2.1 t.2.1 in (
      s.0,
      t.0,
      s.1,
      t.1,
      sym t.2.2 ∙ ap (λ (d : Document). bare_document read_docs formatted d) (sym one) ∙ s.2.2,
    )

-- where comments are kept, so are their texts, and those of docs
pub same_comments : (source text : List ℕ) → Kept source text → comment_texts text ≡ comment_texts source
same_comments source text kept = ap (filter is_comment) kept ∙ comments_printed (texts source)

pub same_docs : (source text : List ℕ) → Kept source text → doc_texts text ≡ doc_texts source
same_docs source text kept = ap (filter_map doc_text) (same_comments source text kept)

-- an indent consists of blanks
many_blanks : (n : ℕ) → AreBlanks (replicate n 32)
many_blanks zero = tt
many_blanks (suc n) = (refl, many_blanks n)

pub indent_blanks : (indent : Indent) → AreBlanks (indent_text indent)
indent_blanks Tab = (refl, tt)
indent_blanks (Blanks count) = many_blanks count

-- a list has an element that passes where those that pass have one
any_step : (p : List ℕ → Bool) (x : List ℕ) (xs passing : Texts) → list_any p xs ≡ list_any p passing → (b : Bool) → p x ≡ b
    → (b || list_any p xs) ≡ list_any p (cond b (x ∷ passing) passing)
any_step p x xs passing rest true e = sym (ap (λ t. t || list_any p passing) e)
any_step p x xs passing rest false e = rest

any_passes : (p : List ℕ → Bool) (xs : Texts) → list_any p xs ≡ list_any p (filter p xs)
any_passes p [] = refl
any_passes p (x ∷ xs) = any_step p x xs (filter p xs) (any_passes p xs) (p x) refl

-- what is printed has a comment where the source has one
pub has_same : (source : List ℕ) → list_any is_comment (printed (texts source)) ≡ has_comments source
has_same source =
    any_passes is_comment (printed (texts source))
    ∙ ap (list_any is_comment) (comments_printed (texts source))
    ∙ sym (any_passes is_comment (texts source))

-- an error of parsing that isn't of memory is that of the text
pub is_refusal : (source : List ℕ) (e : Error) → is_memory e ≡ false → (e ≡ errors.Memory alloc_error) ⊎ ErrorOf (told_by e) source → ErrorOf (told_by e) source
is_refusal source e other (inl m) = absurd (let no = sym (ap is_memory m) ∙ other in cc)
is_refusal source e other (inr found) = found
