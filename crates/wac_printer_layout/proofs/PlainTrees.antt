-- The plain tree of a document is read off its bare tree: `%` and quotes are taken off there.
use Rattle.wac_printer_layout.proofs.Common.{◌≡◌, ℕ, List, refl, sym, ap, ◌∙◌, IsUtf8, ordered, without_percent, between_quotes, Document, IsTreeOf, walk_document, Change, changed, Gives, agree, document_agreeing, document_implied}
use Rattle.wac_ast_grammar.specs.Spelled.{spelled, DocumentSpelled}
use Rattle.wac_ast_grammar.proofs.Ordered.{document_spelled}
use Rattle.wac_printer_layout.specs.Bare.{nowhere, Keep, no_docs, bare, bare_document, bare_leaves}
use Rattle.wac_printer_layout.specs.PlainTree.{plain, plain_document}
use Rattle.wac_printer_layout.specs.Reread.{IsReread}

-- spellings to texts
abbrev read : Change
read =
    record {
      ident = λ x. record { string = without_percent x.string; span = nowhere };
      string = λ x. record { value = between_quotes x.value; span = nowhere };
      name = plain.name;
      path = plain.path;
      span = λ s. nowhere;
    }

-- where a leaf is spelled in the source, its plain form is read off its bare one
leaves_read : (source : List ℕ) → Gives (spelled source) (agree read (bare_leaves source) plain)
leaves_read source =
    record {
      ident = λ x h. λ i. record { string = sym h i; span = nowhere };
      string = λ x h. λ i. record { value = sym h i; span = nowhere };
      name = λ x h. λ i. record { string = sym h.0 i; name = x.name; version = x.version; span = nowhere };
      path = λ x h. λ i. record { span = nowhere; string = sym h.0 i; name = x.name; segments = x.segments; version = x.version };
      filled = λ b h. tt;
    }

document_read : (keep : Keep) (source : List ℕ) (x : Document) → DocumentSpelled source x → walk_document (changed read) no_docs (bare_document keep source x) ≡ plain_document x
document_read keep source x h =
    document_agreeing read (bare_leaves source) plain (λ s. refl) no_docs keep no_docs x
    (document_implied (spelled source) (agree read (bare_leaves source) plain) (λ ds. Unit {0}) (λ ds. no_docs (keep ds) ≡ no_docs ds) (leaves_read source) (λ ds h. refl) x h)

-- documents with equal bare trees have equal plain trees, whatever is kept of their docs
pub plain_of_bare : (keep other : Keep) (source text : List ℕ) (x y : Document) → DocumentSpelled source x → DocumentSpelled text y → bare_document keep source x ≡ bare_document other text y → plain_document x ≡ plain_document y
plain_of_bare keep other source text x y h k e = sym (document_read keep source x h) ∙ ap (walk_document (changed read) no_docs) e ∙ document_read other text y k

-- the names, strings and paths of a text's tree are spelled there
pub text_spelled : (text : List ℕ) (x : Document) → IsUtf8 text → IsTreeOf text x → DocumentSpelled text x
text_spelled text x utf8 is = document_spelled text x (ordered text utf8) is

-- what is printed of a tree reads back as a tree with the same plain tree
pub plain_of_reread : (source text : List ℕ) (x again : Document) → IsUtf8 source → IsTreeOf source x → IsUtf8 text → IsTreeOf text again → IsReread text again source x → plain_document again ≡ plain_document x
plain_of_reread source text x again utf8 is text_utf8 text_is e = plain_of_bare _ _ text source again x (text_spelled text again text_utf8 text_is) (text_spelled source x utf8 is) e
