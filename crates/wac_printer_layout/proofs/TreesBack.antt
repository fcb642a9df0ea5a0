-- What is printed of the tree of a text reads back.
use Rattle.wac_printer_layout.proofs.Common.{◌≡◌, ℕ, true, List, [], sym, refl, ◌∙◌, subst, IsUtf8, items, Document, document, IsTreeOf}
use Rattle.wac_ast_grammar.proofs.Complete.{one_tree}
use Rattle.wac_printer_layout.specs.Joins.{AreBlanks}
use Rattle.wac_printer_layout.specs.Placed.{placed}
use Rattle.wac_printer_layout.specs.Bare.{doc_lines, bare_document}
use Rattle.wac_printer_layout.specs.StatementLayout.{document_layout}
use Rattle.wac_printer_layout.specs.Texts.{Spelled, DocumentHas}
use Rattle.wac_printer_layout.specs.Reread.{printed, IsReread, RereadAs, ReadsBack, WasPrinted, IsFixed}
use Rattle.wac_printer_layout.proofs.Accepted.{text_accepted}
use Rattle.wac_printer_layout.proofs.Bytes.{utf8_bytes}
use Rattle.wac_printer_layout.proofs.ReadBack.{read_back}
use Rattle.wac_printer_layout.proofs.DocumentsBack.{reread}
use Rattle.wac_printer_layout.proofs.ParsedFine.{parsed_spelled}
use Rattle.wac_printer_layout.proofs.StatementsJoin.{document_join}
use Rattle.wac_printer_layout.proofs.FixedPrint.{once_settled, fixed}

pub spelled : (source : List ℕ) (tree : Document) → IsUtf8 source → IsTreeOf source tree → DocumentHas Spelled (bare_document doc_lines source tree)
spelled source tree utf8 is = parsed_spelled source tree (utf8, is.clean) is.derives

pub printed_utf8 : (space source : List ℕ) (tree : Document) → AreBlanks space → DocumentHas Spelled (bare_document doc_lines source tree) → IsUtf8 (printed space source tree)
printed_utf8 space source tree blanks is =
    let b = bare_document doc_lines source tree in
    (text_accepted space [] true (document_layout 0 b) blanks (document_join space 0 b [] true is)).0

printed_items : (space source : List ℕ) (tree : Document) → AreBlanks space → DocumentHas Spelled (bare_document doc_lines source tree)
    → items (printed space source tree) ≡ placed 0 space true (document_layout 0 (bare_document doc_lines source tree))
printed_items space source tree blanks is =
    let b = bare_document doc_lines source tree in
    read_back space true (document_layout 0 b) blanks (utf8_bytes (printed space source tree) (printed_utf8 space source tree blanks is)) (document_join space 0 b [] true is)

-- each tree of a text that has such a tree is that one
is_it : (text source : List ℕ) (tree again : Document) → RereadAs text source tree → IsTreeOf text again → IsReread text again source tree
is_it text source tree again r is = subst (λ x. IsReread text x source tree) (one_tree document (items text) r.0 again refl r.1.derives is.derives) r.2

pub reads_back : (space source : List ℕ) (tree : Document) → AreBlanks space → IsUtf8 source → IsTreeOf source tree → ReadsBack space source tree (printed space source tree)
reads_back space source tree blanks source_utf8 is =
    let has = spelled source tree source_utf8 is in
    let first = printed space source tree in
    let utf8 = printed_utf8 space source tree blanks has in
    let once : RereadAs first source tree = reread space source tree blanks has in
    let twice : (again : Document) → IsTreeOf first again → RereadAs (printed space first again) first again = λ again a. reread space first again blanks (spelled first again utf8 a) in
    record {
      utf8 = utf8;
      items_are = printed_items space source tree blanks has;
      reread = once;
      twice = twice;
      settled = λ again third a t.
          is_it (printed space first again) first again third (twice again a) t ∙ once_settled source first tree again (is_it first source tree again once a);
      fixed = λ again third a t.
          fixed space source first (printed space first again) tree again third has (is_it first source tree again once a) (is_it (printed space first again) first again third (twice again a) t);
    }

-- what is printed of a printed text stays as it is
pub fixed_again : (space source : List ℕ) (tree : Document) → AreBlanks space → IsTreeOf source tree → WasPrinted source → IsFixed space (printed space source tree)
fixed_again space source tree blanks is was =
    let first = printed was.space was.source was.tree in
    let has = spelled was.source was.tree was.utf8 was.is in
    let utf8 : IsUtf8 source = subst IsUtf8 (sym was.was) (printed_utf8 was.space was.source was.tree was.blanks has) in
    let once : RereadAs source was.source was.tree = subst (λ t. RereadAs t was.source was.tree) (sym was.was) (reread was.space was.source was.tree was.blanks has) in
    let twice : RereadAs (printed space source tree) source tree = reread space source tree blanks (spelled source tree utf8 is) in
    (twice.0, twice.1, fixed space was.source source (printed space source tree) was.tree tree twice.0 has (is_it source was.source was.tree tree once is) twice.2)
