use Rattle.std.proofs.Common.{List, ℕ, sym, ap, subst, ◌∙◌}
use Rattle.std.proofs.lemmas.Result.{err_from_is_err_and}
use Rattle.wac_ast_grammar.specs.Tree.{Document}
use Rattle.wac_ast.specs.Statements.{document_of}
use Rattle.wac_printer_layout.specs.Reread.{printed, ReadsBack, IsFixed}
use Rattle.wac_printer_pieces.specs.Printed.{space_of}
use Rattle.wac_printer.proofs.formatting.format.Goals as goal

pub returns-in_err-document-clause-only : goal.returns-in_err-document-clause-only
returns-in_err-document-clause-only c = λ tree t.
    let p = err_from_is_err_and c.from_residual.result c.from_residual.ensures.1 in
    rw (p.1, p.2) (c.in_err-document.ensures.only tree t)

pub print-requires : goal.print-requires
print-requires c = c.trees_of_texts_can_be_printed.ensures c.args.source.now (document_of c.in_ok-document.document) c.in_ok-document.ensures.slices

pub returns-clause-only : goal.returns-clause-only
returns-clause-only c = λ tree t.
    c.in_ok-text.ensures.ok ∙ c.in_ok-bytes.ensures ∙ ap (λ (d : Document). printed (space_of c.args.space) c.args.source.now d) (c.in_ok-document.ensures.only tree t)

pub returns-clause-again : goal.returns-clause-again
returns-clause-again c = λ blanks.
    let is = c.in_ok-document.ensures.found in
    let tree = document_of c.in_ok-document.document in
    let back = c.printed_texts_read_back.ensures (space_of c.args.space) c.args.source.now tree blanks c.utf8.source is in
    (tree, is, subst (λ (text : List ℕ). ReadsBack (space_of c.args.space) c.args.source.now tree text) (sym (c.in_ok-text.ensures.ok ∙ c.in_ok-bytes.ensures)) back)

pub returns-clause-fixed : goal.returns-clause-fixed
returns-clause-fixed c = λ blanks was.
    let stays = c.printed_texts_stay.ensures (space_of c.args.space) c.args.source.now (document_of c.in_ok-document.document) blanks c.in_ok-document.ensures.found was in
    subst (λ (text : List ℕ). IsFixed (space_of c.args.space) text) (sym (c.in_ok-text.ensures.ok ∙ c.in_ok-bytes.ensures)) stays
