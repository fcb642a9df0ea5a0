use Rattle.std.proofs.Common.{sym, subst}
use Rattle.wac_lsp_names.specs.Occurrences.{IsNameAt}
use Rattle.wac_lsp_names.specs.Read.{read_of}
use Rattle.wac_lsp_names.proofs.Finding.{said_of}
use Rattle.wac_lsp_names.proofs.Spans.{name_is_at}
use Rattle.wac_lsp_names.proofs.hover.hover_in.Goals as goal

pub returns-in_ok-hover_of-in-Some-clause-name : goal.returns-in_ok-hover_of-in-Some-clause-name
returns-in_ok-hover_of-in-Some-clause-name c =
    subst (IsNameAt c.args.source.now c.args.offset) (sym c.in_ok-hover_of-in-Some.ensures)
    (name_is_at c.args.source.now c.args.offset c.in-Some.found (rw c.in-Some.is at c.in_ok-found.ensures.places))

pub returns-in_ok-hover_of-in-Some-clause-said : goal.returns-in_ok-hover_of-in-Some-clause-said
returns-in_ok-hover_of-in-Some-clause-said c =
    said_of c.args.source.now c.args.offset (read_of c.args.reading.now) c.in-Some.found c.in_ok-hover_of-in-Some.field-0 c.requires (rw c.in-Some.is at c.in_ok-found.ensures.found)
    c.in_ok-hover_of-in-Some.ensures
