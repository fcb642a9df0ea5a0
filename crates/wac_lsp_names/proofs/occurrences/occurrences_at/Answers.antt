use Rattle.wac_lsp_names.proofs.Finding.{found_there}
use Rattle.wac_lsp_names.specs.Read.{read_of}
use Rattle.wac_lsp_names.proofs.occurrences.occurrences_at.Goals as goal

pub returns-in-Some-clause-found : goal.returns-in-Some-clause-found
returns-in-Some-clause-found c =
    found_there c.args.source.now c.args.offset (read_of c.in-Some.reading) c.occurrences_in.result (rw c.in-Some.is at c.in_ok-reading.ensures) c.occurrences_in.ensures.found
