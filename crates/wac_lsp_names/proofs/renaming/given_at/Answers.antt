use Rattle.std.proofs.Common.{Some}
use Rattle.wac_lsp_names.specs.Read.{read_of}
use Rattle.wac_lsp_names.proofs.Giving.{given_there}
use Rattle.wac_lsp_names.proofs.renaming.given_at.Goals as goal

pub returns : goal.returns
returns c =
    given_there c.args.source.now c.args.offset c.args.new.now c.in-Some.found c.given.result (rw c.in-Some.is at c.in_ok-found.ensures.places)
    (Some (read_of c.args.reading.now), c.requires, rw c.in-Some.is at c.in_ok-found.ensures.found) c.given.ensures
