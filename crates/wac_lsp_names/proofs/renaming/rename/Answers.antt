use Rattle.wac_lsp_names.proofs.renaming.rename.Goals as goal

pub returns-in-Some : goal.returns-in-Some
returns-in-Some c = rw c.without_percent.ensures at c.given_at.ensures
