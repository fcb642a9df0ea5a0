use Rattle.wac_resolution_worlds.proofs.Common.{◌∙◌, sym, err_from_is_err_and, by_name, means, reports}
use Rattle.wac_resolution_worlds.specs.Taking.{clause_of}
use Rattle.wac_resolution_worlds.proofs.Taken.{kept_taken, renamed_taken}
use Rattle.wac_resolution_worlds.proofs.inclusion.Inclusion.take_name.Goals as goal

pub returns-then-has_colon-clause-ok : goal.returns-then-has_colon-clause-ok
returns-then-has_colon-clause-ok c =
    kept_taken (clause_of c.args.self.now) (by_name c.args.entries.now.entries) (by_name c.args.there.now.entries) (by_name c.add_missing.new.there.entries) c.args.taken.now.name.now c.args.taken.now.kind
    (sym c.has_colon.ensures ∙ c.if-has_colon.true) c.requires c.in_ok-add_missing.ensures

pub returns-in_err-check_taken-clause-err : goal.returns-in_err-check_taken-clause-err
returns-in_err-check_taken-clause-err c =
    let p = err_from_is_err_and c.from_residual-in_err-check_taken.result c.from_residual-in_err-check_taken.ensures.1 in
    rw (p.1, p.2) (reports c.in_err-check_taken.ensures.err (λ err numbering g before. err numbering g before (means numbering g c.args.taken.now.kind)))

pub returns-clause-ok : goal.returns-clause-ok
returns-clause-ok c =
    renamed_taken (clause_of c.args.self.now) (by_name c.args.entries.now.entries) (by_name c.add_renamed.new.entries.entries) (by_name c.args.there.now.entries) (by_name c.add_renamed.new.there.entries) c.args.taken.now.name.now c.args.taken.now.kind
    (sym c.has_colon.ensures ∙ c.if-has_colon.false) c.requires c.in_ok-check_taken.ensures.ok c.in_ok-add_renamed.ensures.left c.in_ok-add_renamed.ensures.there
