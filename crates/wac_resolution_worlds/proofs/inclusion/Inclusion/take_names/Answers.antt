use Rattle.wac_resolution_worlds.proofs.Common.{ℕ, List, ap, subst, string_bytes, err_from_is_err_and, by_name, means, error_model, IsIncludeConflict, reports}
use Rattle.wac_resolution_worlds.specs.Taking.{tree_of, clause_of, taking_of, NameTaken}
use Rattle.wac_resolution_worlds.proofs.Taken.{taken_step, taken_break}
use Rattle.wac_resolution_worlds.proofs.inclusion.Inclusion.take_names.Goals as goal

pub loop-name-preserved : goal.loop-name-preserved
loop-name-preserved c =
    taken_step (clause_of c.args.self.now) (by_name c.args.entries.now.entries) (by_name c.loop-name.entries.entries) (by_name c.take_name.new.entries.entries) (by_name c.args.there.now.entries) (by_name c.loop-name.there.entries) (by_name c.take_name.new.there.entries)
    (by_name c.args.names.now.entries) (by_name c.loop-name.name-iterator) (by_name c.next.new.self) (string_bytes c.in-Some.name.now, c.in-Some.kind.now) (ap by_name c.in-Some.ensures.steps) c.loop-name.invariant
    (subst (λ (x : List ℕ). NameTaken (clause_of c.args.self.now) (by_name c.loop-name.entries.entries) (by_name c.take_name.new.entries.entries) (by_name c.loop-name.there.entries) (by_name c.take_name.new.there.entries) (x, c.in-Some.kind.now)) c.as_str.ensures.value c.in_ok-take_name.ensures.ok)

pub returns-in_err-take_name-clause-err : goal.returns-in_err-take_name-clause-err
returns-in_err-take_name-clause-err c =
    let p = err_from_is_err_and c.from_residual.result c.from_residual.ensures.1 in
    rw (p.1, p.2) (reports c.in_err-take_name.ensures.err (λ err numbering g. taken_break (clause_of c.args.self.now) (by_name c.args.entries.now.entries) (by_name c.loop-name.entries.entries) (by_name c.args.there.now.entries) (by_name c.loop-name.there.entries)
    (by_name c.args.names.now.entries) (by_name c.loop-name.name-iterator) (by_name c.next.new.self) (string_bytes c.in-Some.name.now, c.in-Some.kind.now) (IsIncludeConflict (tree_of c.args.self.now) c.args.self.now.world.now c.args.side (error_model c.in_err-take_name.field-0.0)) numbering g
    (ap by_name c.in-Some.ensures.steps) c.loop-name.invariant
    (λ before. subst (λ (x : List ℕ). IsIncludeConflict (tree_of c.args.self.now) c.args.self.now.world.now c.args.side (error_model c.in_err-take_name.field-0.0) (taking_of numbering g (by_name c.loop-name.entries.entries) (by_name c.loop-name.there.entries)) before (x, means numbering g c.in-Some.kind.now)) c.as_str.ensures.value (err numbering g before))))
