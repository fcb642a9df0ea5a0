use Rattle.wac_resolution_statements.proofs.Common.{◌≡◌, Some, None, inr, subst, ItemKind, means, Numbering, IsOneToOne, error_model, rules_of}
use Rattle.wac_resolution_statements.proofs.Tested.{import_allowed, import_mismatched}
use Rattle.wac_resolution_statements.proofs.target_imports.check_import.Goals as goal

pub returns-in-Ok-clause-ok : goal.returns-in-Ok-clause-ok
returns-in-Ok-clause-ok g c =
    import_allowed c.args.state.now.graph (rules_of g.R.Rules c.args.rules.now) c.args.target.now c.args.import.now.name.now c.args.import.now.kind c.in-Some.wanted c.in-Some.ensures.means
    (subst (λ (k : ItemKind). (numbering : Numbering) → IsOneToOne numbering → g.R.Rules.passes c.args.rules.now (means numbering c.args.state.now.graph k) (means numbering c.args.state.now.graph c.args.import.now.kind) ≡ None) c.promote.ensures c.in-Ok.ensures)

pub returns-in_ok-mismatch-in-Err-clause-err : goal.returns-in_ok-mismatch-in-Err-clause-err
returns-in_ok-mismatch-in-Err-clause-err g c =
    inr (import_mismatched c.args.state.now.graph (rules_of g.R.Rules c.args.rules.now) c.args.target.now c.args.import.now.name.now c.args.import.now.kind c.in-Some.wanted c.args.span c.in-Err.reason (error_model c.in_ok-mismatch-in-Err.field-0) c.in-Some.ensures.means
    (subst (λ (k : ItemKind). (numbering : Numbering) → IsOneToOne numbering → g.R.Rules.passes c.args.rules.now (means numbering c.args.state.now.graph k) (means numbering c.args.state.now.graph c.args.import.now.kind) ≡ Some c.in-Err.reason) c.promote.ensures c.in-Err.ensures) c.in_ok-mismatch-in-Err.ensures)
