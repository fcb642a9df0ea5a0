use Rattle.wac_resolution_statements.proofs.Common.{◌≡◌, ◌∙◌, Option, Some, inr, sym, ap, subst, Span, ItemKind, by_name, package_path_of, means, Numbering, IsOneToOne, target_mismatch, error_model, rules_of}
use Rattle.wac_graph_types.specs.declared.kind.ExternKind.TheVariants as externs
use Rattle.wac_resolution_statements.proofs.Tested.{export_mismatched}
use Rattle.wac_resolution_statements.proofs.target_exports.check_export.Goals as goal

pub returns-in_ok-mismatch-in-Err-clause-err : goal.returns-in_ok-mismatch-in-Err-clause-err
returns-in_ok-mismatch-in-Err-clause-err g c =
    inr (export_mismatched c.args.state.now.graph (rules_of g.R.Rules c.args.rules.now) c.args.target.now c.args.export.now.name.now c.args.export.now.kind c.kind-exported.result c.in-Some.node.0 (by_name c.args.places.now.entries) c.in-Err.reason (error_model c.in_ok-mismatch-in-Err.field-0)
    c.requires.placed (sym c.in-Some.ensures.node) c.kind-exported.ensures.kind
    (subst (λ (k : ItemKind). (numbering : Numbering) → IsOneToOne numbering → g.R.Rules.passes c.args.rules.now (means numbering c.args.state.now.graph c.kind-exported.result) (means numbering c.args.state.now.graph k) ≡ Some c.in-Err.reason) c.promote.ensures c.in-Err.ensures)
    (c.in_ok-mismatch-in-Err.ensures ∙ ap (λ (o : Option Span). target_mismatch externs.Export c.args.export.now.name.now (package_path_of c.args.target.now.path.now).string c.in-Err.reason o) c.find.ensures))
