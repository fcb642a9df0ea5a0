use Rattle.wac_resolution_state.proofs.Common.{◌∙◌, sym, package_path_of, if_reports}
use Rattle.wac_resolution_state.specs.Bindings.{values_of}
use Rattle.wac_resolution_state.proofs.Finding.{own_found, own_broken, other_found, other_broken}
use Rattle.wac_resolution_state.proofs.paths.path.Goals as goal

pub returns-then-is_own-clause-ok : goal.returns-then-is_own-clause-ok
returns-then-is_own-clause-ok c =
    own_found c.args.context.now c.args.state.now.graph (values_of c.args.root.now) (package_path_of c.args.path.now) c.own_path.result (sym c.is_own.ensures ∙ c.if-is_own.true) c.requires.supplied c.own_path.ensures.ok

pub returns-then-is_own-clause-err : goal.returns-then-is_own-clause-err
returns-then-is_own-clause-err c =
    if_reports _ _ (λ r. own_broken c.args.context.now c.args.state.now.graph (values_of c.args.root.now) (package_path_of c.args.path.now) r (sym c.is_own.ensures ∙ c.if-is_own.true)) c.own_path.result c.own_path.ensures.err

pub returns-clause-ok : goal.returns-clause-ok
returns-clause-ok c =
    other_found c.args.context.now c.args.state.now.graph c.foreign_path.new.state.graph (values_of c.args.root.now) (package_path_of c.args.path.now) c.foreign_path.result (sym c.is_own.ensures ∙ c.if-is_own.false) c.foreign_path.ensures.ok

pub returns-clause-err : goal.returns-clause-err
returns-clause-err c =
    if_reports _ _ (λ r. other_broken c.args.context.now c.args.state.now.graph c.foreign_path.new.state.graph (values_of c.args.root.now) (package_path_of c.args.path.now) r (sym c.is_own.ensures ∙ c.if-is_own.false)) c.foreign_path.result c.foreign_path.ensures.err
