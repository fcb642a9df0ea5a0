use Rattle.wac_resolution.proofs.Common.{ap, IfErr-weaker, IfOk-weaker, ident_of, package_path_of, func_type_of, import_type_of, error_model, reports, items_named}
use Rattle.wac_resolution.proofs.ImportTypes.{func_kind_imported, path_imported, ident_imported, func_breaks, path_breaks, ident_breaks}
use Rattle.wac_resolution.proofs.import_kind.import_kind.Goals as goal

pub path-requires-clause-root : goal.path-requires-clause-root
path-requires-clause-root c = items_named c.args.state.now.graph c.args.root.now c.requires.agrees

pub returns-in-Package-clause-ok : goal.returns-in-Package-clause-ok
returns-in-Package-clause-ok c =
    IfOk-weaker c.path.result _ _
    (λ k found. path_imported c.args.context.now c.args.state.now.graph c.args.root.now c.requires.agrees c.path.new.state.graph (import_type_of c.args.ty.now) (package_path_of c.in-Package.from) k (ap import_type_of c.in-Package.is) found)
    c.path.ensures.ok

pub returns-in-Package-clause-err : goal.returns-in-Package-clause-err
returns-in-Package-clause-err c =
    IfErr-weaker c.path.result _ _
    (λ e h. reports h (path_breaks c.args.context.now c.args.state.now.graph c.args.root.now c.requires.agrees (import_type_of c.args.ty.now) (package_path_of c.in-Package.from) (error_model e) (ap import_type_of c.in-Package.is)))
    c.path.ensures.err

pub func_kind-requires : goal.func_kind-requires
func_kind-requires c = items_named c.args.state.now.graph c.args.root.now c.requires.agrees

pub returns-in-Func-clause-ok : goal.returns-in-Func-clause-ok
returns-in-Func-clause-ok c =
    IfOk-weaker c.func_kind.result _ _
    (λ k made. func_kind_imported c.args.context.now c.args.state.now.graph c.args.root.now c.requires.agrees c.func_kind.new.state.graph (import_type_of c.args.ty.now) (func_type_of c.in-Func.func) k (ap import_type_of c.in-Func.is) c.requires.supplied made)
    c.func_kind.ensures.ok

pub returns-in-Func-clause-err : goal.returns-in-Func-clause-err
returns-in-Func-clause-err c =
    IfErr-weaker c.func_kind.result _ _
    (λ e h. reports h (func_breaks c.args.context.now c.args.state.now.graph c.args.root.now c.requires.agrees (import_type_of c.args.ty.now) (func_type_of c.in-Func.func) (error_model e) (ap import_type_of c.in-Func.is)))
    c.func_kind.ensures.err

pub returns-in-Interface-clause-ok : goal.returns-in-Interface-clause-ok
returns-in-Interface-clause-ok c = rw c.in-Interface.is c.inline_kind.ensures.ok

pub returns-in-Interface-clause-err : goal.returns-in-Interface-clause-err
returns-in-Interface-clause-err c = rw c.in-Interface.is c.inline_kind.ensures.err

pub returns-in-Ident-clause-ok : goal.returns-in-Ident-clause-ok
returns-in-Ident-clause-ok c =
    IfOk-weaker c.kind_of.result _ _
    (λ k is. ident_imported c.args.context.now c.args.state.now.graph c.args.root.now c.requires.agrees (import_type_of c.args.ty.now) (ident_of c.in-Ident.id) k (ap import_type_of c.in-Ident.is) c.requires.supplied is)
    c.kind_of.ensures.ok

pub returns-in-Ident-clause-err : goal.returns-in-Ident-clause-err
returns-in-Ident-clause-err c =
    IfErr-weaker c.kind_of.result _ _
    (λ e h. reports h (ident_breaks c.args.context.now c.args.state.now.graph c.args.root.now c.requires.agrees (import_type_of c.args.ty.now) (ident_of c.in-Ident.id) (error_model e) (ap import_type_of c.in-Ident.is)))
    c.kind_of.ensures.err
