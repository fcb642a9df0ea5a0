use Rattle.wac_resolution_worlds.proofs.Common.{err_from_is_err_and, ident_of, func_type_of, error_model, values_of, reports}
use Rattle.wac_ast_types.specs.declared.func_type.FuncTypeRef.TheVariants as references
use Rattle.wac_resolution_worlds.proofs.Refer.{ref_is, ref_breaks, new_ref_is, named_ref_is}
use Rattle.wac_resolution_worlds.proofs.functions.func_ref.Goals as goal

pub returns-in_err-new_func-in-Func-clause-err : goal.returns-in_err-new_func-in-Func-clause-err
returns-in_err-new_func-in-Func-clause-err c =
    let p = err_from_is_err_and c.from_residual.result c.from_residual.ensures.1 in
    rw (p.1, p.2) (reports c.in_err-new_func-in-Func.ensures.err (ref_breaks c.args.state.now.graph (values_of c.args.names.now) c.args.reference.now (references.Func c.in-Func.func) (error_model c.in_err-new_func-in-Func.field-0.0) c.in-Func.is))

pub returns-in_err-named_func-in-Ident-clause-err : goal.returns-in_err-named_func-in-Ident-clause-err
returns-in_err-named_func-in-Ident-clause-err c =
    let p = err_from_is_err_and c.from_residual-in_err-named_func-in-Ident.result c.from_residual-in_err-named_func-in-Ident.ensures.1 in
    rw (p.1, p.2) (reports c.in_err-named_func-in-Ident.ensures.err (λ err. ref_breaks c.args.state.now.graph (values_of c.args.names.now) c.args.reference.now (references.Ident c.in-Ident.id) (error_model c.in_err-named_func-in-Ident.field-0.0) c.in-Ident.is (λ numbering. err numbering c.args.state.now.graph)))

pub returns-in_ok-new_func-in-Func-clause-ok : goal.returns-in_ok-new_func-in-Func-clause-ok
returns-in_ok-new_func-in-Func-clause-ok c =
    ref_is c.args.state.now.graph c.new_func.new.state.graph (values_of c.args.names.now) c.args.reference.now (references.Func c.in-Func.func) c.in_ok-new_func-in-Func.field-0 c.in-Func.is
    (new_ref_is c.args.state.now.graph c.new_func.new.state.graph (values_of c.args.names.now) (func_type_of c.in-Func.func) c.in_ok-new_func-in-Func.field-0 c.in_ok-new_func-in-Func.ensures.ok)

pub returns-in_ok-named_func-in-Ident-clause-ok : goal.returns-in_ok-named_func-in-Ident-clause-ok
returns-in_ok-named_func-in-Ident-clause-ok c =
    ref_is c.args.state.now.graph c.args.state.now.graph (values_of c.args.names.now) c.args.reference.now (references.Ident c.in-Ident.id) c.in_ok-named_func-in-Ident.field-0 c.in-Ident.is
    (named_ref_is c.args.state.now.graph (values_of c.args.names.now) (ident_of c.in-Ident.id) c.in_ok-named_func-in-Ident.field-0 c.requires c.in_ok-named_func-in-Ident.ensures.ok)
