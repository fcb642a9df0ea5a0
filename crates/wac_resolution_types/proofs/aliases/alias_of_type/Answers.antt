use Rattle.wac_resolution_types.proofs.Common.{err_from_is_err_and, ident_of, ty_of, error_model, alone, values_of, reports}
use Rattle.wac_resolution_types.proofs.Aliasing.{as_alone, alone_breaks, expression_aliased, expression_breaks}
use Rattle.wac_resolution_types.proofs.aliases.alias_of_type.Goals as goal

pub returns-in_err-alias_of_name-in-Some-clause-err : goal.returns-in_err-alias_of_name-in-Some-clause-err
returns-in_err-alias_of_name-in-Some-clause-err c =
    let p = err_from_is_err_and c.from_residual.result c.from_residual.ensures.1 in
    rw (p.1, p.2) (reports c.in_err-alias_of_name-in-Some.ensures.err (alone_breaks c.args.state.now.graph (values_of c.args.names.now) c.args.place c.args.name.now (alone (ty_of c.args.ty.now)) (ident_of c.in-Some.id.now) (ty_of c.args.ty.now) (error_model c.in_err-alias_of_name-in-Some.field-0.0) c.in-Some.ensures))

pub returns-in_ok-alias_of_name-in-Some-clause-ok : goal.returns-in_ok-alias_of_name-in-Some-clause-ok
returns-in_ok-alias_of_name-in-Some-clause-ok c =
    as_alone c.args.state.now.graph c.alias_of_name.new.state.graph (values_of c.args.names.now) c.args.place c.args.name.now (alone (ty_of c.args.ty.now)) (ident_of c.in-Some.id.now) (ty_of c.args.ty.now) c.in_ok-alias_of_name-in-Some.field-0 c.in-Some.ensures c.in_ok-alias_of_name-in-Some.ensures.ok

pub returns-in_err-value-in-None-clause-err : goal.returns-in_err-value-in-None-clause-err
returns-in_err-value-in-None-clause-err c =
    let p = err_from_is_err_and c.from_residual-in_err-value-in-None.result c.from_residual-in_err-value-in-None.ensures.1 in
    rw (p.1, p.2) (reports c.in_err-value-in-None.ensures.err (expression_breaks c.args.state.now.graph (values_of c.args.names.now) c.args.place c.args.name.now (alone (ty_of c.args.ty.now)) (ty_of c.args.ty.now) (error_model c.in_err-value-in-None.field-0.0) c.in-None.ensures))

pub returns-in_ok-value-in-None-clause-ok : goal.returns-in_ok-value-in-None-clause-ok
returns-in_ok-value-in-None-clause-ok c =
    expression_aliased c.args.state.now.graph c.alias_of_expression.new.state.graph (values_of c.args.names.now) c.args.place c.args.name.now (alone (ty_of c.args.ty.now)) (ty_of c.args.ty.now) c.in_ok-value-in-None.value c.in-None.ensures c.in_ok-value-in-None.ensures.ok
