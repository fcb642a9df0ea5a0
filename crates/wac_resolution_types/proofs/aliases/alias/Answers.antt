use Rattle.wac_resolution_types.proofs.Common.{◌≡◌, [], rules, err_from_is_err_and, by_name, error_model, values_of, reports}
use Rattle.wac_resolution_types.proofs.DeclarationParts.{none_named}
use Rattle.wac_resolution_types.proofs.Aliasing.{func_aliased, func_alias_breaks, type_aliased, type_alias_breaks}
use Rattle.wac_resolution_types.proofs.aliases.alias.Goals as goal

pub returns-in_err-func-in-Func-clause-err : goal.returns-in_err-func-in-Func-clause-err
returns-in_err-func-in-Func-clause-err c =
    let p = err_from_is_err_and c.from_residual.result c.from_residual.ensures.1 in
    let empty : c.new-first.result.entries ≡ [] = search rules in
    rw (p.1, p.2) (reports c.in_err-func-in-Func.ensures.err (func_alias_breaks c.args.state.now.graph (values_of c.args.names.now) c.args.place c.args.name.now (by_name c.new-first.result.entries) c.args.kind.now c.in-Func.func (error_model c.in_err-func-in-Func.field-0.0) (none_named c.new-first.result.entries empty) c.in-Func.is))

pub returns-in_ok-func-in-Func-clause-ok : goal.returns-in_ok-func-in-Func-clause-ok
returns-in_ok-func-in-Func-clause-ok c =
    let empty : c.new-first.result.entries ≡ [] = search rules in
    func_aliased c.args.state.now.graph c.function.new.state.graph (values_of c.args.names.now) c.args.place c.args.name.now (by_name c.new-first.result.entries) c.args.kind.now c.in-Func.func c.in_ok-func-in-Func.func (none_named c.new-first.result.entries empty) c.in-Func.is c.in_ok-func-in-Func.ensures.ok

pub returns-in_err-alias_of_type-in-Ty-clause-err : goal.returns-in_err-alias_of_type-in-Ty-clause-err
returns-in_err-alias_of_type-in-Ty-clause-err c =
    let p = err_from_is_err_and c.from_residual-in_err-alias_of_type-in-Ty.result c.from_residual-in_err-alias_of_type-in-Ty.ensures.1 in
    rw (p.1, p.2) (reports c.in_err-alias_of_type-in-Ty.ensures.err (type_alias_breaks c.args.state.now.graph (values_of c.args.names.now) c.args.place c.args.name.now c.args.kind.now c.in-Ty.ty (error_model c.in_err-alias_of_type-in-Ty.field-0.0) c.in-Ty.is))

pub returns-in_ok-alias_of_type-in-Ty-clause-ok : goal.returns-in_ok-alias_of_type-in-Ty-clause-ok
returns-in_ok-alias_of_type-in-Ty-clause-ok c =
    type_aliased c.args.state.now.graph c.alias_of_type.new.state.graph (values_of c.args.names.now) c.args.place c.args.name.now c.args.kind.now c.in-Ty.ty c.in_ok-alias_of_type-in-Ty.field-0 c.in-Ty.is c.in_ok-alias_of_type-in-Ty.ensures.ok
