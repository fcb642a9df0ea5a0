use Rattle.wac_resolution_types.proofs.Common.{err_from_is_err_and, variant_decl_of, record_decl_of, flags_decl_of, enum_decl_of, error_model, IsVariant, IsRecord, IsFlags, IsEnum, values_of, scope_of, reports}
use Rattle.wac_ast_types.specs.declared.type_decl.TypeDecl.TheVariants as decls
use Rattle.wac_resolution_types.proofs.TypeDecls.{value_declared, declared, declaration_breaks}
use Rattle.wac_resolution_types.proofs.declarations.type_decl.Goals as goal

pub returns-in_err-variant-in-Variant-clause-err : goal.returns-in_err-variant-in-Variant-clause-err
returns-in_err-variant-in-Variant-clause-err c =
    let p = err_from_is_err_and c.from_residual.result c.from_residual.ensures.1 in
    rw (p.1, p.2) (reports c.in_err-variant-in-Variant.ensures.err (declaration_breaks c.args.state.now.graph (values_of c.args.names.now) c.args.decl.now (decls.Variant c.in-Variant.decl) (error_model c.in_err-variant-in-Variant.field-0.0) c.in-Variant.is))

pub returns-in_ok-variant-in-Variant-clause-ok : goal.returns-in_ok-variant-in-Variant-clause-ok
returns-in_ok-variant-in-Variant-clause-ok c =
    value_declared c.args.state.now.graph c.variant.new.state.graph (values_of c.args.names.now) c.args.decl.now (decls.Variant c.in-Variant.decl) (λ numbering m. IsVariant (scope_of numbering c.args.state.now.graph (values_of c.args.names.now)) (variant_decl_of c.in-Variant.decl) m) c.in_ok-variant-in-Variant.field-0 c.in-Variant.is (λ numbering m after h count. (h, count)) c.in_ok-variant-in-Variant.ensures.ok

pub returns-in_err-record-in-Record-clause-err : goal.returns-in_err-record-in-Record-clause-err
returns-in_err-record-in-Record-clause-err c =
    let p = err_from_is_err_and c.from_residual-in_err-record-in-Record.result c.from_residual-in_err-record-in-Record.ensures.1 in
    rw (p.1, p.2) (reports c.in_err-record-in-Record.ensures.err (declaration_breaks c.args.state.now.graph (values_of c.args.names.now) c.args.decl.now (decls.Record c.in-Record.decl) (error_model c.in_err-record-in-Record.field-0.0) c.in-Record.is))

pub returns-in_ok-record-in-Record-clause-ok : goal.returns-in_ok-record-in-Record-clause-ok
returns-in_ok-record-in-Record-clause-ok c =
    value_declared c.args.state.now.graph c.record.new.state.graph (values_of c.args.names.now) c.args.decl.now (decls.Record c.in-Record.decl) (λ numbering m. IsRecord (scope_of numbering c.args.state.now.graph (values_of c.args.names.now)) (record_decl_of c.in-Record.decl) m) c.in_ok-record-in-Record.field-0 c.in-Record.is (λ numbering m after h count. (h, count)) c.in_ok-record-in-Record.ensures.ok

pub returns-in_err-flags-in-Flags-clause-err : goal.returns-in_err-flags-in-Flags-clause-err
returns-in_err-flags-in-Flags-clause-err c =
    let p = err_from_is_err_and c.from_residual-in_err-flags-in-Flags.result c.from_residual-in_err-flags-in-Flags.ensures.1 in
    rw (p.1, p.2) (reports c.in_err-flags-in-Flags.ensures.err (λ err. declaration_breaks c.args.state.now.graph (values_of c.args.names.now) c.args.decl.now (decls.Flags c.in-Flags.decl) (error_model c.in_err-flags-in-Flags.field-0.0) c.in-Flags.is (λ numbering. err)))

pub returns-in_ok-flags-in-Flags-clause-ok : goal.returns-in_ok-flags-in-Flags-clause-ok
returns-in_ok-flags-in-Flags-clause-ok c =
    value_declared c.args.state.now.graph c.flags.new.state.graph (values_of c.args.names.now) c.args.decl.now (decls.Flags c.in-Flags.decl) (λ numbering m. IsFlags (flags_decl_of c.in-Flags.decl) m) c.in_ok-flags-in-Flags.field-0 c.in-Flags.is (λ numbering m after h count. (h, count)) c.in_ok-flags-in-Flags.ensures.ok

pub returns-in_err-enumeration-in-Enum-clause-err : goal.returns-in_err-enumeration-in-Enum-clause-err
returns-in_err-enumeration-in-Enum-clause-err c =
    let p = err_from_is_err_and c.from_residual-in_err-enumeration-in-Enum.result c.from_residual-in_err-enumeration-in-Enum.ensures.1 in
    rw (p.1, p.2) (reports c.in_err-enumeration-in-Enum.ensures.err (λ err. declaration_breaks c.args.state.now.graph (values_of c.args.names.now) c.args.decl.now (decls.Enum c.in-Enum.decl) (error_model c.in_err-enumeration-in-Enum.field-0.0) c.in-Enum.is (λ numbering. err)))

pub returns-in_ok-enumeration-in-Enum-clause-ok : goal.returns-in_ok-enumeration-in-Enum-clause-ok
returns-in_ok-enumeration-in-Enum-clause-ok c =
    value_declared c.args.state.now.graph c.enumeration.new.state.graph (values_of c.args.names.now) c.args.decl.now (decls.Enum c.in-Enum.decl) (λ numbering m. IsEnum (enum_decl_of c.in-Enum.decl) m) c.in_ok-enumeration-in-Enum.field-0 c.in-Enum.is (λ numbering m after h count. (h, count)) c.in_ok-enumeration-in-Enum.ensures.ok

pub returns-in_err-alias-in-Alias-clause-err : goal.returns-in_err-alias-in-Alias-clause-err
returns-in_err-alias-in-Alias-clause-err c =
    let p = err_from_is_err_and c.from_residual-in_err-alias-in-Alias.result c.from_residual-in_err-alias-in-Alias.ensures.1 in
    rw (p.1, p.2) (reports c.in_err-alias-in-Alias.ensures.err (declaration_breaks c.args.state.now.graph (values_of c.args.names.now) c.args.decl.now (decls.Alias c.in-Alias.decl) (error_model c.in_err-alias-in-Alias.field-0.0) c.in-Alias.is))

pub returns-in_ok-alias-in-Alias-clause-ok : goal.returns-in_ok-alias-in-Alias-clause-ok
returns-in_ok-alias-in-Alias-clause-ok c =
    declared c.args.state.now.graph c.alias.new.state.graph (values_of c.args.names.now) c.args.decl.now (decls.Alias c.in-Alias.decl) c.in_ok-alias-in-Alias.field-0 c.in-Alias.is c.in_ok-alias-in-Alias.ensures.ok
