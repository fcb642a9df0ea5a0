use Rattle.wac_resolution_types.proofs.Common.{◌≡◌, [], map, ap, refl, rules, err_from_is_err_and, ident_of, flag_of, flags_decl_of, error_model, HasFlag, IsRepeatedPart, duplicate_flag, reports}
use Rattle.wac_graph_types.specs.declared.entry.DefinedType.TheVariants as types
use Rattle.wac_resolution_types.specs.Declarations.{names_alone}
use Rattle.wac_resolution_types.proofs.DeclarationParts.{names_from, names_fail_from, flags_are, alone_kinds}
use Rattle.wac_resolution_types.proofs.names_alone.flags.Goals as goal

pub returns-in_err-each_flag-clause-err : goal.returns-in_err-each_flag-clause-err
returns-in_err-each_flag-clause-err c =
    let p = err_from_is_err_and c.from_residual.result c.from_residual.ensures.1 in
    let empty : c.new-all.result.keys ≡ [] = search rules in
    rw (p.1, p.2) (reports c.in_err-each_flag.ensures.err (λ err. names_fail_from HasFlag (λ old before x. IsRepeatedPart duplicate_flag (ident_of c.args.decl.now.id) old x.id (error_model c.in_err-each_flag.field-0.0)) c.new-all.result.keys (map flag_of c.deref.result.now) (map flag_of c.args.decl.now.flags.items)
    empty (ap (map flag_of) c.deref.ensures.value) err))

pub add_defined-requires : goal.add_defined-requires
add_defined-requires c = alone_kinds c.args.state.now.graph.types c.each_flag.new.all.keys

pub returns-clause-ok : goal.returns-clause-ok
returns-clause-ok c =
    let empty : c.new-all.result.keys ≡ [] = search rules in
    flags_are c.args.state.now.graph c.add_defined.new.self.graph (types.Flags c.each_flag.new.all) c.each_flag.new.all.keys (flags_decl_of c.args.decl.now) c.in_ok-add_defined.field-0 refl (λ f. refl)
    (names_from HasFlag c.new-all.result.keys (names_alone c.each_flag.new.all.keys) (map flag_of c.deref.result.now) (map flag_of c.args.decl.now.flags.items) empty (ap (map flag_of) c.deref.ensures.value) c.in_ok-each_flag.ensures.ok)
    c.in_ok-add_defined.ensures
