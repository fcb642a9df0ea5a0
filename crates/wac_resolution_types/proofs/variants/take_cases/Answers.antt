use Rattle.wac_resolution_types.proofs.Common.{map, take, arith, err_from_is_err_and, take_all, length-map, by_name, variant_case_of, ident_of, error_model, HasCase, CaseBroken, values_of, reports, still_named}
use Rattle.wac_resolution_types.specs.Declarations.{perhaps}
use Rattle.wac_resolution_types.proofs.NamedParts.{no_parts, parts_step, parts_all, parts_break}
use Rattle.wac_resolution_types.proofs.variants.take_cases.Goals as goal

pub loop-case-init : goal.loop-case-init
loop-case-init c = no_parts perhaps HasCase c.args.state.now.graph (values_of c.args.names.now) (by_name c.args.all.now.entries) c.requires.parts

pub take_case-requires-clause-scope : goal.take_case-requires-clause-scope
take_case-requires-clause-scope c = still_named c.args.state.now.graph c.loop-case.state.graph (values_of c.args.names.now) c.loop-case.invariant.grows.grows c.requires.scope

pub take_case-requires-clause-parts : goal.take_case-requires-clause-parts
take_case-requires-clause-parts c = c.loop-case.invariant.named

pub returns-in_err-take_case-clause-err : goal.returns-in_err-take_case-clause-err
returns-in_err-take_case-clause-err c =
    let p = err_from_is_err_and c.from_residual.result c.from_residual.ensures.1 in
    rw (p.1, p.2) (reports c.in_err-take_case.ensures.err (parts_break perhaps HasCase (λ s. CaseBroken s (ident_of c.args.declared.now) (error_model c.in_err-take_case.field-0.0)) variant_case_of c.args.state.now.graph c.loop-case.state.graph (values_of c.args.names.now) (by_name c.args.all.now.entries) (by_name c.loop-case.all.entries) c.args.cases.now c.loop-case.case-index c.case-item.result
    c.loop-case-test.true c.case-item.is c.requires.scope c.loop-case.invariant))

pub loop-case-preserved : goal.loop-case-preserved
loop-case-preserved c =
    parts_step perhaps HasCase variant_case_of c.args.state.now.graph c.loop-case.state.graph c.take_case.new.state.graph (values_of c.args.names.now) (by_name c.args.all.now.entries) (by_name c.loop-case.all.entries) (by_name c.take_case.new.all.entries) c.args.cases.now c.loop-case.case-index c.case-item.result
    c.loop-case-test.true c.case-item.is c.requires.scope c.loop-case.invariant c.in_ok-take_case.ensures.ok

pub returns-clause-ok : goal.returns-clause-ok
returns-clause-ok c =
    parts_all perhaps HasCase c.args.state.now.graph c.loop-case.state.graph (values_of c.args.names.now) (by_name c.args.all.now.entries) (by_name c.loop-case.all.entries) (take c.loop-case.case-index (map variant_case_of c.args.cases.now)) (map variant_case_of c.args.cases.now)
    (take_all c.loop-case.case-index (map variant_case_of c.args.cases.now) (omega (arith, length-map c.args.cases.now variant_case_of))) c.loop-case.invariant
