use Rattle.wac_resolution_types.proofs.Common.{List, map, arith, subst, err_from_is_err_and, take_all, length-map, Steps, ident_of, enum_case_of, error_model, HasEnumCase, IsRepeatedPart, duplicate_enum_case, reports}
use Rattle.wac_ast_grammar.specs.Tree as tree
use Rattle.wac_resolution_types.specs.Declarations.{names_alone}
use Rattle.wac_resolution_types.proofs.NamesAlone.{names_step, names_break}
use Rattle.wac_resolution_types.proofs.names_alone.enum_cases.Goals as goal

pub returns-in_err-enum_case-clause-err : goal.returns-in_err-enum_case-clause-err
returns-in_err-enum_case-clause-err c =
    let p = err_from_is_err_and c.from_residual.result c.from_residual.ensures.1 in
    rw (p.1, p.2) (reports c.in_err-enum_case.ensures.err (names_break HasEnumCase (λ old x. IsRepeatedPart duplicate_enum_case (ident_of c.args.declared.now) old x.id (error_model c.in_err-enum_case.field-0.0)) enum_case_of (names_alone c.args.all.now.keys) (names_alone c.loop-item.all.keys) c.args.cases.now c.loop-item.item-index c.item-item.result
    c.loop-item-test.true c.item-item.is c.loop-item.invariant))

pub loop-item-preserved : goal.loop-item-preserved
loop-item-preserved c =
    names_step HasEnumCase enum_case_of (names_alone c.args.all.now.keys) (names_alone c.loop-item.all.keys) (names_alone c.enum_case.new.all.keys) c.args.cases.now c.loop-item.item-index c.item-item.result
    c.loop-item-test.true c.item-item.is c.loop-item.invariant c.in_ok-enum_case.ensures.ok

pub returns-clause-ok : goal.returns-clause-ok
returns-clause-ok c =
    subst (λ (l : List tree.EnumCase). Steps HasEnumCase (names_alone c.args.all.now.keys) l (names_alone c.loop-item.all.keys)) (take_all c.loop-item.item-index (map enum_case_of c.args.cases.now) (omega (arith, length-map c.args.cases.now enum_case_of))) c.loop-item.invariant
