use Rattle.wac_resolution_types.proofs.Common.{List, map, arith, subst, err_from_is_err_and, take_all, length-map, Steps, ident_of, flag_of, error_model, HasFlag, IsRepeatedPart, duplicate_flag, reports}
use Rattle.wac_ast_grammar.specs.Tree as tree
use Rattle.wac_resolution_types.specs.Declarations.{names_alone}
use Rattle.wac_resolution_types.proofs.NamesAlone.{names_step, names_break}
use Rattle.wac_resolution_types.proofs.names_alone.each_flag.Goals as goal

pub returns-in_err-flag-clause-err : goal.returns-in_err-flag-clause-err
returns-in_err-flag-clause-err c =
    let p = err_from_is_err_and c.from_residual.result c.from_residual.ensures.1 in
    rw (p.1, p.2) (reports c.in_err-flag.ensures.err (names_break HasFlag (λ old x. IsRepeatedPart duplicate_flag (ident_of c.args.declared.now) old x.id (error_model c.in_err-flag.field-0.0)) flag_of (names_alone c.args.all.now.keys) (names_alone c.loop-item.all.keys) c.args.flags.now c.loop-item.item-index c.item-item.result
    c.loop-item-test.true c.item-item.is c.loop-item.invariant))

pub loop-item-preserved : goal.loop-item-preserved
loop-item-preserved c =
    names_step HasFlag flag_of (names_alone c.args.all.now.keys) (names_alone c.loop-item.all.keys) (names_alone c.flag.new.all.keys) c.args.flags.now c.loop-item.item-index c.item-item.result
    c.loop-item-test.true c.item-item.is c.loop-item.invariant c.in_ok-flag.ensures.ok

pub returns-clause-ok : goal.returns-clause-ok
returns-clause-ok c =
    subst (λ (l : List tree.Flag). Steps HasFlag (names_alone c.args.all.now.keys) l (names_alone c.loop-item.all.keys)) (take_all c.loop-item.item-index (map flag_of c.args.flags.now) (omega (arith, length-map c.args.flags.now flag_of))) c.loop-item.invariant
