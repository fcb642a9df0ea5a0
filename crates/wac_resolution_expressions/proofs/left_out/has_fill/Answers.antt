use Rattle.wac_resolution_expressions.proofs.Common.{◌≡◌, ◌∙◌, List, map, sym, subst, false, arith, take_all, length-map, arguments_from, argument_of, has_fill}
use Rattle.wac_ast_grammar.specs.Tree.{InstantiationArgument}
use Rattle.wac_resolution_expressions.proofs.LeavingOut.{no_fill_next, fill_found}
use Rattle.wac_resolution_expressions.proofs.left_out.has_fill.Goals as goal

pub returns-then-is_fill : goal.returns-then-is_fill
returns-then-is_fill c =
    sym (fill_found c.args.arguments.now c.loop-argument.argument-index c.argument-item.result c.loop-argument-test.true c.argument-item.is (sym c.is_fill.ensures ∙ c.if-is_fill.true))

pub loop-argument-preserved : goal.loop-argument-preserved
loop-argument-preserved c =
    no_fill_next c.args.arguments.now c.loop-argument.argument-index c.argument-item.result c.loop-argument-test.true c.argument-item.is c.loop-argument.invariant (sym c.is_fill.ensures ∙ c.if-is_fill.false)

pub returns : goal.returns
returns c =
    sym (subst (λ (l : List InstantiationArgument). has_fill (arguments_from l) ≡ false)
    (take_all c.loop-argument.argument-index (map argument_of c.args.arguments.now) (omega (arith, length-map c.args.arguments.now argument_of))) c.loop-argument.invariant)
