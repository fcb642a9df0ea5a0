use Rattle.wac_lexer.specs.declared.token.Token.TheVariants as k
use Rattle.wac_ast_base.proofs.Exits as x
use Rattle.wac_ast_base.proofs.Yields as y
use Rattle.wac_ast_types.proofs.NamedResults.{no_name, names_fail, names_yield}
use Rattle.wac_ast_types.proofs.func_type.parse_named.Goals as goal

pub returns-in_err-take_token-clause-gives : goal.returns-in_err-take_token-clause-gives
returns-in_err-take_token-clause-gives c = x.part_exits _ c.from_residual.ensures.1 (x.here c.in_err-take_token.ensures.takes)

pub returns-in_err-test_name-clause-gives : goal.returns-in_err-test_name-clause-gives
returns-in_err-test_name-clause-gives c = x.part_exits _ c.from_residual-in_err-test_name.ensures.1 (x.took c.in_ok-take_token.ensures.takes (no_name c.in_err-test_name.ensures.refused))

pub returns-in_err-named-clause-gives : goal.returns-in_err-named-clause-gives
returns-in_err-named-clause-gives c =
    let same = c.in_ok-test_name.ensures.ok.0 in
    x.part_exits _ c.from_residual-in_err-named.ensures.1 (x.took c.in_ok-take_token.ensures.takes (names_fail _ same c.in_ok-test_name.ensures.ok.1 (x.same_error _ _ _ c.in_err-named.ensures.takes)))

pub returns-clause-gives : goal.returns-clause-gives
returns-clause-gives c =
    let named = c.in_ok-named.ensures.takes in
    let parts = names_yield _ c.in_ok-test_name.ensures.ok.0 c.in_ok-test_name.ensures.ok.1 named.1 named.3 in
    y.part (y.took c.in_ok-take_token.ensures.takes parts.2) parts.3
