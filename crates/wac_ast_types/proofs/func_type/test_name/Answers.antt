use Rattle.wac_ast_types.proofs.Common.{◌≡◌, true, left, at}
use Rattle.wac_lexer.specs.declared.token.Token.TheVariants as k
use Rattle.wac_ast_types.proofs.NamedResults.{taken_at}
use Rattle.wac_ast_types.proofs.func_type.test_name.Goals as goal

pub returns-clause-ok : goal.returns-clause-ok
returns-clause-ok c =
    let found : at k.Ident (left c.args.lexer.now) ≡ true = taken_at k.Ident (left c.args.lexer.now) _ _ c.in_ok-take_token.ensures.takes.0 in
    absurd cc
