use Rattle.wac_ast_base.proofs.Common.{refl}
use Rattle.std.proofs.Common.{sym}
use Rattle.wac_ast_base.proofs.Lookaheads.{looks, tests}
use Rattle.wac_ast_base.proofs.delimited.begins.Goals as goal

pub returns : goal.returns
returns g c = sym (tests _ _ _ _ _ _ _ (looks c.args.lexer.now _ c.new-lookahead.ensures) c.peek.ensures refl)
