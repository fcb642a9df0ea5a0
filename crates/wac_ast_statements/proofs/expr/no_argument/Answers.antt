use Rattle.wac_ast_statements.proofs.Common.{ap, ◌∙◌, told_of, looks, looks_on, none_found}
use Rattle.wac_ast_statements.proofs.expr.no_argument.Goals as goal

pub returns : goal.returns
returns c =
    let begun = looks c.args.lexer.now _ c.new-lookahead.ensures in
    let none = none_found _ _ _ _ _ _ begun c.peek.ensures c.requires in
    c.error.ensures ∙ ap told_of (looks_on _ _ _ _ _ _ begun c.peek.ensures none).is
