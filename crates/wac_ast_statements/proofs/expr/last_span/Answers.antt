use Rattle.wac_ast_statements.proofs.Common.{sym, ◌∙◌}
use Rattle.wac_ast_statements.proofs.Spans.{last_is}
use Rattle.wac_ast_statements.proofs.expr.last_span.Goals as goal

pub returns-in-Some : goal.returns-in-Some
returns-in-Some c = c.span.ensures ∙ sym (last_is c.args.before c.args.postfix.now c.in-Some.last.now (sym c.in-Some.ensures.value))
