use Rattle.wac_ast_types.proofs.Common.{left}
use Rattle.wac_ast_types.proofs.TypeParts.{payload_taken}
use Rattle.wac_ast_types.proofs.types.parse_optional_payload.Goals as goal

pub returns-clause-made : goal.returns-clause-made
returns-clause-made g c =
    let held = c.in_ok-inner.ensures.gives in
    (c.in_ok-inner.inner, c.in_ok-inner.span, c.ctor.ensures, held.0, payload_taken (left c.args.lexer.now) _ _ (left c.parse_held.new.lexer) held.0)
