use Rattle.wac_ast_types.proofs.Common.{refl, tries_on, tries_found, tries_end}
use Rattle.wac_ast_types.proofs.types.peek_all.Goals as goal

pub loop-token-init : goal.loop-token-init
loop-token-init c = record { next = refl; found = refl; all = refl }

pub returns-then-peek : goal.returns-then-peek
returns-then-peek c = tries_found c.args.tokens.now _ _ c.args.lookahead.now c.loop-token.lookahead _ _ c.loop-token.invariant c.loop-token-test.true c.peek.ensures.found c.peek.ensures.kept c.if-peek.true

pub loop-token-preserved : goal.loop-token-preserved
loop-token-preserved c = tries_on c.args.tokens.now _ _ c.args.lookahead.now c.loop-token.lookahead _ _ c.loop-token.invariant c.loop-token-test.true c.peek.ensures.found c.peek.ensures.kept c.if-peek.false

pub returns : goal.returns
returns c = tries_end c.args.tokens.now _ c.args.lookahead.now c.loop-token.lookahead c.loop-token.invariant c.loop-token-test.false
