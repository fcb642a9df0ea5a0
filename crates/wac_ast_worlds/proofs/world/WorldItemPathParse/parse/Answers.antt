use Rattle.wac_ast_worlds.proofs.Common.{refl, ap, ◌∙◌, left, Ident, NamedWorldItem, WorldItemPath, world_item_path, mapped, looks}
use Rattle.wac_ast_base.proofs.Loops.{fails_bind}
use Rattle.wac_ast_base.proofs.Lists.{same_fails}
use Rattle.wac_ast_base.proofs.Exits as x
use Rattle.wac_ast_base.proofs.Yields as y
use Rattle.wac_ast_worlds.proofs.Paths.{at_name, path_with_type, path_without_type}
use Rattle.wac_ast_worlds.proofs.world.WorldItemPathParse.parse.Goals as goal

pub returns-in_ok-parse-clause-gives : goal.returns-in_ok-parse-clause-gives
returns-in_ok-parse-clause-gives c = y.gives world_item_path (y.meets (looks _ _ c.new-lookahead.ensures) c.peek.ensures c.if-peek.true c.in_ok-parse.ensures.gives) refl

pub returns-in_err-parse-clause-gives : goal.returns-in_err-parse-clause-gives
returns-in_err-parse-clause-gives c = x.exits world_item_path _ _ _ c.from_residual.ensures.1 (x.meets (looks _ _ c.new-lookahead.ensures) c.peek.ensures c.if-peek.true c.in_err-parse.ensures.gives)

pub returns-in_ok-parse-2-clause-gives : goal.returns-in_ok-parse-2-clause-gives
returns-in_ok-parse-2-clause-gives c = (path_with_type (left c.args.lexer.now) (at_name (looks _ _ c.new-lookahead.ensures) c.peek.ensures c.if-peek.false c.peek-else-peek.ensures c.if-peek-2.true) (x.tested c.at_second.ensures c.if-at_second.true) ∙ ap (mapped {A = NamedWorldItem} {B = WorldItemPath} WorldItemPath.named) c.in_ok-parse-2.ensures.gives.0, c.in_ok-parse-2.ensures.gives.1)

pub returns-in_err-parse-2-clause-gives : goal.returns-in_err-parse-2-clause-gives
returns-in_err-parse-2-clause-gives c = x.passed _ _ _ _ _ _ c.from_residual-in_err-parse-2.ensures.1 (same_fails _ _ _ _ (path_with_type (left c.args.lexer.now) (at_name (looks _ _ c.new-lookahead.ensures) c.peek.ensures c.if-peek.false c.peek-else-peek.ensures c.if-peek-2.true) (x.tested c.at_second.ensures c.if-at_second.true)) (fails_bind _ _ _ _ c.in_err-parse-2.ensures.gives))

pub returns-in_ok-parse-3-clause-gives : goal.returns-in_ok-parse-3-clause-gives
returns-in_ok-parse-3-clause-gives c = (path_without_type (left c.args.lexer.now) (at_name (looks _ _ c.new-lookahead.ensures) c.peek.ensures c.if-peek.false c.peek-else-peek.ensures c.if-peek-2.true) (x.tested c.at_second.ensures c.if-at_second.false) ∙ ap (mapped {A = Ident} {B = WorldItemPath} WorldItemPath.ident) c.in_ok-parse-3.ensures.gives.0, c.in_ok-parse-3.ensures.gives.1)

pub returns-in_err-parse-3-clause-gives : goal.returns-in_err-parse-3-clause-gives
returns-in_err-parse-3-clause-gives c = x.passed _ _ _ _ _ _ c.from_residual-in_err-parse-3.ensures.1 (same_fails _ _ _ _ (path_without_type (left c.args.lexer.now) (at_name (looks _ _ c.new-lookahead.ensures) c.peek.ensures c.if-peek.false c.peek-else-peek.ensures c.if-peek-2.true) (x.tested c.at_second.ensures c.if-at_second.false)) (fails_bind _ _ _ _ c.in_err-parse-3.ensures.gives))

pub returns-else-peek-2-clause-gives : goal.returns-else-peek-2-clause-gives
returns-else-peek-2-clause-gives c = x.leaves world_item_path _ (x.misses (looks _ _ c.new-lookahead.ensures) c.peek.ensures c.if-peek.false (λ m. x.last_misses_first m c.peek-else-peek.ensures c.if-peek-2.false c.error.ensures refl refl refl))
