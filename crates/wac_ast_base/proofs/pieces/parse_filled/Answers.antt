use Rattle.wac_ast_base.proofs.Common.{refl}
use Rattle.wac_ast_base.proofs.Exits as x
use Rattle.wac_ast_base.proofs.Yields as y
use Rattle.wac_ast_base.proofs.Filled.{filled_closes, no_brace, filled_empty, filled_fails, filled_yields}
use Rattle.wac_ast_base.proofs.pieces.parse_filled.Goals as goal

pub parse_list-requires : goal.parse_list-requires
parse_list-requires g c = λ k. ((refl, tt), (filled_closes _ _ c.requires.filled, c.requires.begins))

pub returns-in_err-take_token-clause-gives : goal.returns-in_err-take_token-clause-gives
returns-in_err-take_token-clause-gives g c = x.part_exits _ c.from_residual.ensures.1 (no_brace _ _ c.requires.filled c.in_err-take_token.ensures.takes)

pub returns-in_err-refuse_no_part-clause-gives : goal.returns-in_err-refuse_no_part-clause-gives
returns-in_err-refuse_no_part-clause-gives g c = x.part_exits _ c.from_residual-in_err-refuse_no_part.ensures.1 (filled_empty _ _ _ c.requires.filled c.in_ok-take_token.ensures.takes c.in_err-refuse_no_part.ensures.refused.0 c.in_err-refuse_no_part.ensures.refused.1)

pub returns-in_err-items-clause-gives : goal.returns-in_err-items-clause-gives
returns-in_err-items-clause-gives g c = x.part_exits _ c.from_residual-in_err-items.ensures.1 (filled_fails _ _ _ c.requires.filled c.in_ok-take_token.ensures.takes c.in_ok-refuse_no_part.ensures.filled (x.same_error _ _ _ c.in_err-items.ensures.takes))

pub returns-clause-gives : goal.returns-clause-gives
returns-clause-gives g c =
    let items = c.in_ok-items.ensures.takes in
    let body = filled_yields _ _ _ c.requires.filled c.in_ok-take_token.ensures.takes c.in_ok-refuse_no_part.ensures.filled items.1 items.3 in
    y.part body.1 body.2
