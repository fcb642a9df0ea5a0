use Rattle.wac_ast_types.proofs.Common.{refl, Ok, List, ap, ◌∙◌, Item, left, Ty, read}
use Rattle.std.proofs.Common.{sym}
use Rattle.wac_ast_grammar.specs.Grammar as g
use Rattle.wac_ast_base.proofs.Exits as x
use Rattle.wac_ast_types.specs.Types.{ty_of}
use Rattle.wac_ast_types.proofs.TypeParts.{name_next, word_taken, no_type_next, arm_gives, arm_fails}
use Rattle.wac_ast_types.proofs.types.parse_simple.Goals as goal

pub returns-then-at-clause-gives : goal.returns-then-at-clause-gives
returns-then-at-clause-gives c = arm_gives c.args.lexer.now _ (read g.ty (left c.args.lexer.now)) (read g.identifier (left c.args.lexer.now)) Ty.ident (name_next (left c.args.lexer.now) (x.tested c.at.ensures c.if-at.true)) c.in_ok-parse.ensures.gives refl

pub returns-in_err-parse-clause-gives : goal.returns-in_err-parse-clause-gives
returns-in_err-parse-clause-gives c = x.passed _ _ _ _ _ _ c.from_residual.ensures.1 (arm_fails _ _ (read g.ty (left c.args.lexer.now)) (read g.identifier (left c.args.lexer.now)) Ty.ident (name_next (left c.args.lexer.now) (x.tested c.at.ensures c.if-at.true)) c.in_err-parse.ensures.gives)

pub returns-in-Some-clause-gives : goal.returns-in-Some-clause-gives
returns-in-Some-clause-gives c = (word_taken (left c.args.lexer.now) _ (sym c.in-Some.ensures) ∙ ap (λ (l : List Item). Ok (ty_of c.in-Some.ty, l)) (sym c.take_item.ensures.rest), c.take_item.ensures.end)

pub no_type-requires : goal.no_type-requires
no_type-requires c = no_type_next (left c.args.lexer.now) c.requires (x.tested c.at.ensures c.if-at.false) (sym c.in-None.ensures)
