use Rattle.wac_ast_types.proofs.Common.{◌≡◌, ◌<◌, ◌++◌, ◌∷◌, [], map, length, Ok, refl, ap, ◌∙◌, arith, left, Span, Ty, read, first_item, takes_some, comma_list, item_fails, item_less, item_missing, item_there, list_closed, list_goes_on, moved_end, never_fails, same_fails, so_far_fails, step_fails, token_less, optional_there}
use Rattle.std.proofs.Common.{sym}
use Rattle.std.proofs.lemmas.List.{map_push}
use Rattle.wac_lexer.specs.declared.token.Token.TheVariants as k
use Rattle.wac_ast_grammar.specs.Grammar as g
use Rattle.wac_ast_types.specs.Types.{ty_of, optional_of, with_payload, second_of}
use Rattle.wac_ast_base.proofs.Exits as x
use Rattle.wac_ast_base.proofs.Yields as y
use Rattle.wac_ast_types.proofs.TypeParts.{tuple_is, result_is, result_built, stream_is, future_is, tuple_next, result_next, borrow_next, list_next, option_next, stream_held, future_held, held_fails, held_gives, tuple_ends, tuple_list_fails, arm_fails, arm_gives}
use Rattle.wac_ast_types.proofs.OptionalParts.{passed_on}
use Rattle.wac_ast_types.proofs.types.+types.Goals as goal

pub TypeParse::parse-returns-then-at-clause-gives : goal.TypeParse::parse-returns-then-at-clause-gives
TypeParse::parse-returns-then-at-clause-gives t c = rw (tuple_next (left c.args.lexer.now) (x.tested c.at.ensures c.if-at.true)) c.parse_tuple.ensures.gives

pub TypeParse::parse-returns-then-at-4-clause-gives : goal.TypeParse::parse-returns-then-at-4-clause-gives
TypeParse::parse-returns-then-at-4-clause-gives t c = rw (result_next (left c.args.lexer.now) (x.tested c.at-else-at-3.ensures c.if-at-4.true)) c.parse_result.ensures.gives

pub TypeParse::parse-returns-then-at-5-clause-gives : goal.TypeParse::parse-returns-then-at-5-clause-gives
TypeParse::parse-returns-then-at-5-clause-gives t c = rw (borrow_next (left c.args.lexer.now) (x.tested c.at-else-at-4.ensures c.if-at-5.true)) c.parse_borrow.ensures.gives

pub TypeParse::parse-parse_simple-requires : goal.TypeParse::parse-parse_simple-requires
TypeParse::parse-parse_simple-requires t c =
    rw (x.tested c.at.ensures c.if-at.false, x.tested c.at-else-at.ensures c.if-at-2.false, x.tested c.at-else-at-2.ensures c.if-at-3.false, x.tested c.at-else-at-3.ensures c.if-at-4.false, x.tested c.at-else-at-4.ensures c.if-at-5.false, x.tested c.at-else-at-5.ensures c.if-at-6.false, x.tested c.at-else-at-6.ensures c.if-at-7.false)

pub TypeParse::parse-returns-in_ok-inner-clause-gives : goal.TypeParse::parse-returns-in_ok-inner-clause-gives
TypeParse::parse-returns-in_ok-inner-clause-gives t c = rw (list_next (left c.args.lexer.now) (x.tested c.at-else-at.ensures c.if-at-2.true)) (y.gives g.list_type (y.last_piece c.in_ok-inner.ensures.gives) (ap (λ (q : Ty × Span). Ty.list q.0 q.1) c.in_ok-inner.ensures.gives.part.2))

pub TypeParse::parse-returns-in_err-inner-clause-gives : goal.TypeParse::parse-returns-in_err-inner-clause-gives
TypeParse::parse-returns-in_err-inner-clause-gives t c = rw (list_next (left c.args.lexer.now) (x.tested c.at-else-at.ensures c.if-at-2.true)) (x.exits g.list_type _ _ _ c.from_residual.ensures.1 (x.last_piece c.in_err-inner.ensures.gives))

pub TypeParse::parse-returns-in_ok-inner-2-clause-gives : goal.TypeParse::parse-returns-in_ok-inner-2-clause-gives
TypeParse::parse-returns-in_ok-inner-2-clause-gives t c = rw (option_next (left c.args.lexer.now) (x.tested c.at-else-at-2.ensures c.if-at-3.true)) (y.gives g.option_type (y.last_piece c.in_ok-inner-2.ensures.gives) (ap (λ (q : Ty × Span). Ty.option q.0 q.1) c.in_ok-inner-2.ensures.gives.part.2))

pub TypeParse::parse-returns-in_err-inner-2-clause-gives : goal.TypeParse::parse-returns-in_err-inner-2-clause-gives
TypeParse::parse-returns-in_err-inner-2-clause-gives t c = rw (option_next (left c.args.lexer.now) (x.tested c.at-else-at-2.ensures c.if-at-3.true)) (x.exits g.option_type _ _ _ c.from_residual-in_err-inner-2.ensures.1 (x.last_piece c.in_err-inner-2.ensures.gives))

pub TypeParse::parse-returns-in_ok-inner-3-clause-gives : goal.TypeParse::parse-returns-in_ok-inner-3-clause-gives
TypeParse::parse-returns-in_ok-inner-3-clause-gives t c = arm_gives c.args.lexer.now c.parse_held.new.lexer (read g.ty (left c.args.lexer.now)) (with_payload (left c.args.lexer.now)) (λ q. Ty.stream q.0 q.1) (stream_held (left c.args.lexer.now) (x.tested c.at-else-at-5.ensures c.if-at-6.true)) c.in_ok-inner-3.ensures.gives (sym (stream_is c.in_ok-inner-3.inner c.in_ok-inner-3.span))

pub TypeParse::parse-returns-in_err-inner-3-clause-gives : goal.TypeParse::parse-returns-in_err-inner-3-clause-gives
TypeParse::parse-returns-in_err-inner-3-clause-gives t c = x.passed _ _ _ _ _ _ c.from_residual-in_err-inner-3.ensures.1 (arm_fails _ _ (read g.ty (left c.args.lexer.now)) (with_payload (left c.args.lexer.now)) (λ q. Ty.stream q.0 q.1) (stream_held (left c.args.lexer.now) (x.tested c.at-else-at-5.ensures c.if-at-6.true)) c.in_err-inner-3.ensures.gives)

pub TypeParse::parse-returns-in_ok-inner-4-clause-gives : goal.TypeParse::parse-returns-in_ok-inner-4-clause-gives
TypeParse::parse-returns-in_ok-inner-4-clause-gives t c = arm_gives c.args.lexer.now c.parse_held-then-at-7.new.lexer (read g.ty (left c.args.lexer.now)) (with_payload (left c.args.lexer.now)) (λ q. Ty.future q.0 q.1) (future_held (left c.args.lexer.now) (x.tested c.at-else-at-6.ensures c.if-at-7.true)) c.in_ok-inner-4.ensures.gives (sym (future_is c.in_ok-inner-4.inner c.in_ok-inner-4.span))

pub TypeParse::parse-returns-in_err-inner-4-clause-gives : goal.TypeParse::parse-returns-in_err-inner-4-clause-gives
TypeParse::parse-returns-in_err-inner-4-clause-gives t c = x.passed _ _ _ _ _ _ c.from_residual-in_err-inner-4.ensures.1 (arm_fails _ _ (read g.ty (left c.args.lexer.now)) (with_payload (left c.args.lexer.now)) (λ q. Ty.future q.0 q.1) (future_held (left c.args.lexer.now) (x.tested c.at-else-at-6.ensures c.if-at-7.true)) c.in_err-inner-4.ensures.gives)

-- ---- a keyword and a type in angle brackets

pub parse_angled-returns-in_err-first-clause-gives : goal.parse_angled-returns-in_err-first-clause-gives
parse_angled-returns-in_err-first-clause-gives t c = x.part_exits _ c.from_residual.ensures.1 (x.here c.in_err-first.ensures.takes)

pub parse_angled-returns-in_err-take_token-clause-gives : goal.parse_angled-returns-in_err-take_token-clause-gives
parse_angled-returns-in_err-take_token-clause-gives t c = x.part_exits _ c.from_residual-in_err-take_token.ensures.1 (x.took c.in_ok-first.ensures.takes (x.here c.in_err-take_token.ensures.takes))

pub parse_angled-returns-in_err-parse-clause-gives : goal.parse_angled-returns-in_err-parse-clause-gives
parse_angled-returns-in_err-parse-clause-gives t c = x.part_exits _ c.from_residual-in_err-parse.ensures.1 (x.took c.in_ok-first.ensures.takes (x.took c.in_ok-take_token.ensures.takes (x.here c.in_err-parse.ensures.gives)))

pub parse_angled-returns-in_err-last-clause-gives : goal.parse_angled-returns-in_err-last-clause-gives
parse_angled-returns-in_err-last-clause-gives t c = x.part_exits _ c.from_residual-in_err-last.ensures.1 (x.took c.in_ok-first.ensures.takes (x.took c.in_ok-take_token.ensures.takes (x.past c.in_ok-parse.ensures.gives (x.last c.in_err-last.ensures.takes))))

pub parse_angled-returns-clause-gives : goal.parse_angled-returns-clause-gives
parse_angled-returns-clause-gives t c = y.part (y.took c.in_ok-first.ensures.takes (y.took c.in_ok-take_token.ensures.takes (y.past c.in_ok-parse.ensures.gives (y.last_took c.in_ok-last.ensures.takes)))) (rw (c.in_ok-inner.ensures.value, c.join.ensures, c.in_ok-first.ensures.takes.1, c.in_ok-last.ensures.takes.1))

-- ---- what an item holds

pub parse_held-returns-in_err-take_optional-clause-gives : goal.parse_held-returns-in_err-take_optional-clause-gives
parse_held-returns-in_err-take_optional-clause-gives t c = x.passed _ _ _ _ _ _ c.from_residual.ensures.1 (held_fails _ _ c.take_item-first.new.lexer c.requires c.take_item-first.ensures.rest c.take_item-first.ensures.end (x.leaves g.payload _ (x.no_option c.in_err-take_optional.ensures.takes)))

pub parse_held-returns-in_err-parse-clause-gives : goal.parse_held-returns-in_err-parse-clause-gives
parse_held-returns-in_err-parse-clause-gives t c = x.passed _ _ _ _ _ _ c.from_residual-in_err-parse.ensures.1 (held_fails _ _ c.take_item-first.new.lexer c.requires c.take_item-first.ensures.rest c.take_item-first.ensures.end (x.leaves g.payload _ (x.option c.take_optional.new.lexer c.if-branch.true c.in_ok-take_optional.ensures.takes (x.here c.in_err-parse.ensures.gives))))

pub parse_held-returns-in_err-last-clause-gives : goal.parse_held-returns-in_err-last-clause-gives
parse_held-returns-in_err-last-clause-gives t c = x.passed _ _ _ _ _ _ c.from_residual-in_err-last.ensures.1 (held_fails _ _ c.take_item-first.new.lexer c.requires c.take_item-first.ensures.rest c.take_item-first.ensures.end (x.leaves g.payload _ (x.option c.take_optional.new.lexer c.if-branch.true c.in_ok-take_optional.ensures.takes (x.past c.in_ok-parse.ensures.gives (x.last c.in_err-last.ensures.takes)))))

pub parse_held-returns-then-branch-clause-gives : goal.parse_held-returns-then-branch-clause-gives
parse_held-returns-then-branch-clause-gives t c = held_gives _ c.take_item-first.new.lexer _ c.requires c.take_item-first.ensures.rest c.take_item-first.ensures.end (y.gives g.payload (y.option c.take_optional.new.lexer c.if-branch.true c.in_ok-take_optional.ensures.takes (y.past c.in_ok-parse.ensures.gives (y.last_took c.in_ok-last.ensures.takes))) refl) (rw (c.in_ok-inner.ensures.value, c.join.ensures, c.take_item-first.ensures.span, c.in_ok-last.ensures.takes.1))

pub parse_held-returns-clause-gives : goal.parse_held-returns-clause-gives
parse_held-returns-clause-gives t c = held_gives _ c.take_item-first.new.lexer _ c.requires c.take_item-first.ensures.rest c.take_item-first.ensures.end (y.gives g.payload (y.no_option c.if-branch.false c.in_ok-take_optional.ensures.takes) refl) (rw c.take_item-first.ensures.span)

-- ---- results

pub parse_result_part-returns-in_err-take_token-clause-gives : goal.parse_result_part-returns-in_err-take_token-clause-gives
parse_result_part-returns-in_err-take_token-clause-gives t c = x.exits g.result_part _ _ _ c.from_residual.ensures.1 (x.chosen (x.next k.Underscore (left c.args.lexer.now) c.at.ensures c.if-at.true) (x.last c.in_err-take_token.ensures.takes))

pub parse_result_part-returns-then-at-clause-gives : goal.parse_result_part-returns-then-at-clause-gives
parse_result_part-returns-then-at-clause-gives t c = y.gives g.result_part (y.chosen (x.next k.Underscore (left c.args.lexer.now) c.at.ensures c.if-at.true) (y.last_took c.in_ok-take_token.ensures.takes)) refl

pub parse_result_part-returns-then-not-at_type-clause-gives : goal.parse_result_part-returns-then-not-at_type-clause-gives
parse_result_part-returns-then-not-at_type-clause-gives t c = x.leaves g.result_part _ (x.other (x.next k.Underscore (left c.args.lexer.now) c.at.ensures c.if-at.false) (x.last (item_missing c.no_type_beside.result c.args.lexer.now g.ty k.Underscore refl c.at_type.ensures c.if-not-at_type.true c.no_type_beside.ensures)))

pub parse_result_part-returns-in_err-parse-clause-gives : goal.parse_result_part-returns-in_err-parse-clause-gives
parse_result_part-returns-in_err-parse-clause-gives t c = x.exits g.result_part _ _ _ c.from_residual-in_err-parse.ensures.1 (x.other (x.next k.Underscore (left c.args.lexer.now) c.at.ensures c.if-at.false) (x.last (same_fails _ _ _ _ (item_there c.args.lexer.now g.ty k.Underscore refl c.at_type.ensures c.if-not-at_type.false) c.in_err-parse.ensures.gives)))

pub parse_result_part-returns-clause-gives : goal.parse_result_part-returns-clause-gives
parse_result_part-returns-clause-gives t c = y.gives g.result_part (y.other (x.next k.Underscore (left c.args.lexer.now) c.at.ensures c.if-at.false) (y.last (item_there c.args.lexer.now g.ty k.Underscore refl c.at_type.ensures c.if-not-at_type.false ∙ c.in_ok-parse.ensures.gives.0, c.in_ok-parse.ensures.gives.1))) (rw c.in_ok-ty.ensures.value)

pub parse_second_part-returns-in_err-take_optional-clause-gives : goal.parse_second_part-returns-in_err-take_optional-clause-gives
parse_second_part-returns-in_err-take_optional-clause-gives t c = x.part_exits _ c.from_residual.ensures.1 (x.no_option c.in_err-take_optional.ensures.takes)

pub parse_second_part-returns-then-branch-clause-gives : goal.parse_second_part-returns-then-branch-clause-gives
parse_second_part-returns-then-branch-clause-gives t c = passed_on k.Comma g.result_part second_of optional_of c.args.lexer.now c.take_optional.new.lexer c.parse_result_part.new.lexer c.parse_result_part.result (λ i p. refl) c.if-branch.true c.in_ok-take_optional.ensures.takes c.parse_result_part.ensures.gives

pub parse_second_part-returns-clause-gives : goal.parse_second_part-returns-clause-gives
parse_second_part-returns-clause-gives t c = y.part (y.no_option c.if-branch.false c.in_ok-take_optional.ensures.takes) refl

pub parse_result-returns-in_err-first-clause-gives : goal.parse_result-returns-in_err-first-clause-gives
parse_result-returns-in_err-first-clause-gives t c = x.exits g.result_type _ _ _ c.from_residual.ensures.1 (x.here c.in_err-first.ensures.takes)

pub parse_result-returns-in_err-take_optional-clause-gives : goal.parse_result-returns-in_err-take_optional-clause-gives
parse_result-returns-in_err-take_optional-clause-gives t c = x.exits g.result_type _ _ _ c.from_residual-in_err-take_optional.ensures.1 (x.took c.in_ok-first.ensures.takes (x.no_option c.in_err-take_optional.ensures.takes))

pub parse_result-returns-then-not-branch-clause-gives : goal.parse_result-returns-then-not-branch-clause-gives
parse_result-returns-then-not-branch-clause-gives t c = y.gives g.result_type (y.took c.in_ok-first.ensures.takes (y.no_option c.if-not-branch.true c.in_ok-take_optional.ensures.takes)) (rw c.in_ok-first.ensures.takes.1)

pub parse_result-returns-in_err-ok-clause-gives : goal.parse_result-returns-in_err-ok-clause-gives
parse_result-returns-in_err-ok-clause-gives t c = x.exits g.result_type _ _ _ c.from_residual-in_err-ok.ensures.1 (x.took c.in_ok-first.ensures.takes (x.option c.take_optional.new.lexer c.if-not-branch.false c.in_ok-take_optional.ensures.takes (x.here c.in_err-ok.ensures.gives)))

pub parse_result-returns-in_err-err-clause-gives : goal.parse_result-returns-in_err-err-clause-gives
parse_result-returns-in_err-err-clause-gives t c = x.exits g.result_type _ _ _ c.from_residual-in_err-err.ensures.1 (x.took c.in_ok-first.ensures.takes (x.option c.take_optional.new.lexer c.if-not-branch.false c.in_ok-take_optional.ensures.takes (x.past c.in_ok-ok.ensures.gives (x.piece c.in_err-err.ensures.gives))))

pub parse_result-returns-in_err-last-clause-gives : goal.parse_result-returns-in_err-last-clause-gives
parse_result-returns-in_err-last-clause-gives t c = x.exits g.result_type _ _ _ c.from_residual-in_err-last.ensures.1 (x.took c.in_ok-first.ensures.takes (x.option c.take_optional.new.lexer c.if-not-branch.false c.in_ok-take_optional.ensures.takes (x.past c.in_ok-ok.ensures.gives (x.beyond c.in_ok-err.ensures.gives (x.last c.in_err-last.ensures.takes)))))

pub parse_result-returns-clause-gives : goal.parse_result-returns-clause-gives
parse_result-returns-clause-gives t c = y.gives g.result_type (y.took c.in_ok-first.ensures.takes (y.option c.take_optional.new.lexer c.if-not-branch.false c.in_ok-take_optional.ensures.takes (y.past c.in_ok-ok.ensures.gives (y.beyond c.in_ok-err.ensures.gives (y.last_took c.in_ok-last.ensures.takes))))) (result_built (first_item (left c.args.lexer.now)) (first_item (left c.take_token.new.lexer)) (optional_of c.in_ok-ok.ok) c.in_ok-err.ensures.gives.part.0 (first_item (left c.parse_second_part.new.lexer)) ∙ rw (result_is c.in_ok-ok.ok c.in_ok-err.err c.join.result, c.in_ok-err.ensures.gives.part.2, c.join.ensures, c.in_ok-first.ensures.takes.1, c.in_ok-last.ensures.takes.1))

-- ---- tuples

pub parse_tuple-returns-in_err-first-clause-gives : goal.parse_tuple-returns-in_err-first-clause-gives
parse_tuple-returns-in_err-first-clause-gives t c = x.exits g.tuple_type _ _ _ c.from_residual.ensures.1 (x.here c.in_err-first.ensures.takes)

pub parse_tuple-returns-in_err-take_token-clause-gives : goal.parse_tuple-returns-in_err-take_token-clause-gives
parse_tuple-returns-in_err-take_token-clause-gives t c = x.exits g.tuple_type _ _ _ c.from_residual-in_err-take_token.ensures.1 (x.took c.in_ok-first.ensures.takes (x.here c.in_err-take_token.ensures.takes))

pub parse_tuple-returns-then-not-at_type-clause-gives : goal.parse_tuple-returns-then-not-at_type-clause-gives
parse_tuple-returns-then-not-at_type-clause-gives t c = x.leaves g.tuple_type _ (x.took c.in_ok-first.ensures.takes (x.took c.in_ok-take_token.ensures.takes (x.here c.no_type.ensures)))

pub parse_tuple-returns-in_err-types-clause-gives : goal.parse_tuple-returns-in_err-types-clause-gives
parse_tuple-returns-in_err-types-clause-gives t c = x.passed _ _ _ _ _ _ c.from_residual-in_err-types.ensures.1 (tuple_list_fails _ _ _ _ (left c.take_token.new.lexer) _ (left c.take_token-2.new.lexer) c.in_ok-first.ensures.takes.0 c.in_ok-take_token.ensures.takes.0 (x.tested c.at_type.ensures c.if-not-at_type.false) (moved_end _ _ _ _ (c.in_ok-take_token.ensures.takes.2 ∙ c.in_ok-first.ensures.takes.2) c.in_err-types.ensures.gives))

pub parse_tuple-returns-in_err-last-clause-gives : goal.parse_tuple-returns-in_err-last-clause-gives
parse_tuple-returns-in_err-last-clause-gives t c = x.passed _ _ _ _ _ (read g.tuple_type (left c.args.lexer.now)) c.from_residual-in_err-last.ensures.1 (moved_end _ _ _ _ (c.in_ok-types.ensures.gives.1 ∙ c.in_ok-take_token.ensures.takes.2 ∙ c.in_ok-first.ensures.takes.2) (never_fails _ _ k.CloseAngle (left c.parse_types.new.lexer) (read g.tuple_type (left c.args.lexer.now)) refl c.in_ok-types.ensures.closed c.in_err-last.ensures.takes))

pub parse_tuple-returns-clause-gives : goal.parse_tuple-returns-clause-gives
parse_tuple-returns-clause-gives t c =
    let begun = x.tested c.at_type.ensures c.if-not-at_type.false in
    let types = c.in_ok-types.ensures in
    let last = c.in_ok-last.ensures.takes in
    let reads = tuple_ends (left c.args.lexer.now) _ (left c.take_token.new.lexer) _ (left c.take_token-2.new.lexer) (map ty_of c.in_ok-types.types.items) (left c.parse_types.new.lexer) _ (left c.take_token-3.new.lexer) c.in_ok-first.ensures.takes.0 c.in_ok-take_token.ensures.takes.0 begun types.gives.0 types.closed last.0 in
    (reads ∙ sym (ap (λ (y : Ty). Ok (y, left c.take_token-3.new.lexer)) (tuple_is c.in_ok-types.types c.join.result ∙ rw (c.join.ensures, c.in_ok-first.ensures.takes.1, last.1) refl)), last.2 ∙ types.gives.1 ∙ c.in_ok-take_token.ensures.takes.2 ∙ c.in_ok-first.ensures.takes.2)

-- ---- the list of a tuple

pub parse_listed-returns-then-not-at_type-clause-gives : goal.parse_listed-returns-then-not-at_type-clause-gives
parse_listed-returns-then-not-at_type-clause-gives t c = item_missing c.no_type_beside.result c.args.lexer.now g.ty k.CloseAngle refl c.at_type.ensures c.if-not-at_type.true c.no_type_beside.ensures

pub parse_listed-returns-clause-gives : goal.parse_listed-returns-clause-gives
parse_listed-returns-clause-gives t c = rw (item_there c.args.lexer.now g.ty k.CloseAngle refl c.at_type.ensures c.if-not-at_type.false) c.parse.ensures.gives

pub parse_types-returns-in_err-parse_listed-clause-gives : goal.parse_types-returns-in_err-parse_listed-clause-gives
parse_types-returns-in_err-parse_listed-clause-gives t c = x.passed _ _ _ _ _ _ c.from_residual.ensures.1 (so_far_fails _ c.loop-alloc.invariant.so_far (item_fails _ _ _ (comma_list g.ty k.CloseAngle refl).is_list (x.tested c.at.ensures c.loop-alloc-test.true) c.in_err-parse_listed.ensures.gives))

pub parse_types-returns-in_err-take_comma-clause-gives : goal.parse_types-returns-in_err-take_comma-clause-gives
parse_types-returns-in_err-take_comma-clause-gives t c = x.passed _ _ _ _ _ _ c.from_residual-in_err-take_comma.ensures.1 (so_far_fails _ c.loop-alloc.invariant.so_far (step_fails _ _ _ (comma_list g.ty k.CloseAngle refl).is_list (x.tested c.at.ensures c.loop-alloc-test.true) c.in_ok-parse_listed.ensures.gives (c.in_err-take_comma.ensures.gives g.ty refl refl)))

pub parse_types-loop-alloc-smaller : goal.parse_types-loop-alloc-smaller
parse_types-loop-alloc-smaller t c =
    let less : length (left c.parse_listed.new.lexer) < length (left c.loop-alloc.lexer) = item_less g.ty k.CloseAngle _ _ _ c.in_ok-parse_listed.ensures.gives.0 refl in
    let rest = c.in_ok-take_comma.ensures.rest in
    omega arith

pub parse_types-loop-alloc-preserved : goal.parse_types-loop-alloc-preserved
parse_types-loop-alloc-preserved t c =
    let item = c.in_ok-parse_listed.ensures in
    let comma = c.in_ok-take_comma.ensures in
    let more : map ty_of c.push.new.items.items ≡ map ty_of c.loop-alloc.types.items ++ ty_of c.in_ok-parse_listed.field-0 ∷ [] = rw c.in_ok-push.ensures.items (map_push _ c.loop-alloc.types.items c.in_ok-parse_listed.field-0) in
    let less : length (left c.parse_listed.new.lexer) < length (left c.loop-alloc.lexer) = item_less g.ty k.CloseAngle _ _ _ item.gives.0 refl in
    let rest = comma.rest in
    let before = c.loop-alloc.invariant.shorter in
    record {
      so_far = rw more (list_goes_on c.parse_listed.new.lexer (comma_list g.ty k.CloseAngle refl).is_list c.loop-alloc.invariant.so_far (x.tested c.at.ensures c.loop-alloc-test.true) item.gives item.source item.moves (comma.gives g.ty refl refl) comma.source comma.moves);
      shorter = omega arith;
    }

pub parse_types-returns-clause-gives : goal.parse_types-returns-clause-gives
parse_types-returns-clause-gives t c = list_closed (comma_list g.ty k.CloseAngle refl).is_list refl c.loop-alloc.invariant.so_far (x.tested c.at.ensures c.loop-alloc-test.false)

-- ---- what calls require

pub parse_angled-parse-requires : goal.parse_angled-parse-requires
parse_angled-parse-requires t c =
    let a : length (left c.take_token.new.lexer) < length (left c.args.lexer.now) = token_less c.args.keyword _ _ _ c.in_ok-first.ensures.takes.0 in
    let b : length (left c.take_token-2.new.lexer) < length (left c.take_token.new.lexer) = token_less k.OpenAngle _ _ _ c.in_ok-take_token.ensures.takes.0 in
    omega arith

pub parse_tuple-parse_types-requires : goal.parse_tuple-parse_types-requires
parse_tuple-parse_types-requires t c =
    let a : length (left c.take_token.new.lexer) < length (left c.args.lexer.now) = token_less k.TupleKeyword _ _ _ c.in_ok-first.ensures.takes.0 in
    let b : length (left c.take_token-2.new.lexer) < length (left c.take_token.new.lexer) = token_less k.OpenAngle _ _ _ c.in_ok-take_token.ensures.takes.0 in
    omega arith

pub parse_result-parse_second_part-requires : goal.parse_result-parse_second_part-requires
parse_result-parse_second_part-requires t c =
    let angle = optional_there k.OpenAngle _ c.take_token.new.lexer c.take_optional.new.lexer c.in_ok-take_optional.ensures.takes c.if-not-branch.false in
    let first : length (left c.take_token.new.lexer) < length (left c.args.lexer.now) = token_less k.ResultKeyword _ _ _ c.in_ok-first.ensures.takes.0 in
    let second : length (left c.take_optional.new.lexer) < length (left c.take_token.new.lexer) = token_less k.OpenAngle _ _ _ angle.1 in
    let part : length (left c.parse_result_part.new.lexer) < length (left c.take_optional.new.lexer) = takes_some g.result_part _ _ _ c.in_ok-ok.ensures.gives.0 refl in
    omega arith
