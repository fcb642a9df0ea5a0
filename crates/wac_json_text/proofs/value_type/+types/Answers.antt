use Rattle.wac_json_text.proofs.Common.{◌≡◌, ◌≤◌, [], Err, ap, arith, codes, length, map, refl, rules, sym, flat_map, ident_of, optional_of, ty_of, stops, most_rest, first_goes, first_stops, goes_at, none_is, starts, stops_at, first, last, printed_at, pair, variant, types_items}
use Rattle.wac_json_forms.specs.Forms.{ident_json, optional_ty_json, span_json, ty_json}
use Rattle.json.specs.Print.{escape_byte}
use Rattle.wac_ast_grammar.specs.Tree as tree
use Rattle.wac_ast_types.specs.declared.types.«Type».{size-Type}
use Rattle.wac_ast_types.proofs.TypeParts.{future_is, result_is, stream_is, tuple_is}
use Rattle.wac_printer_pieces.proofs.Progress as list
use Rattle.wac_printer_pieces.proofs.Sequence.{after}
use Rattle.wac_json_text.specs.Contents.{held_pieces, tuple_json}
use Rattle.wac_json_text.specs.Pieces.{after_comma, joined_pieces, pieces}
use Rattle.wac_json_text.proofs.Joined.{as_form, as_pieces, at_once, ends, list_then, opened, put, then}
use Rattle.wac_json_text.proofs.Texts.{none_left}
use Rattle.wac_json_text.proofs.Trees.{as_ty, held_put}
use Rattle.wac_json_text.proofs.value_type.+types.Goals as goal

-- ---- lists of types

pub further_types-returns-in_err-ready : goal.further_types-returns-in_err-ready
further_types-returns-in_err-ready g t c =
    let e : c.from_residual.result ≡ Err c.in_err-ready.field-0.0 = search rules in
    stops c.args.out.now c.args.out.now c.in_err-ready.field-0.0 c.from_residual.result [] (flat_map (λ x. after_comma (pieces (ty_json (ty_of x)))) c.args.types.now) e c.in_err-ready.ensures

pub further_types-loop-held-init : goal.further_types-loop-held-init
further_types-loop-held-init g t c = starts _ _ _ _ _ c.in_ok-ready.ensures

pub further_types-returns-in_err-further_type : goal.further_types-returns-in_err-further_type
further_types-returns-in_err-further_type g t c =
    let e : c.from_residual-in_err-further_type.result ≡ Err c.in_err-further_type.field-0.0 = search rules in
    stops_at (λ source depth x. after_comma (pieces (ty_json (ty_of x)))) c.args.types.now _ _ c.args.out.now _ _ _ _ c.loop-held.invariant c.loop-held-test.true c.held-item.is e c.in_err-further_type.ensures

pub further_types-loop-held-preserved : goal.further_types-loop-held-preserved
further_types-loop-held-preserved g t c =
    goes_at (λ source depth x. after_comma (pieces (ty_json (ty_of x)))) c.args.types.now _ _ c.args.out.now c.loop-held.out c.further_type.new.out c.in_ok-further_type.field-0 c.loop-held.invariant c.loop-held-test.true c.held-item.is c.in_ok-further_type.ensures

pub further_types-returns : goal.further_types-returns
further_types-returns g t c =
    let h : length c.args.types.now ≤ c.loop-held.held-index = search rules in
    list.ends (λ source depth x. after_comma (pieces (ty_json (ty_of x)))) c.args.types.now _ c.args.out.now _ _ c.loop-held.invariant h

pub further_type-returns : goal.further_type-returns
further_type-returns g t c = last c.and.ensures (first c.blank.ensures) c.ty.ensures

pub joined_types-returns-in_err-ty-in-Some : goal.joined_types-returns-in_err-ty-in-Some
joined_types-returns-in_err-ty-in-Some g t c =
    let e : c.from_residual.result ≡ Err c.in_err-ty-in-Some.field-0.0 = search rules in
    first_stops _ _ _ _ _ _ _ (ap (joined_pieces (λ x. pieces (ty_json (ty_of x)))) c.in-Some.ensures.cases.0) e c.in_err-ty-in-Some.ensures

pub joined_types-returns-in-None : goal.joined_types-returns-in-None
joined_types-returns-in-None g t c =
    let none : c.args.types.now ≡ [] = none_left c.args.types.now c.in-None.ensures.cases in
    none_is _ _ _ (ap (joined_pieces (λ x. pieces (ty_json (ty_of x)))) none) c.ready.ensures

pub joined_types-further_types-requires : goal.joined_types-further_types-requires
joined_types-further_types-requires g t c κs within =
    (omega (arith, c.decreases, most_rest size-Type c.args.types.now c.in-Some.first.now c.in-Some.rest.now c.in-Some.ensures.cases.0), search rules)

pub joined_types-returns-in_ok-ty-in-Some : goal.joined_types-returns-in_ok-ty-in-Some
joined_types-returns-in_ok-ty-in-Some g t c =
    first_goes _ _ _ _ _ _ _ (λ source depth. flat_map (λ x. after_comma (pieces (ty_json (ty_of x)))) c.in-Some.rest.now) (ap (joined_pieces (λ x. pieces (ty_json (ty_of x)))) c.in-Some.ensures.cases.0)
    c.in_ok-ty-in-Some.ensures c.further_types.ensures

-- ---- types that hold others

pub tuple-returns : goal.tuple-returns
unfolding ty_json span_json escape_byte
tuple-returns g t c =
    as_form (tuple_json (map ty_of c.args.types.now) c.args.span.now)
    (ends c.and-4.ensures (then c.and-3.ensures (list_then (λ x. ty_json (ty_of x)) _ (types_items ty_of c.args.types.now) c.and.ensures c.and-2.ensures (put c.blank.ensures) c.joined_types.ensures c.blank-2.ensures) (put c.write_inside.ensures)) c.blank-3.ensures)

pub holding-returns : goal.holding-returns
holding-returns g t c =
    last c.and-4.ensures (after c.and-3.ensures (after c.and-2.ensures (after c.and.ensures (first c.blank.ensures) c.ty.ensures) c.blank-2.ensures) c.write_inside.ensures) c.blank-3.ensures

pub perhaps_holding-returns : goal.perhaps_holding-returns
perhaps_holding-returns g t c =
    last c.and-4.ensures (after c.and-3.ensures (after c.and-2.ensures (after c.and.ensures (first c.blank.ensures) c.payload.ensures) c.blank-2.ensures) c.write_inside.ensures) c.blank-3.ensures

pub payload-returns-in-Some : goal.payload-returns-in-Some
unfolding optional_ty_json
payload-returns-in-Some g t c =
    printed_at (λ held. pieces (optional_ty_json (optional_of held))) (sym c.in-Some.is) (printed_at (λ x. pieces (ty_json (ty_of x))) c.deref.ensures c.ty.ensures)

pub payload-returns-in-None : goal.payload-returns-in-None
unfolding optional_ty_json
payload-returns-in-None g t c = printed_at (λ held. pieces (optional_ty_json (optional_of held))) (sym c.in-None.is) c.blank.ensures

pub failure-returns : goal.failure-returns
failure-returns g t c = last c.and.ensures (first c.blank.ensures) c.payload.ensures

pub success-returns : goal.success-returns
success-returns g t c = last c.and.ensures (first c.blank.ensures) c.payload.ensures

-- ---- all types

pub ty-returns-in-U8 : goal.ty-returns-in-U8
unfolding ty_json span_json escape_byte
ty-returns-in-U8 g t c = as_ty c.in-U8.is (as_pieces (ty_json (tree.Ty.u8 c.in-U8.span)) (λ space fresh. refl) c.keyword.ensures)

pub ty-returns-in-S8 : goal.ty-returns-in-S8
unfolding ty_json span_json escape_byte
ty-returns-in-S8 g t c = as_ty c.in-S8.is (as_pieces (ty_json (tree.Ty.s8 c.in-S8.span)) (λ space fresh. refl) c.keyword-in-S8.ensures)

pub ty-returns-in-U16 : goal.ty-returns-in-U16
unfolding ty_json span_json escape_byte
ty-returns-in-U16 g t c = as_ty c.in-U16.is (as_pieces (ty_json (tree.Ty.u16 c.in-U16.span)) (λ space fresh. refl) c.keyword-in-U16.ensures)

pub ty-returns-in-S16 : goal.ty-returns-in-S16
unfolding ty_json span_json escape_byte
ty-returns-in-S16 g t c = as_ty c.in-S16.is (as_pieces (ty_json (tree.Ty.s16 c.in-S16.span)) (λ space fresh. refl) c.keyword-in-S16.ensures)

pub ty-returns-in-U32 : goal.ty-returns-in-U32
unfolding ty_json span_json escape_byte
ty-returns-in-U32 g t c = as_ty c.in-U32.is (as_pieces (ty_json (tree.Ty.u32 c.in-U32.span)) (λ space fresh. refl) c.keyword-in-U32.ensures)

pub ty-returns-in-S32 : goal.ty-returns-in-S32
unfolding ty_json span_json escape_byte
ty-returns-in-S32 g t c = as_ty c.in-S32.is (as_pieces (ty_json (tree.Ty.s32 c.in-S32.span)) (λ space fresh. refl) c.keyword-in-S32.ensures)

pub ty-returns-in-U64 : goal.ty-returns-in-U64
unfolding ty_json span_json escape_byte
ty-returns-in-U64 g t c = as_ty c.in-U64.is (as_pieces (ty_json (tree.Ty.u64 c.in-U64.span)) (λ space fresh. refl) c.keyword-in-U64.ensures)

pub ty-returns-in-S64 : goal.ty-returns-in-S64
unfolding ty_json span_json escape_byte
ty-returns-in-S64 g t c = as_ty c.in-S64.is (as_pieces (ty_json (tree.Ty.s64 c.in-S64.span)) (λ space fresh. refl) c.keyword-in-S64.ensures)

pub ty-returns-in-F32 : goal.ty-returns-in-F32
unfolding ty_json span_json escape_byte
ty-returns-in-F32 g t c = as_ty c.in-F32.is (as_pieces (ty_json (tree.Ty.f32 c.in-F32.span)) (λ space fresh. refl) c.keyword-in-F32.ensures)

pub ty-returns-in-F64 : goal.ty-returns-in-F64
unfolding ty_json span_json escape_byte
ty-returns-in-F64 g t c = as_ty c.in-F64.is (as_pieces (ty_json (tree.Ty.f64 c.in-F64.span)) (λ space fresh. refl) c.keyword-in-F64.ensures)

pub ty-returns-in-Char : goal.ty-returns-in-Char
unfolding ty_json span_json escape_byte
ty-returns-in-Char g t c = as_ty c.in-Char.is (as_pieces (ty_json (tree.Ty.char c.in-Char.span)) (λ space fresh. refl) c.keyword-in-Char.ensures)

pub ty-returns-in-Bool : goal.ty-returns-in-Bool
unfolding ty_json span_json escape_byte
ty-returns-in-Bool g t c = as_ty c.in-Bool.is (as_pieces (ty_json (tree.Ty.bool c.in-Bool.span)) (λ space fresh. refl) c.keyword-in-Bool.ensures)

pub ty-returns-in-String : goal.ty-returns-in-String
unfolding ty_json span_json escape_byte
ty-returns-in-String g t c = as_ty c.in-String.is (as_pieces (ty_json (tree.Ty.string c.in-String.span)) (λ space fresh. refl) c.keyword-in-String.ensures)

pub ty-returns-in-ErrorContext : goal.ty-returns-in-ErrorContext
unfolding ty_json span_json escape_byte
ty-returns-in-ErrorContext g t c = as_ty c.in-ErrorContext.is (as_pieces (ty_json (tree.Ty.error_context c.in-ErrorContext.span)) (λ space fresh. refl) c.keyword-in-ErrorContext.ensures)

pub ty-returns-in-Tuple : goal.ty-returns-in-Tuple
ty-returns-in-Tuple g t c =
    as_ty c.in-Tuple.is
    (printed_at (λ x. pieces (ty_json x)) (sym (tuple_is c.in-Tuple.types c.in-Tuple.span))
    (printed_at (λ xs. pieces (tuple_json (map ty_of xs) c.in-Tuple.span)) c.deref.ensures.value c.tuple.ensures))

pub ty-returns-in-List : goal.ty-returns-in-List
unfolding ty_json span_json escape_byte
ty-returns-in-List g t c =
    as_ty c.in-List.is
    (as_form (variant (codes "list") (pair (ty_json (ty_of c.in-List.held.value)) (span_json c.in-List.span)))
    (held_put (codes "{\"list\":[") (ty_json (ty_of c.in-List.held.value)) c.in-List.span (printed_at (λ x. held_pieces (codes "{\"list\":[") (ty_json (ty_of x)) c.in-List.span) c.deref-in-List.ensures c.holding.ensures)))

pub ty-returns-in-Option : goal.ty-returns-in-Option
unfolding ty_json span_json escape_byte
ty-returns-in-Option g t c =
    as_ty c.in-Option.is
    (as_form (variant (codes "option") (pair (ty_json (ty_of c.in-Option.held.value)) (span_json c.in-Option.span)))
    (held_put (codes "{\"option\":[") (ty_json (ty_of c.in-Option.held.value)) c.in-Option.span (printed_at (λ x. held_pieces (codes "{\"option\":[") (ty_json (ty_of x)) c.in-Option.span) c.deref-in-Option.ensures c.holding-in-Option.ensures)))

pub ty-returns-in-Stream : goal.ty-returns-in-Stream
unfolding ty_json span_json escape_byte
ty-returns-in-Stream g t c =
    as_ty c.in-Stream.is
    (printed_at (λ x. pieces (ty_json x)) (sym (stream_is c.in-Stream.held c.in-Stream.span))
    (as_form (variant (codes "stream") (pair (optional_ty_json (optional_of c.in-Stream.held)) (span_json c.in-Stream.span)))
    (held_put (codes "{\"stream\":[") (optional_ty_json (optional_of c.in-Stream.held)) c.in-Stream.span c.perhaps_holding.ensures)))

pub ty-returns-in-Future : goal.ty-returns-in-Future
unfolding ty_json span_json escape_byte
ty-returns-in-Future g t c =
    as_ty c.in-Future.is
    (printed_at (λ x. pieces (ty_json x)) (sym (future_is c.in-Future.held c.in-Future.span))
    (as_form (variant (codes "future") (pair (optional_ty_json (optional_of c.in-Future.held)) (span_json c.in-Future.span)))
    (held_put (codes "{\"future\":[") (optional_ty_json (optional_of c.in-Future.held)) c.in-Future.span c.perhaps_holding-in-Future.ensures)))

pub ty-returns-in-Result : goal.ty-returns-in-Result
unfolding ty_json span_json escape_byte
ty-returns-in-Result g t c =
    let ok = optional_ty_json (optional_of c.in-Result.ok) in
    let err = optional_ty_json (optional_of c.in-Result.err) in
    as_ty c.in-Result.is
    (printed_at (λ x. pieces (ty_json x)) (sym (result_is c.in-Result.ok c.in-Result.err c.in-Result.span))
    (as_form (ty_json (tree.Ty.result (optional_of c.in-Result.ok) (optional_of c.in-Result.err) c.in-Result.span))
    (ends c.and-in-Result.ensures (then c.and.ensures (opened (codes "{\"result\":{\"err\":") err c.failure.ensures) (opened (codes ",\"ok\":") ok c.success.ensures)) (at_once c.result_end.ensures))))

pub ty-returns-in-Borrow : goal.ty-returns-in-Borrow
unfolding ty_json
ty-returns-in-Borrow g t c = as_ty c.in-Borrow.is c.borrowed.ensures

pub ty-returns-in-Ident : goal.ty-returns-in-Ident
unfolding ty_json ident_json span_json escape_byte
ty-returns-in-Ident g t c = as_ty c.in-Ident.is (as_pieces (ty_json (tree.Ty.ident (ident_of c.in-Ident.id))) (λ space fresh. refl) c.enclosed.ensures)
