use Rattle.wac_ast_grammar.specs.Walk.{walk_ty}
use Rattle.wac_printer.specs.Sliced.{printable}
use Rattle.wac_printer_layout.specs.Bare.{bare}
use Rattle.wac_printer.proofs.Common.{arith, ℕ, List, ap, sym, subst, ◌∙◌, ◌≡◌, ◌≤◌, [], ◌∷◌, ◌++◌, codes, length, rules, Err, Result, PrintError, flat_map, All, ty_of, Piece, token, space, ty_layout, Printer, Prints, part_at, starts, goes_at, stops_at, ends, first_stops, first_goes, none_is, others_sliced, fail, fails, piece, parts, printed_at}
use Rattle.wac_printer_layout.specs.Parts.{joined}
use denote.Param.Weighed.{most}
use Rattle.wac_ast_types.specs.declared.types.«Type» as code
use Rattle.wac_ast_types.specs.declared.types.«Type».{«Type», size-Type}
use Rattle.wac_printer.proofs.Trees.{most_at, most_rest, tuple_sliced, size_tuple, tuple_printed}
use Rattle.wac_printer.proofs.PartsOf.{joined-none, joined-some, All-rest, no_items}
use Rattle.wac_printer.proofs.printer.DocumentPrinter.+ty.Goals as goal

abbrev angled : List ℕ → List ℕ → «Type» → List Piece
angled word source x = token word ∷ token (codes "<") ∷ (ty_layout (walk_ty (bare source) (ty_of x)) ++ token (codes ">") ∷ [])

abbrev failing_layout : List ℕ → «Type» → List Piece
failing_layout source x = token (codes "result") ∷ token (codes "<") ∷ token (codes "_") ∷ token (codes ",") ∷ space ∷ (ty_layout (walk_ty (bare source) (ty_of x)) ++ token (codes ">") ∷ [])

abbrev first_layout : List ℕ → «Type» → List Piece
first_layout source x = token (codes "result") ∷ token (codes "<") ∷ ty_layout (walk_ty (bare source) (ty_of x))

abbrev second_layout : List ℕ → «Type» → List Piece
second_layout source x = token (codes ",") ∷ space ∷ (ty_layout (walk_ty (bare source) (ty_of x)) ++ token (codes ">") ∷ [])

-- the layout of a type that is another
as_ty : {A : Type 0} {x y : «Type»} {old new : Printer} {r : Result A PrintError} → x ≡ y → Prints old r new (ty_layout (walk_ty (bare old.source) (ty_of y))) → Prints old r new (ty_layout (walk_ty (bare old.source) (ty_of x)))
as_ty {old = old} e h = printed_at (λ z. ty_layout (walk_ty (bare old.source) (ty_of z))) (sym e) h

pub further_types-loop-ty-init : goal.further_types-loop-ty-init
further_types-loop-ty-init g t c = starts _ _ _ _ _ c.in_ok-ready.ensures

pub further_types-further_type-requires : goal.further_types-further_type-requires
further_types-further_type-requires g t c κs within =
    let sliced : walk_ty (printable c.loop-ty.self.source) (ty_of c.ty-item.result) =
    part_at (λ source x. walk_ty (printable source) (ty_of x)) (λ source depth x. (token (codes ",") ∷ space ∷ []) ++ ty_layout (walk_ty (bare source) (ty_of x))) c.args.types.now c.loop-ty.ty-index c.ty-item.result c.args.self.now c.loop-ty.self c.loop-ty.invariant c.loop-ty-test.true c.ty-item.is c.requires in
    (omega (arith, c.decreases, most_at size-Type c.args.types.now c.loop-ty.ty-index c.ty-item.result c.loop-ty-test.true, ap size-Type c.ty-item.is), (search rules, sliced))

pub further_types-returns-in_err-further_type : goal.further_types-returns-in_err-further_type
further_types-returns-in_err-further_type g t c =
    let e : c.from_residual-in_err-further_type.result ≡ Err c.in_err-further_type.field-0.0 = search rules in
    stops_at (λ source depth x. (token (codes ",") ∷ space ∷ []) ++ ty_layout (walk_ty (bare source) (ty_of x))) c.args.types.now _ _ c.args.self.now _ _ _ _ c.loop-ty.invariant c.loop-ty-test.true c.ty-item.is e c.in_err-further_type.ensures

pub further_types-loop-ty-preserved : goal.further_types-loop-ty-preserved
further_types-loop-ty-preserved g t c =
    goes_at (λ source depth x. (token (codes ",") ∷ space ∷ []) ++ ty_layout (walk_ty (bare source) (ty_of x))) c.args.types.now _ _ c.args.self.now c.loop-ty.self c.further_type.new.self c.in_ok-further_type.field-0 c.loop-ty.invariant c.loop-ty-test.true c.ty-item.is c.in_ok-further_type.ensures

pub further_types-returns : goal.further_types-returns
further_types-returns g t c =
    let h : length c.args.types.now ≤ c.loop-ty.ty-index = search rules in
    ends (λ source depth x. (token (codes ",") ∷ space ∷ []) ++ ty_layout (walk_ty (bare source) (ty_of x))) c.args.types.now _ c.args.self.now _ _ c.loop-ty.invariant h

pub types-returns-in_err-ty-in-Some : goal.types-returns-in_err-ty-in-Some
types-returns-in_err-ty-in-Some g t c =
    let s = c.args.self.now in
    let e : c.from_residual.result ≡ Err c.in_err-ty-in-Some.field-0.0 = search rules in
    first_stops _ _ _ _ _ _ _ (joined-some (λ x. ty_layout (walk_ty (bare s.source) (ty_of x))) c.args.types.now c.in-Some.first.now c.in-Some.rest.now c.in-Some.ensures.cases.0) e c.in_err-ty-in-Some.ensures

pub types-further_types-requires : goal.types-further_types-requires
types-further_types-requires g t c κs within =
    let sliced = others_sliced (λ source x. walk_ty (printable source) (ty_of x)) c.args.self.now c.ty.new.self _ _ c.in-Some.rest.now c.in_ok-ty-in-Some.ensures
    (All-rest (λ x. walk_ty (printable c.args.self.now.source) (ty_of x)) c.args.types.now c.in-Some.first.now c.in-Some.rest.now c.in-Some.ensures.cases.0 c.requires) in
    (omega (arith, c.decreases, most_rest size-Type c.args.types.now c.in-Some.first.now c.in-Some.rest.now c.in-Some.ensures.cases.0), (search rules, sliced))

pub types-returns-in-None : goal.types-returns-in-None
types-returns-in-None g t c =
    let s = c.args.self.now in
    let none : c.args.types.now ≡ [] = no_items c.args.types.now c.in-None.ensures.cases in
    none_is _ _ _ (joined-none (λ x. ty_layout (walk_ty (bare s.source) (ty_of x))) c.args.types.now none) c.ready.ensures

pub types-returns-in_ok-ty-in-Some : goal.types-returns-in_ok-ty-in-Some
types-returns-in_ok-ty-in-Some g t c =
    let s = c.args.self.now in
    first_goes _ _ _ _ _ _ _ (λ source depth. flat_map (λ x. (token (codes ",") ∷ space ∷ []) ++ ty_layout (walk_ty (bare source) (ty_of x))) c.in-Some.rest.now) (joined-some (λ x. ty_layout (walk_ty (bare s.source) (ty_of x))) c.args.types.now c.in-Some.first.now c.in-Some.rest.now c.in-Some.ensures.cases.0)
    c.in_ok-ty-in-Some.ensures c.further_types.ensures

pub ty-returns-in-Tuple : goal.ty-returns-in-Tuple
ty-returns-in-Tuple g t c =
    let s = c.args.self.now in
    subst (Prints s c.tuple.result c.tuple.new.self)
    (ap (λ xs. token (codes "tuple") ∷ token (codes "<") ∷ (joined (λ x. ty_layout (walk_ty (bare s.source) (ty_of x))) xs ++ token (codes ">") ∷ [])) c.deref.ensures.value
    ∙ sym (tuple_printed s.source c.args.ty.now c.in-Tuple.types c.in-Tuple.field-1 c.in-Tuple.is))
    c.tuple.ensures

pub ty-returns-in-ErrorContext : goal.ty-returns-in-ErrorContext
ty-returns-in-ErrorContext g t c =
    let s = c.args.self.now in
    subst (λ x. Prints s c.token-in-ErrorContext.result c.token-in-ErrorContext.new.self (ty_layout (walk_ty (bare s.source) (ty_of x)))) (sym c.in-ErrorContext.is) c.token-in-ErrorContext.ensures

pub ty-tuple-requires : goal.ty-tuple-requires
ty-tuple-requires g t c κs within =
    let s = c.args.self.now.source in
    let sliced = subst (λ xs. All (λ x. walk_ty (printable s) (ty_of x)) xs) (sym c.deref.ensures.value) (tuple_sliced s c.args.ty.now c.in-Tuple.types c.in-Tuple.field-1 c.in-Tuple.is c.requires) in
    (omega (arith, c.decreases, ap size-Type c.in-Tuple.is, ap (λ xs. most size-Type xs) c.deref.ensures.value, size_tuple c.in-Tuple.types c.in-Tuple.field-1), (search rules, sliced))

pub bracketed-returns-in_err-token : goal.bracketed-returns-in_err-token
bracketed-returns-in_err-token g t c = fail c.from_residual.ensures.1 c.in_err-token.ensures

pub bracketed-returns-in_err-token-2 : goal.bracketed-returns-in_err-token-2
bracketed-returns-in_err-token-2 g t c = piece c.in_ok-token.ensures (fail c.from_residual-in_err-token-2.ensures.1 c.in_err-token-2.ensures)

pub bracketed-returns-in_err-ty : goal.bracketed-returns-in_err-ty
bracketed-returns-in_err-ty g t c = piece c.in_ok-token.ensures (piece c.in_ok-token-2.ensures (fails _ c.from_residual-in_err-ty.ensures.1 (printed_at (λ source. ty_layout (walk_ty (bare source) (ty_of c.args.ty.now))) (c.in_ok-token-2.ensures.keeps.0 ∙ c.in_ok-token.ensures.keeps.0) c.in_err-ty.ensures)))

pub bracketed-returns : goal.bracketed-returns
bracketed-returns g t c = piece c.in_ok-token.ensures (piece c.in_ok-token-2.ensures (parts (printed_at (λ source. ty_layout (walk_ty (bare source) (ty_of c.args.ty.now))) (c.in_ok-token-2.ensures.keeps.0 ∙ c.in_ok-token.ensures.keeps.0) c.in_ok-ty.ensures) (c.token-3.ensures)))

pub failing-returns-in_err-token : goal.failing-returns-in_err-token
failing-returns-in_err-token g t c = fail c.from_residual.ensures.1 c.in_err-token.ensures

pub failing-returns-in_err-token-2 : goal.failing-returns-in_err-token-2
failing-returns-in_err-token-2 g t c = piece c.in_ok-token.ensures (fail c.from_residual-in_err-token-2.ensures.1 c.in_err-token-2.ensures)

pub failing-returns-in_err-token-3 : goal.failing-returns-in_err-token-3
failing-returns-in_err-token-3 g t c = piece c.in_ok-token.ensures (piece c.in_ok-token-2.ensures (fail c.from_residual-in_err-token-3.ensures.1 c.in_err-token-3.ensures))

pub failing-returns-in_err-token-4 : goal.failing-returns-in_err-token-4
failing-returns-in_err-token-4 g t c = piece c.in_ok-token.ensures (piece c.in_ok-token-2.ensures (piece c.in_ok-token-3.ensures (fail c.from_residual-in_err-token-4.ensures.1 c.in_err-token-4.ensures)))

pub failing-returns-in_err-blank : goal.failing-returns-in_err-blank
failing-returns-in_err-blank g t c = piece c.in_ok-token.ensures (piece c.in_ok-token-2.ensures (piece c.in_ok-token-3.ensures (piece c.in_ok-token-4.ensures (fail c.from_residual-in_err-blank.ensures.1 c.in_err-blank.ensures))))

pub failing-returns-in_err-ty : goal.failing-returns-in_err-ty
failing-returns-in_err-ty g t c = piece c.in_ok-token.ensures (piece c.in_ok-token-2.ensures (piece c.in_ok-token-3.ensures (piece c.in_ok-token-4.ensures (piece c.in_ok-blank.ensures (fails _ c.from_residual-in_err-ty.ensures.1 (printed_at (λ source. ty_layout (walk_ty (bare source) (ty_of c.args.err.now))) (c.in_ok-blank.ensures.keeps.0 ∙ c.in_ok-token-4.ensures.keeps.0 ∙ c.in_ok-token-3.ensures.keeps.0 ∙ c.in_ok-token-2.ensures.keeps.0 ∙ c.in_ok-token.ensures.keeps.0) c.in_err-ty.ensures))))))

pub failing-returns : goal.failing-returns
failing-returns g t c = piece c.in_ok-token.ensures (piece c.in_ok-token-2.ensures (piece c.in_ok-token-3.ensures (piece c.in_ok-token-4.ensures (piece c.in_ok-blank.ensures (parts (printed_at (λ source. ty_layout (walk_ty (bare source) (ty_of c.args.err.now))) (c.in_ok-blank.ensures.keeps.0 ∙ c.in_ok-token-4.ensures.keeps.0 ∙ c.in_ok-token-3.ensures.keeps.0 ∙ c.in_ok-token-2.ensures.keeps.0 ∙ c.in_ok-token.ensures.keeps.0) c.in_ok-ty.ensures) (c.token-5.ensures))))))

pub first_side-returns-in_err-token : goal.first_side-returns-in_err-token
first_side-returns-in_err-token g t c = fail c.from_residual.ensures.1 c.in_err-token.ensures

pub first_side-returns-in_err-token-2 : goal.first_side-returns-in_err-token-2
first_side-returns-in_err-token-2 g t c = piece c.in_ok-token.ensures (fail c.from_residual-in_err-token-2.ensures.1 c.in_err-token-2.ensures)

pub first_side-returns : goal.first_side-returns
first_side-returns g t c = piece c.in_ok-token.ensures (piece c.in_ok-token-2.ensures (printed_at (λ source. ty_layout (walk_ty (bare source) (ty_of c.args.ok.now))) (c.in_ok-token-2.ensures.keeps.0 ∙ c.in_ok-token.ensures.keeps.0) c.ty.ensures))

pub second_side-returns-in_err-token : goal.second_side-returns-in_err-token
second_side-returns-in_err-token g t c = fail c.from_residual.ensures.1 c.in_err-token.ensures

pub second_side-returns-in_err-blank : goal.second_side-returns-in_err-blank
second_side-returns-in_err-blank g t c = piece c.in_ok-token.ensures (fail c.from_residual-in_err-blank.ensures.1 c.in_err-blank.ensures)

pub second_side-returns-in_err-ty : goal.second_side-returns-in_err-ty
second_side-returns-in_err-ty g t c = piece c.in_ok-token.ensures (piece c.in_ok-blank.ensures (fails _ c.from_residual-in_err-ty.ensures.1 (printed_at (λ source. ty_layout (walk_ty (bare source) (ty_of c.args.err.now))) (c.in_ok-blank.ensures.keeps.0 ∙ c.in_ok-token.ensures.keeps.0) c.in_err-ty.ensures)))

pub second_side-returns : goal.second_side-returns
second_side-returns g t c = piece c.in_ok-token.ensures (piece c.in_ok-blank.ensures (parts (printed_at (λ source. ty_layout (walk_ty (bare source) (ty_of c.args.err.now))) (c.in_ok-blank.ensures.keeps.0 ∙ c.in_ok-token.ensures.keeps.0) c.in_ok-ty.ensures) (c.token-2.ensures)))

pub further_type-returns-in_err-token : goal.further_type-returns-in_err-token
further_type-returns-in_err-token g t c = fail c.from_residual.ensures.1 c.in_err-token.ensures

pub further_type-returns-in_err-blank : goal.further_type-returns-in_err-blank
further_type-returns-in_err-blank g t c = piece c.in_ok-token.ensures (fail c.from_residual-in_err-blank.ensures.1 c.in_err-blank.ensures)

pub further_type-returns : goal.further_type-returns
further_type-returns g t c = piece c.in_ok-token.ensures (piece c.in_ok-blank.ensures (printed_at (λ source. ty_layout (walk_ty (bare source) (ty_of c.args.ty.now))) (c.in_ok-blank.ensures.keeps.0 ∙ c.in_ok-token.ensures.keeps.0) c.ty.ensures))

pub tuple-returns-in_err-token : goal.tuple-returns-in_err-token
tuple-returns-in_err-token g t c = fail c.from_residual.ensures.1 c.in_err-token.ensures

pub tuple-returns-in_err-token-2 : goal.tuple-returns-in_err-token-2
tuple-returns-in_err-token-2 g t c = piece c.in_ok-token.ensures (fail c.from_residual-in_err-token-2.ensures.1 c.in_err-token-2.ensures)

pub tuple-returns-in_err-types : goal.tuple-returns-in_err-types
tuple-returns-in_err-types g t c = piece c.in_ok-token.ensures (piece c.in_ok-token-2.ensures (fails _ c.from_residual-in_err-types.ensures.1 (printed_at (λ source. joined (λ x. ty_layout (walk_ty (bare source) (ty_of x))) c.args.types.now) (c.in_ok-token-2.ensures.keeps.0 ∙ c.in_ok-token.ensures.keeps.0) c.in_err-types.ensures)))

pub tuple-returns : goal.tuple-returns
tuple-returns g t c = piece c.in_ok-token.ensures (piece c.in_ok-token-2.ensures (parts (printed_at (λ source. joined (λ x. ty_layout (walk_ty (bare source) (ty_of x))) c.args.types.now) (c.in_ok-token-2.ensures.keeps.0 ∙ c.in_ok-token.ensures.keeps.0) c.in_ok-types.ensures) (c.token-3.ensures)))

pub ty-returns-in-U8 : goal.ty-returns-in-U8
ty-returns-in-U8 g t c = as_ty c.in-U8.is c.token.ensures

pub ty-returns-in-S8 : goal.ty-returns-in-S8
ty-returns-in-S8 g t c = as_ty c.in-S8.is c.token-in-S8.ensures

pub ty-returns-in-U16 : goal.ty-returns-in-U16
ty-returns-in-U16 g t c = as_ty c.in-U16.is c.token-in-U16.ensures

pub ty-returns-in-S16 : goal.ty-returns-in-S16
ty-returns-in-S16 g t c = as_ty c.in-S16.is c.token-in-S16.ensures

pub ty-returns-in-U32 : goal.ty-returns-in-U32
ty-returns-in-U32 g t c = as_ty c.in-U32.is c.token-in-U32.ensures

pub ty-returns-in-S32 : goal.ty-returns-in-S32
ty-returns-in-S32 g t c = as_ty c.in-S32.is c.token-in-S32.ensures

pub ty-returns-in-U64 : goal.ty-returns-in-U64
ty-returns-in-U64 g t c = as_ty c.in-U64.is c.token-in-U64.ensures

pub ty-returns-in-S64 : goal.ty-returns-in-S64
ty-returns-in-S64 g t c = as_ty c.in-S64.is c.token-in-S64.ensures

pub ty-returns-in-F32 : goal.ty-returns-in-F32
ty-returns-in-F32 g t c = as_ty c.in-F32.is c.token-in-F32.ensures

pub ty-returns-in-F64 : goal.ty-returns-in-F64
ty-returns-in-F64 g t c = as_ty c.in-F64.is c.token-in-F64.ensures

pub ty-returns-in-Char : goal.ty-returns-in-Char
ty-returns-in-Char g t c = as_ty c.in-Char.is c.token-in-Char.ensures

pub ty-returns-in-Bool : goal.ty-returns-in-Bool
ty-returns-in-Bool g t c = as_ty c.in-Bool.is c.token-in-Bool.ensures

pub ty-returns-in-String : goal.ty-returns-in-String
ty-returns-in-String g t c = as_ty c.in-String.is c.token-in-String.ensures

pub ty-returns-in-List : goal.ty-returns-in-List
ty-returns-in-List g t c = as_ty c.in-List.is (printed_at (angled (codes "list") c.args.self.now.source) c.deref-in-List.ensures c.bracketed.ensures)

pub ty-returns-in-Option : goal.ty-returns-in-Option
ty-returns-in-Option g t c = as_ty c.in-Option.is (printed_at (angled (codes "option") c.args.self.now.source) c.deref-in-Option.ensures c.bracketed-in-Option.ensures)

pub ty-returns-in-None-err : goal.ty-returns-in-None-err
ty-returns-in-None-err g t c = as_ty (c.in-Result.is ∙ (λ i. code.Result (c.in-None.is i) (c.in-None-err.is i) c.in-Result.span)) c.token-in-None-err.ensures

pub ty-returns-in-Some-err : goal.ty-returns-in-Some-err
ty-returns-in-Some-err g t c =
    as_ty (c.in-Result.is ∙ (λ i. code.Result (c.in-None.is i) (c.in-Some-err.is i) c.in-Result.span))
    (printed_at (failing_layout c.args.self.now.source) c.deref-in-Some-err.ensures c.failing.ensures)

pub ty-returns-in-None-err-2 : goal.ty-returns-in-None-err-2
ty-returns-in-None-err-2 g t c =
    as_ty (c.in-Result.is ∙ (λ i. code.Result (c.in-Some.is i) (c.in-None-err-2.is i) c.in-Result.span))
    (printed_at (angled (codes "result") c.args.self.now.source) c.deref-in-None-err-2.ensures c.bracketed-in-None-err-2.ensures)

pub ty-returns-in_err-first_side-in-Some-err-2 : goal.ty-returns-in_err-first_side-in-Some-err-2
ty-returns-in_err-first_side-in-Some-err-2 g t c =
    as_ty (c.in-Result.is ∙ (λ i. code.Result (c.in-Some.is i) (c.in-Some-err-2.is i) c.in-Result.span))
    (fails _ c.from_residual.ensures.1 (printed_at (first_layout c.args.self.now.source) c.deref-in-Some-err-2.ensures c.in_err-first_side-in-Some-err-2.ensures))

pub ty-returns-in_ok-first_side-in-Some-err-2 : goal.ty-returns-in_ok-first_side-in-Some-err-2
ty-returns-in_ok-first_side-in-Some-err-2 g t c =
    let second = printed_at (λ source. second_layout source c.deref-in-Some-err-2-2.result.now) c.in_ok-first_side-in-Some-err-2.ensures.keeps.0 c.second_side.ensures in
    as_ty (c.in-Result.is ∙ (λ i. code.Result (c.in-Some.is i) (c.in-Some-err-2.is i) c.in-Result.span))
    (parts (printed_at (first_layout c.args.self.now.source) c.deref-in-Some-err-2.ensures c.in_ok-first_side-in-Some-err-2.ensures)
    (printed_at (second_layout c.args.self.now.source) c.deref-in-Some-err-2-2.ensures second))

pub ty-returns-in-Borrow : goal.ty-returns-in-Borrow
ty-returns-in-Borrow g t c = as_ty c.in-Borrow.is c.borrowed.ensures

pub ty-returns-in-Ident : goal.ty-returns-in-Ident
ty-returns-in-Ident g t c = as_ty c.in-Ident.is c.ident.ensures

pub ty-returns-in-None-ty : goal.ty-returns-in-None-ty
ty-returns-in-None-ty g t c = as_ty (c.in-Stream.is ∙ (λ i. code.Stream (c.in-None-ty.is i) c.in-Stream.field-1)) c.token-in-None-ty.ensures

pub ty-returns-in-Some-ty : goal.ty-returns-in-Some-ty
ty-returns-in-Some-ty g t c = as_ty (c.in-Stream.is ∙ (λ i. code.Stream (c.in-Some-ty.is i) c.in-Stream.field-1)) (printed_at (angled (codes "stream") c.args.self.now.source) c.deref-in-Some-ty.ensures c.bracketed-in-Some-ty.ensures)

pub ty-returns-in-None-ty-2 : goal.ty-returns-in-None-ty-2
ty-returns-in-None-ty-2 g t c = as_ty (c.in-Future.is ∙ (λ i. code.Future (c.in-None-ty-2.is i) c.in-Future.field-1)) c.token-in-None-ty-2.ensures

pub ty-returns-in-Some-ty-2 : goal.ty-returns-in-Some-ty-2
ty-returns-in-Some-ty-2 g t c = as_ty (c.in-Future.is ∙ (λ i. code.Future (c.in-Some-ty-2.is i) c.in-Future.field-1)) (printed_at (angled (codes "future") c.args.self.now.source) c.deref-in-Some-ty-2.ensures c.bracketed-in-Some-ty-2.ensures)
