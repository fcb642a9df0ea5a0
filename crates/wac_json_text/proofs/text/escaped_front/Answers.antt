use Rattle.wac_json_text.proofs.Common.{◌≡◌, ◌<◌, ◌≤◌, ◌+◌, ◌++◌, ◌∷◌, [], ℕ, rules, drop, take, length, get_or, refl, sym, ap, ◌∙◌, subst, arith, Ok, Err, Some, None, slice_get, IsCharBoundary, IsCharBoundary-after_ascii, escape, blank, Prints}
use Rattle.wac_json_text.specs.Pieces.{FrontWritten}
use Rattle.wac_json_text.proofs.Escapes.{as_ok, after_at, both, escape_parts, first_fails, front_escaped, none_after, not_plain_ascii, not_plain_at, plain_boundary, run_front}
use Rattle.wac_json_text.proofs.text.escaped_front.Goals as goal

pub split_at-requires : goal.split_at-requires
split_at-requires g c = subst (IsCharBoundary c.args.text.now) (sym c.plain_len-len.ensures.len) (plain_boundary c.args.text.now)

pub returns-in_err-blank : goal.returns-in_err-blank
returns-in_err-blank g c =
    let text = c.args.text.now in
    let n = c.plain_len-len.result in
    let e : c.from_residual.result ≡ Err c.in_err-blank.field-0.0 = search rules in
    let run = run_front n text c.split_at.result.0.now c.utf8.text c.plain_len-len.ensures.len c.split_at.ensures.front in
    subst (λ r. FrontWritten c.args.out.now r c.blank.new.self text) (sym e)
    (first_fails c.args.out.now c.blank.new.self c.in_err-blank.field-0.0 (Err c.in_err-blank.field-0.0) c.split_at.result.0.now (escape (drop n text)) (escape text) (ap (λ t. t ++ escape (drop n text)) run ∙ escape_parts n text) refl c.in_err-blank.ensures)

pub escape_of-requires : goal.escape_of-requires
escape_of-requires g c =
    let text = c.args.text.now in
    let n = c.plain_len-len.result in
    let len = c.plain_len-len.ensures.len in
    let found : slice_get (drop n text) 0 ≡ Some c.in-Some.byte.now = ap (λ t. slice_get t 0) (sym (c.as_bytes.ensures.value ∙ c.split_at.ensures.back)) ∙ sym c.in-Some.ensures.value in
    let at = after_at n text c.in-Some.byte.now found in
    not_plain_at n c.in-Some.byte.now text len at.0 at.1

pub returns-in_err-blank-in-Some : goal.returns-in_err-blank-in-Some
returns-in_err-blank-in-Some g c =
    let text = c.args.text.now in
    let n = c.plain_len-len.result in
    let len = c.plain_len-len.ensures.len in
    let found : slice_get (drop n text) 0 ≡ Some c.in-Some.byte.now = ap (λ t. slice_get t 0) (sym (c.as_bytes.ensures.value ∙ c.split_at.ensures.back)) ∙ sym c.in-Some.ensures.value in
    let at = after_at n text c.in-Some.byte.now found in
    let f = c.in_err-blank-in-Some.field-0.0 in
    let e : c.from_residual-in_err-blank-in-Some.result ≡ Err f = search rules in
    let run = c.split_at.result.0.now in
    let esc = c.escape_of.result.now in
    let front = front_escaped n c.in-Some.byte.now text run esc c.utf8.text len c.split_at.ensures.front at.0 at.1 c.escape_of.ensures in
    let wrote : Prints {A = ℕ} c.args.out.now (Err f) c.blank-in-Some.new.self (blank (run ++ esc) ∷ []) =
    both c.args.out.now c.blank.new.self c.blank-in-Some.new.self c.in_ok-blank.field-0 (Err f) run esc (run ++ esc) refl c.in_ok-blank.ensures (record { is = c.in_err-blank-in-Some.ensures.is; keeps = c.in_err-blank-in-Some.ensures.keeps }) in
    subst (λ r. FrontWritten c.args.out.now r c.blank-in-Some.new.self text) (sym e)
    (first_fails {A = ℕ} c.args.out.now c.blank-in-Some.new.self f (Err f) (run ++ esc) (escape (drop (n + 1) text)) (escape text) (ap (λ t. t ++ escape (drop (n + 1) text)) front ∙ escape_parts (n + 1) text) refl wrote)

pub returns-in_ok-blank-in-Some : goal.returns-in_ok-blank-in-Some
returns-in_ok-blank-in-Some g c =
    let text = c.args.text.now in
    let n = c.plain_len-len.result in
    let len = c.plain_len-len.ensures.len in
    let found : slice_get (drop n text) 0 ≡ Some c.in-Some.byte.now = ap (λ t. slice_get t 0) (sym (c.as_bytes.ensures.value ∙ c.split_at.ensures.back)) ∙ sym c.in-Some.ensures.value in
    let at = after_at n text c.in-Some.byte.now found in
    let run = c.split_at.result.0.now in
    let esc = c.escape_of.result.now in
    let front = front_escaped n c.in-Some.byte.now text run esc c.utf8.text len c.split_at.ensures.front at.0 at.1 c.escape_of.ensures in
    let ascii : get_or text n 0 < 128 = not_plain_ascii (get_or text n 0) (not_plain_at n (get_or text n 0) text len at.0 refl) in
    let inside : n < length text = at.0 in (
      omega arith,
      omega (arith, inside),
      IsCharBoundary-after_ascii text n c.utf8.text at.0 ascii,
      both c.args.out.now c.blank.new.self c.blank-in-Some.new.self c.in_ok-blank.field-0 (Ok (n + 1)) run esc (escape (take (n + 1) text)) front c.in_ok-blank.ensures
          (as_ok c.blank.new.self c.blank-in-Some.new.self c.in_ok-blank-in-Some.field-0 (n + 1) (blank esc ∷ []) c.in_ok-blank-in-Some.ensures),
    )

pub returns-in-None : goal.returns-in-None
returns-in-None g c =
    let text = c.args.text.now in
    let n = c.plain_len-len.result in
    let none : slice_get (drop n text) 0 ≡ None = ap (λ t. slice_get t 0) (sym (c.as_bytes.ensures.value ∙ c.split_at.ensures.back)) ∙ sym c.in-None.ensures.value in
    let ends : length text ≤ n = none_after n text none in
    let run = run_front n text c.split_at.result.0.now c.utf8.text c.plain_len-len.ensures.len c.split_at.ensures.front in (
      omega (arith, ends, c.requires),
      c.plain_len-len.ensures.within,
      subst (IsCharBoundary text) (sym c.plain_len-len.ensures.len) (plain_boundary text),
      as_ok c.args.out.now c.blank.new.self c.in_ok-blank.field-0 n (blank (escape (take n text)) ∷ []) (subst (λ t. Prints c.args.out.now (Ok c.in_ok-blank.field-0) c.blank.new.self (blank t ∷ [])) run c.in_ok-blank.ensures),
    )
