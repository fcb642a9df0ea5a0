use Rattle.wac_lexer.proofs.Common.{◌≡◌, ◌+◌, ◌++◌, drop, length, sym, ap, ◌∙◌, subst, arith, Some, encode_utf8, len_utf8, IsCharBoundary, IsUtf8, chars, drop_all, IsCharBoundary-start, IsCharBoundary-past_char, IsUtf8-drop}
use Rattle.std.specs.Str.Iter.{chars_rest}
use Rattle.wac_lexer.specs.Span.{span}
use Rattle.wac_lexer.specs.Characters.{refused_from}
use Rattle.wac_lexer.proofs.Refusals.{refused_here, passes_char, refused_end}
use Rattle.wac_lexer.proofs.characters.refused.Goals as goal
use Rattle.wac_lexer.proofs.characters.refused.Goals.{After-len_utf8-len}

pub past_plain-place-requires : goal.past_plain-place-requires
past_plain-place-requires c = IsCharBoundary-start c.args.source.now c.utf8.source

pub loop-place-init : goal.loop-place-init
loop-place-init c = record { within = c.past_plain-place.ensures.within; left = c.past_plain-place.ensures.passes }

-- a character at the place, and what follows it
begins : (c : After-len_utf8-len) → drop c.loop-place.place c.args.source.now ≡ encode_utf8 c.in-Some.c ++ chars_rest c.next.new.self
begins c = sym c.split_at.ensures.back ∙ sym c.chars.ensures.rest ∙ c.in-Some.ensures.steps.0

utf8 : (c : After-len_utf8-len) → IsUtf8 (drop c.loop-place.place c.args.source.now)
utf8 c = IsUtf8-drop c.args.source.now c.loop-place.place c.utf8.source c.loop-place.invariant.within

len_is : (c : After-len_utf8-len) → c.len_utf8-len.result ≡ len_utf8 c.in-Some.c
len_is c = c.len_utf8-len.ensures.value

pub returns-in-Some-fault_of : goal.returns-in-Some-fault_of
returns-in-Some-fault_of c =
    let here = (goal.at.returns-in-Some-fault_of c).After-len_utf8-len in
    let place = c.loop-place.place in
    let fault = c.in-Some-fault_of.fault in
    ap (λ s. Some (fault, s)) (c.new.ensures ∙ ap (span place) (len_is here))
    ∙ sym (refused_here place (drop place c.args.source.now) _ c.in-Some.c (utf8 here) (begins here) fault (sym c.fault_of.ensures ∙ c.in-Some-fault_of.is))
    ∙ c.loop-place.invariant.left

pub past_plain-place-requires-in-Some : goal.past_plain-place-requires-in-Some
past_plain-place-requires-in-Some c =
    let here = (goal.at.past_plain-place-requires-in-Some c).After-len_utf8-len in
    subst (λ n. IsCharBoundary c.args.source.now (c.loop-place.place + n)) (sym (len_is here))
    (IsCharBoundary-past_char c.args.source.now _ c.loop-place.place c.in-Some.c c.loop-place.invariant.within.0 (utf8 here) (begins here))

pub loop-place-preserved : goal.loop-place-preserved
loop-place-preserved c =
    let here = (goal.at.loop-place-preserved c).After-len_utf8-len in
    let place = c.loop-place.place in
    let next = c.past_plain-place-in-Some in
    record {
      within = next.ensures.within;
      left = next.ensures.passes
          ∙ ap (λ n. refused_from (place + n) (chars (drop (place + n) c.args.source.now))) (len_is here)
          ∙ sym (passes_char c.args.source.now _ place c.in-Some.c (utf8 here) (begins here) (sym c.fault_of.ensures ∙ c.in_default.is))
          ∙ c.loop-place.invariant.left;
    }

pub returns-in-None : goal.returns-in-None
returns-in-None c =
    sym (refused_end c.loop-place.place (drop c.loop-place.place c.args.source.now) (ap length (sym c.split_at.ensures.back ∙ sym c.chars.ensures.rest) ∙ c.in-None.ensures.steps.0.0))
    ∙ c.loop-place.invariant.left

pub returns : goal.returns
returns c =
    let none = ap length (drop_all c.loop-place.place c.args.source.now (omega arith)) in
    sym (refused_end c.loop-place.place (drop c.loop-place.place c.args.source.now) none) ∙ c.loop-place.invariant.left
