use Rattle.std.proofs.Common.{◌≡◌, ◌∙◌, ◌++◌, List, ℕ, sym, ap, subst, string_bytes}
use Rattle.std.specs.Char.{encode_utf8}
use Rattle.std.specs.Str.{IsUtf8}
use Rattle.std.specs.Str.Iter.{chars_rest}
use Rattle.std.proofs.lemmas.Str.{IsUtf8-past_char}
use Rattle.std.proofs.lemmas.List.{append-nil}
use Rattle.wac_excerpts.specs.Characters.{shown_lines, shown_on_lines}
use Rattle.wac_excerpts.proofs.Texts.{shown_more, shown_end}
use Rattle.wac_excerpts.proofs.characters.push_shown_lines.Goals as goal

pub loop-c-init : goal.loop-c-init
loop-c-init c =
    let e : chars_rest c.into_iter-c-iterator.result ≡ c.args.text.now = ap chars_rest c.into_iter-c-iterator.ensures.into_iter_gives ∙ c.chars-c-items.ensures.rest in
    record {
      utf8 = subst IsUtf8 (sym e) c.utf8.text;
      left = ap (λ (t : List ℕ). string_bytes c.args.out.now ++ shown_lines t) e;
    }

pub loop-c-preserved : goal.loop-c-preserved
loop-c-preserved c =
    let it = c.loop-c.c-iterator in
    let rest = chars_rest c.next.new.self in
    let step = c.in-Some.ensures.steps in
    let written : string_bytes c.push.new.self ≡ string_bytes c.loop-c.out ++ encode_utf8 (shown_on_lines c.in-Some.c) =
    c.in_ok-push.ensures.bytes ∙ ap (λ (n : ℕ). string_bytes c.loop-c.out ++ encode_utf8 n) c.shown_on_lines.ensures in
    record {
      utf8 = IsUtf8-past_char (chars_rest it) rest c.in-Some.c c.loop-c.invariant.utf8 step.0;
      left = ap (λ (t : List ℕ). t ++ shown_lines rest) written
          ∙ shown_more shown_on_lines (string_bytes c.loop-c.out) (string_bytes c.args.out.now ++ shown_lines c.args.text.now) (chars_rest it) rest c.in-Some.c c.loop-c.invariant.utf8 step.0 c.loop-c.invariant.left;
    }

pub returns : goal.returns
returns c =
    sym (append-nil (string_bytes c.loop-c.out))
    ∙ ap (λ (t : List ℕ). string_bytes c.loop-c.out ++ t) (sym (shown_end shown_on_lines (chars_rest c.loop-c.c-iterator) c.in-None.ensures.steps.0.0))
    ∙ c.loop-c.invariant.left
