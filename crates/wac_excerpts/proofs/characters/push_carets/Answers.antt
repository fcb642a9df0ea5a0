use Rattle.std.proofs.Common.{◌≡◌, ◌∙◌, ◌++◌, List, ℕ, sym, ap, subst, string_bytes}
use Rattle.std.specs.Str.{IsUtf8}
use Rattle.std.specs.Str.Iter.{chars_rest}
use Rattle.std.proofs.lemmas.Str.{IsUtf8-past_char}
use Rattle.std.proofs.lemmas.List.{append-nil}
use Rattle.wac_excerpts.specs.Characters.{caret_character, caret_text}
use Rattle.wac_excerpts.proofs.Texts.{character_more, characters_end}
use Rattle.wac_excerpts.proofs.characters.push_carets.Goals as goal

pub loop-c-init : goal.loop-c-init
loop-c-init c =
    let e : chars_rest c.into_iter-c-iterator.result ≡ c.args.text.now = ap chars_rest c.into_iter-c-iterator.ensures.into_iter_gives ∙ c.chars-c-items.ensures.rest in
    record {
      utf8 = subst IsUtf8 (sym e) c.utf8.text;
      left = ap (λ (t : List ℕ). string_bytes c.args.out.now ++ caret_text t) e;
    }

pub loop-c-preserved : goal.loop-c-preserved
loop-c-preserved c =
    let it = c.loop-c.c-iterator in
    let rest = chars_rest c.next.new.self in
    let step = c.in-Some.ensures.steps in
    let written : string_bytes c.push_caret_character.new.out ≡ string_bytes c.loop-c.out ++ caret_character c.in-Some.c =
    c.in_ok-push_caret_character.ensures in
    record {
      utf8 = IsUtf8-past_char (chars_rest it) rest c.in-Some.c c.loop-c.invariant.utf8 step.0;
      left = ap (λ (t : List ℕ). t ++ caret_text rest) written
          ∙ character_more caret_character (string_bytes c.loop-c.out) (string_bytes c.args.out.now ++ caret_text c.args.text.now) (chars_rest it) rest c.in-Some.c c.loop-c.invariant.utf8 step.0 c.loop-c.invariant.left;
    }

pub returns : goal.returns
returns c =
    sym (append-nil (string_bytes c.loop-c.out))
    ∙ ap (λ (t : List ℕ). string_bytes c.loop-c.out ++ t) (sym (characters_end caret_character (chars_rest c.loop-c.c-iterator) c.in-None.ensures.steps.0.0))
    ∙ c.loop-c.invariant.left
