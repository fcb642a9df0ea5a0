use Rattle.std.proofs.Common.{◌≡◌, ◌∙◌, ◌++◌, List, ℕ, Option, sym, ap, subst, string_bytes}
use Rattle.std.specs.Prelude.{unwrap_or}
use Rattle.std.specs.Char.{encode_utf8}
use Rattle.std.specs.Str.{IsUtf8}
use Rattle.std.specs.Str.Iter.{chars_rest}
use Rattle.std.proofs.lemmas.Str.{IsUtf8-past_char}
use Rattle.std.proofs.lemmas.List.{append-nil}
use Rattle.wac_excerpts.specs.Characters.{shown}
use Rattle.wac_excerpts.proofs.Texts.{character_more, characters_end}
use Rattle.wac_diagnostics.specs.Escapes.{data_character, data_text}
use Rattle.wac_diagnostics.proofs.commands.push_data.Goals as goal

pub loop-c-init : goal.loop-c-init
loop-c-init c =
    let e : chars_rest c.into_iter-c-iterator.result ≡ c.args.text.now = ap chars_rest c.into_iter-c-iterator.ensures.into_iter_gives ∙ c.chars-c-items.ensures.rest in
    record {
      utf8 = subst IsUtf8 (sym e) c.utf8.text;
      left = ap (λ (t : List ℕ). string_bytes c.args.out.now ++ data_text t) e;
    }

pub loop-c-preserved : goal.loop-c-preserved
loop-c-preserved c =
    let it = c.loop-c.c-iterator in
    let rest = chars_rest c.next.new.self in
    let step = c.in-Some.ensures.steps in
    let written : string_bytes c.push_escaped.new.out ≡ string_bytes c.loop-c.out ++ data_character c.in-Some.c =
    c.in_ok-push_escaped.ensures ∙ ap (λ (e : Option (List ℕ)). string_bytes c.loop-c.out ++ unwrap_or e (encode_utf8 (shown c.in-Some.c))) c.data_escape.ensures in
    record {
      utf8 = IsUtf8-past_char (chars_rest it) rest c.in-Some.c c.loop-c.invariant.utf8 step.0;
      left = ap (λ (t : List ℕ). t ++ data_text rest) written
          ∙ character_more data_character (string_bytes c.loop-c.out) (string_bytes c.args.out.now ++ data_text c.args.text.now) (chars_rest it) rest c.in-Some.c c.loop-c.invariant.utf8 step.0 c.loop-c.invariant.left;
    }

pub returns : goal.returns
returns c =
    sym (append-nil (string_bytes c.loop-c.out))
    ∙ ap (λ (t : List ℕ). string_bytes c.loop-c.out ++ t) (sym (characters_end data_character (chars_rest c.loop-c.c-iterator) c.in-None.ensures.steps.0.0))
    ∙ c.loop-c.invariant.left
