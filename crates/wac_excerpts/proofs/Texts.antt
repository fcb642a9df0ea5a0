-- Texts that are written character by character.
use Rattle.std.proofs.Common.{◌≡◌, ◌∙◌, ℕ, List, [], ◌∷◌, ◌++◌, length, ap, sym, append_assoc}
use Rattle.std.specs.Prelude.{map, flat_map, encode_utf8_all}
use Rattle.std.specs.Char.{encode_utf8}
use Rattle.std.specs.Str.{chars, IsUtf8}
use Rattle.std.proofs.lemmas.Str.{chars_past_char, chars-nil}

-- one more character, after what was written
pub character_more : (f : ℕ → List ℕ) (out all bs rest : List ℕ) (c : ℕ) → IsUtf8 bs → bs ≡ encode_utf8 c ++ rest → out ++ flat_map f (chars bs) ≡ all → (out ++ f c) ++ flat_map f (chars rest) ≡ all
character_more f out all bs rest c utf8 begins e =
    append_assoc out (f c) (flat_map f (chars rest))
    ∙ ap (λ (cs : List ℕ). out ++ flat_map f cs) (sym (chars_past_char bs rest c utf8 begins))
    ∙ e

pub characters_end : (f : ℕ → List ℕ) (bs : List ℕ) → length bs ≡ 0 → flat_map f (chars bs) ≡ []
characters_end f [] e = ap (λ (cs : List ℕ). flat_map f cs) chars-nil
characters_end f (b ∷ bs) e = absurd cc

-- the same where a character is written for each
pub shown_more : (f : ℕ → ℕ) (out all bs rest : List ℕ) (c : ℕ) → IsUtf8 bs → bs ≡ encode_utf8 c ++ rest → out ++ encode_utf8_all (map f (chars bs)) ≡ all → (out ++ encode_utf8 (f c)) ++ encode_utf8_all (map f (chars rest)) ≡ all
shown_more f out all bs rest c utf8 begins e =
    append_assoc out (encode_utf8 (f c)) (encode_utf8_all (map f (chars rest)))
    ∙ ap (λ (cs : List ℕ). out ++ encode_utf8_all (map f cs)) (sym (chars_past_char bs rest c utf8 begins))
    ∙ e

pub shown_end : (f : ℕ → ℕ) (bs : List ℕ) → length bs ≡ 0 → encode_utf8_all (map f (chars bs)) ≡ []
shown_end f [] e = ap (λ (cs : List ℕ). encode_utf8_all (map f cs)) chars-nil
shown_end f (b ∷ bs) e = absurd cc
