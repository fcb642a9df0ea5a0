-- The first segment of a text, and the others.
use Rattle.wac_ast_base.proofs.Common.{◌≡◌, ◌<◌, ℕ, suc, ◌+◌, List, [], ◌∷◌, length, false, refl, ap, subst, ◌∙◌, slice_split, before_first, after_first, position_or_len, count_by, fails_before_first, span, is_slash, after, located, segments_from}
use Rattle.std.proofs.Common.{sym}
use Rattle.std.proofs.lemmas.List.Splits.{slice_split_first, slice_split_none, length-slice_split}
use Rattle.std.proofs.lemmas.List.Elements.{All-from_get_or}

pub first_segment : (offset : ℕ) (text : List ℕ) → position_or_len is_slash text < length text → segments_from offset text ≡ (before_first is_slash text, span offset (length (before_first is_slash text))) ∷ segments_from (after (after offset (length (before_first is_slash text))) 1) (after_first is_slash text)
first_segment offset text h = ap (located offset) (slice_split_first is_slash text 0 h)

-- without a slash the text is the one segment
pub one_segment : (offset : ℕ) (text : List ℕ) → position_or_len is_slash text ≡ length text → segments_from offset text ≡ (text, span offset (length text)) ∷ []
one_segment offset text h = ap (located offset) (slice_split_none is_slash text (All-from_get_or (λ b. is_slash b ≡ false) text 0 (λ i less. fails_before_first is_slash text i 0 (subst (λ n. i < n) (sym h) less))))

length-located : (offset : ℕ) (parts : List (List ℕ)) → length (located offset parts) ≡ length parts
length-located offset [] = refl
length-located offset (part ∷ others) = ap (λ (n : ℕ). suc n) (length-located (after (after offset (length part)) 1) others)

-- one more than there are slashes
pub counted : (offset : ℕ) (text : List ℕ) → length (segments_from offset text) ≡ count_by is_slash text + 1
counted offset text = length-located offset (slice_split is_slash text) ∙ length-slice_split is_slash text
