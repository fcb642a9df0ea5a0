-- One step over tokens and comments that are printed.
use Rattle.wac_comments_layout.proofs.Common.{◌≡◌, ℕ, ◌+◌, ◌<◌, Bool, true, false, cond, List, [], ◌∷◌, ◌++◌, drop, length, get_or, sym, refl, ap, ◌∙◌, arith, append_assoc, not, drop-drop, drop_more, length-drop}
use Rattle.wac_comments_layout.specs.Kept.{is_comment}
use Rattle.wac_comments_layout.specs.Printing.{Texts, Progress, added, goes, spelled, innermost, opened_after, printed_from, tokens_of, with_comment, with_added, with_printed, passed, with_token, with_piece}
use Rattle.wac_comments_layout.specs.Texts.{texts_of}
use Rattle.wac_comments_layout.specs.declared.pieces.Piece.{Piece}

-- the texts from a piece on
pub texts_more : (pieces : List Piece) (i : ℕ) (piece : Piece) → i < length pieces → piece ≡ get_or pieces i piece → texts_of (drop i pieces) ≡ piece.text.now ∷ texts_of (drop (i + 1) pieces)
texts_more pieces i piece lt is =
    ap texts_of (drop_more pieces i piece lt)
    ∙ ap (λ (p : Piece). p.text.now ∷ texts_of (drop (i + 1) pieces)) (sym is)

-- what is printed from here on
abbrev pub whole : Texts → Progress → Texts → Texts
whole tokens p texts = p.done ++ printed_from tokens p.at p.opened p.waiting texts

-- what is printed of the next token and of what stands after it, by whether the token goes
abbrev by_test : Texts → Progress → List ℕ → Texts → Bool → Texts
by_test tokens p text rest b =
    added tokens p.at (innermost p.opened)
    ++ cond b (printed_from tokens (p.at + 1) (opened_after tokens p.at p.opened) p.waiting rest)
    (p.waiting ++ spelled tokens p.at text ∷ printed_from tokens (p.at + 1) (opened_after tokens p.at p.opened) [] rest)

-- the same after the token
abbrev after_test : Texts → Progress → List ℕ → Bool → Progress
after_test tokens p text b = passed tokens (cond b (with_added tokens p) (with_printed (spelled tokens p.at text) (with_added tokens p)))

tested : (tokens : Texts) (p : Progress) (text : List ℕ) (rest : Texts) (b : Bool)
    → whole tokens (after_test tokens p text b) rest ≡ p.done ++ by_test tokens p text rest b
tested tokens p text rest true =
    append_assoc p.done (added tokens p.at (innermost p.opened)) (printed_from tokens (p.at + 1) (opened_after tokens p.at p.opened) p.waiting rest)
tested tokens p text rest false =
    let front = added tokens p.at (innermost p.opened) in
    let later = printed_from tokens (p.at + 1) (opened_after tokens p.at p.opened) [] rest in
    let same : (((p.done ++ front) ++ p.waiting) ++ spelled tokens p.at text ∷ []) ++ later ≡ p.done ++ (front ++ (p.waiting ++ (spelled tokens p.at text ∷ later))) = simp append_assoc in
    same

-- what is printed of a comment or a token and of what stands after it, by whether it is a comment
abbrev by_sort : Texts → Progress → List ℕ → Texts → Bool → Texts
by_sort tokens p text rest b =
    p.done ++ cond b (printed_from tokens p.at p.opened (p.waiting ++ text ∷ []) rest) (by_test tokens p text rest (goes tokens p.at (innermost p.opened)))

-- the same after it
abbrev after_sort : Texts → Progress → List ℕ → Bool → Progress
after_sort tokens p text b = cond b (with_comment text p) (with_token tokens text p)

sorted : (tokens : Texts) (p : Progress) (text : List ℕ) (rest : Texts) (b : Bool) → whole tokens (after_sort tokens p text b) rest ≡ by_sort tokens p text rest b
sorted tokens p text rest true = refl
sorted tokens p text rest false = tested tokens p text rest (goes tokens p.at (innermost p.opened))

pub piece_step : (tokens : Texts) (p : Progress) (text : List ℕ) (rest : Texts) → whole tokens (with_piece tokens text p) rest ≡ whole tokens p (text ∷ rest)
piece_step tokens p text rest = sorted tokens p text rest (is_comment text)

-- the index of the next token is that of the first one left
abbrev tokens_by : List ℕ → Texts → Bool → Texts
tokens_by text rest b = cond (not b) (text ∷ tokens_of rest) (tokens_of rest)

left_by : (tokens : Texts) (p : Progress) (text : List ℕ) (rest : Texts) (b : Bool) → drop p.at tokens ≡ tokens_by text rest b → drop (after_sort tokens p text b).at tokens ≡ tokens_of rest
left_by tokens p text rest true e = e
left_by tokens p text rest false e = after_token (goes tokens p.at (innermost p.opened))
  where
    after_token : (g : Bool) → drop (after_test tokens p text g).at tokens ≡ tokens_of rest
    after_token true = sym (drop-drop 1 p.at tokens) ∙ ap (drop 1) e
    after_token false = sym (drop-drop 1 p.at tokens) ∙ ap (drop 1) e

pub tokens_left : (tokens : Texts) (p : Progress) (text : List ℕ) (rest : Texts) → drop p.at tokens ≡ tokens_of (text ∷ rest) → drop (with_piece tokens text p).at tokens ≡ tokens_of rest
tokens_left tokens p text rest e = left_by tokens p text rest (is_comment text) e

-- a token is one of the tokens
pub token_within : (tokens : Texts) (p : Progress) (text : List ℕ) (rest : Texts) → drop p.at tokens ≡ tokens_of (text ∷ rest) → is_comment text ≡ false → p.at < length tokens
token_within tokens p text rest e token =
    let here : drop p.at tokens ≡ text ∷ tokens_of rest = e ∙ ap (tokens_by text rest) token in
    omega (arith, ap length here, length-drop p.at tokens)
