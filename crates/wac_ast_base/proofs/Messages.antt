-- Lemmas on lists of expected tokens.
use Rattle.wac_ast_base.proofs.Common.{◌≡◌, refl, ap, ◌∙◌, ℕ, ◌+◌, ◌-◌, ◌<◌, List, [], ◌∷◌, ◌++◌, codes, drop, length, Option, Some, None, append_assoc, drop_more, Token}
use Rattle.std.proofs.Common.{sym, append-nil}
use Rattle.std.proofs.Math.ListN.{get_or}
use Rattle.wac_ast_base.specs.Lookahead.{kept_in}
use Rattle.wac_ast_base.specs.Messages.{entry, entries, joined}

-- the texts after a separator, if there are any
abbrev pub after : List ℕ → List (List ℕ) → List ℕ
after separator [] = []
after separator (text ∷ texts) = separator ++ joined (text ∷ texts)

pub after_nothing : (texts : List (List ℕ)) → after [] texts ≡ joined texts
after_nothing [] = refl
after_nothing (text ∷ texts) = refl

pub after_one : (separator text : List ℕ) (texts : List (List ℕ)) → after separator (text ∷ texts) ≡ (separator ++ text) ++ after (codes ", ") texts
after_one separator text [] = sym (append-nil (separator ++ text))
after_one separator text (second ∷ texts) = sym (append_assoc separator text (codes ", " ++ joined (second ∷ texts)))

-- A token was written: what is left to write is that of the places after it.
pub token_written : (whole done separator : List ℕ) (left : ℕ) (token : Token) (places : List (Option Token)) (i : ℕ) (d : Option Token) → i < length places → get_or places i d ≡ Some token
    → done ++ after separator (entries left (kept_in (drop i places))) ≡ whole → (done ++ (separator ++ entry left token)) ++ after (codes ", ") (entries (left - 1) (kept_in (drop (i + 1) places))) ≡ whole
token_written whole done separator left token places i d less here before =
    append_assoc done (separator ++ entry left token) (after (codes ", ") (entries (left - 1) (kept_in (drop (i + 1) places))))
    ∙ ap (λ (text : List ℕ). done ++ text)
    (sym (after_one separator (entry left token) (entries (left - 1) (kept_in (drop (i + 1) places))))
    ∙ ap (λ (l : List (Option Token)). after separator (entries left (kept_in l))) (sym (drop_more places i d less ∙ ap (λ (x : Option Token). x ∷ drop (i + 1) places) here)))
    ∙ before

-- An empty place writes nothing.
pub place_passed : (whole done separator : List ℕ) (left : ℕ) (places : List (Option Token)) (i : ℕ) (d : Option Token) → i < length places → get_or places i d ≡ None
    → done ++ after separator (entries left (kept_in (drop i places))) ≡ whole → done ++ after separator (entries left (kept_in (drop (i + 1) places))) ≡ whole
place_passed whole done separator left places i d less here before =
    ap (λ (l : List (Option Token)). done ++ after separator (entries left (kept_in l))) (sym (drop_more places i d less ∙ ap (λ (x : Option Token). x ∷ drop (i + 1) places) here)) ∙ before
