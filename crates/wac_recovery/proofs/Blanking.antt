-- Blanks, one after another, and between other texts.
use Rattle.std.proofs.Common.{◌≡◌, ap, sym, ◌∙◌, ℕ, ◌+◌, ◌<◌, List, [], ◌∷◌, ◌++◌, map, take, length, get_or, append_assoc}
use Rattle.std.proofs.lemmas.List.{map-append, take_more}
use Rattle.wac_recovery.specs.Blanked.{blank}

-- one byte more
pub one_more_blank : (before now new items : List ℕ) (i byte : ℕ) → now ≡ before ++ map blank (take i items) → i < length items → byte ≡ get_or items i byte → new ≡ now ++ (blank byte ∷ []) → new ≡ before ++ map blank (take (i + 1) items)
one_more_blank before now new items i byte so_far within is added =
    let taken : take (i + 1) items ≡ take i items ++ (byte ∷ []) = take_more items i byte within ∙ ap (λ b. take i items ++ (b ∷ [])) (sym is) in
    let more : map blank (take (i + 1) items) ≡ map blank (take i items) ++ (blank byte ∷ []) = ap (map blank) taken ∙ map-append blank (take i items) (byte ∷ []) in
    added
    ∙ ap (λ xs. xs ++ (blank byte ∷ [])) so_far
    ∙ append_assoc before (map blank (take i items)) (blank byte ∷ [])
    ∙ ap (λ xs. before ++ xs) (sym more)

-- four parts
pub joined : (front before middle after one two three four : List ℕ) → one ≡ front → two ≡ one ++ before → three ≡ two ++ middle → four ≡ three ++ after → four ≡ front ++ (before ++ (middle ++ after))
joined front before middle after one two three four a b c d =
    d
    ∙ ap (λ xs. xs ++ after) (c ∙ ap (λ xs. xs ++ middle) (b ∙ ap (λ xs. xs ++ before) a))
    ∙ append_assoc (front ++ before) middle after
    ∙ append_assoc front before (middle ++ after)
