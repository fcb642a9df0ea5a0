-- The concatenation of two lists of pieces joins where each of the two does.
use Rattle.wac_printer_layout.proofs.Common.{◌≡◌, ℕ, Bool, true, false, List, [], ◌∷◌, ◌++◌, sym, refl, ap, ◌∙◌, subst, append_assoc, Option, Some, None, nat_eq, false≢true, follows, walk_follows, token_of, Token}
use Rattle.wac_printer_layout.specs.Printed.{Piece, text_of, text, fresh_after, fresh_after_token}
use Rattle.wac_printer_layout.specs.Accepted.{IsAccepted}
use Rattle.wac_printer_layout.specs.Joins.{Stands, Fits, JoinsBefore}

pub fresh-append : (fresh : Bool) (a b : List ℕ) → fresh_after fresh (a ++ b) ≡ fresh_after (fresh_after fresh a) b
fresh-append fresh [] b = refl
fresh-append fresh (x ∷ a) b = fresh-append (nat_eq x 10) a b

pub fresh_of_text : (space : List ℕ) (fresh : Bool) (ps : List Piece) → fresh_after_token space fresh ps ≡ fresh_after fresh (text space fresh ps)
fresh_of_text space fresh [] = refl
fresh_of_text space fresh (p ∷ ps) =
    let t = text_of space fresh p in
    let later = fresh_after fresh t in
    fresh_of_text space later ps ∙ sym (fresh-append fresh t (text space later ps))

pub text-append : (space : List ℕ) (fresh : Bool) (ps qs : List Piece) → text space fresh (ps ++ qs) ≡ text space fresh ps ++ text space (fresh_after_token space fresh ps) qs
text-append space fresh [] qs = refl
text-append space fresh (p ∷ ps) qs =
    let t = text_of space fresh p in
    let later = fresh_after fresh t in
    ap (λ u. t ++ u) (text-append space later ps qs) ∙ sym (append_assoc t (text space later ps) (text space (fresh_after_token space later ps) qs))

rest-append : (rest space : List ℕ) (fresh : Bool) (ps qs : List Piece) → text space fresh (ps ++ qs) ++ rest ≡ text space fresh ps ++ (text space (fresh_after_token space fresh ps) qs ++ rest)
rest-append rest space fresh ps qs = ap (λ u. u ++ rest) (text-append space fresh ps qs) ∙ append_assoc (text space fresh ps) (text space (fresh_after_token space fresh ps) qs) rest

pub join : (rest space : List ℕ) (fresh : Bool) (ps qs : List Piece)
    → JoinsBefore (text space (fresh_after_token space fresh ps) qs ++ rest) space fresh ps → JoinsBefore rest space (fresh_after_token space fresh ps) qs → JoinsBefore rest space fresh (ps ++ qs)
join rest space fresh [] qs first second = second
join rest space fresh (p ∷ ps) qs first second =
    let later = fresh_after fresh (text_of space fresh p) in
    (subst (λ u. Fits u p) (sym (rest-append rest space later ps qs)) first.0, join rest space later ps qs first.1 second)

pub parted : (rest space : List ℕ) (fresh : Bool) (ps qs : List Piece) → JoinsBefore rest space fresh (ps ++ qs)
    → JoinsBefore (text space (fresh_after_token space fresh ps) qs ++ rest) space fresh ps × JoinsBefore rest space (fresh_after_token space fresh ps) qs
parted rest space fresh [] qs joins = (tt, joins)
parted rest space fresh (p ∷ ps) qs joins =
    let later = fresh_after fresh (text_of space fresh p) in
    let others = parted rest space later ps qs joins.1 in
    ((subst (λ u. Fits u p) (rest-append rest space later ps qs) joins.0, others.0), others.1)

-- the text is a token, and the walk lets the rest follow it
abbrev pub stands_before : List ℕ → List ℕ → Bool
stands_before rest t = elim (token_of t) [ Some kind ↦ follows kind rest | None ↦ false ]

-- a token before what may follow its kind
pub stands : (t rest : List ℕ) (kind : Token) → IsAccepted t → token_of t ≡ Some kind → follows kind rest ≡ true → Stands t rest
stands t rest kind accepted is follow = record { kind = kind; follows = walk_follows t rest kind is follow; accepted = accepted }

pub stands_so : (t rest : List ℕ) → IsAccepted t → stands_before rest t ≡ true → Stands t rest
stands_so t rest accepted e = go (token_of t) refl
  where
    go : (found : Option Token) → token_of t ≡ found → Stands t rest
    go None f = let no : false ≡ true = sym (ap (λ o. elim o [ Some k ↦ follows k rest | None ↦ false ]) f) ∙ e in absurd (false≢true no)
    go (Some k) f = stands t rest k accepted f (sym (ap (λ o. elim o [ Some k ↦ follows k rest | None ↦ false ]) f) ∙ e)
