-- Each text of a source whose items are tokens begins with a slash, as comments do, is empty, or is a token's.
use Rattle.wac_comments_layout.proofs.Common.{◌≡◌, ℕ, ◌+◌, Bool, true, false, cond, List, [], ◌∷◌, map, take, drop, length, sym, refl, ap, ◌∙◌, Option, Some, None, Ok, Err, Result, inl, inr, ◌==◌, nat_eq, slice_index, AllByRecursion, cond_both, opens, Item, first_char_len, fault_of, first_item, items, with_fault, end_of, token_of, longest_token, Error, Token, made, start_of, items_none, items_some}
use Rattle.wac_lexer.specs.Items.{items_from}
use Rattle.wac_lexer.specs.declared.error.Error.TheVariants.{UnexpectedToken, UnterminatedComment, UnterminatedString}
use Rattle.wac_lexer.specs.declared.token.Token.TheVariants as tokens
use Rattle.wac_lexer.proofs.Longest.{Longest, longest_is}
use Rattle.wac_comments_layout.specs.Following.{IsPieceText}
use Rattle.wac_comments_layout.specs.Pieces.{Piece, comments_at, end_piece, piece_of_item, pieces, pieces_after, texts}
use Rattle.wac_comments_layout.specs.Printing.{printed}
use Rattle.wac_comments_layout.proofs.Pieced.{AfterSlash, both, gap_all}
use Rattle.wac_comments_layout.proofs.Preserved.{all_printed}

-- the item is a token
abbrev pub IsTokenItem : Item → Type 0
IsTokenItem x = (k : Token) × (x.token ≡ Ok k)

-- a fault is no token
no_fault : (f : Error) (k : Token) → Err f ≡ Ok k → ⊥
no_fault f k e = cc

fault_is : (t : List ℕ) (k : Token) → (fault_of t).0 ≡ Ok k → ⊥
fault_is t k =
    let quote : Result Token Error × ℕ = (Err UnterminatedString, 1) in
    let other : Result Token Error × ℕ = (Err UnexpectedToken, first_char_len t) in
    cond_both (nat_eq (slice_index t 0) 34) quote other (λ found. found.0 ≡ Ok k → ⊥) (λ q e. no_fault UnterminatedString k e) (λ q e. no_fault UnexpectedToken k e)

abbrev by_parts : List ℕ → Bool → Bool → Option (ℕ × Token) → Option (Result Token Error × ℕ)
by_parts t none begun front = cond none None (cond begun (Some (Err UnterminatedComment, length t)) (with_fault front (fault_of t)))

-- the text of a first item that is a token is that token's
first_is : (t : List ℕ) (found : Result Token Error × ℕ) (k : Token) → first_item t ≡ Some found → found.0 ≡ Ok k → token_of (take found.1 t) ≡ Some k
first_is t found k e is = go (length t == 0) (opens t) (longest_token t (length t)) (longest_is t (length t)) e
  where
    go : (none begun : Bool) (front : Option (ℕ × Token)) → Longest t (length t) front → by_parts t none begun front ≡ Some found → token_of (take found.1 t) ≡ Some k
    go true begun front l e = absurd cc
    go false true front l e =
        let comment : Result Token Error × ℕ = (Err UnterminatedComment, length t) in
        let same : comment ≡ found = cc in
        absurd (no_fault UnterminatedComment k (ap (λ (x : Result Token Error × ℕ). x.0) same ∙ is))
    go false false None l e =
        let same : fault_of t ≡ found = cc in
        absurd (fault_is t k (ap (λ (x : Result Token Error × ℕ). x.0) same ∙ is))
    go false false (Some front) l e =
        let token : Result Token Error × ℕ = (Ok front.1, front.0) in
        let same : token ≡ found = cc in
        let kinds : Ok front.1 ≡ Ok k = ap (λ (x : Result Token Error × ℕ). x.0) same ∙ is in
        let kind : front.1 ≡ k = cc in
        ap (λ (x : Result Token Error × ℕ). token_of (take x.1 t)) (sym same) ∙ l.2 ∙ ap Some kind

of_slash : (t : List ℕ) → AfterSlash t → IsPieceText t
of_slash [] h = inl refl
of_slash (b ∷ t) h = inl (ap (λ c. nat_eq c 47) h)

after : (source : List ℕ) (xs : List Item) (place : ℕ) → items_from source place ≡ xs → AllByRecursion IsTokenItem xs → AllByRecursion (λ p. IsPieceText p.text) (pieces_after source place xs)
after source [] place e h = both IsPieceText of_slash (comments_at source place) (end_piece source ∷ []) (gap_all IsPieceText of_slash source place) (inl refl, tt)
after source (x ∷ xs) place e h = go (first_item (drop (start_of source place) source)) refl (λ next. after source xs (end_of x.span) next h.1)
  where
    go : (found : Option (Result Token Error × ℕ)) → first_item (drop (start_of source place) source) ≡ found → (items_from source (end_of x.span) ≡ xs → AllByRecursion (λ p. IsPieceText p.text) (pieces_after source (end_of x.span) xs))
        → AllByRecursion (λ p. IsPieceText p.text) (pieces_after source place (x ∷ xs))
    go None f later = let none : [] ≡ x ∷ xs = sym (items_none source place f) ∙ e in absurd cc
    go (Some found) f later =
        let same : made source place found ∷ items_from source (start_of source place + found.1) ≡ x ∷ xs = sym (items_some source place found f) ∙ e in
        let first : made source place found ≡ x = cc in
        let others : items_from source (start_of source place + found.1) ≡ xs = cc in
        let is : found.0 ≡ Ok h.0.0 = ap (λ (y : Item). y.token) first ∙ h.0.1 in
        let text : token_of x.text ≡ Some h.0.0 = ap (λ (y : Item). token_of y.text) (sym first) ∙ first_is (drop (start_of source place) source) found h.0.0 f is in
        let next : items_from source (end_of x.span) ≡ xs = ap (λ (y : Item). items_from source (end_of y.span)) (sym first) ∙ others in
        both IsPieceText of_slash (comments_at source place) (piece_of_item x ∷ pieces_after source (end_of x.span) xs) (gap_all IsPieceText of_slash source place) (inr (h.0.0, text), later next)

texts_all : (ps : List Piece) → AllByRecursion (λ p. IsPieceText p.text) ps → AllByRecursion IsPieceText (map (λ (p : Piece). p.text) ps)
texts_all [] h = tt
texts_all (p ∷ ps) h = (h.0, texts_all ps h.1)

-- so is each text that is printed
pub printed_known : (source : List ℕ) → AllByRecursion IsTokenItem (items source) → AllByRecursion IsPieceText (printed (texts source))
printed_known source h =
    all_printed IsPieceText (inr (tokens.OpenBrace, refl)) (inr (tokens.CloseBrace, refl)) (inr (tokens.Comma, refl)) (texts source) (texts_all (pieces source) (after source (items source) 0 refl h))
