-- Where the reading of an argument is rejected.
use Rattle.std.proofs.Common.{◌≡◌, ℕ, zero, suc, List, [], ◌∷◌, ◌++◌, Result, Ok, Err, Bool, true, false, refl, sym as back, ap, ◌∙◌, ◌⊎◌, inl, inr}
use Rattle.wac_ast_grammar.proofs.Common.{append-nil, Token, Item}
use Rattle.wac_lexer.specs.declared.token.Token.TheVariants as t
use Rattle.wac_ast_grammar.specs.Tokens.{is_token}
use Rattle.wac_ast_grammar.specs.Grammar.{argument, identifier, expr, rule, token, sym, or_told, ◌▸◌, perhaps, TreeOf, Parts, Grammar, build, DerivesIn, DerivesBy}
use Rattle.wac_ast_grammar.specs.Tree.{Ident}
use Rattle.wac_ast_grammar.specs.Reading.{Stop, can, other, read, read_in, at_one_of}
use Rattle.wac_ast_grammar.specs.Arguments.{IsAlone, CutShort}
use Rattle.wac_ast_grammar.specs.Stopped.{Stopped}
use Rattle.wac_ast_grammar.proofs.Fixed.{read_is}
use Rattle.wac_ast_grammar.proofs.Tables.{at_one_of_head, apart_not}
use Rattle.wac_ast_grammar.proofs.Complete.{Begins, begins_in, complete_in, by_begins, by_completes}
use Rattle.wac_ast_grammar.proofs.Refused.{stopped_in}

is_alone : (k : Token) (xs : List Item) → IsAlone k xs ⊎ (IsAlone k xs → ⊥)
is_alone k [] = inr (λ a. let e = a.1 in absurd cc)
is_alone k (x ∷ y ∷ xs) = inr (λ a. let e = a.1 in absurd cc)
is_alone k (x ∷ []) = go (is_token k x.token) refl
  where
    first_of : List Item → Item
    first_of [] = x
    first_of (z ∷ zs) = z

    go : (b : Bool) → is_token k x.token ≡ b → IsAlone k (x ∷ []) ⊎ (IsAlone k (x ∷ []) → ⊥)
    go true h = inl (x, refl, h)
    go false h = inr (λ a. let e : is_token k x.token ≡ true = ap (λ (z : Item). is_token k z.token) (ap first_of a.1) ∙ a.2 in absurd cc)

-- the dots alone, at the end of the input
dots_read : (x : Item) → is_token t.Ellipsis x.token ≡ true → read argument (x ∷ []) ≡ Err (record { left = []; expected = can t.Ident ∷ []; why = other })
dots_read x h = rw (read_is argument (x ∷ []), h) refl

cut_short : (xs : List Item) (stop : Stop) → IsAlone t.Ellipsis xs → read argument xs ≡ Err stop → CutShort xs stop
cut_short xs stop a e = (a, ap stop_of (back e ∙ ap (read argument) a.1 ∙ dots_read a.0 a.2))
  where
    stop_of : Result (TreeOf argument × List Item) Stop → Stop
    stop_of (Ok y) = stop
    stop_of (Err q) = q

-- the dots and an identifier
spread_read : (x y : Item) → is_token t.Ellipsis x.token ≡ true → is_token t.Ident y.token ≡ true → read argument (x ∷ y ∷ []) ≡ Ok (build argument (inl (x, inl (build identifier y))), [])
spread_read x y h i = rw (read_is argument (x ∷ y ∷ []), h, i, read_is identifier (y ∷ []), i) refl

-- what is derived is read, but for the dots alone
abbrev IsRead : List Item → Type 0
IsRead xs = (r : TreeOf argument × List Item) × (read argument xs ≡ Ok r)

spread : (n : ℕ) (xs : List Item) (dots : Item) (id : Ident) → DerivesIn (DerivesBy n) (token t.Ellipsis ▸ sym identifier) xs (dots, id) → IsRead xs
spread zero xs dots id d = absurd d.4
spread (suc n) xs dots id d =
    let e : xs ≡ dots ∷ d.4.0 ∷ [] = d.2 ∙ ap (λ (ys : List Item). ys ++ d.1) d.3.0 ∙ ap (λ (ys : List Item). dots ∷ ys) d.4.1.0 in
    ((build argument (inl (dots, inl (build identifier d.4.0))), []), ap (read argument) e ∙ spread_read dots d.4.0 d.3.1 d.4.1.1)

-- an argument that has no dots
abbrev plain : Grammar
plain = or_told (sym identifier ▸ perhaps (token t.Colon ▸ sym expr)) t.String (token t.Colon ▸ sym expr)

no_dots : (xs : List Item) → Begins false (t.Ident ∷ t.String ∷ []) xs → at_one_of (t.Ellipsis ∷ []) xs ≡ false
no_dots [] b = absurd cc
no_dots (x ∷ xs) b = at_one_of_head (t.Ellipsis ∷ []) x xs ∙ apart_not (t.Ident ∷ t.String ∷ []) (t.Ellipsis ∷ []) x refl b

plain_read : (n : ℕ) (xs : List Item) (p : Parts plain) → DerivesIn (DerivesBy n) plain xs p → IsRead xs
plain_read n xs p d =
    let none = no_dots xs (begins_in (DerivesBy n) (by_begins n) plain xs p d) in
    let parts : read_in read plain (can t.Ellipsis ∷ []) xs ≡ Ok (p, []) = ap (read_in read plain (can t.Ellipsis ∷ [])) (back (append-nil xs)) ∙ complete_in (DerivesBy n) read (by_begins n) (by_completes n) plain (can t.Ellipsis ∷ []) xs p [] refl refl d refl in
    ((build argument (inr p), []), rw (read_is argument xs, none, parts) refl)

read_or_dots : (n : ℕ) (xs : List Item) (u : TreeOf argument) → DerivesBy n argument xs u → IsAlone t.Ellipsis xs ⊎ IsRead xs
read_or_dots zero xs u d = absurd d
read_or_dots (suc n) xs u d = go d.0 d.1
  where
    go : (p : Parts (rule argument)) → DerivesIn (DerivesBy n) (rule argument) xs p → IsAlone t.Ellipsis xs ⊎ IsRead xs
    go (inl (dots, inl id)) d = inr (spread n xs dots id d)
    go (inl (dots, inr _)) d = inl (dots, d.2 ∙ ap (λ (ys : List Item). ys ++ d.1) d.3.0 ∙ ap (λ (ys : List Item). dots ∷ ys) d.4, d.3.1)
    go (inr p) d = inr (plain_read n xs p d)

-- AN ARGUMENT IS REJECTED at its first fault, or it is cut short
pub stopped_argument : (xs : List Item) (stop : Stop) → read argument xs ≡ Err stop → Stopped argument xs stop ⊎ CutShort xs stop
stopped_argument xs stop h = go (is_alone t.Ellipsis xs)
  where
    go : IsAlone t.Ellipsis xs ⊎ (IsAlone t.Ellipsis xs → ⊥) → Stopped argument xs stop ⊎ CutShort xs stop
    go (inl a) = inr (cut_short xs stop a h)
    go (inr n) = inl (stopped_in argument xs stop h (λ e u d. none (read_or_dots d.0 xs u d.1)))
      where
        none : IsAlone t.Ellipsis xs ⊎ IsRead xs → ⊥
        none (inl a) = n a
        none (inr r) = let k = back r.1 ∙ h in absurd cc
