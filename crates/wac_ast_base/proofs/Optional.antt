-- Parts that may be left out.
use Rattle.std.proofs.Common.{◌≡◌, Bool, true, false, cond, ◌++◌, List, [], ◌∷◌, inl, inr, Result, Ok, Err, refl, sym as back, ap, ◌∙◌}
use Rattle.wac_ast_base.proofs.Common.{Reading, left, Token, Item, at, is_token, valid, Stop, Tried, can, version, refuse, read, read_in, read_token, at_one_of, not_fault}
use Rattle.wac_ast_base.specs.declared.error.Error.{Error}
use Rattle.wac_ast_grammar.specs.Grammar as g
use Rattle.wac_ast_base.specs.Answer.{end_of_input, Gives, TakesOptional, first_item}
use Rattle.wac_ast_base.specs.Lists.{Reads}
use Rattle.wac_ast_base.proofs.Lookaheads.{one_test}
use Rattle.wac_ast_base.proofs.Lists.{same_fails, moved_end}

-- the token was there, and is taken
pub optional_there : (a : Token) (b : Bool) (old new : Reading) → TakesOptional a (Ok b) old new → b ≡ true → (at a (left old) ≡ true) × (read_token [] a (left old) ≡ Ok (first_item (left old), left new)) × (end_of_input new ≡ end_of_input old)
optional_there a true old new h e = h
optional_there a false old new h e = absurd cc

-- it was not, and no fault is in its place
pub optional_missing : (a : Token) (b : Bool) (old new : Reading) → TakesOptional a (Ok b) old new → b ≡ false → (at a (left old) ≡ false) × (not_fault (left old) ≡ true) × (new ≡ old)
optional_missing a true old new h e = absurd cc
optional_missing a false old new h e = h

-- a token alone that may be left out
pub optional_token : (a : Token) (b : Bool) (old new : Reading) → TakesOptional a (Ok b) old new
    → (p : g.Parts (g.optional (g.token a))) × (read_in read (g.optional (g.token a)) [] (left old) ≡ Ok (p, left new)) × (g.is_there p ≡ b) × (end_of_input new ≡ end_of_input old)
optional_token a true old new (h, r, e) = (inl (first_item (left old)), rw (one_test a (left old) true h, r) refl, refl, e)
optional_token a false old new (h, f, e) = (inr tt, rw (one_test a (left old) false h, f) (ap (λ (l : Reading). Ok (inr tt, left l)) (back e)), refl, ap end_of_input e)

pub same : {A : Type 0} (a b : A) → ◌≡◌ {A = Result A Stop} (Ok a) (Ok b) → a ≡ b
same a b h = cc

-- a result after what was taken
pub gives_after : {X Y : Type 0} (view : X → Y) (r : Result X Error) (old mid new : Reading) (m n : Reads Y) → n ≡ m → end_of_input mid ≡ end_of_input old → Gives view r mid new m → Gives view r old new n
gives_after view (Ok x) old mid new m n is ends gives = (is ∙ gives.0, gives.1 ∙ ends)
gives_after view (Err e) old mid new m n is ends gives = same_fails e (end_of_input old) n m is (moved_end e (end_of_input mid) (end_of_input old) m ends gives)

-- ---- a token after others that were tried

-- a token that is there, whatever was tried before it
pub token_there : (ts : List Tried) (k : Token) (xs : List Item) (r : Item × List Item) → read_token [] k xs ≡ Ok r → read_token ts k xs ≡ Ok r
token_there ts k [] r h = absurd cc
token_there ts k (x ∷ xs) r h = go (is_token k x.token) (valid k x.text) h
  where
    go : (b d : Bool) → cond {A = Result (Item × List Item) Stop} b (cond d (Ok (x, xs)) (Err (record { left = x ∷ xs; expected = can k ∷ []; why = version }))) (refuse (x ∷ xs) (can k ∷ [])) ≡ Ok r
        → cond {A = Result (Item × List Item) Stop} b (cond d (Ok (x, xs)) (Err (record { left = x ∷ xs; expected = can k ∷ []; why = version }))) (refuse (x ∷ xs) (ts ++ (can k ∷ []))) ≡ Ok r
    go true d h = h
    go false d h = absurd cc

pub token_missing : (ts : List Tried) (k : Token) (xs : List Item) → at_one_of (k ∷ []) xs ≡ false → read_token ts k xs ≡ refuse xs (ts ++ (can k ∷ []))
token_missing ts k [] h = refl
token_missing ts k (x ∷ xs) h = rw (none (is_token k x.token) h) refl
  where
    none : (b : Bool) → cond b true false ≡ false → b ≡ false
    none true h = absurd cc
    none false h = refl
