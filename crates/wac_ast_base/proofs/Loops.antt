-- Loops: what was read so far, with what reading gives of the rest, is what reading gives of all.
use Rattle.wac_ast_base.proofs.Common.{◌≡◌, ◌≤◌, ◌⊎◌, inl, inr, arith, List, [], ◌∷◌, ◌++◌, Some, Result, Ok, Err, Bool, true, false, refl, ap, subst, ◌∙◌, append_assoc, Item, Reading, left, Stop, ◌>>=◌, mapped, two, read, at_one_of, begins, read_is}
use Rattle.std.proofs.Common.{sym}
use Rattle.std.proofs.lemmas.List.{append-nil}
use Rattle.wac_ast_base.specs.declared.error.Error.{Error}
use Rattle.wac_ast_grammar.specs.Grammar as g
use Rattle.wac_ast_base.specs.Answer.{End, end_of_input, told_in, Fails, has_more}

told_bind : {A B : Type 0} (end : End) (m : Result A Stop) (f : A → Result B Stop) (x : _) → told_in end m ≡ Some x → told_in end (m >>= f) ≡ Some x
told_bind end (Ok a) f x h = absurd cc
told_bind end (Err s) f x h = h

pub fails_bind : {A B : Type 0} (e : Error) (end : End) (m : Result A Stop) (f : A → Result B Stop) → Fails e end m → Fails e end (m >>= f)
fails_bind e end m f (inl memory) = inl memory
fails_bind e end m f (inr told) = inr (told_bind end m f _ told)

-- ---- items for as long as a test holds

-- rs reads items by ri while the test holds
pub record IsStar {A : Type 0} (go : List Item → Bool) (ri : List Item → Result (A × List Item) Stop) (rs : List Item → Result (List A × List Item) Stop) : Type 0 where
  pub some : (xs : List Item) → go xs ≡ true → rs xs ≡ (ri xs >>= λ a. mapped (λ l. a.0 ∷ l) (rs a.1))
  pub ended : (xs : List Item) → go xs ≡ false → rs xs ≡ Ok ([], xs)

-- these were read from the old place to the new one
pub record SoFar {A : Type 0} (rs : List Item → Result (List A × List Item) Stop) (front : List A) (old new : Reading) : Type 0 where
  pub read : mapped (λ l. front ++ l) (rs (left new)) ≡ rs (left old)
  pub ends : end_of_input new ≡ end_of_input old
  pub source : new.source ≡ old.source
  pub moves : old.place ≤ new.place

same_end : {A : Type 0} (e : Error) (a b : End) (m : Result A Stop) → a ≡ b → Fails e a m → Fails e b m
same_end e a b m eq h = subst (λ (x : End). Fails e x m) eq h

pub star_begins : {A : Type 0} (rs : List Item → Result (List A × List Item) Stop) (l : Reading) → SoFar rs [] l l
star_begins {A = A} rs l = record { read = go (rs (left l)); ends = refl; source = refl; moves = omega arith }
  where
    go : (m : Result (List A × List Item) Stop) → mapped (λ l. [] ++ l) m ≡ m
    go (Ok x) = refl
    go (Err s) = refl

pub star_goes_on : {A : Type 0} {go : List Item → Bool} {ri : List Item → Result (A × List Item) Stop} {rs : List Item → Result (List A × List Item) Stop} → IsStar go ri rs
    → (front : List A) (old mid new : Reading) (a : A) → SoFar rs front old mid → go (left mid) ≡ true → ri (left mid) ≡ Ok (a, left new) → end_of_input new ≡ end_of_input mid → new.source ≡ mid.source → mid.place ≤ new.place
    → SoFar rs (front ++ a ∷ []) old new
star_goes_on {A = A} {rs = rs} star front old mid new a so_far h r ends source moves =
    let one : rs (left mid) ≡ mapped (λ l. a ∷ l) (rs (left new)) = rw (star.some (left mid) h, r) refl in
    let e : mapped (λ l. front ++ l) (rs (left mid)) ≡ mapped (λ l. (front ++ a ∷ []) ++ l) (rs (left new)) = rw one (regroup (rs (left new))) in
    record { read = sym e ∙ so_far.read; ends = ends ∙ so_far.ends; source = source ∙ so_far.source; moves = let m = so_far.moves in omega arith }
  where
    regroup : (m : Result (List A × List Item) Stop) → mapped (λ l. front ++ l) (mapped (λ l. a ∷ l) m) ≡ mapped (λ l. (front ++ a ∷ []) ++ l) m
    regroup (Ok x) = ap (λ (l : List A). Ok (l, x.1)) (simp append_assoc)
    regroup (Err s) = refl

pub star_fails : {A : Type 0} {go : List Item → Bool} {ri : List Item → Result (A × List Item) Stop} {rs : List Item → Result (List A × List Item) Stop} → IsStar go ri rs
    → (e : Error) (front : List A) (old mid : Reading) → SoFar rs front old mid → go (left mid) ≡ true → Fails e (end_of_input mid) (ri (left mid)) → Fails e (end_of_input old) (rs (left old))
star_fails {A = A} {ri = ri} {rs = rs} star e front old mid so_far h f =
    let one : Fails e (end_of_input mid) (rs (left mid)) = rw (star.some (left mid) h) (fails_bind e (end_of_input mid) (ri (left mid)) (λ a. mapped (λ l. a.0 ∷ l) (rs a.1)) f) in
    let all : Fails e (end_of_input mid) (mapped (λ l. front ++ l) (rs (left mid))) = fails_bind e (end_of_input mid) (rs (left mid)) (λ a. Ok (front ++ a.0, a.1)) one in
    same_end e (end_of_input mid) (end_of_input old) (rs (left old)) so_far.ends (subst (λ (m : Result (List A × List Item) Stop). Fails e (end_of_input mid) m) so_far.read all)

pub star_ends : {A : Type 0} {go : List Item → Bool} {ri : List Item → Result (A × List Item) Stop} {rs : List Item → Result (List A × List Item) Stop} → IsStar go ri rs
    → (front : List A) (old new : Reading) → SoFar rs front old new → go (left new) ≡ false → (rs (left old) ≡ Ok (front, left new)) × (end_of_input new ≡ end_of_input old)
star_ends star front old new so_far h = (sym so_far.read ∙ rw (star.ended (left new) h) (ap (λ l. Ok (l, left new)) (append-nil front)), so_far.ends)

-- ---- the lists of the grammar

flat : {A : Type 0} (m : Result (A × List Item) Stop) (rs : List Item → Result (List A × List Item) Stop) → mapped (λ (p : A × List A). p.0 ∷ p.1) (two m (λ a. rs)) ≡ (m >>= λ a. mapped (λ l. a.0 ∷ l) (rs a.1))
flat {A = A} (Ok x) rs = last (rs x.1)
  where
    last : (m : Result (List A × List Item) Stop) → mapped (λ (p : A × List A). p.0 ∷ p.1) (mapped (λ b. (x.0, b)) m) ≡ mapped (λ l. x.0 ∷ l) m
    last (Ok y) = refl
    last (Err s) = refl
flat (Err s) rs = refl

-- a list that is built of the left alternative
left_of : {A : Type 0} (m : Result ((A × List A) × List Item) Stop) (f : ((A × List A) ⊎ Unit {0}) → List A) → ((p : A × List A) → f (inl p) ≡ p.0 ∷ p.1) → mapped f (mapped inl m) ≡ mapped (λ p. p.0 ∷ p.1) m
left_of {A = A} (Ok x) f h = ap (λ (l : List A). Ok (l, x.1)) (h x.0)
left_of (Err s) f h = refl

right_of : {A : Type 0} (m : Result ((A × List A) × List Item) Stop) (f : (Unit {0} ⊎ (A × List A)) → List A) → ((p : A × List A) → f (inr p) ≡ p.0 ∷ p.1) → mapped f (mapped inr m) ≡ mapped (λ p. p.0 ∷ p.1) m
right_of {A = A} (Ok x) f h = ap (λ (l : List A). Ok (l, x.1)) (h x.0)
right_of (Err s) f h = refl

pub statements_star : IsStar has_more (read g.statement) (read g.statements)
statements_star = record { some = some; ended = ended }
  where
    some : (xs : List Item) → has_more xs ≡ true → read g.statements xs ≡ (read g.statement xs >>= λ a. mapped (λ l. a.0 ∷ l) (read g.statements a.1))
    some [] h = absurd cc
    some (x ∷ xs) h = read_is g.statements (x ∷ xs) ∙ right_of (two (read g.statement (x ∷ xs)) (λ a. read g.statements)) (g.build g.statements) (λ p. refl) ∙ flat (read g.statement (x ∷ xs)) (read g.statements)

    ended : (xs : List Item) → has_more xs ≡ false → read g.statements xs ≡ Ok ([], xs)
    ended [] h = read_is g.statements []
    ended (x ∷ xs) h = absurd cc

pub postfixes_star : IsStar (at_one_of (begins g.postfix_expr)) (read g.postfix_expr) (read g.postfixes)
postfixes_star = record { some = some; ended = ended }
  where
    some : (xs : List Item) → at_one_of (begins g.postfix_expr) xs ≡ true → read g.postfixes xs ≡ (read g.postfix_expr xs >>= λ a. mapped (λ l. a.0 ∷ l) (read g.postfixes a.1))
    some xs h = read_is g.postfixes xs ∙ rw h (left_of (two (read g.postfix_expr xs) (λ a. read g.postfixes)) (g.build g.postfixes) (λ p. refl)) ∙ flat (read g.postfix_expr xs) (read g.postfixes)

    ended : (xs : List Item) → at_one_of (begins g.postfix_expr) xs ≡ false → read g.postfixes xs ≡ Ok ([], xs)
    ended xs h = read_is g.postfixes xs ∙ rw h refl
