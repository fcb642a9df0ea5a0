-- Where a production stops: after the parts that were read, one step per part.
use Rattle.std.proofs.Common.{◌≡◌, Bool, true, false, cond, ◌⊎◌, inl, inr, Some, List, [], ◌∷◌, ◌++◌, map, Result, Ok, Err, sym as back, refl, subst, ap, ◌∙◌}
use Rattle.wac_ast_base.proofs.Common.{IsErrAnd, Token, Item, Reading, left, Sym, TreeOf, Parts, Grammar, token, then, either, optional, docs, rule, at, read_is}
use Rattle.wac_ast_base.specs.declared.error.Error.{Error}
use Rattle.wac_ast_grammar.specs.Grammar.{sym}
use Rattle.wac_ast_grammar.specs.Reading.{Stop, Tried, can, refuse, read, read_in, read_token, at_one_of, not_fault, first, begins, other as why_other}
use Rattle.wac_ast_base.specs.Error.{told_by, no_memory}
use Rattle.wac_ast_base.specs.Lookahead.{Looked, looked, tried, told_of, Peeks}
use Rattle.wac_ast_base.specs.Lists.{tells}
use Rattle.wac_ast_base.specs.Answer.{End, end_of_input, told, plain, Fails, Gives, TakesOptional}
use Rattle.wac_ast_base.specs.Pieces.{PartOf, GivesPart}
use Rattle.wac_ast_base.proofs.Loops.{fails_bind}
use Rattle.wac_ast_base.proofs.Lookaheads.{Looks, tests, looks_on, looks_fail, one_test}
use Rattle.wac_ast_base.proofs.Lists.{never_fails}
use Rattle.wac_ast_base.proofs.Optional.{optional_there, optional_token, token_there, token_missing}

-- Reading by this grammar at this place, after these tokens were tried, stops where the error says.
pub record Stops (e : Error) (g : Grammar) (ts : List Tried) (l : Reading) : Type 0 where
  pub fails : Fails e (end_of_input l) (read_in read g ts (left l))

-- an error that a generic helper passed on as it is
pub same_error : {A : Type 0} (x : Error) (end : End) (r : Result A Stop) → ((e : Error) × (x ≡ e) × Fails e end r) → Fails x end r
same_error x end r (e, is, f) = subst (λ (y : Error). Fails y end r) (back is) f

-- ---- sequences

-- the part fails, and it is the last
pub last : {e : Error} {g : Grammar} {ts : List Tried} {l : Reading} → Fails e (end_of_input l) (read_in read g ts (left l)) → Stops e g ts l
last f = record { fails = f }

-- the part fails, and others would follow
pub here : {e : Error} {g h : Grammar} {ts : List Tried} {l : Reading} → Fails e (end_of_input l) (read_in read g ts (left l)) → Stops e (then g h) ts l
here {e = e} {l = l} f = record { fails = fails_bind e (end_of_input l) _ _ f }

-- the part was read
pub after : {e : Error} {g h : Grammar} {ts : List Tried} {l m : Reading} {t : Parts g} → read_in read g ts (left l) ≡ Ok (t, left m) → end_of_input m ≡ end_of_input l → Stops e h [] m → Stops e (then g h) ts l
after {e = e} {h = h} {l = l} {m = m} r same f = record { fails = rw r (fails_bind e (end_of_input l) _ _ (subst (λ (x : End). Fails e x (read_in read h [] (left m))) same f.fails)) }

-- a symbol was read
pub past : {e : Error} {s : Sym} {h : Grammar} {l m : Reading} {t : TreeOf s} → (read s (left l) ≡ Ok (t, left m)) × (end_of_input m ≡ end_of_input l) → Stops e h [] m → Stops e (then (sym s) h) [] l
past p f = after p.0 p.1 f

-- a token was taken
pub took : {e : Error} {k : Token} {h : Grammar} {l m : Reading} {x : Item} {P : Type 0} → (read_token [] k (left l) ≡ Ok (x, left m)) × P × (end_of_input m ≡ end_of_input l) → Stops e h [] m → Stops e (then (token k) h) [] l
took p f = after p.0 p.2 f

-- a piece was read
pub beyond : {e : Error} {g h : Grammar} {X Y E : Type 0} {of : Parts g → Y} {made : Error → E → Type 0} {view : X → Y} {x : X} {l m : Reading} → GivesPart g of made view (Ok x) l m → Stops e h [] m → Stops e (then g h) [] l
beyond p f = after p.part.1 p.part.3 f

-- a piece fails
pub last_piece : {g : Grammar} {X Y : Type 0} {of : Parts g → Y} {view : X → Y} {e : Error} {l m : Reading} → GivesPart g of (λ e x. x ≡ e) view (Err e) l m → Stops e g [] l
last_piece p = last (same_error _ _ _ p.part)

-- a piece fails, and other parts would follow
pub piece : {g h : Grammar} {X Y : Type 0} {of : Parts g → Y} {view : X → Y} {e : Error} {l m : Reading} → GivesPart g of (λ e x. x ≡ e) view (Err e) l m → Stops e (then g h) [] l
piece p = here (same_error _ _ _ p.part)

-- a list was read
pub listed : {e : Error} {s : Sym} {h : Grammar} {l m : Reading} {t : Item → TreeOf s} {P : Item → Type 0} → ((i : Item) × (read s (left l) ≡ Ok (t i, left m)) × P i × (end_of_input m ≡ end_of_input l)) → Stops e h [] m → Stops e (then (sym s) h) [] l
listed r f = after r.1 r.3 f

-- memory ran out
pub memory : {e : Error} {g : Grammar} {ts : List Tried} {l : Reading} → told_by e ≡ no_memory → Stops e g ts l
memory none = record { fails = inl none }

pub with_docs : {e : Error} {g : Grammar} {ts : List Tried} {l : Reading} → Stops e g ts l → Stops e (docs g) ts l
with_docs {e = e} {l = l} f = record { fails = fails_bind e (end_of_input l) _ _ f.fails }

-- ---- alternatives

-- a token alone is next
pub next : {found want : Bool} (k : Token) (xs : List Item) → found ≡ at k xs → found ≡ want → at_one_of (k ∷ []) xs ≡ want
next k xs is h = one_test k xs _ (back is ∙ h)

at_one : (k : Token) (xs : List Item) → at_one_of (k ∷ []) xs ≡ true → at k xs ≡ true
at_one k xs h = go (at k xs) h
  where
    go : (b : Bool) → cond b true false ≡ true → b ≡ true
    go true h = refl
    go false h = absurd cc

pub chosen : {e : Error} {loud : Bool} {g h : Grammar} {ts : List Tried} {l : Reading} → at_one_of (first g) (left l) ≡ true → Stops e g [] l → Stops e (either loud g h) ts l
chosen {e = e} {l = l} is f = record { fails = rw is (fails_bind e (end_of_input l) _ _ f.fails) }

pub other : {e : Error} {loud : Bool} {g h : Grammar} {ts : List Tried} {l : Reading} → at_one_of (first g) (left l) ≡ false → Stops e h (ts ++ cond loud (map can (first g)) []) l → Stops e (either loud g h) ts l
other {e = e} {l = l} is f = record { fails = rw is (fails_bind e (end_of_input l) _ _ f.fails) }

-- a lookahead finds the part
pub meets : {e : Error} {l : Reading} {loud : Bool} {g h : Grammar} {ts : List Tried} {ks : List Token} {look new : Looked} {found : Bool} → Looks l ks look → Peeks (first g) found look new → found ≡ true → Fails e (end_of_input l) (read_in read g [] (left l)) → Stops e (either loud g h) ts l
meets looks peeks is f = chosen (tests _ _ _ _ _ _ _ looks peeks is) (last f)

-- a lookahead does not find the part, and continues
pub misses : {e : Error} {l : Reading} {loud : Bool} {g h : Grammar} {ts : List Tried} {ks : List Token} {look new : Looked} {found : Bool} → Looks l ks look → Peeks (first g) found look new → found ≡ false → (Looks l (ks ++ first g) new → Stops e h (ts ++ cond loud (map can (first g)) []) l) → Stops e (either loud g h) ts l
misses looks peeks is f = other (tests _ _ _ _ _ _ _ looks peeks is) (f (looks_on _ _ _ _ _ _ looks peeks is))

-- a lookahead finds the last part, which fails
pub last_meets : {e : Error} {l : Reading} {s : Sym} {t : Tried} {ts : List Tried} {ks : List Token} {look new : Looked} {found : Bool} → Looks l ks look → Peeks (begins s) found look new → found ≡ true → Fails e (end_of_input l) (read s (left l)) → Stops e (sym s) (t ∷ ts) l
last_meets looks peeks is f = record { fails = rw (tests _ _ _ _ _ _ _ looks peeks is) f }

-- a lookahead does not find the last part either, and its error is the result
pub last_misses : {e : Error} {l : Reading} {s : Sym} {t : Tried} {ts : List Tried} {ks : List Token} {look new : Looked} {found : Bool} {a b : Token} {js : List Token} → Looks l ks look → Peeks (begins s) found look new → found ≡ false → told_by e ≡ told_of new
    → ks ++ begins s ≡ a ∷ b ∷ js → (t ∷ ts) ++ map can (begins s) ≡ map can (a ∷ b ∷ js) → told_of (tried (a ∷ b ∷ js) (looked l)) ≡ tells l.source l.last (left l) (a ∷ b ∷ js) → Stops e (sym s) (t ∷ ts) l
last_misses {e = e} {l = l} {new = new} {a = a} {b = b} {js = js} looks peeks is told names tokens tell =
    let on = subst (λ (n : List Token). Looks l n new) names (looks_on _ _ _ _ _ _ looks peeks is) in
    record { fails = looks_fail l a b js new e _ on told tell (rw (tests _ _ _ _ _ _ _ looks peeks is) (ap (λ (n : List Tried). refuse (left l) n) tokens)) }

-- the same where other parts follow the last one
pub last_misses_first : {e : Error} {l : Reading} {s : Sym} {h : Grammar} {t : Tried} {ts : List Tried} {ks : List Token} {look new : Looked} {found : Bool} {a b : Token} {js : List Token} → Looks l ks look → Peeks (begins s) found look new → found ≡ false → told_by e ≡ told_of new
    → ks ++ begins s ≡ a ∷ b ∷ js → (t ∷ ts) ++ map can (begins s) ≡ map can (a ∷ b ∷ js) → told_of (tried (a ∷ b ∷ js) (looked l)) ≡ tells l.source l.last (left l) (a ∷ b ∷ js) → Stops e (then (sym s) h) (t ∷ ts) l
last_misses_first {s = s} {t = t} {ts = ts} looks peeks is told names tokens tell = here (last_misses {s = s} {t = t} {ts = ts} looks peeks is told names tokens tell).fails

-- the same where the last part begins with a token
pub last_meets_token : {e : Error} {l : Reading} {k : Token} {h : Grammar} {t : Tried} {ts : List Tried} {x : Item} {P : Type 0} (m : Reading) → (read_token [] k (left l) ≡ Ok (x, left m)) × P × (end_of_input m ≡ end_of_input l) → Stops e h [] m → Stops e (then (token k) h) (t ∷ ts) l
last_meets_token {l = l} {k = k} {t = t} {ts = ts} {x = x} m taken f = after (token_there (t ∷ ts) k (left l) (x, left m) taken.0) taken.2 f

pub last_misses_token : {e : Error} {l : Reading} {k : Token} {h : Grammar} {t : Tried} {ts : List Tried} {ks : List Token} {look new : Looked} {found : Bool} {a b : Token} {js : List Token} → Looks l ks look → Peeks (k ∷ []) found look new → found ≡ false → told_by e ≡ told_of new
    → ks ++ k ∷ [] ≡ a ∷ b ∷ js → (t ∷ ts) ++ can k ∷ [] ≡ map can (a ∷ b ∷ js) → told_of (tried (a ∷ b ∷ js) (looked l)) ≡ tells l.source l.last (left l) (a ∷ b ∷ js) → Stops e (then (token k) h) (t ∷ ts) l
last_misses_token {e = e} {l = l} {k = k} {t = t} {ts = ts} {new = new} {a = a} {b = b} {js = js} looks peeks is told names tokens tell =
    let on = subst (λ (n : List Token). Looks l n new) names (looks_on _ _ _ _ _ _ looks peeks is) in
    here (looks_fail l a b js new e _ on told tell (token_missing (t ∷ ts) k (left l) (tests _ _ _ _ _ _ _ looks peeks is) ∙ ap (λ (n : List Tried). refuse (left l) n) tokens))

-- a token that was found fails only where memory runs out
pub found_fails : {e : Error} {g : Grammar} {ts : List Tried} {l : Reading} (k : Token) → plain k ≡ true → at_one_of (k ∷ []) (left l) ≡ true → Fails e (end_of_input l) (read_token [] k (left l)) → Stops e g ts l
found_fails k ok there f = record { fails = never_fails _ _ k _ _ ok (at_one k _ there) f }

-- ---- optional parts

-- a fault is in the token's place
pub no_option : {e : Error} {k : Token} {h : Grammar} {l : Reading} → (told_by e ≡ no_memory) ⊎ ((at k (left l) ≡ false) × (not_fault (left l) ≡ false) × ((ts : List Tried) → told (end_of_input l) (record { left = left l; expected = ts; why = why_other }) ≡ told_by e)) → Stops e (optional (then (token k) h)) [] l
no_option (inl memory) = record { fails = inl memory }
no_option {k = k} {l = l} (inr (missing, fault, tells)) = record { fails = rw (one_test k (left l) false missing, fault) (inr (ap Some (tells _))) }

-- the same of a token alone
pub no_word : {e : Error} {k : Token} {h : Grammar} {l : Reading} → (told_by e ≡ no_memory) ⊎ ((at k (left l) ≡ false) × (not_fault (left l) ≡ false) × ((ts : List Tried) → told (end_of_input l) (record { left = left l; expected = ts; why = why_other }) ≡ told_by e)) → Stops e (then (optional (token k)) h) [] l
no_word (inl memory) = here (inl memory)
no_word {k = k} {l = l} (inr (missing, fault, tells)) = here (rw (one_test k (left l) false missing, fault) (inr (ap Some (tells _))))

-- a token alone was looked for
pub word : {e : Error} {k : Token} {h : Grammar} {l : Reading} (b : Bool) (m : Reading) → TakesOptional k (Ok b) l m → Stops e h [] m → Stops e (then (optional (token k)) h) [] l
word {k = k} {l = l} b m taken f = let p = optional_token k b l m taken in after p.1 p.3 f

-- the token was taken
pub option : {e : Error} {k : Token} {h : Grammar} {l : Reading} {b : Bool} (m : Reading) → b ≡ true → TakesOptional k (Ok b) l m → Stops e h [] m → Stops e (optional (then (token k) h)) [] l
option {k = k} {l = l} {b = b} m there taken f = let word = optional_there k b l m taken there in chosen (one_test k (left l) true word.0) (took (word.1, tt {0}, word.2) f)

-- ---- results

-- a test that the code made
pub tested : {found is want : Bool} → found ≡ is → found ≡ want → is ≡ want
tested h t = back h ∙ t

-- a production stops
pub leaves : {e : Error} (s : Sym) (l : Reading) → Stops e (rule s) [] l → Fails e (end_of_input l) (read s (left l))
leaves {e = e} s l f = rw (read_is s (left l)) (fails_bind e (end_of_input l) _ _ f.fails)

-- an error that was passed on
pub passed : {X Y : Type 0} (e : Error) (view : X → Y) (r : Result X Error) (old new : Reading) (m : Result (Y × List Item) Stop) → IsErrAnd r (λ x. x ≡ e) → Fails e (end_of_input old) m → Gives view r old new m
passed e view (Ok x) old new m h f = absurd h
passed e view (Err x) old new m h f = subst (λ (y : Error). Fails y (end_of_input old) m) (back h) f

-- the same where a production stops
pub exits : {X : Type 0} {old : Reading} {e : Error} (s : Sym) (view : X → TreeOf s) (r : Result X Error) (new : Reading) → IsErrAnd r (λ x. x ≡ e) → Stops e (rule s) [] old → Gives view r old new (read s (left old))
exits {old = old} {e = e} s view r new h f = passed e view r old new (read s (left old)) h (leaves s old f)

-- and of a piece, whose error may have been made into another
pub part_exits : {X Y E : Type 0} {g : Grammar} {of : Parts g → Y} {made : Error → E → Type 0} {view : X → Y} {r : Result X E} {old new : Reading} (e : Error) → IsErrAnd r (made e) → Stops e g [] old → GivesPart g of made view r old new
part_exits {X = X} {E = E} {g = g} {of = of} {made = made} {view = view} {r = r} {old = old} {new = new} e h f = record { part = go r h }
  where
    go : (q : Result X E) → IsErrAnd q (made e) → PartOf g of made view q old new
    go (Ok x) h = absurd h
    go (Err x) h = (e, h, f.fails)
