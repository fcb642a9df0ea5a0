-- What a production gives: its parts in order, one step per part.
use Rattle.wac_ast_base.proofs.Common.{◌≡◌, Bool, true, false, cond, List, [], ◌∷◌, ◌++◌, map, Ok, inl, inr, refl, ap, ◌∙◌, Token, Item, Doc, OnFirst, Reading, left, Tried, can, read, read_in, read_token, at_one_of, first, begins, empty, read_is}
use Rattle.wac_ast_grammar.specs.Grammar.{Sym, TreeOf, Parts, Grammar, token, sym, then, either, optional, nothing as no_part, anything, docs, rule, build, docs_of}
use Rattle.wac_ast_base.specs.Lookahead.{Looked, Peeks}
use Rattle.wac_ast_base.specs.Answer.{end_of_input, first_item, TakesOptional}
use Rattle.wac_ast_base.specs.Pieces.{GivesPart}
use Rattle.wac_ast_base.specs.declared.error.Error.{Error}
use Rattle.wac_ast_grammar.proofs.Docs.{docs_of_token, docs_of_sym}
use Rattle.wac_ast_base.proofs.Lookaheads.{Looks, tests, looks_on, one_test}
use Rattle.wac_ast_base.proofs.Optional.{optional_there, optional_missing, token_there}

-- Reading by this grammar at this place, after these tokens were tried, gives these parts and ends at that place.
pub record Yields (g : Grammar) (ts : List Tried) (l : Reading) (p : Parts g) (m : Reading) : Type 0 where
  pub reads : read_in read g ts (left l) ≡ Ok (p, left m)
  pub ends : end_of_input m ≡ end_of_input l

-- ---- sequences

-- the last part
pub last : {g : Grammar} {ts : List Tried} {l m : Reading} {p : Parts g} → (read_in read g ts (left l) ≡ Ok (p, left m)) × (end_of_input m ≡ end_of_input l) → Yields g ts l p m
last r = record { reads = r.0; ends = r.1 }

-- a token is the last part
pub last_took : {k : Token} {l m : Reading} {x : Item} {P : Type 0} → (read_token [] k (left l) ≡ Ok (x, left m)) × P × (end_of_input m ≡ end_of_input l) → Yields (token k) [] l x m
last_took r = record { reads = r.0; ends = r.2 }

-- a piece is the last part
pub last_piece : {g : Grammar} {X Y E : Type 0} {of : Parts g → Y} {made : Error → E → Type 0} {view : X → Y} {x : X} {l m : Reading} (p : GivesPart g of made view (Ok x) l m) → Yields g [] l p.part.0 m
last_piece p = record { reads = p.part.1; ends = p.part.3 }

-- a part, and others after it
pub both : {g h : Grammar} {ts : List Tried} {l m n : Reading} {p : Parts g} {q : Parts h} → Yields g ts l p m → Yields h [] m q n → Yields (then g h) ts l (p, q) n
both a b = record { reads = rw (a.reads, b.reads) refl; ends = b.ends ∙ a.ends }

-- a symbol, and others after it
pub past : {s : Sym} {h : Grammar} {l m n : Reading} {p : TreeOf s} {q : Parts h} → (read s (left l) ≡ Ok (p, left m)) × (end_of_input m ≡ end_of_input l) → Yields h [] m q n → Yields (then (sym s) h) [] l (p, q) n
past {s = s} r b = both (last {g = sym s} r) b

-- a token, and others after it
pub took : {k : Token} {h : Grammar} {l m n : Reading} {x : Item} {q : Parts h} {P : Type 0} → (read_token [] k (left l) ≡ Ok (x, left m)) × P × (end_of_input m ≡ end_of_input l) → Yields h [] m q n → Yields (then (token k) h) [] l (x, q) n
took r b = both (last_took r) b

-- a piece, and others after it
pub beyond : {g h : Grammar} {X Y E : Type 0} {of : Parts g → Y} {made : Error → E → Type 0} {view : X → Y} {x : X} {l m n : Reading} {q : Parts h} (p : GivesPart g of made view (Ok x) l m) → Yields h [] m q n → Yields (then g h) [] l (p.part.0, q) n
beyond p b = both (last_piece p) b

-- a list is the last part
pub last_listed : {s : Sym} {l m : Reading} {t : Item → TreeOf s} {P : Item → Type 0} (r : (i : Item) × (read s (left l) ≡ Ok (t i, left m)) × P i × (end_of_input m ≡ end_of_input l)) → Yields (sym s) [] l (t r.0) m
last_listed r = record { reads = r.1; ends = r.3 }

-- a list, and others after it
pub listed : {s : Sym} {h : Grammar} {l m n : Reading} {q : Parts h} {t : Item → TreeOf s} {P : Item → Type 0} (r : (i : Item) × (read s (left l) ≡ Ok (t i, left m)) × P i × (end_of_input m ≡ end_of_input l)) → Yields h [] m q n → Yields (then (sym s) h) [] l (t r.0, q) n
listed {s = s} r b = both {g = sym s} (last_listed r) b

-- ---- docs

-- with the docs of the first item
documented : {g : Grammar} {l m : Reading} {p : Parts g} {ds : List Doc} → docs_of (left l) ≡ ds → Yields g [] l p m → Yields (docs g) [] l (ds, p) m
documented d a = record { reads = rw (d, a.reads) refl; ends = a.ends }

-- of a token that was taken
pub docs_took : {k : Token} {h : Grammar} {l m n : Reading} {x : Item} {q : Parts h} {P : Type 0} {ds : List Doc} → OnFirst (left l) (λ x. x.docs ≡ ds) → (read_token [] k (left l) ≡ Ok (x, left m)) × P × (end_of_input m ≡ end_of_input l) → Yields h [] m q n → Yields (docs (then (token k) h)) [] l (ds, (x, q)) n
docs_took d r b = documented (docs_of_token _ _ _ _ _ d r.0) (took r b)

-- of a symbol that was read
pub docs_past : {s : Sym} {h : Grammar} {l m n : Reading} {p : TreeOf s} {q : Parts h} {ds : List Doc} → OnFirst (left l) (λ x. x.docs ≡ ds) → (read s (left l) ≡ Ok (p, left m)) × (end_of_input m ≡ end_of_input l) → empty s ≡ false → Yields h [] m q n → Yields (docs (then (sym s) h)) [] l (ds, (p, q)) n
docs_past {s = s} d r some b = documented (docs_of_sym s _ _ _ _ d r.0 some) (past r b)

-- of a symbol alone
pub docs_last : {s : Sym} {l m : Reading} {p : TreeOf s} {ds : List Doc} → OnFirst (left l) (λ x. x.docs ≡ ds) → (read s (left l) ≡ Ok (p, left m)) × (end_of_input m ≡ end_of_input l) → empty s ≡ false → Yields (docs (sym s)) [] l (ds, p) m
docs_last {s = s} d r some = documented (docs_of_sym s _ _ _ _ d r.0 some) (last {g = sym s} r)

-- ---- alternatives

pub chosen : {l m : Reading} {loud : Bool} {g h : Grammar} {ts : List Tried} {p : Parts g} → at_one_of (first g) (left l) ≡ true → Yields g [] l p m → Yields (either loud g h) ts l (inl p) m
chosen is r = record { reads = rw (is, r.reads) refl; ends = r.ends }

pub other : {l m : Reading} {loud : Bool} {g h : Grammar} {ts : List Tried} {p : Parts h} → at_one_of (first g) (left l) ≡ false → Yields h (ts ++ cond loud (map can (first g)) []) l p m → Yields (either loud g h) ts l (inr p) m
other is r = record { reads = rw (is, r.reads) refl; ends = r.ends }

pub nothing : {l : Reading} {ts : List Tried} → Yields (no_part anything) ts l tt l
nothing = record { reads = refl; ends = refl }

-- a lookahead finds the part
pub meets : {l m : Reading} {loud : Bool} {g h : Grammar} {ts : List Tried} {ks : List Token} {look new : Looked} {found : Bool} {p : Parts g} → Looks l ks look → Peeks (first g) found look new → found ≡ true → (read_in read g [] (left l) ≡ Ok (p, left m)) × (end_of_input m ≡ end_of_input l) → Yields (either loud g h) ts l (inl p) m
meets looks peeks is r = record { reads = rw (tests _ _ _ _ _ _ _ looks peeks is, r.0) refl; ends = r.1 }

-- a lookahead does not find the part, and continues
pub misses : {l m : Reading} {loud : Bool} {g h : Grammar} {ts : List Tried} {ks : List Token} {look new : Looked} {found : Bool} {p : Parts h} → Looks l ks look → Peeks (first g) found look new → found ≡ false → (Looks l (ks ++ first g) new → Yields h (ts ++ cond loud (map can (first g)) []) l p m) → Yields (either loud g h) ts l (inr p) m
misses looks peeks is f = let r = f (looks_on _ _ _ _ _ _ looks peeks is) in record { reads = rw (tests _ _ _ _ _ _ _ looks peeks is, r.reads) refl; ends = r.ends }

-- a lookahead finds the last part
pub last_meets : {l m : Reading} {s : Sym} {t : Tried} {ts : List Tried} {ks : List Token} {look new : Looked} {found : Bool} {p : TreeOf s} → Looks l ks look → Peeks (begins s) found look new → found ≡ true → (read s (left l) ≡ Ok (p, left m)) × (end_of_input m ≡ end_of_input l) → Yields (sym s) (t ∷ ts) l p m
last_meets looks peeks is r = record { reads = rw (tests _ _ _ _ _ _ _ looks peeks is, r.0) refl; ends = r.1 }

-- the same where the last part begins with a token
pub last_meets_token : {l n : Reading} {k : Token} {h : Grammar} {t : Tried} {ts : List Tried} {x : Item} {P : Type 0} {q : Parts h} (m : Reading) → (read_token [] k (left l) ≡ Ok (x, left m)) × P × (end_of_input m ≡ end_of_input l) → Yields h [] m q n → Yields (then (token k) h) (t ∷ ts) l (x, q) n
last_meets_token {l = l} {k = k} {t = t} {ts = ts} {x = x} m taken r = both {g = token k} (record { reads = token_there (t ∷ ts) k (left l) (x, left m) taken.0; ends = taken.2 }) r

-- ---- optional parts

-- the token was taken
pub option : {k : Token} {h : Grammar} {l n : Reading} {q : Parts h} {b : Bool} (m : Reading) → b ≡ true → TakesOptional k (Ok b) l m → Yields h [] m q n → Yields (optional (then (token k) h)) [] l (inl (first_item (left l), q)) n
option {k = k} {l = l} {b = b} m there taken y =
    let word = optional_there k b l m taken there in
    let all = took (word.1, tt {0}, word.2) y in
    record { reads = rw (one_test k (left l) true word.0, all.reads) refl; ends = all.ends }

-- it is not there
pub no_option : {k : Token} {h : Grammar} {l m : Reading} {b : Bool} → b ≡ false → TakesOptional k (Ok b) l m → Yields (optional (then (token k) h)) [] l (inr tt) m
no_option {k = k} {l = l} {m = m} {b = b} missing taken =
    let word = optional_missing k b l m taken missing in
    record { reads = rw (one_test k (left l) false word.0, word.1, word.2) refl; ends = ap end_of_input word.2 }

-- ---- results

-- the tree of what was read
pub gives : {l m : Reading} (s : Sym) {p : Parts (rule s)} {tree : TreeOf s} → Yields (rule s) [] l p m → build s p ≡ tree → (read s (left l) ≡ Ok (tree, left m)) × (end_of_input m ≡ end_of_input l)
gives {l = l} {m = m} s r is = (rw (read_is s (left l), r.reads) (ap (λ (x : TreeOf s). Ok (x, left m)) is), r.ends)

-- a piece of a production
pub part : {g : Grammar} {X Y E : Type 0} {of : Parts g → Y} {made : Error → E → Type 0} {view : X → Y} {x : X} {l m : Reading} {p : Parts g} → Yields g [] l p m → of p ≡ view x → GivesPart g of made view (Ok x) l m
part {p = p} r is = record { part = (p, r.reads, is, r.ends) }
