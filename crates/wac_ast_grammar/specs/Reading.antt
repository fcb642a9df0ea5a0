-- Reading from left to right with one item of lookahead: how the grammar is decided, and what a rejection names.
use Rattle.std.specs.Prelude.{ℕ, zero, suc, ◌+◌, ◌*◌, List, [], ◌∷◌, ◌++◌, length, map, Result, Ok, Err, Bool, true, false, cond}
use Rattle.std.proofs.Common.{inl, inr}
use Rattle.wac_lexer.specs.declared.token.Token.{Token}
use Rattle.wac_lexer.specs.Item.{Item}
use Rattle.wac_ast_grammar.specs.Tokens.{is_token, is_fault, valid, at}
use Rattle.wac_ast_grammar.specs.Grammar.{Sym, Body, After, anything, no_fault, one_among, Grammar, token, sym, then, either, nothing, to_end, docs, not_empty, more, or_told, rule, TreeOf, Parts, build, docs_of}

-- How a token that was looked for can occur at the place of a rejection.
pub data Standing : Type 0 where
  at_once : Standing
  -- it would close a body that is still empty
  closing : Standing
  -- where the input ends after an item of a comma list: after a comma
  after_comma : Standing

-- A token that was looked for.
pub record Tried : Type 0 where
  pub token : Token
  pub standing : Standing

abbrev pub can : Token → Tried
can k = record { token = k; standing = at_once }

abbrev pub closes : Token → Tried
closes k = record { token = k; standing = closing }

abbrev pub follows : Token → Tried
follows k = record { token = k; standing = after_comma }

pub data Why : Type 0 where
  -- another token, a fault or the end
  other : Why
  -- a body with no item
  empty_body : Body → Why
  -- a text that is no version
  version : Why
  -- reported at the item before
  told : Item → Why

-- Where reading stopped: the items from there on, the tokens that were looked for, in order, and why.
pub record Stop : Type 0 where
  pub left : List Item
  pub expected : List Tried
  pub why : Why

-- the item before, at which the rejection is reported, if it is
abbrev pub before : Why → List Item
before other = []
before (empty_body b) = []
before version = []
before (told x) = x ∷ []

abbrev pub refuse : {A : Type 0} → List Item → List Tried → Result A Stop
refuse xs ts = Err (record { left = xs; expected = ts; why = other })

infixl 10 ◌>>=◌
abbrev pub ◌>>=◌ : {A B : Type 0} → Result A Stop → (A → Result B Stop) → Result B Stop
(Ok x) >>= f = f x
(Err e) >>= f = Err e

abbrev pub mapped : {A B : Type 0} → (A → B) → Result (A × List Item) Stop → Result (B × List Item) Stop
mapped f m = m >>= λ a. Ok (f a.0, a.1)

abbrev pub pair_with : {A B : Type 0} → A → Result (B × List Item) Stop → Result ((A × B) × List Item) Stop
pair_with a m = mapped (λ b. (a, b)) m

-- one reading after the other
abbrev pub two : {A B : Type 0} → Result (A × List Item) Stop → (A → List Item → Result (B × List Item) Stop) → Result ((A × B) × List Item) Stop
two m f = m >>= λ a. pair_with a.0 (f a.0 a.1)

-- Of a grammar, where it is known of the symbols: whether the empty list derives it, and the tokens that its items begin
-- with.
abbrev pub is_empty_by : (Sym → Bool) → Grammar → Bool
is_empty_by known (token k) = false
is_empty_by known (sym s) = known s
is_empty_by known (then g h) = cond (is_empty_by known g) (is_empty_by known h) false
is_empty_by known (either loud g h) = cond (is_empty_by known g) true (is_empty_by known h)
is_empty_by known (nothing b) = true
is_empty_by known (to_end g) = true
is_empty_by known (docs g) = is_empty_by known g
is_empty_by known (not_empty e k g) = is_empty_by known g
is_empty_by known (more k s g) = is_empty_by known g
is_empty_by known (or_told g k h) = is_empty_by known g

-- at most n symbols deep
abbrev pub empty_by : ℕ → Sym → Bool
empty_by zero s = false
empty_by (suc n) s = is_empty_by (empty_by n) (rule s)

-- no rule begins with symbols that begin with symbols .. more than five deep
abbrev pub depth : ℕ
depth = 5

-- the symbols that the empty list derives
abbrev pub empty : Sym → Bool
empty s = empty_by depth s

abbrev pub is_empty : Grammar → Bool
is_empty g = is_empty_by empty g

abbrev pub first_by : (Sym → List Token) → Grammar → List Token
first_by known (token k) = k ∷ []
first_by known (sym s) = known s
first_by known (then g h) = cond (is_empty g) (first_by known g ++ first_by known h) (first_by known g)
first_by known (either loud g h) = first_by known g ++ first_by known h
first_by known (nothing b) = []
first_by known (to_end g) = first_by known g
first_by known (docs g) = first_by known g
first_by known (not_empty e k g) = first_by known g
first_by known (more k s g) = first_by known g
first_by known (or_told g k h) = first_by known g ++ (k ∷ [])

abbrev pub begins_by : ℕ → Sym → List Token
begins_by zero s = []
begins_by (suc n) s = first_by (begins_by n) (rule s)

-- a symbol's first tokens
abbrev pub begins : Sym → List Token
begins s = begins_by depth s

abbrev pub first : Grammar → List Token
first g = first_by begins g

-- the next item is one of these tokens
abbrev pub at_one_of : List Token → List Item → Bool
at_one_of [] xs = false
at_one_of (k ∷ ks) xs = cond (at k xs) true (at_one_of ks xs)

abbrev pub not_fault : List Item → Bool
not_fault [] = true
not_fault (x ∷ xs) = cond (is_fault x) false true

abbrev pub may_leave : After → List Item → Bool
may_leave anything xs = true
may_leave no_fault xs = not_fault xs
may_leave (one_among ks) xs = at_one_of ks xs

abbrev pub read_token : List Tried → Token → List Item → Result (Item × List Item) Stop
read_token tried k [] = refuse [] (tried ++ (can k ∷ []))
read_token tried k (x ∷ xs) = cond (is_token k x.token) (cond (valid k x.text) (Ok (x, xs)) (Err (record { left = x ∷ xs; expected = can k ∷ []; why = version }))) (refuse (x ∷ xs) (tried ++ (can k ∷ [])))

-- what follows an item, or a rejection that is reported at it
abbrev pub led : {A : Type 0} → List Token → List Tried → (List Item → Result (A × List Item) Stop) → Item → List Item → Result (A × List Item) Stop
led ks names f x xs = cond (at_one_of ks xs) (f xs) (Err (record { left = xs; expected = names; why = told x }))

abbrev pub read_sym : {A : Type 0} → (List Item → Result (A × List Item) Stop) → List Token → List Tried → List Item → Result (A × List Item) Stop
read_sym f ks [] xs = f xs
read_sym f ks (t ∷ ts) xs = cond (at_one_of ks xs) (f xs) (refuse xs ((t ∷ ts) ++ map can ks))

abbrev pub read_in : ((s : Sym) → List Item → Result (TreeOf s × List Item) Stop) → (g : Grammar) → List Tried → List Item → Result (Parts g × List Item) Stop
read_in rec (token k) tried xs = read_token tried k xs
read_in rec (sym s) tried xs = read_sym (rec s) (begins s) tried xs
read_in rec (then g h) tried xs = two (read_in rec g tried xs) (λ a. read_in rec h [])
read_in rec (either loud g h) tried xs = cond (at_one_of (first g) xs) (mapped inl (read_in rec g [] xs)) (mapped inr (read_in rec h (tried ++ cond loud (map can (first g)) []) xs))
read_in rec (nothing b) tried xs = cond (may_leave b xs) (Ok (tt, xs)) (refuse xs tried)
read_in rec (to_end g) tried [] = Ok (inl tt, [])
read_in rec (to_end g) tried (x ∷ xs) = mapped inr (read_in rec g [] (x ∷ xs))
read_in rec (docs g) tried xs = pair_with (docs_of xs) (read_in rec g tried xs)
read_in rec (not_empty e k g) tried xs = cond (at k xs) (Err (record { left = xs; expected = []; why = empty_body e })) (read_in rec g (tried ++ (closes k ∷ [])) xs)
read_in rec (more k s g) tried [] = refuse [] (can k ∷ map follows (begins s))
read_in rec (more k s g) tried (x ∷ xs) = read_in rec g tried (x ∷ xs)
read_in rec (or_told g k h) tried xs = cond (at_one_of (first g) xs) (mapped inl (read_in rec g [] xs)) (mapped inr (two (read_token (tried ++ map can (first g)) k xs) (led (first h) (map can (first g)) (read_in rec h []))))

abbrev pub built : (s : Sym) → Result (Parts (rule s) × List Item) Stop → Result (TreeOf s × List Item) Stop
built s r = mapped (build s) r

-- at most n symbols deep
abbrev pub read_by : ℕ → (s : Sym) → List Item → Result (TreeOf s × List Item) Stop
read_by zero s xs = refuse xs []
read_by (suc n) s xs = built s (read_in (read_by n) (rule s) [] xs)

-- deep enough for every symbol: before each item and at the end, symbols begin with symbols at most five deep
abbrev pub enough : List Item → ℕ
enough xs = length xs * depth + depth

unfoldable pub read : (s : Sym) → List Item → Result (TreeOf s × List Item) Stop
read s xs = read_by (suc (enough xs)) s xs
