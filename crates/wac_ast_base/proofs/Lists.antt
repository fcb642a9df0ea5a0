-- Loops over the items of a list.
use Rattle.std.proofs.Common.{◌≡◌, ◌≤◌, ◌<◌, arith, ℕ, List, [], ◌∷◌, ◌++◌, length, map, Result, Ok, Err, Some, Bool, true, false, cond, refl, sym as back, ap, subst, ◌∙◌, inl, inr, append_assoc}
use Rattle.std.proofs.lemmas.List.{append-nil}
use Rattle.wac_ast_base.proofs.Common.{Item, Span, Reading, left, Token, is_token, at, valid, Sym, Listed, listed, listed_more, IsErrAnd, read_is, takes_some}
use Rattle.wac_lexer.specs.declared.token.Token.TheVariants as t
use Rattle.wac_ast_base.specs.declared.error.Error.{Error}
use Rattle.wac_ast_grammar.specs.Grammar as g
use Rattle.wac_ast_grammar.specs.Reading.{Stop, can, closes as closing, follows, version, refuse, mapped, two, pair_with, read, read_in, read_token, read_sym, at_one_of, begins, empty}
use Rattle.wac_ast_base.specs.Answer.{End, end_of_input, told, told_in, Fails, has_more, plain}
use Rattle.wac_ast_base.specs.Error.{told_by}
use Rattle.wac_ast_base.specs.Lookahead.{looked, tried, told_of}
use Rattle.wac_ast_base.proofs.Lookaheads.{no_item_fails, over_fails}
use Rattle.wac_ast_base.specs.Lists.{GivesBy, TakesListBy, GoesOn, Reads, list_by, rest_by, IsCommaList, IsList, unclosed, closes, list_of, more_of, repeats, body_of}
use Rattle.wac_ast_base.proofs.Loops.{fails_bind}

pub same_fails : {A : Type 0} (e : Error) (end : End) (m n : Result A Stop) → m ≡ n → Fails e end n → Fails e end m
same_fails {A = A} e end m n h f = subst (λ (r : Result A Stop). Fails e end r) (back h) f

cond_true : {A : Type 0} (b : Bool) (x y : A) → b ≡ true → cond b x y ≡ x
cond_true b x y h = ap (λ (c : Bool). cond c x y) h

cond_false : {A : Type 0} (b : Bool) (x y : A) → b ≡ false → cond b x y ≡ y
cond_false b x y h = ap (λ (c : Bool). cond c x y) h

plain_valid : (k : Token) (text : List ℕ) → plain k ≡ true → valid k text ≡ true
plain_valid t.PackageName text p = absurd cc
plain_valid t.PackagePath text p = absurd cc
plain_valid _ text p = refl

pub taken : (k : Token) (x : Item) (xs : List Item) → plain k ≡ true → at k (x ∷ xs) ≡ true → read_token [] k (x ∷ xs) ≡ Ok (x, xs)
taken k x xs p h = rw (h, plain_valid k x.text p) refl

abbrev pub put : {A : Type 0} → A → Listed A → Listed A
put a l = (a ∷ l.0, l.1)

-- these were read from the old place to the new one
pub record ListSoFar {A : Type 0} (list : List Item → Reads (Listed A)) (front : List A) (old new : Reading) : Type 0 where
  pub read : mapped {A = Listed A} {B = Listed A} (λ l. (front ++ l.0, l.1)) (list (left new)) ≡ list (left old)
  pub ends : end_of_input new ≡ end_of_input old
  pub source : new.source ≡ old.source
  pub moves : old.place ≤ new.place

put_all : {A : Type 0} (front : List A) (a : A) (m : Reads (Listed A)) → mapped {B = Listed A} (λ (l : Listed A). (front ++ l.0, l.1)) (mapped {A = Listed A} {B = Listed A} (put a) m) ≡ mapped {B = Listed A} (λ (l : Listed A). ((front ++ a ∷ []) ++ l.0, l.1)) m
put_all {A = A} front a (Ok x) = ap (λ (l : List A). Ok ((l, x.0.1), x.1)) (back (append_assoc front (a ∷ []) x.0.0))
put_all front a (Err s) = refl

nothing_put : {A : Type 0} (m : Reads (Listed A)) → mapped {B = Listed A} (λ (l : Listed A). ([] ++ l.0, l.1)) m ≡ m
nothing_put (Ok x) = refl
nothing_put (Err s) = refl

pub list_begins : {A : Type 0} (list : List Item → Reads (Listed A)) (l : Reading) → ListSoFar list [] l l
list_begins list l = record { read = nothing_put (list (left l)); ends = refl; source = refl; moves = omega arith }

pub moved_end : {A : Type 0} (e : Error) (a b : End) (m : Result A Stop) → a ≡ b → Fails e a m → Fails e b m
moved_end e a b m eq h = subst (λ (x : End). Fails e x m) eq h

-- a failure after what was read so far
pub list_fails : {A : Type 0} (e : Error) (list : List Item → Reads (Listed A)) (front : List A) (old mid : Reading) → ListSoFar list front old mid → Fails e (end_of_input mid) (list (left mid)) → Fails e (end_of_input old) (list (left old))
list_fails {A = A} e list front old mid so_far f =
    moved_end e (end_of_input mid) (end_of_input old) (list (left old)) so_far.ends
    (subst (λ (m : Reads (Listed A)). Fails e (end_of_input mid) m) so_far.read (fails_bind e (end_of_input mid) (list (left mid)) (λ l. Ok ((front ++ l.0.0, l.0.1), l.1)) f))

-- the end of the list after what was read so far
pub list_ends : {A : Type 0} (list : List Item → Reads (Listed A)) (front : List A) (old mid : Reading) (last : Item) (xs : List Item) → ListSoFar list front old mid → list (left mid) ≡ Ok (([], last), xs) → list (left old) ≡ Ok ((front, last), xs)
list_ends {A = A} list front old mid last xs so_far h = back so_far.read ∙ ap (mapped {B = Listed A} (λ (l : Listed A). (front ++ l.0, l.1))) h ∙ ap (λ (l : List A). Ok ((l, last), xs)) (append-nil front)

-- one more item
pub list_more : {A : Type 0} (list : List Item → Reads (Listed A)) (front : List A) (old mid new : Reading) (a : A) → ListSoFar list front old mid → list (left mid) ≡ mapped {A = Listed A} {B = Listed A} (put a) (list (left new)) → end_of_input new ≡ end_of_input mid → new.source ≡ mid.source → mid.place ≤ new.place → ListSoFar list (front ++ a ∷ []) old new
list_more {A = A} list front old mid new a so_far h ends source moves =
    record {
      read = back (put_all front a (list (left new))) ∙ ap (mapped {B = Listed A} (λ (l : Listed A). (front ++ l.0, l.1))) (back h) ∙ so_far.read;
      ends = ends ∙ so_far.ends;
      source = source ∙ so_far.source;
      moves = let m = so_far.moves in omega arith;
    }

-- ---- one step of a comma list

step_put : {A : Type 0} (a : A) (m : Reads (Listed A)) → mapped {A = A × Listed A} {B = Listed A} (λ p. (p.0 ∷ p.1.0, p.1.1)) (pair_with a m) ≡ mapped {A = Listed A} {B = Listed A} (put a) m
step_put a (Ok y) = refl
step_put a (Err s) = refl

after_comma : {A : Type 0} (x : Item) (m : Reads (Listed A)) → mapped {A = Item × Listed A} {B = Listed A} (λ p. p.1) (pair_with x m) ≡ m
after_comma x (Ok y) = refl
after_comma x (Err s) = refl

module _ {A : Type 0} {k : Token} {ks : List Token} {ri : List Item → Reads A} {rl rm : List Item → Reads (Listed A)} where
  pub list_shut : IsList k ks ri rl rm → (xs : List Item) (x : Item) (rest : List Item) → read_token [] k xs ≡ Ok (x, rest) → at k xs ≡ true → rl xs ≡ Ok (([], x), rest)
  list_shut list xs x rest r h = list.items xs ∙ cond_true (at k xs) _ _ h ∙ ap (mapped {A = Item} {B = Listed A} (λ z. ([], z))) r

  pub list_open : IsList k ks ri rl rm → (xs : List Item) → at k xs ≡ false → rl xs ≡ mapped {A = A × Listed A} {B = Listed A} (λ p. (p.0 ∷ p.1.0, p.1.1)) (two (read_sym ri ks (can k ∷ []) xs) (λ a. rm))
  list_open list xs h = list.items xs ∙ cond_false (at k xs) _ _ h

  -- an item fails, or there is none
  pub item_fails : (e : Error) (end : End) (xs : List Item) → IsList k ks ri rl rm → at k xs ≡ false → Fails e end (read_sym ri ks (can k ∷ []) xs) → Fails e end (rl xs)
  item_fails e end xs list h f = same_fails e end (rl xs) _ (list_open list xs h) (fails_bind e end _ _ (fails_bind e end (read_sym ri ks (can k ∷ []) xs) _ f))

  -- an item is read
  pub item_put : {a : A} {xs ys : List Item} → IsList k ks ri rl rm → at k xs ≡ false → read_sym ri ks (can k ∷ []) xs ≡ Ok (a, ys) → rl xs ≡ mapped {A = Listed A} {B = Listed A} (put a) (rm ys)
  item_put {a = a} {xs = xs} {ys = ys} list h r = list_open list xs h ∙ rw r (step_put a (rm ys))

  pub rest_closed : IsCommaList k ks ri rl rm → (ys : List Item) → at k ys ≡ true → rm ys ≡ rl ys
  rest_closed list [] h = absurd cc
  rest_closed list (y ∷ ys) h = list.rest (y ∷ ys) ∙ cond_true (at k (y ∷ ys)) _ _ h ∙ back (list.is_list.items (y ∷ ys) ∙ cond_true (at k (y ∷ ys)) _ _ h)

  pub rest_comma : IsCommaList k ks ri rl rm → (ys : List Item) (x : Item) (zs : List Item) → at k ys ≡ false → read_token [] t.Comma ys ≡ Ok (x, zs) → rm ys ≡ rl zs
  rest_comma list [] x zs h r = absurd cc
  rest_comma list (y ∷ ys) x zs h r = list.rest (y ∷ ys) ∙ cond_false (at k (y ∷ ys)) _ _ h ∙ ap (λ (m : Reads Item). mapped {A = Item × Listed A} {B = Listed A} (λ p. p.1) (two m (λ a. rl))) r ∙ after_comma x (rl zs)

  pub rest_fails : IsCommaList k ks ri rl rm → (e : Error) (end : End) (ys : List Item) → at k ys ≡ false → has_more ys ≡ true → Fails e end (read_token [] t.Comma ys) → Fails e end (rm ys)
  rest_fails list e end [] h m f = absurd cc
  rest_fails list e end (y ∷ ys) h m f = same_fails e end (rm (y ∷ ys)) _ (list.rest (y ∷ ys) ∙ cond_false (at k (y ∷ ys)) _ _ h) (fails_bind e end _ _ (fails_bind e end (read_token [] t.Comma (y ∷ ys)) _ f))

  pub rest_over : IsCommaList k ks ri rl rm → (ys : List Item) → has_more ys ≡ false → rm ys ≡ refuse ys (can k ∷ map follows ks)
  rest_over list [] h = list.rest []
  rest_over list (y ∷ ys) h = absurd cc

  -- one more item, after which the list continues
  pub list_goes_on : {front : List A} {old mid new : Reading} {a : A} (after : Reading) → IsList k ks ri rl rm → ListSoFar rl front old mid → at k (left mid) ≡ false
      → (read_sym ri ks (can k ∷ []) (left mid) ≡ Ok (a, left after)) × (end_of_input after ≡ end_of_input mid) → after.source ≡ mid.source → mid.place ≤ after.place
      → (rm (left after) ≡ rl (left new)) × (end_of_input new ≡ end_of_input after) → new.source ≡ after.source → after.place ≤ new.place → ListSoFar rl (front ++ a ∷ []) old new
  list_goes_on {front = front} {old = old} {mid = mid} {new = new} {a = a} after list so_far h r source moves on source_on moves_on =
      let m : mid.place ≤ new.place = omega arith in
      list_more rl front old mid new a so_far (item_put list h r.0 ∙ ap (mapped {A = Listed A} {B = Listed A} (put a)) on.0) (on.1 ∙ r.1) (source_on ∙ source) m

  -- the closing token after what was read so far
  pub list_closed : {front : List A} {old new : Reading} → IsList k ks ri rl rm → plain k ≡ true → ListSoFar rl front old new → at k (left new) ≡ true → (unclosed (rl (left old)) ≡ Ok (front, left new)) × (end_of_input new ≡ end_of_input old)
  list_closed {front = front} {old = old} {new = new} list ok so_far h = (go (left new) refl h, so_far.ends)
    where
      go : (xs : List Item) → left new ≡ xs → at k xs ≡ true → unclosed (rl (left old)) ≡ Ok (front, left new)
      go [] e h = absurd cc
      go (x ∷ xs) e h =
          let r : rl (left new) ≡ Ok (([], x), xs) = ap rl e ∙ list_shut list (x ∷ xs) x xs (taken k x xs ok h) h in
          ap unclosed (list_ends rl front old new x xs so_far r) ∙ ap (λ (us : List Item). Ok (front, us)) (back e)

-- ---- the comma lists of the grammar

one_test : (k : Token) (xs : List Item) → at_one_of (k ∷ []) xs ≡ at k xs
one_test k xs = go (at k xs)
  where
    go : (b : Bool) → cond b true false ≡ b
    go true = refl
    go false = refl

twice : {A B C : Type 0} (f : A → B) (g : B → C) (h : A → C) → ((a : A) → g (f a) ≡ h a) → (m : Result (A × List Item) Stop) → mapped g (mapped f m) ≡ mapped h m
twice {C = C} f g h e (Ok x) = ap (λ (c : C). Ok (c, x.1)) (e x.0)
twice f g h e (Err s) = refl

cond_map : {A B : Type 0} (f : A → B) (b : Bool) (m n : Result (A × List Item) Stop) → mapped f (cond b m n) ≡ cond b (mapped f m) (mapped f n)
cond_map f true m n = refl
cond_map f false m n = refl

cond_both : {A : Type 0} (b c : Bool) (x y z w : A) → b ≡ c → x ≡ z → y ≡ w → cond b x y ≡ cond c z w
cond_both {A = A} b c x y z w e f g = ap (λ (d : Bool). cond d x y) e ∙ ap (λ (u : A). cond c u y) f ∙ ap (cond c z) g

by_rules : {A : Type 0} (k : Token) (ks : List Token) (ri : List Item → Reads A) (rl rm : List Item → Reads (Listed A))
    → ((xs : List Item) → rl xs ≡ mapped {B = Listed A} listed (cond (at_one_of (k ∷ []) xs) (mapped inl (read_token [] k xs)) (mapped inr (two (read_sym ri ks (can k ∷ []) xs) (λ a. rm)))))
    → (rm [] ≡ refuse [] (can k ∷ map follows ks))
    → ((x : Item) (xs : List Item) → rm (x ∷ xs) ≡ mapped {B = Listed A} listed_more (cond (at_one_of (k ∷ []) (x ∷ xs)) (mapped inl (read_token [] k (x ∷ xs))) (mapped inr (two (read_token [] t.Comma (x ∷ xs)) (λ a. rl)))))
    → IsCommaList k ks ri rl rm
by_rules {A = A} k ks ri rl rm items over rest = record { is_list = record { items = items_is }; rest = rest_is }
  where
    items_is : (xs : List Item) → rl xs ≡ list_by k ks ri rm xs
    items_is xs =
        items xs ∙ cond_map (listed {A = A}) (at_one_of (k ∷ []) xs) _ _
        ∙ cond_both (at_one_of (k ∷ []) xs) (at k xs) _ _ _ _ (one_test k xs)
        (twice inl (listed {A = A}) (λ x. ([], x)) (λ x. refl) (read_token [] k xs))
        (twice inr (listed {A = A}) (λ p. (p.0 ∷ p.1.0, p.1.1)) (λ p. refl) (two (read_sym ri ks (can k ∷ []) xs) (λ a. rm)))

    rest_is : (xs : List Item) → rm xs ≡ rest_by k ks rl xs
    rest_is [] = over
    rest_is (x ∷ xs) =
        rest x xs ∙ cond_map (listed_more {A = A}) (at_one_of (k ∷ []) (x ∷ xs)) _ _
        ∙ cond_both (at_one_of (k ∷ []) (x ∷ xs)) (at k (x ∷ xs)) _ _ _ _ (one_test k (x ∷ xs))
        (twice inl (listed_more {A = A}) (λ y. ([], y)) (λ y. refl) (read_token [] k (x ∷ xs)))
        (twice inr (listed_more {A = A}) (λ p. p.1) (λ p. refl) (two (read_token [] t.Comma (x ∷ xs)) (λ a. rl)))

flags_list : IsCommaList t.CloseBrace (begins g.flag) (read g.flag) (read (g.list_items g.flags)) (read (g.more_items g.flags))
flags_list = by_rules t.CloseBrace (begins g.flag) (read g.flag) (read (g.list_items g.flags)) (read (g.more_items g.flags)) (read_is (g.list_items g.flags)) (read_is (g.more_items g.flags) []) (λ x xs. read_is (g.more_items g.flags) (x ∷ xs))

closer_is : (a k : Token) → Some a ≡ Some k → a ≡ k
closer_is a k h = cc

arguments_list : IsCommaList t.CloseBrace (begins g.argument) (read g.argument) (read (g.list_items g.arguments)) (read (g.more_items g.arguments))
arguments_list = by_rules t.CloseBrace (begins g.argument) (read g.argument) (read (g.list_items g.arguments)) (read (g.more_items g.arguments)) (read_is (g.list_items g.arguments)) (read_is (g.more_items g.arguments) []) (λ x xs. read_is (g.more_items g.arguments) (x ∷ xs))

cases_list : IsCommaList t.CloseBrace (begins g.variant_case) (read g.variant_case) (read (g.list_items g.cases)) (read (g.more_items g.cases))
cases_list = by_rules t.CloseBrace (begins g.variant_case) (read g.variant_case) (read (g.list_items g.cases)) (read (g.more_items g.cases)) (read_is (g.list_items g.cases)) (read_is (g.more_items g.cases) []) (λ x xs. read_is (g.more_items g.cases) (x ∷ xs))

fields_list : IsCommaList t.CloseBrace (begins g.field) (read g.field) (read (g.list_items g.fields)) (read (g.more_items g.fields))
fields_list = by_rules t.CloseBrace (begins g.field) (read g.field) (read (g.list_items g.fields)) (read (g.more_items g.fields)) (read_is (g.list_items g.fields)) (read_is (g.more_items g.fields) []) (λ x xs. read_is (g.more_items g.fields) (x ∷ xs))

enum_cases_list : IsCommaList t.CloseBrace (begins g.enum_case) (read g.enum_case) (read (g.list_items g.enum_cases)) (read (g.more_items g.enum_cases))
enum_cases_list = by_rules t.CloseBrace (begins g.enum_case) (read g.enum_case) (read (g.list_items g.enum_cases)) (read (g.more_items g.enum_cases)) (read_is (g.list_items g.enum_cases)) (read_is (g.more_items g.enum_cases) []) (λ x xs. read_is (g.more_items g.enum_cases) (x ∷ xs))

params_list : IsCommaList t.CloseParen (begins g.named_type) (read g.named_type) (read (g.list_items g.params)) (read (g.more_items g.params))
params_list = by_rules t.CloseParen (begins g.named_type) (read g.named_type) (read (g.list_items g.params)) (read (g.more_items g.params)) (read_is (g.list_items g.params)) (read_is (g.more_items g.params) []) (λ x xs. read_is (g.more_items g.params) (x ∷ xs))

types_list : IsCommaList t.CloseAngle (begins g.ty) (read g.ty) (read (g.list_items g.types)) (read (g.more_items g.types))
types_list = by_rules t.CloseAngle (begins g.ty) (read g.ty) (read (g.list_items g.types)) (read (g.more_items g.types)) (read_is (g.list_items g.types)) (read_is (g.more_items g.types) []) (λ x xs. read_is (g.more_items g.types) (x ∷ xs))

use_items_list : IsCommaList t.CloseBrace (begins g.use_item) (read g.use_item) (read (g.list_items g.use_items)) (read (g.more_items g.use_items))
use_items_list = by_rules t.CloseBrace (begins g.use_item) (read g.use_item) (read (g.list_items g.use_items)) (read (g.more_items g.use_items)) (read_is (g.list_items g.use_items)) (read_is (g.more_items g.use_items) []) (λ x xs. read_is (g.more_items g.use_items) (x ∷ xs))

include_items_list : IsCommaList t.CloseBrace (begins g.include_item) (read g.include_item) (read (g.list_items g.include_items)) (read (g.more_items g.include_items))
include_items_list = by_rules t.CloseBrace (begins g.include_item) (read g.include_item) (read (g.list_items g.include_items)) (read (g.more_items g.include_items)) (read_is (g.list_items g.include_items)) (read_is (g.more_items g.include_items) []) (λ x xs. read_is (g.more_items g.include_items) (x ∷ xs))

-- each is a comma list
pub comma_list : (s : Sym) (k : Token) → closes s ≡ Some k → IsCommaList k (begins s) (read s) (list_of s) (more_of s)
comma_list g.argument k h = subst (λ (c : Token). IsCommaList c (begins g.argument) (read g.argument) (list_of g.argument) (more_of g.argument)) (closer_is t.CloseBrace k h) arguments_list
comma_list g.variant_case k h = subst (λ (c : Token). IsCommaList c (begins g.variant_case) (read g.variant_case) (list_of g.variant_case) (more_of g.variant_case)) (closer_is t.CloseBrace k h) cases_list
comma_list g.field k h = subst (λ (c : Token). IsCommaList c (begins g.field) (read g.field) (list_of g.field) (more_of g.field)) (closer_is t.CloseBrace k h) fields_list
comma_list g.flag k h = subst (λ (c : Token). IsCommaList c (begins g.flag) (read g.flag) (list_of g.flag) (more_of g.flag)) (closer_is t.CloseBrace k h) flags_list
comma_list g.enum_case k h = subst (λ (c : Token). IsCommaList c (begins g.enum_case) (read g.enum_case) (list_of g.enum_case) (more_of g.enum_case)) (closer_is t.CloseBrace k h) enum_cases_list
comma_list g.named_type k h = subst (λ (c : Token). IsCommaList c (begins g.named_type) (read g.named_type) (list_of g.named_type) (more_of g.named_type)) (closer_is t.CloseParen k h) params_list
comma_list g.ty k h = subst (λ (c : Token). IsCommaList c (begins g.ty) (read g.ty) (list_of g.ty) (more_of g.ty)) (closer_is t.CloseAngle k h) types_list
comma_list g.use_item k h = subst (λ (c : Token). IsCommaList c (begins g.use_item) (read g.use_item) (list_of g.use_item) (more_of g.use_item)) (closer_is t.CloseBrace k h) use_items_list
comma_list g.include_item k h = subst (λ (c : Token). IsCommaList c (begins g.include_item) (read g.include_item) (list_of g.include_item) (more_of g.include_item)) (closer_is t.CloseBrace k h) include_items_list
comma_list _ k h = absurd cc

pub closes_plain : (s : Sym) (k : Token) → closes s ≡ Some k → plain k ≡ true
closes_plain g.argument k h = ap plain (back (closer_is t.CloseBrace k h))
closes_plain g.variant_case k h = ap plain (back (closer_is t.CloseBrace k h))
closes_plain g.field k h = ap plain (back (closer_is t.CloseBrace k h))
closes_plain g.flag k h = ap plain (back (closer_is t.CloseBrace k h))
closes_plain g.enum_case k h = ap plain (back (closer_is t.CloseBrace k h))
closes_plain g.named_type k h = ap plain (back (closer_is t.CloseParen k h))
closes_plain g.ty k h = ap plain (back (closer_is t.CloseAngle k h))
closes_plain g.use_item k h = ap plain (back (closer_is t.CloseBrace k h))
closes_plain g.include_item k h = ap plain (back (closer_is t.CloseBrace k h))
closes_plain _ k h = absurd cc

pub item_is_some : (s : Sym) (k : Token) → closes s ≡ Some k → empty s ≡ false
item_is_some g.argument k h = refl
item_is_some g.variant_case k h = refl
item_is_some g.field k h = refl
item_is_some g.flag k h = refl
item_is_some g.enum_case k h = refl
item_is_some g.named_type k h = refl
item_is_some g.ty k h = refl
item_is_some g.use_item k h = refl
item_is_some g.include_item k h = refl
item_is_some _ k h = absurd cc

-- ---- the results of the loop

pub unclosed_fails : {A : Type 0} (e : Error) (end : End) (m : Reads (Listed A)) → Fails e end m → Fails e end (unclosed m)
unclosed_fails e end m (inl memory) = inl memory
unclosed_fails {A = A} e end m (inr tells) = inr (go m tells)
  where
    go : (m : Reads (Listed A)) → told_in end m ≡ Some (told_by e) → told_in end (unclosed m) ≡ Some (told_by e)
    go (Ok x) h = absurd cc
    go (Err s) h = h

-- an error after what was read so far
pub so_far_fails : {A : Type 0} {list : List Item → Reads (Listed A)} {front : List A} {old mid : Reading} (e : Error) → ListSoFar list front old mid → Fails e (end_of_input mid) (list (left mid)) → Fails e (end_of_input old) (unclosed (list (left old)))
so_far_fails {list = list} {front = front} {old = old} {mid = mid} e so_far f = unclosed_fails e (end_of_input old) (list (left old)) (list_fails e list front old mid so_far f)

-- an error that was made into another
pub made_fails : {X Y E : Type 0} (e : Error) (made : Error → E → Type 0) (view : X → Y) (r : Result X E) (old new : Reading) (m : Reads Y) → IsErrAnd r (made e) → Fails e (end_of_input old) m → GivesBy made view r old new m
made_fails e made view (Ok x) old new m h f = absurd h
made_fails e made view (Err x) old new m h f = (e, h, f)

pub list_made_fails : {X A E : Type 0} (e : Error) (made : Error → E → Type 0) (view : X → List A) (r : Result (X × Span) E) (old new : Reading) (m : Reads (Listed A)) → IsErrAnd r (made e) → Fails e (end_of_input old) m → TakesListBy made view r old new m
list_made_fails e made view (Ok x) old new m h f = absurd h
list_made_fails e made view (Err x) old new m h f = (e, h, f)

ok_same : {A : Type 0} (a b : A) → ◌≡◌ {A = Result A Stop} (Ok a) (Ok b) → a ≡ b
ok_same a b h = cc

pub token_less : (k : Token) (xs : List Item) (x : Item) (rest : List Item) → read_token [] k xs ≡ Ok (x, rest) → length rest < length xs
token_less k [] x rest h = absurd cc
token_less k (y ∷ ys) x rest h = go (is_token k y.token) (valid k y.text) h
  where
    go : (b c : Bool) → cond {A = Reads Item} b (cond {A = Reads Item} c (Ok (y, ys)) (Err (record { left = y ∷ ys; expected = can k ∷ []; why = version }))) (refuse (y ∷ ys) (can k ∷ [])) ≡ Ok (x, rest) → length rest < length (y ∷ ys)
    go true true h = let e = ok_same {A = Item × List Item} (y, ys) (x, rest) h in let l : length ys ≡ length rest = ap (λ (p : Item × List Item). length p.1) e in omega arith
    go true false h = absurd cc
    go false c h = absurd cc

-- ---- an item in the place of a closing token

pub item_there : {js : List Token} {found : Bool} (l : Reading) (s : Sym) (k : Token) → js ≡ begins s → found ≡ at_one_of js (left l) → found ≡ true → read_in read (g.sym s) (can k ∷ []) (left l) ≡ read s (left l)
item_there l s k same is there = cond_true (at_one_of (begins s) (left l)) _ _ (ap (λ (ks : List Token). at_one_of ks (left l)) (back same) ∙ back is ∙ there)

pub item_missing : {js : List Token} {found : Bool} (e : Error) (l : Reading) (s : Sym) (k : Token) → js ≡ begins s → found ≡ at_one_of js (left l) → found ≡ false → told_by e ≡ told_of (tried (k ∷ js) (looked l)) → Fails e (end_of_input l) (read_in read (g.sym s) (can k ∷ []) (left l))
item_missing {js = js} e l s k same is missing tells_it =
    no_item_fails e l (read_in read (g.sym s) (can k ∷ []) (left l)) s k (cond_false (at_one_of (begins s) (left l)) _ _ (ap (λ (ks : List Token). at_one_of ks (left l)) (back same) ∙ back is ∙ missing)) (tells_it ∙ ap (λ (ks : List Token). told_of (tried (k ∷ ks) (looked l))) same)

-- the input ends after an item
pub rest_missing : {js : List Token} (e : Error) (l : Reading) (s : Sym) (k : Token) → closes s ≡ Some k → js ≡ begins s → has_more (left l) ≡ false → told_by e ≡ told_of (tried (k ∷ js) (looked l)) → Fails e (end_of_input l) (more_of s (left l))
rest_missing e l s k listed same over tells_it = over_fails e l (more_of s (left l)) s k (rest_over (comma_list s k listed) (left l) over) (tells_it ∙ ap (λ (ks : List Token). told_of (tried (k ∷ ks) (looked l))) same)

pub none_left : (ks : List Token) (xs : List Item) → has_more xs ≡ false → at_one_of ks xs ≡ false
none_left [] xs over = refl
none_left (k ∷ ks) [] over = none_left ks [] over
none_left (k ∷ ks) (x ∷ xs) over = absurd cc

-- the list does not continue
pub stops_there : {X A : Type 0} (e : Error) (list more : List Item → Reads (Listed A)) (r : Result X Error) (old new : Reading) → IsErrAnd r (λ x. x ≡ e) → Fails e (end_of_input old) (more (left old)) → GoesOn list more r old new
stops_there e list more (Ok x) old new h f = absurd h
stops_there e list more (Err x) old new h f = subst (λ (y : Error). Fails y (end_of_input old) (more (left old))) (back h) f

-- what follows an item fails
pub step_fails : {A : Type 0} {k : Token} {ks : List Token} {ri : List Item → Reads A} {rl rm : List Item → Reads (Listed A)} {a : A} (e : Error) (mid after : Reading) → IsList k ks ri rl rm → at k (left mid) ≡ false
    → (read_sym ri ks (can k ∷ []) (left mid) ≡ Ok (a, left after)) × (end_of_input after ≡ end_of_input mid) → Fails e (end_of_input after) (rm (left after)) → Fails e (end_of_input mid) (rl (left mid))
step_fails {rl = rl} {rm = rm} {a = a} e mid after list h r f =
    same_fails e (end_of_input mid) (rl (left mid)) _ (item_put list h r.0) (fails_bind e (end_of_input mid) (rm (left after)) _ (moved_end e (end_of_input after) (end_of_input mid) (rm (left after)) r.1 f))

-- an item takes something
pub item_less : (s : Sym) (k : Token) (xs : List Item) (t : g.TreeOf s) (ys : List Item) → read_in read (g.sym s) (can k ∷ []) xs ≡ Ok (t, ys) → empty s ≡ false → length ys < length xs
item_less s k xs t ys r some = go (at_one_of (begins s) xs) r
  where
    go : (b : Bool) → cond {A = Reads (g.TreeOf s)} b (read s xs) (refuse xs (can k ∷ map can (begins s))) ≡ Ok (t, ys) → length ys < length xs
    go true h = takes_some s xs t ys h some
    go false h = absurd cc

-- ---- a body that may not be empty

unmapped_told : {A B : Type 0} (e : Error) (end : End) (f : A → B) (m : Result (A × List Item) Stop) → Fails e end (mapped f m) → Fails e end m
unmapped_told e end f m (inl memory) = inl memory
unmapped_told e end f (Ok x) (inr h) = absurd cc
unmapped_told e end f (Err s) (inr h) = inr h

-- what fails as a list fails as a body that is not empty
pub body_fails : {A : Type 0} {k : Token} {ks : List Token} {ri : List Item → Reads A} {rl rm : List Item → Reads (Listed A)} (e : Error) (end : End) (xs : List Item) → IsList k ks ri rl rm → at k xs ≡ false → Fails e end (rl xs) → Fails e end (two (read_sym ri ks (closing k ∷ []) xs) (λ a. rm))
unfolding told
body_fails {A = A} {k = k} {ks = ks} {ri = ri} {rl = rl} {rm = rm} e end xs list shut f =
    go (at_one_of ks xs) (unmapped_told {A = A × Listed A} {B = Listed A} e end (λ p. (p.0 ∷ p.1.0, p.1.1)) (two (read_sym ri ks (can k ∷ []) xs) (λ a. rm)) (subst (λ (m : Reads (Listed A)). Fails e end m) (list_open list xs shut) f))
  where
    go : (b : Bool) → Fails e end (two (cond {A = Reads A} b (ri xs) (refuse xs (can k ∷ map can ks))) (λ a. rm)) → Fails e end (two (cond {A = Reads A} b (ri xs) (refuse xs (closing k ∷ map can ks))) (λ a. rm))
    go true h = h
    go false h = h

-- a list that is not empty, as its first item and what follows it
pub filled_ends : {A : Type 0} {k : Token} {ks : List Token} {ri : List Item → Reads A} {rl rm : List Item → Reads (Listed A)} {xs ys : List Item} {front : List A} {last : Item} → IsList k ks ri rl rm → at k xs ≡ false → rl xs ≡ Ok ((front, last), ys)
    → (x : A) × (others : List A) × (two (read_sym ri ks (closing k ∷ []) xs) (λ a. rm) ≡ Ok ((x, (others, last)), ys)) × (x ∷ others ≡ front)
filled_ends {A = A} {k = k} {ks = ks} {ri = ri} {rl = rl} {rm = rm} {xs = xs} {ys = ys} {front = front} {last = last} list shut r = by (at_one_of ks xs) (back (list_open list xs shut) ∙ r)
  where
    by : (b : Bool) → mapped {A = A × Listed A} {B = Listed A} (λ p. (p.0 ∷ p.1.0, p.1.1)) (two (cond {A = Reads A} b (ri xs) (refuse xs (can k ∷ map can ks))) (λ a. rm)) ≡ Ok ((front, last), ys)
        → (x : A) × (others : List A) × (two (cond {A = Reads A} b (ri xs) (refuse xs (closing k ∷ map can ks))) (λ a. rm) ≡ Ok ((x, (others, last)), ys)) × (x ∷ others ≡ front)
    by true h = apart (two (ri xs) (λ a. rm)) h
      where
        apart : (m : Reads (A × Listed A)) → mapped {A = A × Listed A} {B = Listed A} (λ p. (p.0 ∷ p.1.0, p.1.1)) m ≡ Ok ((front, last), ys) → (x : A) × (others : List A) × (m ≡ Ok ((x, (others, last)), ys)) × (x ∷ others ≡ front)
        apart (Ok y) h =
            let is = ok_same {A = Listed A × List Item} ((y.0.0 ∷ y.0.1.0, y.0.1.1), y.1) ((front, last), ys) h in
            (y.0.0, y.0.1.0, ap (λ (q : Listed A × List Item). Ok ((y.0.0, (y.0.1.0, q.0.1)), q.1)) is, ap (λ (q : Listed A × List Item). q.0.0) is)
        apart (Err s) h = absurd cc
    by false h = absurd cc

-- ---- a list whose closing token is taken separately

-- the list, where what was read of it is followed by its closing token
pub closed_by : {A : Type 0} (k : Token) → plain k ≡ true → (m : Reads (Listed A)) (v : List A) (xs : List Item) (x : Item) (ys : List Item) → unclosed m ≡ Ok (v, xs) → at k xs ≡ true → read_token [] k xs ≡ Ok (x, ys) → m ≡ Ok ((v, x), ys)
closed_by {A = A} k p (Ok z) v xs x ys h closed r =
    let e : (z.0.0, z.0.1 ∷ z.1) ≡ (v, xs) = ok_same {A = List A × List Item} (z.0.0, z.0.1 ∷ z.1) (v, xs) h in
    let front : z.0.0 ≡ v = ap (λ (q : List A × List Item). q.0) e in
    let rest : (z.0.1 ∷ z.1) ≡ xs = ap (λ (q : List A × List Item). q.1) e in
    let same : ◌≡◌ {A = Reads Item} (Ok (z.0.1, z.1)) (Ok (x, ys)) = back (taken k z.0.1 z.1 p (ap (at k) rest ∙ closed)) ∙ ap (read_token [] k) rest ∙ r in
    let last : (z.0.1, z.1) ≡ (x, ys) = ok_same {A = Item × List Item} (z.0.1, z.1) (x, ys) same in
    ap (λ (l : List A). Ok ((l, z.0.1), z.1)) front ∙ ap (λ (q : Item × List Item). Ok ((v, q.0), q.1)) last
closed_by k p (Err s) v xs x ys h closed r = absurd cc

-- what fails without its closing token fails with it
pub closed_fails : {A : Type 0} (e : Error) (end : End) (m : Reads (Listed A)) → Fails e end (unclosed m) → Fails e end m
closed_fails e end m (inl memory) = inl memory
closed_fails {A = A} e end m (inr tells) = inr (go m tells)
  where
    go : (m : Reads (Listed A)) → told_in end (unclosed m) ≡ Some (told_by e) → told_in end m ≡ Some (told_by e)
    go (Ok x) h = absurd cc
    go (Err s) h = h

-- a token that is next fails only where memory runs out
pub never_fails : {B : Type 0} (e : Error) (end : End) (k : Token) (xs : List Item) (r : Result B Stop) → plain k ≡ true → at k xs ≡ true → Fails e end (read_token [] k xs) → Fails e end r
never_fails e end k [] r p h f = absurd cc
never_fails e end k (x ∷ xs) r p h f = go (subst (λ (m : Reads Item). Fails e end m) (taken k x xs p h) f)
  where
    go : Fails {A = Item × List Item} e end (Ok (x, xs)) → Fails e end r
    go (inl memory) = inl memory
    go (inr tells) = absurd cc

-- ---- the bodies of the grammar

by_rule : {A : Type 0} (k : Token) (ks : List Token) (ri : List Item → Reads A) (rl : List Item → Reads (Listed A))
    → ((xs : List Item) → rl xs ≡ mapped {B = Listed A} listed (cond (at_one_of (k ∷ []) xs) (mapped inl (read_token [] k xs)) (mapped inr (two (read_sym ri ks (can k ∷ []) xs) (λ a. rl)))))
    → IsList k ks ri rl rl
by_rule {A = A} k ks ri rl items = record { items = items_is }
  where
    items_is : (xs : List Item) → rl xs ≡ list_by k ks ri rl xs
    items_is xs =
        items xs ∙ cond_map (listed {A = A}) (at_one_of (k ∷ []) xs) _ _
        ∙ cond_both (at_one_of (k ∷ []) xs) (at k xs) _ _ _ _ (one_test k xs)
        (twice inl (listed {A = A}) (λ x. ([], x)) (λ x. refl) (read_token [] k xs))
        (twice inr (listed {A = A}) (λ p. (p.0 ∷ p.1.0, p.1.1)) (λ p. refl) (two (read_sym ri ks (can k ∷ []) xs) (λ a. rl)))

-- each is a list without commas
pub body_list : (s : Sym) → repeats s ≡ true → IsList t.CloseBrace (begins s) (read s) (body_of s) (body_of s)
body_list g.resource_method h = by_rule t.CloseBrace (begins g.resource_method) (read g.resource_method) (read g.methods) (read_is g.methods)
body_list g.interface_item h = by_rule t.CloseBrace (begins g.interface_item) (read g.interface_item) (read g.interface_items) (read_is g.interface_items)
body_list g.world_item h = by_rule t.CloseBrace (begins g.world_item) (read g.world_item) (read g.world_items) (read_is g.world_items)
body_list _ h = absurd cc

pub body_item_is_some : (s : Sym) → repeats s ≡ true → empty s ≡ false
body_item_is_some g.resource_method h = refl
body_item_is_some g.interface_item h = refl
body_item_is_some g.world_item h = refl
body_item_is_some _ h = absurd cc
