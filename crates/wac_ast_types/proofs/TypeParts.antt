-- How types are read, by their first token.
use Rattle.std.proofs.Common.{◌≡◌, List, [], ◌∷◌, map, Option, Some, None, Result, Ok, Err, Bool, true, false, refl, sym as back, ap, subst, ◌∙◌, rules, Global, inl, inr}
use Rattle.std.specs.Prelude.{Vec, Box}
use mathlib.Core.Former.{Count}
use denote.Enum.Bare.{same_true}
use Rattle.wac_lexer.specs.contracts.token.Token.{the_type}
use Rattle.wac_ast_types.proofs.Common.{Token, Span, Item, next_token, after_first_item, Reading, left, is_token, at, Ident, Ty, Types, OptionalTy, types_from, join, Listed, can, refuse, mapped, two, read, read_in, read_token, built, at_one_of, begins, End, end_of_input, Fails, first_item, has_more, Error, read_is, fails_bind, same, same_fails, moved_end, list_open, comma_list, closed_by, closed_fails}
use Rattle.wac_lexer.specs.declared.token.Token.TheVariants as k
use Rattle.wac_lexer.specs.declared.error.Error.{Error as LexError}
use Rattle.wac_ast_grammar.specs.Grammar as g
use Rattle.wac_ast_base.specs.Lists.{Reads, unclosed}
use Rattle.wac_ast_types.specs.Types.{ty_of, types_of_row, optional_of, compound, word_at, held_from, with_payload, TakesPayload, second_rule, second_of}
use Rattle.wac_ast_types.specs.declared.types.Type as code
use Rattle.wac_ast_grammar.specs.Consumed.{Consumed}
use Rattle.wac_ast_grammar.proofs.Sound.{sound}
use Rattle.wac_ast_grammar.proofs.Choices.{none_of}

-- ---- the trees of values that hold themselves

of_row : (n : _) (row : code.Row_of-Type n) → types_of_row row ≡ types_from (map ty_of (code.items-the_row-Type n row))
of_row _ code.end_of-Type = refl
of_row _ (code.more_of-Type x rest) = ap (Types.more (ty_of x)) (of_row _ rest)

packed : code.Type → (n : Count) × code.Row_of-Type n
packed (code.Tuple' shape row s) = (_, row)
packed _ = (_, code.end_of-Type)

pub tuple_is : (types : Vec code.Type Global) (s : Span) → ty_of (code.Tuple types s) ≡ Ty.tuple (types_from (map ty_of types.items)) s
unfolding packed
tuple_is types s =
    let row = packed (code.Tuple types s) in
    ap (λ l. Ty.tuple l s) (of_row row.0 row.1 ∙ ap (λ l. types_from (map ty_of l)) (code.items_hidden-the_row-Type-0 types))

pub stream_is : (o : Option (Box code.Type Global)) (s : Span) → ty_of (code.Stream o s) ≡ Ty.stream (optional_of o) s
stream_is None s = refl
stream_is (Some b) s = refl

pub future_is : (o : Option (Box code.Type Global)) (s : Span) → ty_of (code.Future o s) ≡ Ty.future (optional_of o) s
future_is None s = refl
future_is (Some b) s = refl

-- ---- the first token

not_true : {b : Bool} → b ≡ true → b ≡ false → ⊥
not_true h i = cc

not_some : {A : Type 0} {a : A} → None ≡ Some a → ⊥
not_some h = cc

same_some : {A : Type 0} (a b : A) → Some a ≡ Some b → a ≡ b
same_some a b h = cc

pub token_at : (a : Token) (x : Item) (xs : List Item) → at a (x ∷ xs) ≡ true → x.token ≡ Ok a
token_at a x xs h = go x.token h
  where
    go : (r : Result Token LexError) → is_token a r ≡ true → r ≡ Ok a
    go (Ok b) e = ap Ok (same_true the_type (search rules) b a e)
    go (Err f) e = absurd cc

-- An item with another token. What depends on the token is shown of a literal one, and computes there.
abbrev with_token : Item → Result Token LexError → Item
with_token x r = record { token = r; text = x.text; span = x.span; docs = x.docs }

with_its_token : (P : Item → Type 0) (a : Token) (x : Item) (xs : List Item) → at a (x ∷ xs) ≡ true → P (with_token x (Ok a)) → P x
with_its_token P a x xs h p = subst (λ (r : Result Token LexError). P (with_token x r)) (back (token_at a x xs h)) p

-- no type begins with a closing angle
pub type_not_closed : (xs : List Item) → at_one_of (begins g.ty) xs ≡ true → at k.CloseAngle xs ≡ false
type_not_closed [] h = refl
type_not_closed (x ∷ xs) h = go (at k.CloseAngle (x ∷ xs)) refl
  where
    go : (b : Bool) → at k.CloseAngle (x ∷ xs) ≡ b → b ≡ false
    go true e = absurd (with_its_token (λ y. at_one_of (begins g.ty) (y ∷ xs) ≡ true → ⊥) k.CloseAngle x xs e (λ (t : false ≡ true). not_true t refl) h)
    go false e = refl

-- Each of a type's symbols gives this. Which symbol a type's first token selects does not depend on what it gives.
abbrev given : Reads Ty → (s : g.Sym) → List Item → Reads (g.TreeOf s)
given m g.tuple_type ys = m
given m g.list_type ys = m
given m g.option_type ys = m
given m g.result_type ys = m
given m g.borrow_type ys = m
given m g.stream_type ys = m
given m g.future_type ys = m
given m _ ys = refuse ys []

-- which type is next
pub tuple_next : (xs : List Item) → at k.TupleKeyword xs ≡ true → read g.ty xs ≡ read g.tuple_type xs
tuple_next [] h = absurd cc
tuple_next (x ∷ xs) h = with_its_token (λ y. read g.ty (y ∷ xs) ≡ read g.tuple_type (y ∷ xs)) k.TupleKeyword x xs h (read_is g.ty (with_token x (Ok k.TupleKeyword) ∷ xs) ∙ go (read g.tuple_type (with_token x (Ok k.TupleKeyword) ∷ xs)))
  where
    go : (m : Reads Ty) → built g.ty (read_in (given m) (g.rule g.ty) [] (with_token x (Ok k.TupleKeyword) ∷ xs)) ≡ m
    go (Ok y) = refl
    go (Err s) = refl

pub list_next : (xs : List Item) → at k.ListKeyword xs ≡ true → read g.ty xs ≡ read g.list_type xs
list_next [] h = absurd cc
list_next (x ∷ xs) h = with_its_token (λ y. read g.ty (y ∷ xs) ≡ read g.list_type (y ∷ xs)) k.ListKeyword x xs h (read_is g.ty (with_token x (Ok k.ListKeyword) ∷ xs) ∙ go (read g.list_type (with_token x (Ok k.ListKeyword) ∷ xs)))
  where
    go : (m : Reads Ty) → built g.ty (read_in (given m) (g.rule g.ty) [] (with_token x (Ok k.ListKeyword) ∷ xs)) ≡ m
    go (Ok y) = refl
    go (Err s) = refl

pub option_next : (xs : List Item) → at k.OptionKeyword xs ≡ true → read g.ty xs ≡ read g.option_type xs
option_next [] h = absurd cc
option_next (x ∷ xs) h = with_its_token (λ y. read g.ty (y ∷ xs) ≡ read g.option_type (y ∷ xs)) k.OptionKeyword x xs h (read_is g.ty (with_token x (Ok k.OptionKeyword) ∷ xs) ∙ go (read g.option_type (with_token x (Ok k.OptionKeyword) ∷ xs)))
  where
    go : (m : Reads Ty) → built g.ty (read_in (given m) (g.rule g.ty) [] (with_token x (Ok k.OptionKeyword) ∷ xs)) ≡ m
    go (Ok y) = refl
    go (Err s) = refl

pub result_next : (xs : List Item) → at k.ResultKeyword xs ≡ true → read g.ty xs ≡ read g.result_type xs
result_next [] h = absurd cc
result_next (x ∷ xs) h = with_its_token (λ y. read g.ty (y ∷ xs) ≡ read g.result_type (y ∷ xs)) k.ResultKeyword x xs h (read_is g.ty (with_token x (Ok k.ResultKeyword) ∷ xs) ∙ go (read g.result_type (with_token x (Ok k.ResultKeyword) ∷ xs)))
  where
    go : (m : Reads Ty) → built g.ty (read_in (given m) (g.rule g.ty) [] (with_token x (Ok k.ResultKeyword) ∷ xs)) ≡ m
    go (Ok y) = refl
    go (Err s) = refl

pub borrow_next : (xs : List Item) → at k.BorrowKeyword xs ≡ true → read g.ty xs ≡ read g.borrow_type xs
borrow_next [] h = absurd cc
borrow_next (x ∷ xs) h = with_its_token (λ y. read g.ty (y ∷ xs) ≡ read g.borrow_type (y ∷ xs)) k.BorrowKeyword x xs h (read_is g.ty (with_token x (Ok k.BorrowKeyword) ∷ xs) ∙ go (read g.borrow_type (with_token x (Ok k.BorrowKeyword) ∷ xs)))
  where
    go : (m : Reads Ty) → built g.ty (read_in (given m) (g.rule g.ty) [] (with_token x (Ok k.BorrowKeyword) ∷ xs)) ≡ m
    go (Ok y) = refl
    go (Err s) = refl

stream_next : (xs : List Item) → at k.StreamKeyword xs ≡ true → read g.ty xs ≡ read g.stream_type xs
stream_next [] h = absurd cc
stream_next (x ∷ xs) h = with_its_token (λ y. read g.ty (y ∷ xs) ≡ read g.stream_type (y ∷ xs)) k.StreamKeyword x xs h (read_is g.ty (with_token x (Ok k.StreamKeyword) ∷ xs) ∙ go (read g.stream_type (with_token x (Ok k.StreamKeyword) ∷ xs)))
  where
    go : (m : Reads Ty) → built g.ty (read_in (given m) (g.rule g.ty) [] (with_token x (Ok k.StreamKeyword) ∷ xs)) ≡ m
    go (Ok y) = refl
    go (Err s) = refl

future_next : (xs : List Item) → at k.FutureKeyword xs ≡ true → read g.ty xs ≡ read g.future_type xs
future_next [] h = absurd cc
future_next (x ∷ xs) h = with_its_token (λ y. read g.ty (y ∷ xs) ≡ read g.future_type (y ∷ xs)) k.FutureKeyword x xs h (read_is g.ty (with_token x (Ok k.FutureKeyword) ∷ xs) ∙ go (read g.future_type (with_token x (Ok k.FutureKeyword) ∷ xs)))
  where
    go : (m : Reads Ty) → built g.ty (read_in (given m) (g.rule g.ty) [] (with_token x (Ok k.FutureKeyword) ∷ xs)) ≡ m
    go (Ok y) = refl
    go (Err s) = refl

-- ---- types in angle brackets

pub stream_held : (xs : List Item) → at k.StreamKeyword xs ≡ true → read g.ty xs ≡ mapped (λ p. Ty.stream p.0 p.1) (with_payload xs)
stream_held [] h = absurd cc
stream_held (x ∷ xs) h = stream_next (x ∷ xs) h ∙ read_is g.stream_type (x ∷ xs) ∙ rw h (go (read g.payload xs))
  where
    go : (m : Reads (Option (Ty × Item))) → mapped {B = Ty} (g.build g.stream_type) (mapped (λ b. (x, b)) m) ≡ mapped (λ p. Ty.stream p.0 p.1) (mapped (held_from x) m)
    go (Ok (None, ys)) = refl
    go (Ok (Some (y, last), ys)) = refl
    go (Err s) = refl

pub future_held : (xs : List Item) → at k.FutureKeyword xs ≡ true → read g.ty xs ≡ mapped (λ p. Ty.future p.0 p.1) (with_payload xs)
future_held [] h = absurd cc
future_held (x ∷ xs) h = future_next (x ∷ xs) h ∙ read_is g.future_type (x ∷ xs) ∙ rw h (go (read g.payload xs))
  where
    go : (m : Reads (Option (Ty × Item))) → mapped {B = Ty} (g.build g.future_type) (mapped (λ b. (x, b)) m) ≡ mapped (λ p. Ty.future p.0 p.1) (mapped (held_from x) m)
    go (Ok (None, ys)) = refl
    go (Ok (Some (y, last), ys)) = refl
    go (Err s) = refl

-- ---- a tuple

-- a list that begins with a type is a tuple's
pub tuple_reads : (xs : List Item) (a : Item) (ys : List Item) (b : Item) (zs : List Item) → read_token [] k.TupleKeyword xs ≡ Ok (a, ys) → read_token [] k.OpenAngle ys ≡ Ok (b, zs) → at_one_of (begins g.ty) zs ≡ true
    → read g.tuple_type xs ≡ mapped (λ l. Ty.tuple (types_from l.0) (join a.span l.1.span)) (read (g.list_items g.types) zs)
tuple_reads xs a ys b zs h i begun =
    read_is g.tuple_type xs ∙ rw (h, i, list_open (comma_list g.ty k.CloseAngle refl).is_list zs (type_not_closed zs begun), begun) (go (two (read g.ty zs) (λ t. read (g.more_items g.types))))
  where
    go : (m : Reads (Ty × Listed Ty)) → mapped {B = Ty} (g.build g.tuple_type) (mapped (λ d. (a, d)) (mapped (λ c. (b, c)) m)) ≡ mapped (λ l. Ty.tuple (types_from l.0) (join a.span l.1.span)) (mapped {B = Listed Ty} (λ p. (p.0 ∷ p.1.0, p.1.1)) m)
    go (Ok y) = refl
    go (Err s) = refl

-- ---- a type of one token

pub word_taken : (xs : List Item) (t : Ty) → word_at (next_token xs) ≡ Some t → read g.ty xs ≡ Ok (t, after_first_item xs)
word_taken [] t h = absurd (not_some h)
word_taken (x ∷ xs) t h = go x.token h
  where
    some : (a : Token) (b : Ty) → Some b ≡ Some t → built g.ty (read_in read (g.rule g.ty) [] (with_token x (Ok a) ∷ xs)) ≡ Ok (b, xs) → read g.ty (with_token x (Ok a) ∷ xs) ≡ Ok (t, xs)
    some a b e is = read_is g.ty (with_token x (Ok a) ∷ xs) ∙ is ∙ ap (λ (c : Ty). Ok (c, xs)) (same_some b t e)

    go : (r : Result Token LexError) → word_at (Some (r, x.span)) ≡ Some t → read g.ty (with_token x r ∷ xs) ≡ Ok (t, xs)
    go (Ok k.U8Keyword) e = some k.U8Keyword _ e refl
    go (Ok k.S8Keyword) e = some k.S8Keyword _ e refl
    go (Ok k.U16Keyword) e = some k.U16Keyword _ e refl
    go (Ok k.S16Keyword) e = some k.S16Keyword _ e refl
    go (Ok k.U32Keyword) e = some k.U32Keyword _ e refl
    go (Ok k.S32Keyword) e = some k.S32Keyword _ e refl
    go (Ok k.U64Keyword) e = some k.U64Keyword _ e refl
    go (Ok k.S64Keyword) e = some k.S64Keyword _ e refl
    go (Ok k.F32Keyword) e = some k.F32Keyword _ e refl
    go (Ok k.F64Keyword) e = some k.F64Keyword _ e refl
    go (Ok k.CharKeyword) e = some k.CharKeyword _ e refl
    go (Ok k.BoolKeyword) e = some k.BoolKeyword _ e refl
    go (Ok k.StringKeyword) e = some k.StringKeyword _ e refl
    go (Ok k.ErrorContextKeyword) e = some k.ErrorContextKeyword _ e refl
    go _ e = absurd (not_some e)

pub name_next : (xs : List Item) → at k.Ident xs ≡ true → read g.ty xs ≡ mapped Ty.ident (read g.identifier xs)
name_next [] h = absurd cc
name_next (x ∷ xs) h = with_its_token (λ y. read g.ty (y ∷ xs) ≡ mapped Ty.ident (read g.identifier (y ∷ xs))) k.Ident x xs h (read_is g.ty (with_token x (Ok k.Ident) ∷ xs) ∙ go (read g.identifier (with_token x (Ok k.Ident) ∷ xs)))
  where
    named : Reads Ident → (s : g.Sym) → List Item → Reads (g.TreeOf s)
    named m g.identifier ys = m
    named m _ ys = refuse ys []

    go : (m : Reads Ident) → built g.ty (read_in (named m) (g.rule g.ty) [] (with_token x (Ok k.Ident) ∷ xs)) ≡ mapped Ty.ident m
    go (Ok y) = refl
    go (Err s) = refl

-- no type is next where none of its tokens is
pub no_type_next : (xs : List Item) → at_one_of compound xs ≡ false → at k.Ident xs ≡ false → word_at (next_token xs) ≡ None → at_one_of (begins g.ty) xs ≡ false
no_type_next [] h i w = refl
no_type_next (x ∷ xs) h i w = go x.token h i w
  where
    go : (r : Result Token LexError) → at_one_of compound (with_token x r ∷ xs) ≡ false → at k.Ident (with_token x r ∷ xs) ≡ false → word_at (Some (r, x.span)) ≡ None → at_one_of (begins g.ty) (with_token x r ∷ xs) ≡ false
    go (Ok k.U8Keyword) h i w = absurd (not_some (back w))
    go (Ok k.S8Keyword) h i w = absurd (not_some (back w))
    go (Ok k.U16Keyword) h i w = absurd (not_some (back w))
    go (Ok k.S16Keyword) h i w = absurd (not_some (back w))
    go (Ok k.U32Keyword) h i w = absurd (not_some (back w))
    go (Ok k.S32Keyword) h i w = absurd (not_some (back w))
    go (Ok k.U64Keyword) h i w = absurd (not_some (back w))
    go (Ok k.S64Keyword) h i w = absurd (not_some (back w))
    go (Ok k.F32Keyword) h i w = absurd (not_some (back w))
    go (Ok k.F64Keyword) h i w = absurd (not_some (back w))
    go (Ok k.CharKeyword) h i w = absurd (not_some (back w))
    go (Ok k.BoolKeyword) h i w = absurd (not_some (back w))
    go (Ok k.StringKeyword) h i w = absurd (not_some (back w))
    go (Ok k.ErrorContextKeyword) h i w = absurd (not_some (back w))
    go (Ok k.TupleKeyword) h i w = absurd (not_true refl h)
    go (Ok k.ListKeyword) h i w = absurd (not_true refl h)
    go (Ok k.OptionKeyword) h i w = absurd (not_true refl h)
    go (Ok k.ResultKeyword) h i w = absurd (not_true refl h)
    go (Ok k.BorrowKeyword) h i w = absurd (not_true refl h)
    go (Ok k.StreamKeyword) h i w = absurd (not_true refl h)
    go (Ok k.FutureKeyword) h i w = absurd (not_true refl h)
    go (Ok k.Ident) h i w = absurd (not_true refl i)
    go _ h i w = refl

-- ---- one of the types

-- what it holds was read
pub arm_gives : {A : Type 0} {a : A} {t : Ty} (old new : Reading) (r : Reads Ty) (m : Reads A) (f : A → Ty) → r ≡ mapped f m → (m ≡ Ok (a, left new)) × (end_of_input new ≡ end_of_input old) → f a ≡ t → (r ≡ Ok (t, left new)) × (end_of_input new ≡ end_of_input old)
arm_gives old new r m f is parts same = (is ∙ ap (mapped f) parts.0 ∙ ap (λ (t : Ty). Ok (t, left new)) same, parts.1)

-- it fails
pub arm_fails : {A : Type 0} (e : Error) (end : End) (r : Reads Ty) (m : Reads A) (f : A → Ty) → r ≡ mapped f m → Fails e end m → Fails e end r
arm_fails e end r m f is h = same_fails e end r (mapped f m) is (fails_bind e end m _ h)

-- ---- a result's parts, and what an item holds

pub result_is : (o u : Option (Box code.Type Global)) (s : Span) → ty_of (code.Result o u s) ≡ Ty.result (optional_of o) (optional_of u) s
result_is None None s = refl
result_is None (Some c) s = refl
result_is (Some b) None s = refl
result_is (Some b) (Some c) s = refl

pub payload_of : (xs : List Item) → has_more xs ≡ true → with_payload xs ≡ mapped (held_from (first_item xs)) (read g.payload (after_first_item xs))
payload_of [] h = absurd cc
payload_of (x ∷ xs) h = refl

-- ---- a tuple's results

pub tuple_ends : (xs : List Item) (a : Item) (ys : List Item) (b : Item) (zs : List Item) (front : List Ty) (us : List Item) (last : Item) (vs : List Item)
    → read_token [] k.TupleKeyword xs ≡ Ok (a, ys) → read_token [] k.OpenAngle ys ≡ Ok (b, zs) → at_one_of (begins g.ty) zs ≡ true
    → unclosed (read (g.list_items g.types) zs) ≡ Ok (front, us) → at k.CloseAngle us ≡ true → read_token [] k.CloseAngle us ≡ Ok (last, vs)
    → read g.tuple_type xs ≡ Ok (Ty.tuple (types_from front) (join a.span last.span), vs)
tuple_ends xs a ys b zs front us last vs h i begun found shut r =
    tuple_reads xs a ys b zs h i begun ∙ ap (mapped (λ (l : Listed Ty). Ty.tuple (types_from l.0) (join a.span l.1.span))) (closed_by k.CloseAngle refl (read (g.list_items g.types) zs) front us last vs found shut r)

pub tuple_list_fails : (e : Error) (end : End) (xs : List Item) (a : Item) (ys : List Item) (b : Item) (zs : List Item)
    → read_token [] k.TupleKeyword xs ≡ Ok (a, ys) → read_token [] k.OpenAngle ys ≡ Ok (b, zs) → at_one_of (begins g.ty) zs ≡ true
    → Fails e end (unclosed (read (g.list_items g.types) zs)) → Fails e end (read g.tuple_type xs)
tuple_list_fails e end xs a ys b zs h i begun f =
    arm_fails e end (read g.tuple_type xs) (read (g.list_items g.types) zs) (λ l. Ty.tuple (types_from l.0) (join a.span l.1.span)) (tuple_reads xs a ys b zs h i begun) (closed_fails e end (read (g.list_items g.types) zs) f)

pub at_has_more : (a : Token) (xs : List Item) → at a xs ≡ true → has_more xs ≡ true
at_has_more a [] h = absurd cc
at_has_more a (x ∷ xs) h = refl

-- the alternatives after the first
abbrev others : g.Grammar → g.Grammar
others (g.either loud a b) = b
others a = a

-- where no type is next all its tokens are named
pub no_type_reads : (xs : List Item) → at_one_of (begins g.ty) xs ≡ false → read g.ty xs ≡ refuse xs (map can (begins g.ty))
no_type_reads xs h =
    let here : read_in read (g.rule g.ty) [] xs ≡ refuse xs (map can (begins g.ty)) = none_of (g.token k.U8Keyword) (others (g.rule g.ty)) k.U8Keyword [] refl refl xs h in
    read_is g.ty xs ∙ ap (built g.ty) here

-- ---- what an item holds

held_is : (xs ys : List Item) → has_more xs ≡ true → ys ≡ after_first_item xs → with_payload xs ≡ mapped {B = OptionalTy × Span} (held_from (first_item xs)) (read g.payload ys)
held_is xs ys m is = payload_of xs m ∙ ap (λ (l : List Item). mapped {B = OptionalTy × Span} (held_from (first_item xs)) (read g.payload l)) (back is)

pub held_fails : (e : Error) (old mid : Reading) → has_more (left old) ≡ true → left mid ≡ after_first_item (left old) → end_of_input mid ≡ end_of_input old → Fails e (end_of_input mid) (read g.payload (left mid)) → Fails e (end_of_input old) (with_payload (left old))
held_fails e old mid m is ends f = same_fails e (end_of_input old) (with_payload (left old)) _ (held_is (left old) (left mid) m is) (fails_bind e (end_of_input old) _ _ (moved_end e (end_of_input mid) (end_of_input old) (read g.payload (left mid)) ends f))

pub held_gives : {p : Option (Ty × Item)} {held : OptionalTy × Span} (old mid new : Reading) → has_more (left old) ≡ true → left mid ≡ after_first_item (left old) → end_of_input mid ≡ end_of_input old
    → (read g.payload (left mid) ≡ Ok (p, left new)) × (end_of_input new ≡ end_of_input mid) → held_from (first_item (left old)) p ≡ held → (with_payload (left old) ≡ Ok (held, left new)) × (end_of_input new ≡ end_of_input old)
held_gives old mid new m is ends r same =
    (held_is (left old) (left mid) m is ∙ ap (mapped {B = OptionalTy × Span} (held_from (first_item (left old)))) r.0 ∙ ap (λ (h : OptionalTy × Span). Ok (h, left new)) same, r.1 ∙ ends)

-- ---- a result

pub result_built : (a b : Item) (o : OptionalTy) (p : g.Parts second_rule) (last : Item) → g.build g.result_type (a, inl (b, (o, (p, last)))) ≡ Ty.result o (second_of p) (join a.span last.span)
result_built a b o (inl p) last = refl
result_built a b o (inr p) last = refl

-- ---- the items that were taken

pub payload_taken : (xs : List Item) (h : OptionalTy) (s : Span) (new : List Item) → with_payload xs ≡ Ok ((h, s), new) → TakesPayload xs new h s
payload_taken [] h s new e = absurd cc
payload_taken (x ∷ xs) h s new e = go (read g.payload xs) refl e
  where
    go : (m : Reads (Option (Ty × Item))) → read g.payload xs ≡ m → mapped {B = OptionalTy × Span} (held_from x) m ≡ Ok ((h, s), new) → TakesPayload (x ∷ xs) new h s
    go (Ok y) r e =
        let is = same {A = (OptionalTy × Span) × List Item} (held_from x y.0, y.1) ((h, s), new) e in
        (y.0, subst (λ (l : List Item). Consumed g.payload xs l y.0) (ap (λ (q : (OptionalTy × Span) × List Item). q.1) is) (sound g.payload xs y.0 y.1 r), back (ap (λ (q : (OptionalTy × Span) × List Item). q.0) is))
    go (Err d) r e = absurd cc
