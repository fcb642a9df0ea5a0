-- How an argument is read, by what comes next.
use Rattle.std.proofs.Common.{◌≡◌, List, [], ◌∷◌, Bool, true, false, cond, map, Some, Result, Ok, Err, refl, sym as back, ap, subst, ◌∙◌, ◌⊎◌, inl, inr}
use Rattle.wac_ast_statements.proofs.Common.{◌||◌, Item, after_first_item, Ident, Expr, InstantiationArgument, InstantiationArgumentName, NamedInstantiationArgument, Parts, build, rule, argument, named_argument, argument_name, identifier, string, expr, string_of, Reading, left, looked, tried, told_of, alternatives_fail, begins, Stop, other, can, told, refuse, mapped, pair_with, read, read_token, at_one_of, read_is, fails_bind}
use Rattle.wac_lexer.specs.declared.token.Token.{Token}
use Rattle.wac_lexer.specs.declared.token.Token.TheVariants as t
use Rattle.wac_ast_base.specs.declared.error.Error.{Error}
use Rattle.wac_ast_grammar.specs.Tokens.{is_token, at}
use Rattle.wac_ast_base.specs.Error.{told_by}
use Rattle.wac_ast_base.specs.Answer.{End, end_of_input, Fails, told as told_stop}
use Rattle.wac_ast_grammar.proofs.Tables.{same_token, same_token_of}

abbrev pub ReadOf : Type 0 → Type 0
ReadOf A = Result (A × List Item) Stop

abbrev pub named : NamedInstantiationArgument → InstantiationArgument
named x = InstantiationArgument.named x.name x.expr

-- an item is no other token
other_token : (k l : Token) (x : Item) → same_token l k ≡ false → is_token k x.token ≡ true → is_token l x.token ≡ false
other_token k l x n h = go (is_token l x.token) refl
  where
    go : (b : Bool) → is_token l x.token ≡ b → b ≡ false
    go false e = refl
    go true e = let f : false ≡ true = back n ∙ same_token_of k l x h e in absurd cc

-- ---- after three dots

ends : (xs : List Item) → (at t.Comma xs || at t.CloseBrace xs) ≡ true → at_one_of (t.Comma ∷ t.CloseBrace ∷ []) xs ≡ true
ends xs = go (at t.Comma xs) (at t.CloseBrace xs)
  where
    go : (a b : Bool) → (a || b) ≡ true → cond a true (cond b true false) ≡ true
    go true b h = refl
    go false true h = refl
    go false false h = absurd cc

no_ends : (xs : List Item) → (at t.Comma xs || at t.CloseBrace xs) ≡ false → at_one_of (t.Comma ∷ t.CloseBrace ∷ []) xs ≡ false
no_ends xs = go (at t.Comma xs) (at t.CloseBrace xs)
  where
    go : (a b : Bool) → (a || b) ≡ false → cond a true (cond b true false) ≡ false
    go true b h = absurd cc
    go false true h = absurd cc
    go false false h = refl

not_ident : (xs : List Item) → (at t.Comma xs || at t.CloseBrace xs) ≡ true → at t.Ident xs ≡ false
not_ident [] h = refl
not_ident (x ∷ xs) h = go (is_token t.Comma x.token) refl (is_token t.CloseBrace x.token) refl h
  where
    go : (a : Bool) → is_token t.Comma x.token ≡ a → (b : Bool) → is_token t.CloseBrace x.token ≡ b → (a || b) ≡ true → is_token t.Ident x.token ≡ false
    go true e b f h = other_token t.Comma t.Ident x refl e
    go false e true f h = other_token t.CloseBrace t.Ident x refl f
    go false e false f h = absurd cc

no_ident : (xs : List Item) → at t.Ident xs ≡ false → read identifier xs ≡ refuse xs (can t.Ident ∷ [])
no_ident [] h = read_is identifier []
no_ident (x ∷ xs) h = read_is identifier (x ∷ xs) ∙ rw h refl

-- a comma or a closing brace
pub argument_fill : (xs : List Item) (x : Item) (ys : List Item) → at t.Ellipsis xs ≡ true → read_token [] t.Ellipsis xs ≡ Ok (x, ys) → (at t.Comma ys || at t.CloseBrace ys) ≡ true → read argument xs ≡ Ok (InstantiationArgument.fill x.span, ys)
argument_fill xs x ys h r e =
    let no_id = not_ident ys e in
    let over = ends ys e in
    read_is argument xs ∙ rw (h, r, no_id, over) refl

abbrev of_dots : Item → ReadOf Ident → ReadOf (Parts (rule argument))
of_dots x m = mapped {B = Parts (rule argument)} inl (pair_with x (mapped {A = Ident} {B = Ident ⊎ Unit {0}} inl m))

-- an identifier, or what is rejected for being none
pub argument_spread : (xs : List Item) (x : Item) (ys : List Item) → at t.Ellipsis xs ≡ true → read_token [] t.Ellipsis xs ≡ Ok (x, ys) → (at t.Comma ys || at t.CloseBrace ys) ≡ false → read argument xs ≡ mapped InstantiationArgument.spread (read identifier ys)
argument_spread xs x ys h r e = split (at t.Ident ys) refl
  where
    go : (m : ReadOf Ident) → mapped (build argument) (of_dots x m) ≡ mapped InstantiationArgument.spread m
    go (Ok i) = refl
    go (Err s) = refl

    split : (b : Bool) → at t.Ident ys ≡ b → read argument xs ≡ mapped InstantiationArgument.spread (read identifier ys)
    split true i =
        let one : read argument xs ≡ mapped (build argument) (of_dots x (read identifier ys)) = read_is argument xs ∙ rw (h, r, i) refl in
        one ∙ go (read identifier ys)
    split false i =
        let over = no_ends ys e in
        let none = no_ident ys i in
        read_is argument xs ∙ rw (h, r, i, over, none) refl

-- ---- a name

abbrev ident_of : Item → Ident
ident_of x = build identifier x

ident_taken : (x : Item) (xs : List Item) → is_token t.Ident x.token ≡ true → read identifier (x ∷ xs) ≡ Ok (ident_of x, xs)
ident_taken x xs h = read_is identifier (x ∷ xs) ∙ rw h refl

string_taken : (x : Item) (xs : List Item) → is_token t.String x.token ≡ true → read string (x ∷ xs) ≡ Ok (string_of x, xs)
string_taken x xs h = read_is string (x ∷ xs) ∙ rw h refl

name_ident : (x : Item) (xs : List Item) → is_token t.Ident x.token ≡ true → read argument_name (x ∷ xs) ≡ Ok (InstantiationArgumentName.ident (ident_of x), xs)
name_ident x xs h = let taken = ident_taken x xs h in read_is argument_name (x ∷ xs) ∙ rw (h, taken) refl

name_string : (x : Item) (xs : List Item) → is_token t.Ident x.token ≡ false → is_token t.String x.token ≡ true → read argument_name (x ∷ xs) ≡ Ok (InstantiationArgumentName.string (string_of x), xs)
name_string x xs n h = let taken = string_taken x xs h in read_is argument_name (x ∷ xs) ∙ rw (n, h, taken) refl

abbrev of_ident : Item → Item → ReadOf Expr → ReadOf (Parts (rule argument))
of_ident x y m = mapped {B = Parts (rule argument)} inr (mapped {A = Ident × ((Item × Expr) ⊎ Unit {0})} {B = (Ident × ((Item × Expr) ⊎ Unit {0})) ⊎ (Item × (Item × Expr))} inl (pair_with (ident_of x) (mapped {A = Item × Expr} {B = (Item × Expr) ⊎ Unit {0}} inl (pair_with y m))))

abbrev of_string : Item → Item → ReadOf Expr → ReadOf (Parts (rule argument))
of_string x y m = mapped {B = Parts (rule argument)} inr (mapped {A = Item × (Item × Expr)} {B = (Ident × ((Item × Expr) ⊎ Unit {0})) ⊎ (Item × (Item × Expr))} inr (pair_with x (pair_with y m)))

-- a name before a colon
pub argument_is_named : (xs : List Item) → at t.Ellipsis xs ≡ false → at_one_of (t.Ident ∷ t.String ∷ []) xs ≡ true → at t.Colon (after_first_item xs) ≡ true → read argument xs ≡ mapped named (read named_argument xs)
argument_is_named [] h n k = absurd cc
argument_is_named (x ∷ []) h n k = absurd cc
argument_is_named (x ∷ y ∷ xs) h n k = split (is_token t.Ident x.token) refl (is_token t.String x.token) refl n
  where
    of_id : (m : ReadOf Expr) → mapped (build argument) (of_ident x y m) ≡ mapped named (mapped (build named_argument) (pair_with (InstantiationArgumentName.ident (ident_of x)) (pair_with y m)))
    of_id (Ok e) = refl
    of_id (Err s) = refl

    of_str : (m : ReadOf Expr) → mapped (build argument) (of_string x y m) ≡ mapped named (mapped (build named_argument) (pair_with (InstantiationArgumentName.string (string_of x)) (pair_with y m)))
    of_str (Ok e) = refl
    of_str (Err s) = refl

    split : (a : Bool) → is_token t.Ident x.token ≡ a → (b : Bool) → is_token t.String x.token ≡ b → cond a true (cond b true false) ≡ true → read argument (x ∷ y ∷ xs) ≡ mapped named (read named_argument (x ∷ y ∷ xs))
    split true i b j n =
        let taken = ident_taken x (y ∷ xs) i in
        let name = name_ident x (y ∷ xs) i in
        let one : read argument (x ∷ y ∷ xs) ≡ mapped (build argument) (of_ident x y (read expr xs)) = read_is argument (x ∷ y ∷ xs) ∙ rw (h, i, taken, k) refl in
        let two : read named_argument (x ∷ y ∷ xs) ≡ mapped (build named_argument) (pair_with (InstantiationArgumentName.ident (ident_of x)) (pair_with y (read expr xs))) = read_is named_argument (x ∷ y ∷ xs) ∙ rw (name, k) refl in
        one ∙ of_id (read expr xs) ∙ ap (mapped named) (back two)
    split false i true j n =
        let name = name_string x (y ∷ xs) i j in
        let one : read argument (x ∷ y ∷ xs) ≡ mapped (build argument) (of_string x y (read expr xs)) = read_is argument (x ∷ y ∷ xs) ∙ rw (h, i, j, k) refl in
        let two : read named_argument (x ∷ y ∷ xs) ≡ mapped (build named_argument) (pair_with (InstantiationArgumentName.string (string_of x)) (pair_with y (read expr xs))) = read_is named_argument (x ∷ y ∷ xs) ∙ rw (name, k) refl in
        one ∙ of_str (read expr xs) ∙ ap (mapped named) (back two)
    split false i false j n = absurd cc

-- an identifier alone
alone : (x : Item) (xs : List Item) → is_token t.Ellipsis x.token ≡ false → is_token t.Ident x.token ≡ true → at t.Colon xs ≡ false → read argument (x ∷ xs) ≡ Ok (InstantiationArgument.inferred (ident_of x), xs)
alone x xs h i k =
    let taken = ident_taken x xs i in
    let is : ReadOf InstantiationArgument = Ok (InstantiationArgument.inferred (ident_of x), xs) in
    read_is argument (x ∷ xs) ∙ rw (h, i, taken, k) (refl {a = is})

-- a string alone is reported
string_alone : (x : Item) (xs : List Item) → is_token t.Ellipsis x.token ≡ false → is_token t.Ident x.token ≡ false → is_token t.String x.token ≡ true → at t.Colon xs ≡ false → read argument (x ∷ xs) ≡ Err (record { left = xs; expected = can t.Ident ∷ []; why = told x })
string_alone x xs h i j k = read_is argument (x ∷ xs) ∙ rw (h, i, j, k) refl

same_told : (end : End) (x : Item) (xs : List Item) → told_stop end (record { left = x ∷ xs; expected = can t.Ident ∷ []; why = other }) ≡ told_stop end (record { left = xs; expected = can t.Ident ∷ []; why = told x })
unfolding told_stop
same_told end x xs = refl

-- what is read as an identifier is an argument
pub argument_inferred_ok : (xs : List Item) (i : Ident) (ys : List Item) → at t.Ellipsis xs ≡ false → at_one_of (t.Ident ∷ t.String ∷ []) xs ≡ true → at t.Colon (after_first_item xs) ≡ false → read identifier xs ≡ Ok (i, ys) → read argument xs ≡ Ok (InstantiationArgument.inferred i, ys)
argument_inferred_ok [] i ys h n k r = absurd cc
argument_inferred_ok (x ∷ xs) i ys h n k r = split (is_token t.Ident x.token) refl
  where
    split : (a : Bool) → is_token t.Ident x.token ≡ a → read argument (x ∷ xs) ≡ Ok (InstantiationArgument.inferred i, ys)
    split true j =
        let same : ◌≡◌ {A = ReadOf Ident} (Ok (ident_of x, xs)) (Ok (i, ys)) = back (ident_taken x xs j) ∙ r in
        alone x xs h j k ∙ ap (mapped {A = Ident} {B = InstantiationArgument} InstantiationArgument.inferred) same
    split false j =
        let e : ◌≡◌ {A = ReadOf Ident} (refuse (x ∷ xs) (can t.Ident ∷ [])) (Ok (i, ys)) = back (no_ident (x ∷ xs) j) ∙ r in
        absurd cc

moved_fails : {A B : Type 0} (e : Error) (end : End) (s u : Stop) (m : Result A Stop) (r : Result B Stop) → m ≡ Err s → r ≡ Err u → told_stop end s ≡ told_stop end u → Fails e end m → Fails e end r
moved_fails {A = A} {B = B} e end s u m r is ir same f = subst (λ (z : Result B Stop). Fails e end z) (back ir) (go (subst (λ (z : Result A Stop). Fails e end z) is f))
  where
    go : Fails {A = A} e end (Err s) → Fails {A = B} e end (Err u)
    go (inl memory) = inl memory
    go (inr tells) = inr (ap Some (back same) ∙ tells)

-- what is rejected as an identifier is rejected as an argument
pub argument_inferred_fails : (e : Error) (end : End) (xs : List Item) → at t.Ellipsis xs ≡ false → at_one_of (t.Ident ∷ t.String ∷ []) xs ≡ true → at t.Colon (after_first_item xs) ≡ false → Fails e end (read identifier xs) → Fails e end (read argument xs)
argument_inferred_fails e end [] h n k f = absurd cc
argument_inferred_fails e end (x ∷ xs) h n k f = split (is_token t.Ident x.token) refl (is_token t.String x.token) refl n
  where
    split : (a : Bool) → is_token t.Ident x.token ≡ a → (b : Bool) → is_token t.String x.token ≡ b → cond a true (cond b true false) ≡ true → Fails e end (read argument (x ∷ xs))
    split true i b j n =
        let is : read argument (x ∷ xs) ≡ mapped {A = Ident} {B = InstantiationArgument} InstantiationArgument.inferred (read identifier (x ∷ xs)) = alone x xs h i k ∙ ap (mapped {A = Ident} {B = InstantiationArgument} InstantiationArgument.inferred) (back (ident_taken x xs i)) in
        subst (λ (z : ReadOf InstantiationArgument). Fails e end z) (back is) (fails_bind e end (read identifier (x ∷ xs)) _ f)
    split false i true j n = moved_fails e end (record { left = x ∷ xs; expected = can t.Ident ∷ []; why = other }) (record { left = xs; expected = can t.Ident ∷ []; why = told x }) (read identifier (x ∷ xs)) (read argument (x ∷ xs)) (no_ident (x ∷ xs) i) (string_alone x xs h i j k) (same_told end x xs) f
    split false i false j n = absurd cc

-- ---- none

pub none_begins : (xs : List Item) → at t.Ellipsis xs ≡ false → at_one_of (t.Ident ∷ t.String ∷ []) xs ≡ false → at_one_of (t.Ellipsis ∷ t.Ident ∷ t.String ∷ []) xs ≡ false
none_begins xs h n = rw h n

stops : (xs : List Item) → at t.Ellipsis xs ≡ false → at t.Ident xs ≡ false → at t.String xs ≡ false → read argument xs ≡ refuse xs (map can (begins argument))
stops [] h i j = read_is argument []
stops (x ∷ xs) h i j = read_is argument (x ∷ xs) ∙ rw (h, i, j) refl

-- no argument begins with the next item
pub argument_fails : (e : Error) (l : Reading) → at t.Ellipsis (left l) ≡ false → at_one_of (t.Ident ∷ t.String ∷ []) (left l) ≡ false → told_by e ≡ told_of (tried (begins argument) (looked l)) → Fails e (end_of_input l) (read argument (left l))
argument_fails e l h n tells = split (at t.Ident (left l)) refl (at t.String (left l)) refl n
  where
    split : (a : Bool) → at t.Ident (left l) ≡ a → (b : Bool) → at t.String (left l) ≡ b → cond a true (cond b true false) ≡ false → Fails e (end_of_input l) (read argument (left l))
    split true i b j n = absurd cc
    split false i true j n = absurd cc
    split false i false j n = alternatives_fail e l t.Ellipsis t.Ident (t.String ∷ []) (read argument (left l)) (stops (left l) h i j) tells
