-- Lists up to a closing token.
use Rattle.std.specs.Prelude.{◌≡◌, ℕ, List, [], ◌∷◌, map, take, length, Option, Some, None, Result, Ok, Err, Bool, true, false, cond, Vec}
use Rattle.std.proofs.Common.{Global}
use Rattle.wac_lexer.specs.Span.{Span}
use Rattle.wac_lexer.specs.Item.{Item, next_token}
use Rattle.wac_lexer.specs.Reading.{Reading, left, shown}
use Rattle.wac_lexer.specs.declared.token.Token.{Token}
use Rattle.wac_lexer.specs.declared.token.Token.TheVariants as t
use Rattle.wac_ast_base.specs.declared.error.Error.{Error}
use Rattle.wac_ast_grammar.specs.Tokens.{at}
use Rattle.wac_ast_grammar.specs.Grammar.{Sym, TreeOf, Listed, arguments, argument, cases, variant_case, fields, field, flags, flag, enum_cases, enum_case, params, named_type, types, ty, use_items, use_item, include_items, include_item, sym, methods, resource_method, interface_items, interface_item, world_items, world_item, list_items, more_items}
use Rattle.wac_ast_grammar.specs.Reading.{Stop, can, follows, begins, refuse, mapped, two, read_token, read_sym, read, read_in}
use Rattle.wac_ast_base.specs.Error.{Told, expected}
use Rattle.wac_ast_base.specs.Lookahead.{refusal}
use Rattle.wac_ast_base.specs.Answer.{end_of_input, Fails, FailsAs, Gives}

abbrev pub Reads : Type 0 → Type 0
Reads A = Result (A × List Item) Stop

-- what each value of a vector is seen as, in order
abbrev pub each : {X A : Type 0} → (X → A) → Vec X Global → List A
each view v = map view v.items

-- the closing token, or an item and what follows it
abbrev pub list_by : {A : Type 0} → Token → List Token → (List Item → Reads A) → (List Item → Reads (Listed A)) → List Item → Reads (Listed A)
list_by close firsts item more xs = cond (at close xs) (mapped (λ x. ([], x)) (read_token [] close xs)) (mapped (λ p. (p.0 ∷ p.1.0, p.1.1)) (two (read_sym item firsts (can close ∷ []) xs) (λ a. more)))

-- after an item: the closing token, or a comma and the others
abbrev pub rest_by : {A : Type 0} → Token → List Token → (List Item → Reads (Listed A)) → List Item → Reads (Listed A)
rest_by close firsts list [] = refuse [] (can close ∷ map follows firsts)
rest_by close firsts list (x ∷ xs) = cond (at close (x ∷ xs)) (mapped (λ y. ([], y)) (read_token [] close (x ∷ xs))) (mapped (λ p. p.1) (two (read_token [] t.Comma (x ∷ xs)) (λ a. list)))

-- a list, as what follows an item is read
pub record IsList {A : Type 0} (close : Token) (firsts : List Token) (item : List Item → Reads A) (list more : List Item → Reads (Listed A)) : Type 0 where
  pub items : (xs : List Item) → list xs ≡ list_by close firsts item more xs

-- a comma list
pub record IsCommaList {A : Type 0} (close : Token) (firsts : List Token) (item : List Item → Reads A) (list more : List Item → Reads (Listed A)) : Type 0 where
  pub is_list : IsList close firsts item list more
  pub rest : (xs : List Item) → more xs ≡ rest_by close firsts list xs

-- the items of a list, where the closing token is still to be taken
abbrev pub unclosed : {A : Type 0} → Reads (Listed A) → Reads (List A)
unclosed (Ok x) = Ok (x.0.0, x.0.1 ∷ x.1)
unclosed (Err stop) = Err stop

-- A list was taken up to its closing token, whose span is returned beside its items; an error is made into another.
abbrev pub TakesListBy : {X A E : Type 0} → (Error → E → Type 0) → (X → List A) → Result (X × Span) E → Reading → Reading → Reads (Listed A) → Type 0
TakesListBy made view (Ok x) old new r = (last : Item) × (r ≡ Ok ((view x.0, last), left new)) × (x.1 ≡ last.span) × (end_of_input new ≡ end_of_input old)
TakesListBy made view (Err x) old new r = FailsAs made (end_of_input old) r x

abbrev pub GivesBy : {X Y E : Type 0} → (Error → E → Type 0) → (X → Y) → Result X E → Reading → Reading → Reads Y → Type 0
GivesBy made view (Ok x) old new r = (r ≡ Ok (view x, left new)) × (end_of_input new ≡ end_of_input old)
GivesBy made view (Err x) old new r = FailsAs made (end_of_input old) r x

-- The items of a list are given, as this reads it, where its closing token is still to be taken.
abbrev pub GivesItems : {X A E : Type 0} → (Error → E → Type 0) → (X → A) → (List Item → Reads (Listed A))
    → Result (Vec X Global) E → Reading → Reading → Type 0
GivesItems made view list result old new = GivesBy made (each view) result old new (unclosed (list (left old)))

-- A list was taken, as this reads it, up to its closing token, whose span is returned beside its items.
abbrev pub TakesItems : {X A E : Type 0} → (Error → E → Type 0) → (X → A) → (List Item → Reads (Listed A))
    → Result (Vec X Global × Span) E → Reading → Reading → Type 0
TakesItems made view list result old new = TakesListBy made (each view) result old new (list (left old))

-- After an item the list continues at the new place, or the error says why it does not.
abbrev pub GoesOn : {X A : Type 0} → (List Item → Reads (Listed A)) → (List Item → Reads (Listed A)) → Result X Error → Reading → Reading → Type 0
GoesOn list more (Ok x) old new = (more (left old) ≡ list (left new)) × (end_of_input new ≡ end_of_input old)
GoesOn list more (Err error) old new = Fails error (end_of_input old) (more (left old))

-- ---- the comma lists of the grammar, by their items

-- the token that closes the list
abbrev pub closes : Sym → Option Token
closes argument = Some t.CloseBrace
closes variant_case = Some t.CloseBrace
closes field = Some t.CloseBrace
closes flag = Some t.CloseBrace
closes enum_case = Some t.CloseBrace
closes named_type = Some t.CloseParen
closes ty = Some t.CloseAngle
closes use_item = Some t.CloseBrace
closes include_item = Some t.CloseBrace
closes _ = None

-- how the list is read
abbrev pub list_of : (s : Sym) → List Item → Reads (Listed (TreeOf s))
list_of argument = read (list_items arguments)
list_of variant_case = read (list_items cases)
list_of field = read (list_items fields)
list_of flag = read (list_items flags)
list_of enum_case = read (list_items enum_cases)
list_of named_type = read (list_items params)
list_of ty = read (list_items types)
list_of use_item = read (list_items use_items)
list_of include_item = read (list_items include_items)
list_of _ = λ xs. refuse xs []

-- how what follows an item is read
abbrev pub more_of : (s : Sym) → List Item → Reads (Listed (TreeOf s))
more_of argument = read (more_items arguments)
more_of variant_case = read (more_items cases)
more_of field = read (more_items fields)
more_of flag = read (more_items flags)
more_of enum_case = read (more_items enum_cases)
more_of named_type = read (more_items params)
more_of ty = read (more_items types)
more_of use_item = read (more_items use_items)
more_of include_item = read (more_items include_items)
more_of _ = λ xs. refuse xs []

-- Each list of items that begin with these tokens, which is closed by that one, goes on after an item.
abbrev pub ListsGoOn : {X : Type 0} → List Token → Token → Result X Error → Reading → Reading → Type 0
ListsGoOn firsts close result old new =
    (s : Sym) → closes s ≡ Some close → firsts ≡ begins s → GoesOn (list_of s) (more_of s) result old new

-- an item where its list may be closed by this token instead
abbrev pub read_item : (s : Sym) → Token → List Item → Reads (TreeOf s)
read_item s close xs = read_in read (sym s) (can close ∷ []) xs

-- The item is given that stands where its list may be closed by this token instead.
abbrev pub GivesItem : {X : Type 0} → (s : Sym) → Token → (X → TreeOf s) → Result X Error → Reading → Reading → Type 0
GivesItem s close view result old new = Gives view result old new (read_item s close (left old))

-- the items of the comma list, where its closing token is still to be taken
abbrev pub items_of : (s : Sym) → List Item → Reads (List (TreeOf s))
items_of s xs = unclosed (list_of s xs)

-- ---- the bodies of the grammar, which are lists without commas in braces, by their items

abbrev pub repeats : Sym → Bool
repeats resource_method = true
repeats interface_item = true
repeats world_item = true
repeats _ = false

-- how the body is read
abbrev pub body_of : (s : Sym) → List Item → Reads (Listed (TreeOf s))
body_of resource_method = read methods
body_of interface_item = read interface_items
body_of world_item = read world_items
body_of _ = λ xs. refuse xs []

-- what is reported where more than one token was tried
abbrev pub tells : List ℕ → Span → List Item → List Token → Told
tells source last xs ks = refusal (next_token xs) (shown source last) (expected (take 10 ks) (length ks))
