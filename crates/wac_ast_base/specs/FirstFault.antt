-- What a parser's result says of the items that it was given: a tree of those that it took, or what an error reports of their first fault.
use Rattle.std.specs.Prelude.{◌≡◌, ◌<◌, ℕ, List, [], ◌∷◌, ◌++◌, ◌⊎◌, take, length, Option, Some, None, Result, Ok, Err, true, false, alloc_error}
use Rattle.wac_lexer.specs.Span.{Span}
use Rattle.wac_lexer.specs.Item.{Item}
use Rattle.wac_lexer.specs.Reading.{Reading, left, shown}
use Rattle.wac_lexer.specs.declared.token.Token.{Token}
use Rattle.wac_lexer.specs.declared.token.Token.TheVariants as t
use Rattle.wac_lexer.specs.declared.error.Error.{Error as Fault}
use Rattle.wac_ast_grammar.specs.Tokens.{is_token, valid}
use Rattle.wac_ast_grammar.specs.Grammar.{Sym, argument, Body, TreeOf, Derives}
use Rattle.wac_ast_grammar.specs.Reading.{read}
use Rattle.wac_ast_grammar.specs.Viable.{Viable}
use Rattle.wac_ast_grammar.specs.Bodies.{Opens}
use Rattle.wac_ast_grammar.specs.Arguments.{IsAlone, EndsArgued}
use Rattle.wac_ast_grammar.specs.Stopped.{Fault as IsFault, CanStand, CanFollowComma, EndsInList}
use Rattle.wac_ast_base.specs.declared.error.Error.{Error}
use Rattle.wac_ast_base.specs.declared.error.Error.TheVariants.{Memory}
use Rattle.wac_ast_base.specs.Error.{Told, told_by, places, faulty, expected_one, expected_either, expected_many, empty_type, invalid_version, no_memory}
use Rattle.wac_ast_base.specs.Answer.{End, Gives, end_of_input, empty_end, body_name, part_name, version_told}

-- ---- the first fault of a part's items

-- The items before are viable; with the next one they are not, or none is left and they are no whole part.
pub record FirstFault (s : Sym) (items lead left : List Item) : Type 0 where
  pub splits : items ≡ lead ++ left
  pub viable : Viable s lead
  pub fault : IsFault s lead left

-- The token can occur there. Two exceptions: it would close a body that is still empty; or the input ends after an item
-- of a comma list, and the token can occur after a comma.
abbrev pub Expects : Sym → List Item → List Item → Token → Type 0
Expects s lead left k = CanStand s lead k ⊎ ((is_token t.CloseBrace (Ok k) ≡ true) × (b : Body) × Opens b lead) ⊎ (EndsInList s lead left × CanFollowComma s lead k)

abbrev pub AllExpected : Sym → List Item → List Item → List Token → Type 0
AllExpected s lead left [] = Unit {0}
AllExpected s lead left (k ∷ ks) = Expects s lead left k × AllExpected s lead left ks

-- what was found: the token of the next item, and its span; or nothing, and a span for the end of the input
abbrev pub Finds : List Item → Span → Option Token → Span → Type 0
Finds [] end found s = (found ≡ None) × (s ≡ end)
Finds (x ∷ left) end found s = (k : Token) × (x.token ≡ Ok k) × (found ≡ Some k) × (s ≡ x.span)

-- the end of the input, as a token in a sequence reports it, and as an alternative or a list does: at the last item
abbrev pub end_in_sequence : End → Span
end_in_sequence end = shown end.source (empty_end end.source)

abbrev pub end_of_choice : End → Span
end_of_choice end = shown end.source end.final

-- ---- what an error reports of the first fault

-- what holds where this is reported
abbrev pub Holds : Sym → End → List Item → List Item → Told → Type 0
Holds s end lead left (faulty fault at) = (x : Item) × (others : List Item) × (left ≡ x ∷ others) × (x.token ≡ Err fault) × (at ≡ x.span)
Holds s end lead left (expected_one k found at) = Finds left (end_in_sequence end) found at × Expects s lead left k
Holds s end lead left (expected_either k l found at) = Finds left (end_of_choice end) found at × Expects s lead left k × Expects s lead left l
-- More than two were tried: all are counted, and the first ten are kept, in order.
Holds s end lead left (expected_many kept count found at) =
    (tried : List Token) × Finds left (end_of_choice end) found at × (2 < length tried) × (count ≡ length tried) × (kept ≡ places 10 (take 10 tried)) × AllExpected s lead left tried
Holds s end lead left (empty_type ty kind at) = (b : Body) × (x : Item) × (others : List Item) × (left ≡ x ∷ others) × Opens b lead × (is_token t.CloseBrace x.token ≡ true) × (ty ≡ body_name b) × (kind ≡ part_name b) × (at ≡ x.span)
Holds s end lead left (invalid_version version at) = (k : Token) × (x : Item) × (others : List Item) × (left ≡ x ∷ others) × (is_token k x.token ≡ true) × (valid k x.text ≡ false) × CanStand s lead k × (invalid_version version at ≡ version_told x.text x.span)
Holds s end lead left no_memory = ⊥

-- What is reported holds. A fault, a body that is empty, and a text that is no version where another could occur, are
-- reported as such; and the last viable item is no string that an argument begins with.
pub record Tells (s : Sym) (end : End) (lead left : List Item) (told : Told) : Type 0 where
  pub holds : Holds s end lead left told
  pub of_fault : (x : Item) (others : List Item) (fault : Fault) → left ≡ x ∷ others → x.token ≡ Err fault → told ≡ faulty fault x.span
  pub of_empty : (b : Body) (x : Item) (others : List Item) → left ≡ x ∷ others → Opens b lead → is_token t.CloseBrace x.token ≡ true → told ≡ empty_type (body_name b) (part_name b) x.span
  pub of_version : (x y : Item) (others : List Item) → left ≡ x ∷ others → x.token ≡ y.token → Viable s (lead ++ (y ∷ [])) → told ≡ version_told x.text x.span
  pub no_string : EndsArgued s lead → ⊥

-- What is reported lies at the first fault; or the last viable item is a string that an argument begins with, and it is reported that an
-- identifier is expected in its place.
abbrev pub TellsFirstFault : Sym → End → List Item → Told → Type 0
TellsFirstFault s end items told =
    ((lead : List Item) × (left : List Item) × FirstFault s items lead left × Tells s end lead left told)
    ⊎ ((lead : List Item) × (string : Item) × (left : List Item) × FirstFault s items (lead ++ (string ∷ [])) left × EndsArgued s (lead ++ (string ∷ [])) × CanStand s lead t.Ident × (told ≡ expected_one t.Ident (Some t.String) string.span))

-- The input ends after the dots of an argument. They are one where a comma or a closing brace follows;
-- an identifier is expected.
abbrev pub TellsCutShort : End → List Item → Told → Type 0
TellsCutShort end items told = IsAlone t.Ellipsis items × (told ≡ expected_one t.Ident None (end_in_sequence end))

-- What is reported where a part is rejected. An argument alone may be cut short.
abbrev pub TellsRefusal : Sym → End → List Item → Told → Type 0
TellsRefusal argument end items told = TellsFirstFault argument end items told ⊎ TellsCutShort end items told
TellsRefusal s end items told = TellsFirstFault s end items told

-- ---- what a parser returns

-- The items that were taken derive the tree, and the next one does not continue it.
pub record Parsed (s : Sym) (old new : List Item) (tree : TreeOf s) : Type 0 where
  pub taken : List Item
  pub splits : old ≡ taken ++ new
  pub derives : Derives s taken tree
  pub ends : (x : Item) (rest : List Item) → new ≡ x ∷ rest → Viable s (taken ++ (x ∷ [])) → ⊥

-- A tree of the part, or what is reported of the part's rejection, unless memory ran out.
abbrev pub Answers : {X : Type 0} → (s : Sym) → (X → TreeOf s) → Result X Error → Reading → Reading → Type 0
Answers s view (Ok x) old new = Parsed s (left old) (left new) (view x)
Answers s view (Err error) old new = (error ≡ Memory alloc_error) ⊎ TellsRefusal s (end_of_input old) (left old) (told_by error)

-- Whatever reading gives of the part, as this sees it, is a tree of it or reports its first fault.
abbrev pub StopsAtFirstFault : {X : Type 0} → (s : Sym) → (X → TreeOf s) → Type 0
StopsAtFirstFault {X} s view = (result : Result X Error) (old new : Reading)
    → Gives view result old new (read s (left old)) → Answers s view result old new
