-- What a rejection says of the items: the first place where none that derives can continue, and what can occur there.
use Rattle.std.specs.Prelude.{◌≡◌, ◌⊎◌, List, [], ◌∷◌, ◌++◌, true, Ok}
use Rattle.wac_lexer.specs.declared.token.Token.{Token}
use Rattle.wac_lexer.specs.declared.token.Token.TheVariants as t
use Rattle.wac_lexer.specs.Item.{Item}
use Rattle.wac_ast_grammar.specs.Grammar.{Sym, argument, TreeOf, Derives}
use Rattle.wac_ast_grammar.specs.Reading.{Standing, at_once, closing, after_comma, Stop, before, read}
use Rattle.wac_ast_grammar.specs.Viable.{Viable, Similar}
use Rattle.wac_ast_grammar.specs.Arguments.{CutShort}
use Rattle.wac_ast_grammar.specs.Possible.{named, IsOf}

-- With the first of these items nothing that begins like `front` continues; or
-- there are none, and `front` is not derived.
abbrev pub Fault : Sym → List Item → List Item → Type 0
Fault s front [] = (ys : List Item) (t : TreeOf s) → Similar ys front → Derives s ys t → ⊥
Fault s front (x ∷ rest) = Viable s (front ++ (x ∷ [])) → ⊥

-- each item of the token, with any right text, can occur after these
abbrev pub CanStand : Sym → List Item → Token → Type 0
CanStand s lead k = (x : Item) → IsOf k x → Viable s (lead ++ (x ∷ []))

-- it can occur after a comma there
abbrev pub CanFollowComma : Sym → List Item → Token → Type 0
CanFollowComma s lead k = (comma x : Item) → IsOf t.Comma comma → IsOf k x → Viable s (lead ++ (comma ∷ x ∷ []))

-- The input ends after an item of a comma list: the token that closes the list can occur there, and after a comma.
abbrev pub EndsInList : Sym → List Item → List Item → Type 0
EndsInList s lead left = (left ≡ []) × (close : Token) × CanStand s lead close × CanFollowComma s lead close

-- How the token can occur after these items, where those are left. (What closes an empty body is reported elsewhere.)
abbrev pub Stands : Sym → List Item → List Item → Token → Standing → Type 0
Stands s lead left k at_once = CanStand s lead k
Stands s lead left k closing = Unit {0}
Stands s lead left k after_comma = EndsInList s lead left × CanFollowComma s lead k

-- The items before the stop are viable, and with the next they are not. Each token that was looked for can occur there,
-- with any right text, or where the rejection is reported at the item before, in that item's place.
abbrev pub Stopped : Sym → List Item → Stop → Type 0
Stopped s xs stop = (lead : List Item) × (xs ≡ (lead ++ before stop.why) ++ stop.left) × Viable s (lead ++ before stop.why) × Fault s (lead ++ before stop.why) stop.left × ((m : Standing) (k : Token) → named m k stop.expected ≡ true → Stands s lead stop.left k m)

-- So it is where an argument was to be read, or the input ends after the argument's dots.
abbrev pub ArgumentStopped : List Item → Stop → Type 0
ArgumentStopped xs stop = Stopped argument xs stop ⊎ CutShort xs stop

-- Where a tree is read of the items before this one, the item does not continue them.
abbrev pub EndsBefore : (s : Sym) → List Item → Item → List Item → TreeOf s → Type 0
EndsBefore s front x rest tree = read s (front ++ x ∷ rest) ≡ Ok (tree, x ∷ rest) → Fault s front (x ∷ rest)
