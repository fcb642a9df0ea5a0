-- What is returned for some of the parts of a production.
use Rattle.std.specs.Prelude.{◌≡◌, List, [], ◌∷◌, Vec, Option, Some, None, Result, Ok, Err, ◌⊎◌}
use Rattle.std.specs.Option.{option_map}
use Rattle.std.proofs.Common.{Global, inl, inr}
use Rattle.wac_lexer.specs.Item.{Item}
use Rattle.wac_lexer.specs.Reading.{Reading, left}
use Rattle.wac_lexer.specs.declared.token.Token.{Token}
use Rattle.wac_ast_base.specs.declared.error.Error.{Error}
use Rattle.wac_lexer.specs.declared.token.Token.TheVariants as t
use Rattle.wac_ast_base.specs.declared.pieces.BodyKind.{BodyKind}
use Rattle.wac_ast_base.specs.declared.pieces.BodyKind.TheVariants as kinds
use Rattle.wac_ast_grammar.specs.Grammar.{Body, Sym, TreeOf, Grammar, Parts, token, sym, nothing, anything, not_empty, optional, ◌▸◌, variant_body, record_body, flags_body, enum_body, variant_case, field, flag, enum_case, cases, fields, flags, enum_cases, more_items}
use Rattle.wac_ast_grammar.specs.Reading.{read, read_in}
use Rattle.wac_ast_base.specs.Answer.{end_of_input, FailsAs}
use Rattle.wac_ast_base.specs.Lists.{each}

abbrev pub PartOf : {X Y E : Type 0} (g : Grammar) → (Parts g → Y) → (Error → E → Type 0) → (X → Y) → Result X E → Reading → Reading → Type 0
PartOf g of made view (Ok x) old new = (p : Parts g) × (read_in read g [] (left old) ≡ Ok (p, left new)) × (of p ≡ view x) × (end_of_input new ≡ end_of_input old)
PartOf g of made view (Err x) old new = FailsAs made (end_of_input old) (read_in read g [] (left old)) x

-- The parts that are read by this grammar, from which some function makes the result; or the error reports the place
-- where reading stops.
pub record GivesPart {X Y E : Type 0} (g : Grammar) (of : Parts g → Y) (made : Error → E → Type 0) (view : X → Y) (r : Result X E) (old new : Reading) : Type 0 where
  pub part : PartOf g of made view r old new

-- the error that is returned is the parser's own
abbrev pub Same : Error → Error → Type 0
Same e x = x ≡ e

-- a part and the token after it
abbrev pub part_before : Sym → Token → Grammar
part_before s close = sym s ▸ token close

-- perhaps a token, and then the part after it
abbrev pub part_after : Token → Sym → Grammar
part_after word s = optional (token word ▸ sym s)

abbrev pub after_word : {A : Type 0} → (Item × A) ⊎ Unit {0} → Option A
after_word (inl p) = Some p.1
after_word (inr u) = None

-- The part after this token is given, where the token is next.
abbrev pub GivesAfter : {X E : Type 0} → Token → (s : Sym) → (Error → E → Type 0) → (X → TreeOf s)
    → Result (Option X) E → Reading → Reading → Type 0
GivesAfter word s made view = GivesPart (part_after word s) after_word made (option_map view)

-- ---- bodies that may not be empty, by their items

abbrev pub body_of : BodyKind → Body
body_of kinds.Variant = variant_body
body_of kinds.Record = record_body
body_of kinds.Flags = flags_body
body_of kinds.Enum = enum_body

abbrev pub body_of_items : Sym → Option Body
body_of_items variant_case = Some variant_body
body_of_items field = Some record_body
body_of_items flag = Some flags_body
body_of_items enum_case = Some enum_body
body_of_items _ = None

-- the body, from its opening brace on
abbrev pub filled : Sym → Grammar
filled variant_case = token t.OpenBrace ▸ not_empty variant_body t.CloseBrace (sym variant_case ▸ sym (more_items cases))
filled field = token t.OpenBrace ▸ not_empty record_body t.CloseBrace (sym field ▸ sym (more_items fields))
filled flag = token t.OpenBrace ▸ not_empty flags_body t.CloseBrace (sym flag ▸ sym (more_items flags))
filled enum_case = token t.OpenBrace ▸ not_empty enum_body t.CloseBrace (sym enum_case ▸ sym (more_items enum_cases))
filled _ = nothing anything

abbrev pub filled_items : (s : Sym) → Parts (filled s) → List (TreeOf s)
filled_items variant_case p = p.1.0 ∷ p.1.1.0
filled_items field p = p.1.0 ∷ p.1.1.0
filled_items flag p = p.1.0 ∷ p.1.1.0
filled_items enum_case p = p.1.0 ∷ p.1.1.0
filled_items _ p = []

-- The items of such a body are given, from its opening brace to its closing one.
abbrev pub GivesFilled : {X E : Type 0} → (s : Sym) → (Error → E → Type 0) → (X → TreeOf s)
    → Result (Vec X Global) E → Reading → Reading → Type 0
GivesFilled s made view = GivesPart (filled s) (filled_items s) made (each view)
