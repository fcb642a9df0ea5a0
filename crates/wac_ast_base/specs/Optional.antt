-- Optional parts: what a callback after a token returns, and how a fault in the token's place is reported.
use Rattle.std.specs.Prelude.{◌≡◌, true, false, Option, Some, None, Result, Ok, Err, IfOk, IfSome, IsErrAnd}
use Rattle.wac_lexer.specs.Item.{next_token, after_first_item}
use Rattle.wac_lexer.specs.Reading.{Reading, left, Nexts}
use Rattle.wac_lexer.specs.declared.token.Token.{Token}
use Rattle.wac_ast_grammar.specs.Tokens.{at}
use Rattle.wac_ast_grammar.specs.Grammar.{Sym, TreeOf}
use Rattle.wac_ast_grammar.specs.Consumed.{Consumed}
use Rattle.wac_ast_base.specs.Error.{Told, told_by}
use Rattle.wac_ast_base.specs.Lookahead.{next_fault}
use Rattle.wac_ast_base.specs.declared.error.Error.{Error}

-- The result is the callback's: what it gives, or its error.
abbrev pub AnswersBy : {R E : Type 0} → (Result R E → Reading → Type 0) → Result (Option R) E → Reading → Type 0
AnswersBy calls (Ok (Some x)) new = calls (Ok x) new
AnswersBy calls (Ok None) new = ⊥
AnswersBy calls (Err error) new = calls (Err error) new

-- Where the token is next it is taken, and the result is what the callback gives after it.
abbrev pub PassesOn : {R E : Type 0} → Token → (Reading → Result R E → Reading → Type 0)
    → Result (Option R) E → Reading → Reading → Type 0
PassesOn token calls result old new = at token (left old) ≡ true
    → (after : Reading) × Nexts old (next_token (left old)) after × AnswersBy (calls after) result new

-- Where each tree that the callback gives derives from the items that it took, so does the one that is given here.
abbrev pub DerivesAfter : {R E : Type 0} → (Reading → Result R E → Reading → Type 0)
    → Result (Option R) E → Reading → Reading → Type 0
DerivesAfter {R} calls result old new = (s : Sym) (view : R → TreeOf s)
    → ((before : Reading) (x : R) (after : Reading) → calls before (Ok x) after
    → Consumed s (left before) (left after) (view x))
    → IfOk result (λ o. IfSome o (λ x. Consumed s (after_first_item (left old)) (left new) (view x)))

-- Where neither the token nor a fault is next, nothing is given and nothing is taken.
abbrev pub GivesNone : {R E : Type 0} → Token → Result (Option R) E → Reading → Reading → Type 0
GivesNone token result old new =
    at token (left old) ≡ false → next_fault old ≡ None → (result ≡ Ok None) × (new ≡ old)

-- the error reports the fault that is next, which is not taken
abbrev pub ReportsFault : Reading → Reading → Error → Type 0
ReportsFault old new e = (next_fault old ≡ Some (told_by e)) × (new ≡ old)

-- the result is an error that is made of this one, and nothing is taken
abbrev pub FailsBy : {X E : Type 0} → (Error → E → Type 0) → Result X E → Reading → Reading → Told → Type 0
FailsBy made result old new t = IsErrAnd result (λ x. (e : Error) × made e x × (told_by e ≡ t)) × (new ≡ old)
