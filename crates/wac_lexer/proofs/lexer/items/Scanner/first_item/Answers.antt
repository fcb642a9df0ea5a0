use Rattle.wac_lexer.proofs.Common.{◌≡◌, length, sym, ap, ◌∙◌, subst, Some, None, Option, ℕ, Err, false, get_or, arith, ◌<◌, IsCharBoundary}
use Rattle.wac_lexer.specs.declared.error.Error.TheVariants.{UnexpectedToken}
use Rattle.wac_lexer.specs.Comments.{opens}
use Rattle.wac_lexer.specs.Tokens.{token_of, longest_token}
use Rattle.wac_lexer.specs.Front.{longest}
use Rattle.wac_lexer.specs.Shapes.{shape_of}
use Rattle.wac_lexer.specs.declared.shape.Shape.{Shape}
use Rattle.wac_lexer.proofs.Fronts.{Fronts, fronts, front_boundary, first_item_is, fault_quote, fault_other, boundary_after_ascii}
use Rattle.wac_lexer.specs.Items.{first_item, fault_of}
use Rattle.wac_lexer.proofs.Boundaries.{ne_zero}
use Rattle.wac_lexer.proofs.lexer.items.Scanner.first_item.Goals as goal
use Rattle.wac_lexer.proofs.lexer.items.Scanner.first_item.Goals.{After-longest_front}

-- what the walk found
fronts_at : (c : After-longest_front) (found : Option (ℕ × Shape)) → c.longest_front.result ≡ found → Fronts c.args.text.now (length c.args.text.now) found (longest_token c.args.text.now (length c.args.text.now))
fronts_at c found e =
    let text = c.args.text.now in
    let is = ap (λ t. longest t (length t)) (sym c.as_bytes-bytes.ensures.value) ∙ sym c.longest_front.ensures ∙ e in
    subst (λ f. Fronts text (length text) f (longest_token text (length text))) is (fronts text (length text))

no_comment : (c : After-longest_front) → opens c.args.text.now ≡ false
no_comment c = ap opens (sym c.as_bytes-bytes.ensures.value) ∙ sym c.opens.ensures ∙ c.if-opens.false

boundary : (c : After-longest_front) (len : ℕ) (shape : Shape) → c.longest_front.result ≡ Some (len, shape) → IsCharBoundary c.args.text.now len
boundary c len shape e =
    let front = fronts_at c (Some (len, shape)) e in
    front_boundary c.args.text.now len shape c.utf8.text front.1 front.2 front.0

pub split_at-requires : goal.split_at-requires
split_at-requires c = boundary (goal.at.split_at-requires c).After-longest_front c.in-Some.len c.in-Some.shape c.in-Some.is

pub token_of-token-requires : goal.token_of-token-requires
token_of-token-requires c =
    let front = fronts_at (goal.at.token_of-token-requires c).After-longest_front (Some (c.in-Some.len, c.in-Some.shape)) c.in-Some.is in
    ap shape_of c.split_at.ensures.front ∙ front.0

pub returns-in-Some-clause-item : goal.returns-in-Some-clause-item
returns-in-Some-clause-item c =
    let front = fronts_at (goal.at.returns-in-Some-clause-item c).After-longest_front (Some (c.in-Some.len, c.in-Some.shape)) c.in-Some.is in
    let token = c.token_of-token.result in
    sym (first_item_is c.args.text.now (Some (c.in-Some.len, token)) (sym c.is_empty.ensures ∙ c.if-is_empty.false) (no_comment (goal.at.returns-in-Some-clause-item c).After-longest_front) (front.3 token (ap token_of (sym c.split_at.ensures.front) ∙ c.token_of-token.ensures)))

pub returns-in-Some-clause-within : goal.returns-in-Some-clause-within
returns-in-Some-clause-within c = boundary (goal.at.returns-in-Some-clause-within c).After-longest_front c.in-Some.len c.in-Some.shape c.in-Some.is

-- no token begins
no_token : (c : After-longest_front) → c.longest_front.result ≡ None → first_item c.args.text.now ≡ Some (fault_of c.args.text.now)
no_token c e = first_item_is c.args.text.now None (sym c.is_empty.ensures ∙ c.if-is_empty.false) (no_comment c) (fronts_at c None e)

pub returns-then-bytes-eq34-clause-item : goal.returns-then-bytes-eq34-clause-item
returns-then-bytes-eq34-clause-item c =
    let byte : get_or c.args.text.now 0 0 ≡ 34 = ap (λ t. get_or t 0 0) (sym c.as_bytes-bytes.ensures.value) ∙ c.if-bytes-eq34.true in
    ap Some (sym (fault_quote c.args.text.now byte)) ∙ sym (no_token (goal.at.returns-then-bytes-eq34-clause-item c).After-longest_front c.in-None.is)

pub returns-then-bytes-eq34-clause-within : goal.returns-then-bytes-eq34-clause-within
returns-then-bytes-eq34-clause-within c =
    let byte : get_or c.args.text.now 0 0 ≡ 34 = ap (λ t. get_or t 0 0) (sym c.as_bytes-bytes.ensures.value) ∙ c.if-bytes-eq34.true in
    let some : 0 < length c.args.text.now = ne_zero (length c.args.text.now) (sym c.is_empty.ensures ∙ c.if-is_empty.false) in
    boundary_after_ascii c.args.text.now 1 c.utf8.text (omega arith) (omega arith) (omega arith)

pub returns-else-bytes-eq34-clause-item : goal.returns-else-bytes-eq34-clause-item
returns-else-bytes-eq34-clause-item c =
    ap (λ n. Some (Err UnexpectedToken, n)) c.first_char_len.ensures.len
    ∙ ap Some (sym (fault_other c.args.text.now (λ e. c.if-bytes-eq34.false (ap (λ t. get_or t 0 0) c.as_bytes-bytes.ensures.value ∙ e))))
    ∙ sym (no_token (goal.at.returns-else-bytes-eq34-clause-item c).After-longest_front c.in-None.is)
