-- One item of a statement after another.
use Rattle.std.proofs.Common.{◌≡◌, refl, sym, ap, ◌∙◌, subst, ℕ, ◌+◌, ◌-◌, ◌<◌, ◌≤◌, List, [], ◌∷◌, length, Bool, true, false, cond, arith, Option, Some, None, Result}
use Rattle.std.specs.Prelude.{IfSome, nat_lt, option_map}
use Rattle.std.specs.Str.{IsCharBoundary}
use Rattle.std.proofs.lemmas.Bool.{lt-ltb, le-ltb}
use Rattle.std.proofs.lemmas.Str.{IsCharBoundary-end}
use Rattle.wac_lexer.specs.Item.{Item, NextToken, next_token, after_first_item}
use Rattle.wac_lexer.specs.Reading.{Slices}
use Rattle.wac_lexer.specs.Span.{Span, end_of}
use Rattle.wac_lexer.specs.declared.token.Token.{Token}
use Rattle.wac_lexer.specs.declared.error.Error.{Error}
use Rattle.wac_ast_grammar.specs.Tokens.{is_token}
use Rattle.wac_lexer.specs.declared.token.Token.TheVariants as t
use Rattle.wac_recovery.specs.Statements.{after_item, begun_at, ends, statement_among, up_to, with_item}
use Rattle.wac_recovery.specs.declared.statements.Begun.{Begun}

-- what is found at an item that ends its statement or doesn't, by what was computed
abbrev pub by_end : ℕ → ℕ → Begun → Result Token Error → ℕ → List Item → Bool → Option Span
by_end end place b x stop new is_end =
    cond is_end (cond (nat_lt place stop) (Some (up_to stop b)) (statement_among end place None new)) (statement_among end place (Some (after_item b x)) new)

-- what is found at an item, with these after it
abbrev pub found_at : ℕ → ℕ → Option Begun → List Item → NextToken → Option Span
found_at end place begun xs None = option_map (up_to end) begun
found_at end place begun xs (Some x) = let b = with_item begun x.0 x.1.offset in by_end end place b x.0 (end_of x.1) xs (ends b x.0 (next_token xs))

one_more : (end place : ℕ) (begun : Option Begun) (items : List Item) → statement_among end place begun items ≡ found_at end place begun (after_first_item items) (next_token items)
one_more end place begun [] = refl
one_more end place begun (x ∷ xs) = refl

-- at the end of the items
pub none_more : (end place : ℕ) (begun : Option Begun) (items : List Item) → None ≡ next_token items → option_map (up_to end) begun ≡ statement_among end place begun items
none_more end place begun items e = sym (one_more end place begun items ∙ ap (found_at end place begun (after_first_item items)) (sym e))

-- A step at an item: the values that it has computed.
module _ (end place : ℕ) (begun : Option Begun) (old new : List Item) (next : NextToken) (x : Result Token Error) (at : Span) (start stop : ℕ) (b : Begun) (is_end : Bool)
    (gives : Some (x, at) ≡ next_token old) (rest : new ≡ after_first_item old) (starts : start ≡ at.offset) (stops : stop ≡ end_of at) (begins : b ≡ with_item begun x start) (peeks : next ≡ next_token new)
    (tests : is_end ≡ ends b x next) where
  stepped : statement_among end place begun old ≡ by_end end place b x stop new is_end
  stepped =
      one_more end place begun old
      ∙ ap (λ xs. found_at end place begun xs (next_token old)) (sym rest)
      ∙ ap (found_at end place begun new) (sym gives)
      ∙ ap (λ n. let s = with_item begun x n in by_end end place s x (end_of at) new (ends s x (next_token new))) (sym starts)
      ∙ ap (λ s. by_end end place s x (end_of at) new (ends s x (next_token new))) (sym begins)
      ∙ ap (λ n. by_end end place b x (end_of at) new (ends b x n)) (sym peeks)
      ∙ ap (λ s. by_end end place b x s new (ends b x next)) (sym stops)
      ∙ ap (by_end end place b x stop new) (sym tests)

  pub found_here : is_end ≡ true → place < stop → Some (up_to stop b) ≡ statement_among end place begun old
  found_here e lt =
      sym (stepped ∙ ap (by_end end place b x stop new) e ∙ ap (λ t. cond t (Some (up_to stop b)) (statement_among end place None new)) (lt-ltb place stop lt))

  pub ended_before : is_end ≡ true → stop ≤ place → statement_among end place None new ≡ statement_among end place begun old
  ended_before e le =
      sym (stepped ∙ ap (by_end end place b x stop new) e ∙ ap (λ t. cond t (Some (up_to stop b)) (statement_among end place None new)) (le-ltb place stop le))

  pub goes_on : is_end ≡ false → (after : Begun) → after ≡ after_item b x → statement_among end place (Some after) new ≡ statement_among end place begun old
  goes_on e after is = ap (λ s. statement_among end place (Some s) new) is ∙ sym (stepped ∙ ap (by_end end place b x stop new) e)

-- a statement that was begun in a source, up to a place
abbrev pub IsBegun : List ℕ → ℕ → Begun → Type 0
IsBegun source place b = IsCharBoundary source b.start × ((b.start ≤ place) × (b.depth ≤ place))

depth_more : (d : ℕ) (a b : Bool) → cond a (d + 1) (cond b (d - 1) d) ≤ d + 1
depth_more d true b = omega arith
depth_more d false true = omega arith
depth_more d false false = omega arith

pub still_begun : (source : List ℕ) (old new : ℕ) (begun : Option Begun) (x : Result Token Error) (at : Span) (start : ℕ) → start ≡ at.offset → IfSome begun (IsBegun source old) → Slices source at → old < new → end_of at ≡ new
    → IsBegun source new (after_item (with_item begun x start) x)
still_begun source old new (Some b) x at start starts h s moves is =
    let le : b.start ≤ old = h.1.0 in
    let deep : b.depth ≤ old = h.1.1 in
    let more = depth_more b.depth (is_token t.OpenBrace x) (is_token t.CloseBrace x) in
    (h.0, (omega (arith, le, moves), omega (arith, deep, more, moves)))
still_begun source old new None x at start starts h s moves is =
    let more = depth_more 0 (is_token t.OpenBrace x) (is_token t.CloseBrace x) in
    (subst (IsCharBoundary source) (sym starts) s.0, (omega (arith, starts, is), omega (arith, more, moves)))

-- no more braces are open than there are bytes
pub depth_within : (source : List ℕ) (place : ℕ) (begun : Option Begun) (x : Result Token Error) (start : ℕ) → IfSome begun (IsBegun source place) → (with_item begun x start).depth ≤ place
depth_within source place (Some b) x start h = h.1.1
depth_within source place None x start h = omega arith

slices_up_to : (source : List ℕ) (b : Begun) (end : ℕ) → IsCharBoundary source b.start → b.start ≤ end → IsCharBoundary source end → Slices source (up_to end b)
slices_up_to source b end from le to =
    let same : end ≡ b.start + (end - b.start) = omega (arith, le) in
    (from, subst (IsCharBoundary source) same to)

-- a statement that an item ends is a slice of the source
pub ended_slices : (source : List ℕ) (old new : ℕ) (begun : Option Begun) (x : Result Token Error) (at : Span) (start : ℕ) → start ≡ at.offset → IfSome begun (IsBegun source old) → Slices source at → old < new → end_of at ≡ new
    → Slices source (up_to new (with_item begun x start))
ended_slices source old new (Some b) x at start starts h s moves is =
    let le : b.start ≤ old = h.1.0 in
    slices_up_to source b new h.0 (omega (arith, le, moves)) (subst (IsCharBoundary source) is s.1)
ended_slices source old new None x at start starts h s moves is =
    slices_up_to source (begun_at x start) new (subst (IsCharBoundary source) (sym starts) s.0) (omega (arith, starts, is)) (subst (IsCharBoundary source) is s.1)

-- so is one that nothing ends
pub last_slices : (source : List ℕ) (place : ℕ) (b : Begun) → IsBegun source place b → place ≤ length source → Slices source (up_to (length source) b)
last_slices source place b h within =
    let le : b.start ≤ place = h.1.0 in
    slices_up_to source b (length source) h.0 (omega (arith, le, within)) (IsCharBoundary-end source)
