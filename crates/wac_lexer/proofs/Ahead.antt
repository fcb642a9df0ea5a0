-- What a lexer keeps of the items ahead stays right at each step.
use Rattle.wac_lexer.proofs.Common.{◌≡◌, ℕ, ◌+◌, ◌<◌, ◌≤◌, ◌^◌, List, [], length, sym, refl, ap, ◌∙◌, subst, arith, Some, None, Result, IsCharBoundary-end}
use Rattle.std.specs.Option.{MatchOption}
use Rattle.wac_lexer.specs.Span.{Span, span, end_of}
use Rattle.wac_lexer.specs.Item.{NextToken, next_token, after_first_item}
use Rattle.wac_lexer.specs.Items.{items_from}
use Rattle.wac_lexer.specs.Reading.{IsWithin, IsFound, IsAhead, items_after, Nexts, left}
use Rattle.wac_lexer.specs.declared.token.Token.{Token}
use Rattle.wac_lexer.specs.declared.error.Error.{Error}
use Rattle.wac_lexer.proofs.Found.{IsSome, none_next, found_rest, found_ends, first_text, before_last, before_next}
use Rattle.wac_lexer.proofs.Unfolded.{between_next, items_end, none_left}

-- how many scans there are once the item after this one was looked for
abbrev pub Scanned : NextToken → ℕ → ℕ → Type 0
Scanned item scans more = MatchOption item (more ≡ scans) (λ _. more ≡ scans + 1)

once : (item : NextToken) (scans more : ℕ) → Scanned item scans more → more ≤ scans + 1
once None scans more s = omega (arith, s)
once (Some x) scans more s = omega (arith, s)

-- the item after the first is that after the first of the items
pub second_token : (source : List ℕ) (place : ℕ) (first second : NextToken) (scans : ℕ) → IsAhead source place first second scans → second ≡ next_token (after_first_item (items_from source place))
second_token source place None second scans a = a.second_is.is ∙ sym (ap (λ l. next_token (after_first_item l)) (none_next (items_from source place) a.first_is.is))
second_token source place (Some x) second scans a = a.second_is.is ∙ ap next_token (found_rest source place x a.first_is.is)

-- one more scan is counted without loss
pub counts : (source : List ℕ) (place : ℕ) (last : Span) (x : Result Token Error × Span) (second : NextToken) (scans : ℕ) → IsWithin source place last → IsAhead source place (Some x) second scans → length source < 2 ^ 63 → scans + 1 < 2 ^ 64
counts source place last x second scans w a short = omega (arith, a.bound, before_last source place x a.first_is.is w.between)

-- ---- the first item is given, and the item after the second was looked for

pub within_next : (source : List ℕ) (place : ℕ) (last : Span) (x : Result Token Error × Span) (second : NextToken) (scans : ℕ) → IsWithin source place last → IsAhead source place (Some x) second scans → IsWithin source (end_of x.1) x.1
within_next source place last x second scans w a =
    record {
      boundary = a.first_is.slices.1;
      between = between_next source place (end_of x.1) w.between (found_rest source place x a.first_is.is);
      last_ends = a.first_is.slices.1.0;
    }

pub ahead_next : (source : List ℕ) (place : ℕ) (last : Span) (x : Result Token Error × Span) (second third : NextToken) (scans more : ℕ) → IsWithin source place last → IsAhead source place (Some x) second scans → IsFound source (items_after source second) third → Scanned second scans more → IsAhead source (end_of x.1) second third more
ahead_next source place last x second third scans more w a found s =
    record {
      first_is = a.second_is;
      second_is = found;
      bound = omega (arith, a.bound, once second scans more s, before_next source place (end_of x.1) x a.first_is.is w.between (found_rest source place x a.first_is.is));
    }

pub steps_next : (source : List ℕ) (place : ℕ) (last : Span) (x : Result Token Error × Span) (second third : NextToken) (scans more : ℕ) → IsWithin source place last → IsAhead source place (Some x) second scans → IsFound source (items_after source second) third → Scanned second scans more
    → Nexts (record { source = source; place = place; last = last; scans = scans }) (Some x) (record { source = source; place = end_of x.1; last = x.1; scans = more })
unfolding left
steps_next source place last x second third scans more w a found s =
    let ends : place < end_of x.1 = found_ends source place x a.first_is.is in
    let next = ahead_next source place last x second third scans more w a found s in
    record {
      gives = a.first_is.is;
      rest = found_rest source place x a.first_is.is;
      source = refl;
      moves = omega (arith, ends);
      place = refl;
      last = refl;
      slices = a.first_is.slices;
      fits = a.first_is.fits;
      text = first_text source place;
      scans = next.bound;
      once = once second scans more s;
      ended = λ e. ended second a.second_is.is (ap next_token (found_rest source place x a.first_is.is ∙ e)) s;
    }
  where
    ended : (item : NextToken) → item ≡ next_token (items_from source (end_of x.1)) → next_token (items_from source (end_of x.1)) ≡ None → Scanned item scans more → more ≡ scans
    ended None is none s = s
    ended (Some y) is none s = absurd (subst IsSome (is ∙ none) tt)

-- ---- none is left

pub within_end : (source : List ℕ) (place : ℕ) (last : Span) (second : NextToken) (scans : ℕ) → IsWithin source place last → IsAhead source place None second scans → IsWithin source (length source) (span (length source) 0)
within_end source place last second scans w a =
    record {
      boundary = IsCharBoundary-end source;
      between = between_next source place (length source) w.between (none_left source place (none_next (items_from source place) a.first_is.is));
      last_ends = omega arith;
    }

pub ahead_end : (source : List ℕ) (place : ℕ) (second : NextToken) (scans : ℕ) → IsAhead source place None second scans → IsAhead source (length source) None second scans
ahead_end source place second scans a =
    let none : items_from source place ≡ [] = none_next (items_from source place) a.first_is.is in
    let same : items_from source place ≡ items_from source (length source) = none ∙ sym (items_end source (length source) (omega arith)) in
    record {
      first_is = subst (λ l. IsFound source l None) same a.first_is;
      second_is = a.second_is;
      bound = omega (arith, a.bound, ap length same);
    }

pub steps_end : (source : List ℕ) (place : ℕ) (last : Span) (second : NextToken) (scans : ℕ) → IsWithin source place last → IsAhead source place None second scans
    → Nexts (record { source = source; place = place; last = last; scans = scans }) None (record { source = source; place = length source; last = span (length source) 0; scans = scans })
unfolding left
steps_end source place last second scans w a =
    let none : items_from source place ≡ [] = none_next (items_from source place) a.first_is.is in
    let end = ahead_end source place second scans a in
    record {
      gives = a.first_is.is;
      rest = none_left source place none;
      source = refl;
      moves = w.boundary.0;
      place = refl;
      last = refl;
      slices = tt;
      fits = tt;
      text = first_text source place;
      scans = end.bound;
      once = omega arith;
      ended = λ e. refl;
    }
