-- What a lexer is to its callers.
use Rattle.std.specs.Prelude.{refl, codes, ℕ, ◌≡◌, ◌+◌, ◌-◌, ◌≤◌, ◌<◌, ◌^◌, List, [], ◌++◌, length, take, drop, MatchOption, IfSome, Some, None, if◌then◌else◌, ◌==◌}
use Rattle.std.specs.Str.{IsCharBoundary}
use Rattle.wac_lexer.specs.Span.{Span, span, end_of}
use Rattle.wac_lexer.specs.Item.{Item, NextToken, next_token, after_first_item, OnFirst}
use Rattle.wac_lexer.specs.Items.{items_from, items}

-- A source, the place up to which it was read, the span of the last item that `next` gave, and how many scans there
-- were. A scan is one search for the item at a place, also the one that finds the end.
pub record Reading : Type 0 where
  pub source : List ℕ
  pub place : ℕ
  pub last : Span
  pub scans : ℕ

-- a lexer of this source, read up to this place
abbrev pub reading : List ℕ → ℕ → Span → ℕ → Reading
reading source place last scans = record { source = source; place = place; last = last; scans = scans }

-- the items that are still to come
unfoldable pub left : Reading → List Item
left reading = items_from reading.source reading.place

-- how many items of a source come before a place
abbrev pub items_before : List ℕ → ℕ → ℕ
items_before source place = length (items source) - length (items_from source place)

-- how many items `next` has given
abbrev pub answered : Reading → ℕ
answered reading = items_before reading.source reading.place

-- example: the second of three items is at 2
one_before : items_before (codes "a b c") 2 ≡ 1
unfolding items_from
one_before = refl

-- the bytes of a span
abbrev pub slice : List ℕ → Span → List ℕ
slice source s = take s.len (drop s.offset source)

-- the span lies in the source, and cuts no character
abbrev pub Slices : List ℕ → Span → Type 0
Slices source s = IsCharBoundary source s.offset × IsCharBoundary source (end_of s)

-- the span that messages show: one that ends where the source ends becomes the byte before its start
abbrev pub shown : List ℕ → Span → Span
shown source s = if end_of s == length source then span (s.offset - 1) 1 else s

-- examples: within the source, and at its end
shown_within : shown (codes "abc") (span 1 1) ≡ span 1 1
shown_within = refl

shown_at_the_end : shown (codes "abc") (span 2 1) ≡ span 1 1
shown_at_the_end = refl

-- a call of `next` gave this out of the first of the items left, and left the others
pub record Nexts (old : Reading) (item : NextToken) (new : Reading) : Type 0 where
  pub gives : item ≡ next_token (left old)
  pub rest : left new ≡ after_first_item (left old)
  pub source : new.source ≡ old.source
  pub moves : old.place ≤ new.place
  pub place : MatchOption item (new.place ≡ length old.source) (λ x. new.place ≡ end_of x.1)
  pub last : MatchOption item (new.last ≡ span (length old.source) 0) (λ x. new.last ≡ x.1)
  pub slices : IfSome item (λ x. Slices old.source x.1)
  pub fits : IfSome item (λ x. end_of x.1 < 2 ^ 64)
  pub text : OnFirst (left old) (λ x. x.text ≡ slice old.source x.span)
  pub scans : new.scans ≤ answered new + 2
  pub once : new.scans ≤ old.scans + 1
  pub ended : after_first_item (left old) ≡ [] → new.scans ≡ old.scans

-- the place is between two items of the source: some of them are before it, and the others after
abbrev pub BetweenItems : List ℕ → ℕ → Type 0
BetweenItems source place = (before : List Item) × (items source ≡ before ++ items_from source place)

-- what every lexer keeps: its place is between two items and cuts no character, and its last span lies in the source
pub record IsWithin (source : List ℕ) (place : ℕ) (last : Span) : Type 0 where
  pub boundary : IsCharBoundary source place
  pub between : BetweenItems source place
  pub last_ends : end_of last ≤ length source

-- what a scan found: the first of these items of a source, or that there is none
pub record IsFound (source : List ℕ) (items : List Item) (found : NextToken) : Type 0 where
  pub is : found ≡ next_token items
  pub slices : IfSome found (λ x. Slices source x.1)
  pub fits : IfSome found (λ x. end_of x.1 < 2 ^ 64)

-- the items after one that was found: none after the end
abbrev pub items_after : List ℕ → NextToken → List Item
items_after source None = []
items_after source (Some x) = items_from source (end_of x.1)

-- what every lexer keeps of the items after its place: the next two, and how many scans there were at most
pub record IsAhead (source : List ℕ) (place : ℕ) (first second : NextToken) (scans : ℕ) : Type 0 where
  pub first_is : IsFound source (items_from source place) first
  pub second_is : IsFound source (items_after source first) second
  pub bound : scans ≤ items_before source place + 2

-- what every lexer keeps
abbrev pub Keeps : Reading → NextToken → NextToken → Type 0
Keeps r first second = IsWithin r.source r.place r.last × IsAhead r.source r.place first second r.scans
