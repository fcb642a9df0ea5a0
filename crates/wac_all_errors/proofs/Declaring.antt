-- One item after another that may declare a name.
use Rattle.std.proofs.Common.{◌≡◌, refl, sym, ap, ◌∙◌, ℕ, List, [], ◌∷◌, Bool, true, false, ◌&&◌, ◌||◌, Option, Some, None, Result, not}
use Rattle.std.specs.Str.{bytes_eq}
use Rattle.std.proofs.lemmas.Slice.Eq.{bytes_eq-Decides}
use Rattle.wac_lexer.specs.Item.{Item, NextToken, next_token, after_first_item, OnFirst}
use Rattle.wac_lexer.specs.Reading.{slice}
use Rattle.wac_lexer.specs.Span.{Span}
use Rattle.wac_lexer.specs.declared.token.Token.{Token}
use Rattle.wac_lexer.specs.declared.error.Error.{Error}
use Rattle.wac_diagnostics.specs.declared.diagnostic.Diagnostic.{Diagnostic}
use Rattle.wac_all_errors.specs.Naming.{IsUndeclared, declared_among, declares_next, is_blank_at, same_name}
use Rattle.wac_all_errors.specs.Telling.{SaysSame}

-- what is found at an item, by its token, its place, its text and the items after it
abbrev pub found_at : List ℕ → List ℕ → Bool → Result Token Error → ℕ → List ℕ → List Item → Bool
found_at left name after token at text xs = (after && (is_blank_at left at && same_name text name)) || declared_among left name (declares_next token) xs

first_is : (left name : List ℕ) (after : Bool) (items : List Item) (token : Result Token Error) (at : Span) (text : List ℕ) → Some (token, at) ≡ next_token items → OnFirst items (λ x. x.text ≡ text)
    → declared_among left name after items ≡ found_at left name after token at.offset text (after_first_item items)
first_is left name after [] token at text gives same = absurd cc
first_is left name after (x ∷ xs) token at text gives same =
    let parts : (token, at) ≡ (x.token, x.span) = cc in
    let tokens : x.token ≡ token = sym (ap (λ (p : Result Token Error × Span). p.0) parts) in
    let places : x.span.offset ≡ at.offset = sym (ap (λ (p : Result Token Error × Span). p.1.offset) parts) in
    ap (λ r. found_at left name after r x.span.offset x.text xs) tokens
    ∙ ap (λ n. found_at left name after token n x.text xs) places
    ∙ ap (λ s. found_at left name after token at.offset s xs) same

-- the text of an item that was given is that of its span
pub text_at : (source : List ℕ) (items : List Item) (token : Result Token Error) (at : Span) → Some (token, at) ≡ next_token items → OnFirst items (λ x. x.text ≡ slice source x.span) → OnFirst items (λ x. x.text ≡ slice source at)
text_at source [] token at gives texts = tt
text_at source (x ∷ xs) token at gives texts =
    let parts : (token, at) ≡ (x.token, x.span) = cc in
    texts ∙ ap (slice source) (sym (ap (λ (p : Result Token Error × Span). p.1) parts))

-- it isn't the name, or isn't blanked
pub not_here : (left name : List ℕ) (after found : Bool) (at place : ℕ) (word text : List ℕ) → after ≡ true → found ≡ (is_blank_at left at && same_name word name) → found ≡ false → at ≡ place → word ≡ text
    → (after && (is_blank_at left place && same_name text name)) ≡ false
not_here left name after found at place word text b is none places texts =
    ap (λ x. x && (is_blank_at left place && same_name text name)) b
    ∙ sym (is ∙ ap (λ n. is_blank_at left n && same_name word name) places ∙ ap (λ t. is_blank_at left place && same_name t name) texts)
    ∙ none

-- An item that was given, with the items after it.
module _ (left name : List ℕ) (after : Bool) (old new : List Item) (token : Result Token Error) (at : Span) (place : ℕ) (text : List ℕ) (gives : Some (token, at) ≡ next_token old) (rest : new ≡ after_first_item old)
    (places : place ≡ at.offset) (texts : OnFirst old (λ x. x.text ≡ text)) where
  given : declared_among left name after old ≡ found_at left name after token place text new
  given =
      first_is left name after old token at text gives texts
      ∙ ap (λ n. found_at left name after token n text (after_first_item old)) (sym places)
      ∙ ap (found_at left name after token place text) (sym rest)

  -- it declares the name
  pub declared_here : after ≡ true → (is_blank_at left place && same_name text name) ≡ true → true ≡ declared_among left name after old
  declared_here b here = sym (given ∙ both after (is_blank_at left place && same_name text name) b here)
    where
      both : (b c : Bool) → b ≡ true → c ≡ true → ((b && c) || declared_among left name (declares_next token) new) ≡ true
      both true true p q = refl
      both true false p q = absurd cc
      both false c p q = absurd cc

  -- it doesn't
  pub declared_later : (after && (is_blank_at left place && same_name text name)) ≡ false → (next : Bool) → next ≡ declares_next token → declared_among left name next new ≡ declared_among left name after old
  declared_later here next is =
      ap (λ b. declared_among left name b new) is ∙ sym (given ∙ ap (λ b. b || declared_among left name (declares_next token) new) here)

-- no items are left
pub none_declared : (left name : List ℕ) (after : Bool) (items : List Item) → None ≡ next_token items → false ≡ declared_among left name after items
none_declared left name after [] e = refl
none_declared left name after (x ∷ xs) e = absurd cc

-- a diagnostic that says the same speaks of no blanked name either
pub undeclared_so : (source left : List ℕ) (known told : Diagnostic) → IsUndeclared source left known → SaysSame known told → IsUndeclared source left told
undeclared_so source left known told is same code at place lies = is (sym same.1 ∙ code) at (sym same.3 ∙ place) lies

-- texts that aren't the same are others
pub other_code : (code known : List ℕ) (is_other : Bool) → is_other ≡ not (bytes_eq code known) → is_other ≡ true → code ≡ known → ⊥
other_code code known is_other tests other same =
    let equal : bytes_eq code known ≡ true = (bytes_eq-Decides code known).1 same in
    let clash : true ≡ false = sym other ∙ tests ∙ ap not equal in
    cc
