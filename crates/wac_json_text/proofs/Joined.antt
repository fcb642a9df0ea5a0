-- Steps joined by `and`, by the text that they write: constants side by side are one, and two calls write as one.
use Rattle.wac_json_text.proofs.Common.{◌≡◌, ℕ, Bool, true, false, List, [], ◌∷◌, ◌++◌, codes, append_assoc, append-nil, refl, sym, ap, ◌∙◌, subst, Result, Ok, Err, escape, quoted, Data, null, boolean, number, string, array, object, Items, no_items, item, Members, no_members, member, comma_if, compact_text, items_text, members_text, number_text, Piece, blank, text, text_of, fresh_after, Printer, Prints, PrintError, prints_same, text-append, items_of}
use Rattle.std.specs.Result.{result_and}
use Rattle.wac_printer_pieces.specs.Printed.{after}
use Rattle.wac_printer_pieces.proofs.Sequence as step
use Rattle.wac_json_text.specs.Pieces.{pieces, joined_pieces}
use Rattle.wac_json_text.proofs.Texts.{closed_items, written_is}

-- ---- what is written before a text

-- pieces
abbrev pub pieces_before : List ℕ → Bool → List Piece → List ℕ → List ℕ
pieces_before space fresh [] b = b
pieces_before space fresh (p ∷ ps) b = text_of space fresh p ++ pieces_before space (fresh_after fresh (text_of space fresh p)) ps b

-- a value
abbrev mutual
  pub before : Data → List ℕ → List ℕ
  before null b = codes "null" ++ b
  before (boolean true) b = codes "true" ++ b
  before (boolean false) b = codes "false" ++ b
  before (number n) b = number_text n ++ b
  before (string s) b = 34 ∷ (escape s ++ 34 ∷ b)
  before (array ds) b = 91 ∷ items_before false ds b
  before (object ms) b = 123 ∷ members_before false ms b

  -- with the closing bracket
  pub items_before : Bool → Items → List ℕ → List ℕ
  items_before later no_items b = 93 ∷ b
  items_before later (item d ds) b = comma_if later ++ before d (items_before true ds b)

  pub members_before : Bool → Members → List ℕ → List ℕ
  members_before later no_members b = 125 ∷ b
  members_before later (member k d ms) b = comma_if later ++ (quoted k ++ 58 ∷ before d (members_before true ms b))

mutual
  before_is : (d : Data) (b : List ℕ) → before d b ≡ compact_text d ++ b
  before_is null b = refl
  before_is (boolean true) b = refl
  before_is (boolean false) b = refl
  before_is (number n) b = refl
  before_is (string s) b = ap (λ t. 34 ∷ t) (sym (append_assoc (escape s) (34 ∷ []) b))
  before_is (array ds) b = ap (λ t. 91 ∷ t) (items_before_is false ds b)
  before_is (object ms) b = ap (λ t. 123 ∷ t) (members_before_is false ms b)

  items_before_is : (later : Bool) (ds : Items) (b : List ℕ) → items_before later ds b ≡ items_text later ds ++ b
  items_before_is later no_items b = refl
  items_before_is later (item d ds) b =
      ap (λ t. comma_if later ++ t) (before_is d (items_before true ds b) ∙ ap (λ t. compact_text d ++ t) (items_before_is true ds b) ∙ sym (append_assoc (compact_text d) (items_text true ds) b))
      ∙ sym (append_assoc (comma_if later) (compact_text d ++ items_text true ds) b)

  members_before_is : (later : Bool) (ms : Members) (b : List ℕ) → members_before later ms b ≡ members_text later ms ++ b
  members_before_is later no_members b = refl
  members_before_is later (member k d ms) b =
      let whole : List ℕ = 58 ∷ (compact_text d ++ members_text true ms) in
      ap (λ t. comma_if later ++ (quoted k ++ 58 ∷ t)) (before_is d (members_before true ms b) ∙ ap (λ t. compact_text d ++ t) (members_before_is true ms b) ∙ sym (append_assoc (compact_text d) (members_text true ms) b))
      ∙ ap (λ t. comma_if later ++ t) (sym (append_assoc (quoted k) whole b))
      ∙ sym (append_assoc (comma_if later) (quoted k ++ whole) b)

pieces_before_is : (space : List ℕ) (fresh : Bool) (ps : List Piece) (b : List ℕ) → text space fresh (ps ++ blank b ∷ []) ≡ pieces_before space fresh ps b ++ []
pieces_before_is space fresh [] b = refl
pieces_before_is space fresh (p ∷ ps) b =
    let t = text_of space fresh p in
    let g = fresh_after fresh t in
    ap (λ u. t ++ u) (pieces_before_is space g ps b) ∙ sym (append_assoc t (pieces_before space g ps b) [])

pieces_text : (space : List ℕ) (fresh : Bool) (ps : List Piece) → text space fresh ps ≡ pieces_before space fresh ps []
pieces_text space fresh ps =
    sym (append-nil (text space fresh ps)) ∙ sym (text-append space fresh ps (blank [] ∷ [])) ∙ pieces_before_is space fresh ps [] ∙ append-nil (pieces_before space fresh ps [])

-- whether nothing is on the line after a value
abbrev is_fresh_after : Data → List ℕ → Bool → Bool
is_fresh_after d space fresh = fresh_after fresh (text space fresh (pieces d))

-- ---- calls that write one text

-- pieces with the same text are printed alike
pub same_text : {A : Type 0} {old new : Printer} {r : Result A PrintError} {ps qs : List Piece} → text old.space old.fresh ps ≡ text old.space old.fresh qs → Prints old r new ps → Prints old r new qs
unfolding after
same_text {old = old} {new = new} {r = r} {ps = ps} {qs = qs} e h =
    prints_same old new r ps qs (λ i. record old { bytes = old.bytes ++ e i; fresh = fresh_after old.fresh (e i) }) h

-- steps joined by `and`, so far: a text that is written next comes where `f` has it, and the first error is the result
pub record Texts {A : Type 0} (old : Printer) (r : Result A PrintError) (mid : Printer) (f : List ℕ → List ℕ) : Type 1 where
  pub next : {B : Type 0} (t : Result B PrintError) (new : Printer) (b : List ℕ) → Prints mid t new (blank b ∷ []) → Prints old (result_and r t) new (blank (f b) ∷ [])

-- pieces, one after another
pub put : {A : Type 0} {old mid : Printer} {r : Result A PrintError} {ps : List Piece} → Prints old r mid ps → Texts old r mid (pieces_before old.space old.fresh ps)
put {old = old} {r = r} {ps = ps} h = record {
  next = λ t new b k. same_text (pieces_before_is old.space old.fresh ps b) (step.last refl (step.first h) k);
}

-- a value
pub form : {A : Type 0} {old mid : Printer} {r : Result A PrintError} (d : Data) → Prints old r mid (pieces d) → Texts old r mid (before d)
form {old = old} d h = record {
  next = λ t new b k.
      same_text
      (text-append old.space old.fresh (pieces d) (blank b ∷ [])
      ∙ ap (λ u. u ++ (b ++ [])) (written_is old.space old.fresh d)
      ∙ sym (append_assoc (compact_text d) b [])
      ∙ ap (λ u. u ++ []) (sym (before_is d b)))
      (step.last refl (step.first h) k);
}

bracketed : {A B C E : Type 0} (a : Result A E) (b : Result B E) (c : Result C E) → result_and a (result_and b c) ≡ result_and (result_and a b) c
bracketed (Ok v) b c = refl
bracketed (Err v) b c = refl

-- one step more
pub then : {A B : Type 0} {old mid new : Printer} {r : Result A PrintError} {t x : Result B PrintError} {f g : List ℕ → List ℕ} → x ≡ result_and r t → Texts old r mid f → Texts mid t new g → Texts old x new (λ b. f (g b))
then {old = old} {r = r} {t = t} {f = f} {g = g} e s k = record {
  next = λ u later b h.
      subst (λ y. Prints old y later (blank (f (g b)) ∷ [])) (bracketed r t u ∙ ap (λ y. result_and y u) (sym e)) (s.next (result_and t u) later (g b) (k.next u later b h));
}

-- items, and a constant that begins with the closing bracket, as the last step
pub list_ends : {A B C X : Type 0} {old mid next new : Printer} {r : Result A PrintError} {t x : Result B PrintError} {u y : Result C PrintError} {f : List ℕ → List ℕ} {a : List ℕ} (item_form : X → Data) (xs : List X) {ds : Items}
    → items_of item_form xs ≡ ds → x ≡ result_and r t → y ≡ result_and x u → Texts old r mid f → Prints mid t next (joined_pieces (λ z. pieces (item_form z)) xs) → Prints next u new (blank (93 ∷ a) ∷ [])
    → Prints old y new (blank (f (items_before false ds a)) ∷ [])
list_ends {old = old} {mid = mid} {new = new} {r = r} {t = t} {u = u} {f = f} {a = a} item_form xs {ds = ds} same e k s h closed =
    let front : List Piece = joined_pieces (λ z. pieces (item_form z)) xs in
    let whole : text mid.space mid.fresh (front ++ blank (93 ∷ a) ∷ []) ≡ text mid.space mid.fresh (blank (items_before false ds a) ∷ []) =
    closed_items mid.space mid.fresh item_form xs a ∙ ap (λ d. (items_text false d ++ a) ++ []) same ∙ ap (λ w. w ++ []) (sym (items_before_is false ds a)) in
    subst (λ w. Prints old w new (blank (f (items_before false ds a)) ∷ [])) (bracketed r t u ∙ ap (λ w. result_and w u) (sym e) ∙ sym k)
    (s.next (result_and t u) new (items_before false ds a) (same_text whole (step.last refl (step.first h) closed)))

-- the same, as steps so far
pub list_then : {A B C X : Type 0} {old mid next new : Printer} {r : Result A PrintError} {t x : Result B PrintError} {u y : Result C PrintError} {f : List ℕ → List ℕ} {a : List ℕ} (item_form : X → Data) (xs : List X) {ds : Items}
    → items_of item_form xs ≡ ds → x ≡ result_and r t → y ≡ result_and x u → Texts old r mid f → Prints mid t next (joined_pieces (λ z. pieces (item_form z)) xs) → Prints next u new (blank (93 ∷ a) ∷ [])
    → Texts old y new (λ b. f (items_before false ds (a ++ b)))
list_then {old = old} {x = x} {u = u} {f = f} {a = a} item_form xs {ds = ds} same e k s h closed = record {
  next = λ v later b g.
      subst (λ w. Prints old w later (blank (f (items_before false ds (a ++ b))) ∷ [])) (bracketed x u v ∙ ap (λ w. result_and w v) (sym k))
      (list_ends item_form xs same e refl s h ((put closed).next v later b g));
}

-- the last step
pub ends : {A B : Type 0} {old mid new : Printer} {r : Result A PrintError} {t x : Result B PrintError} {f : List ℕ → List ℕ} {a : List ℕ} → x ≡ result_and r t → Texts old r mid f → Prints mid t new (blank a ∷ []) → Prints old x new (blank (f a) ∷ [])
ends {old = old} {new = new} {t = t} {f = f} {a = a} e s h = subst (λ y. Prints old y new (blank (f a) ∷ [])) (sym e) (s.next t new a h)

-- the text of a value is written as its pieces are
pub as_form : {A : Type 0} {old new : Printer} {r : Result A PrintError} (d : Data) → Prints old r new (blank (before d []) ∷ []) → Prints old r new (pieces d)
as_form {old = old} d h =
    same_text
    (append-nil (before d []) ∙ before_is d [] ∙ append-nil (compact_text d) ∙ sym (written_is old.space old.fresh d)) h

-- a value, with a constant before it
pub opened : {A : Type 0} {old mid : Printer} {r : Result A PrintError} (a : List ℕ) (d : Data) → Prints old r mid (blank a ∷ pieces d) → Texts old r mid (λ b. a ++ before d b)
opened {old = old} a d h = record {
  next = λ t new b k.
      let g = fresh_after old.fresh a in
      same_text
      (ap (λ u. a ++ u)
      (text-append old.space g (pieces d) (blank b ∷ [])
      ∙ ap (λ u. u ++ (b ++ [])) (written_is old.space g d)
      ∙ sym (append_assoc (compact_text d) b [])
      ∙ ap (λ u. u ++ []) (sym (before_is d b)))
      ∙ sym (append_assoc a (before d b) []))
      (step.last refl (step.first h) k);
}

-- a value between a constant and pieces, as one text
pub around : {A : Type 0} {old new : Printer} {r : Result A PrintError} {a : List ℕ} (d : Data) (ps : List Piece) → Prints old r new (blank a ∷ (pieces d ++ ps))
    → Prints old r new (blank (a ++ before d (pieces_before old.space (is_fresh_after d old.space (fresh_after old.fresh a)) ps [])) ∷ [])
around {old = old} {a = a} d ps h =
    let g = fresh_after old.fresh a in
    let k = is_fresh_after d old.space g in
    let b = pieces_before old.space k ps [] in
    same_text
    (ap (λ u. a ++ u)
    (text-append old.space g (pieces d) ps
    ∙ (λ i. written_is old.space g d i ++ pieces_text old.space k ps i)
    ∙ sym (before_is d b))
    ∙ sym (append-nil (a ++ before d b))) h

-- pieces, as one text
pub at_once : {A : Type 0} {old new : Printer} {r : Result A PrintError} {ps : List Piece} → Prints old r new ps → Prints old r new (blank (pieces_before old.space old.fresh ps []) ∷ [])
at_once {old = old} {ps = ps} h =
    same_text (pieces_text old.space old.fresh ps ∙ sym (append-nil (pieces_before old.space old.fresh ps []))) h

-- pieces that have the text of a value
pub as_pieces : {A : Type 0} {old new : Printer} {r : Result A PrintError} {ps : List Piece} (d : Data) → ((space : List ℕ) (fresh : Bool) → pieces_before space fresh ps [] ≡ before d []) → Prints old r new ps → Prints old r new (pieces d)
as_pieces {old = old} {new = new} {r = r} d same h = as_form d (subst (λ t. Prints old r new (blank t ∷ [])) (same old.space old.fresh) (at_once h))
