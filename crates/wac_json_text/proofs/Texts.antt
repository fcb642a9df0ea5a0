-- The parts that are put for a value are its compact text.
use Rattle.wac_json_text.proofs.Common.{◌≡◌, ℕ, Bool, true, false, List, [], ◌∷◌, ◌++◌, map, length, codes, append_assoc, append-nil, refl, sym, ap, ◌∙◌, arith, Result, Ok, Err, OnErr, flat_map, quoted, Data, null, boolean, number, string, array, object, Items, no_items, item, Members, no_members, member, compact_text, items_text, members_text, number_text, Piece, blank, text, fresh_after, Printer, Prints, is_front, has_failed, PrintError, text-append, after-blank, fresh_after-append, items_of, optional}
use Rattle.wac_json_forms.specs.Forms.{list_json}
use Rattle.wac_printer_pieces.specs.Printed.{after}
use Rattle.wac_json_text.specs.Pieces.{pieces, items_pieces, others_pieces, members_pieces, after_comma, joined_pieces, list_pieces, IsBegun}

-- a value, and what follows it
followed : (space : List ℕ) (fresh : Bool) (d : Data) (others : List Piece) (out : List ℕ) → ((f : Bool) → text space f (pieces d) ≡ compact_text d) → ((f : Bool) → text space f others ≡ out)
    → text space fresh (pieces d ++ others) ≡ compact_text d ++ out
followed space fresh d others out here later = text-append space fresh (pieces d) others ∙ (λ i. here fresh i ++ later (fresh_after fresh (text space fresh (pieces d))) i)

mutual
  pub written_is : (space : List ℕ) (fresh : Bool) (d : Data) → text space fresh (pieces d) ≡ compact_text d
  written_is space fresh null = refl
  written_is space fresh (boolean true) = refl
  written_is space fresh (boolean false) = refl
  written_is space fresh (number n) = append-nil (number_text n)
  written_is space fresh (string s) = refl
  written_is space fresh (array ds) = ap (λ t. 91 ∷ t) (items_is space (fresh_after fresh (codes "[")) ds)
  written_is space fresh (object no_members) = refl
  written_is space fresh (object (member k d ms)) =
      ap (λ t. 123 ∷ t)
      (append_assoc (quoted k) (codes ":") _
      ∙ ap (λ t. quoted k ++ (58 ∷ t)) (followed space (fresh_after fresh (codes "{" ++ (quoted k ++ codes ":"))) d (members_pieces ms) (members_text true ms) (λ f. written_is space f d) (λ f. members_is space f ms)))

  pub items_is : (space : List ℕ) (fresh : Bool) (ds : Items) → text space fresh (items_pieces ds) ≡ items_text false ds
  items_is space fresh no_items = refl
  items_is space fresh (item d ds) = followed space fresh d (others_pieces ds) (items_text true ds) (λ f. written_is space f d) (λ f. others_are space f ds)

  others_are : (space : List ℕ) (fresh : Bool) (ds : Items) → text space fresh (others_pieces ds) ≡ items_text true ds
  others_are space fresh no_items = refl
  others_are space fresh (item d ds) =
      ap (λ t. 44 ∷ t) (followed space (fresh_after fresh (codes ",")) d (others_pieces ds) (items_text true ds) (λ f. written_is space f d) (λ f. others_are space f ds))

  members_is : (space : List ℕ) (fresh : Bool) (ms : Members) → text space fresh (members_pieces ms) ≡ members_text true ms
  members_is space fresh no_members = refl
  members_is space fresh (member k d ms) =
      ap (λ t. 44 ∷ t)
      (append_assoc (quoted k) (codes ":") _
      ∙ ap (λ t. quoted k ++ (58 ∷ t)) (followed space (fresh_after fresh (codes "," ++ (quoted k ++ codes ":"))) d (members_pieces ms) (members_text true ms) (λ f. written_is space f d) (λ f. members_is space f ms)))

-- ---- lists and optional parts, made of the values and of the trees of them

after_all : {X : Type 0} (form : X → Data) (xs : List X) → flat_map (λ x. after_comma (pieces (form x))) xs ++ blank (codes "]") ∷ [] ≡ others_pieces (items_of form xs)
after_all form [] = refl
after_all form (x ∷ xs) =
    append_assoc (after_comma (pieces (form x))) (flat_map (λ y. after_comma (pieces (form y))) xs) (blank (codes "]") ∷ [])
    ∙ ap (λ ps. blank (codes ",") ∷ (pieces (form x) ++ ps)) (after_all form xs)

joined_items : {X : Type 0} (form : X → Data) (xs : List X) → joined_pieces (λ x. pieces (form x)) xs ++ blank (codes "]") ∷ [] ≡ items_pieces (items_of form xs)
joined_items form [] = refl
joined_items form (x ∷ xs) =
    append_assoc (pieces (form x)) (flat_map (λ y. after_comma (pieces (form y))) xs) (blank (codes "]") ∷ []) ∙ ap (λ ps. pieces (form x) ++ ps) (after_all form xs)

pub list_is : {X : Type 0} (form : X → Data) (xs : List X) → list_pieces (λ x. pieces (form x)) xs ≡ pieces (list_json form xs)
unfolding list_json
list_is form xs = ap (λ ps. blank (codes "[") ∷ ps) (joined_items form xs)

-- items, and a text that begins with the closing bracket
pub closed_items : {X : Type 0} (space : List ℕ) (fresh : Bool) (form : X → Data) (xs : List X) (b : List ℕ)
    → text space fresh (joined_pieces (λ x. pieces (form x)) xs ++ blank (93 ∷ b) ∷ []) ≡ (items_text false (items_of form xs) ++ b) ++ []
closed_items space fresh form xs b =
    let front : List Piece = joined_pieces (λ x. pieces (form x)) xs in
    let whole : text space fresh front ++ 93 ∷ [] ≡ items_text false (items_of form xs) =
    sym (text-append space fresh front (blank (codes "]") ∷ [])) ∙ ap (text space fresh) (joined_items form xs) ∙ items_is space fresh (items_of form xs) in
    text-append space fresh front (blank (93 ∷ b) ∷ [])
    ∙ sym (append_assoc (text space fresh front) (93 ∷ b) [])
    ∙ ap (λ t. t ++ []) (sym (append_assoc (text space fresh front) (93 ∷ []) b) ∙ ap (λ t. t ++ b) whole)

pub none_left : {X : Type 0} (xs : List X) → length xs ≡ 0 → xs ≡ []
none_left [] e = refl
none_left (x ∷ xs) e = absurd (omega arith)

-- ---- a whole value, into a new sink

pub wrote_text : (old new : Printer) (d : Data) → new ≡ after (pieces d) old → new.bytes ≡ old.bytes ++ compact_text d
unfolding after
wrote_text old new d e = ap (λ (p : Printer). p.bytes) e ∙ ap (λ t. old.bytes ++ t) (written_is old.space old.fresh d)

pub begun : {A : Type 0} (old new : Printer) (r : Result A PrintError) (d : Data) → old.failed ≡ false → Prints old r new (pieces d) → OnErr r (IsBegun old.bytes new.bytes (compact_text d))
unfolding after
begun old new (Ok x) d works h = tt
begun old new (Err e) d works h =
    let partly : has_failed e ≡ false = sym h.is.0 ∙ works in (
      (λ i. is_front (sym partly i) new.bytes (old.bytes ++ sym (written_is old.space old.fresh d) i)) ∙ h.is.4,
      h.is.3,
    )

-- two texts are written as one
pub one_text : (a b : List ℕ) (p : Printer) → after (blank (a ++ b) ∷ []) p ≡ after (blank b ∷ []) (after (blank a ∷ []) p)
one_text a b p =
    after-blank (a ++ b) p
    ∙ (λ i. record p { bytes = sym (append_assoc p.bytes a b) i; fresh = fresh_after-append p.fresh a b i })
    ∙ sym (ap (after (blank b ∷ [])) (after-blank a p) ∙ after-blank b (record p { bytes = p.bytes ++ a; fresh = fresh_after p.fresh a }))
