-- Texts that are put in parts.
use Rattle.std.proofs.Common.{◌≡◌, ◌+◌, ◌<◌, ℕ, List, [], ◌∷◌, ◌++◌, length, length-append, take, drop, get_or, append_assoc, flat_map, sym, ap, ◌∙◌, subst, arith, Result, Ok, Err}
use Rattle.std.proofs.Math.Seq.{take-append-add}
use Rattle.std.proofs.lemmas.List.{take-append-le, take-append-drop, drop_more, flat_map_more, append-nil}
use Rattle.std.proofs.lemmas.Grind.{flat_map-append}
use Rattle.wac_tool_graphs.specs.Puts.{Began, Puts}
use Rattle.wac_tool_graphs.specs.declared.lines.OutputFailed.{OutputFailed}

-- a prefix of a text is one of a longer text
pub began_longer : (old new text more : List ℕ) → Began old new text → Began old new (text ++ more)
began_longer old new text more b =
    let fewer = b.fewer in record {
      count = b.count;
      fewer = omega (arith, length-append text more, fewer);
      is = b.is ∙ ap (λ x. old ++ x) (sym (take-append-le b.count text more (omega (arith, fewer))));
    }

-- what comes after a text that was put
pub began_after : (old mid new text more : List ℕ) → mid ≡ old ++ text → Began mid new more → Began old new (text ++ more)
began_after old mid new text more is b =
    let fewer = b.fewer in record {
      count = length text + b.count;
      fewer = omega (arith, length-append text more, fewer);
      is = b.is ∙ ap (λ x. x ++ take b.count more) is ∙ append_assoc old text (take b.count more) ∙ ap (λ x. old ++ x) (sym (take-append-add text more b.count));
    }

-- a text after one that was put
pub puts_after : (r : Result (Unit {0}) OutputFailed) (old mid new text more : List ℕ) (f g h : ℕ) → mid ≡ old ++ text → g ≡ f → Puts r mid g new h more → Puts r old f new h (text ++ more)
puts_after (Ok x) old mid new text more f g h is none p = (p.0 ∙ ap (λ x. x ++ more) is ∙ append_assoc old text more, p.1 ∙ none)
puts_after (Err e) old mid new text more f g h is none p = (began_after old mid new text more is p.0, p.1 ∙ ap (λ n. n + 1) none)

-- ---- parts of a list, each of which gives a text

-- where the text of one part was begun, the whole was
pub began_in : {X : Type 0} (f : X → List ℕ) (old mid new : List ℕ) (done rest all : List X) (x : X) → done ++ x ∷ rest ≡ all → mid ≡ old ++ flat_map f done → Began mid new (f x) → Began old new (flat_map f all)
began_in {X} f old mid new done rest all x is put b =
    let parts : flat_map f done ++ (f x ++ flat_map f rest) ≡ flat_map f all = sym (flat_map-append f done (x ∷ rest)) ∙ ap (flat_map f) is in
    subst (Began old new) parts (began_after old mid new (flat_map f done) (f x ++ flat_map f rest) put (began_longer mid new (f x) (flat_map f rest) b))

-- the part at an index
pub began_at : {X : Type 0} (f : X → List ℕ) (old mid new : List ℕ) (all : List X) (i : ℕ) (x : X) → i < length all → mid ≡ old ++ flat_map f (take i all) → Began mid new (f (get_or all i x)) → Began old new (flat_map f all)
began_at {X} f old mid new all i x h put b =
    began_in f old mid new (take i all) (drop (i + 1) all) all (get_or all i x) (ap (λ l. take i all ++ l) (sym (drop_more all i x h)) ∙ take-append-drop i all) put b

-- one more part was put
pub put_more : {X : Type 0} (f : X → List ℕ) (old mid new : List ℕ) (done : List X) (x : X) → mid ≡ old ++ flat_map f done → new ≡ mid ++ f x → new ≡ old ++ flat_map f (done ++ x ∷ [])
put_more {X} f old mid new done x put is = is ∙ ap (λ l. l ++ f x) put ∙ flat_map_more f old done x

-- one part more is done, and one less is left
pub one_more : {X : Type 0} (done left rest all : List X) (x : X) → done ++ left ≡ all → left ≡ x ∷ rest → (done ++ x ∷ []) ++ rest ≡ all
one_more {X} done left rest all x is next = append_assoc done (x ∷ []) rest ∙ ap (λ l. done ++ l) (sym next) ∙ is

-- no part is left
pub none_left : {X : Type 0} (done left all : List X) → done ++ left ≡ all → left ≡ [] → done ≡ all
none_left {X} done left all is none = sym (append-nil done) ∙ ap (λ l. done ++ l) (sym none) ∙ is

-- the sink failed in a part
pub fails_in : {X : Type 0} (f : X → List ℕ) (r : Result (Unit {0}) OutputFailed) (e : OutputFailed) (old mid new : List ℕ) (g h k : ℕ) (done left rest all : List X) (x : X)
    → r ≡ Err e → done ++ left ≡ all → left ≡ x ∷ rest → mid ≡ old ++ flat_map f done → h ≡ g → Began mid new (f x) → k ≡ h + 1 → Puts r old g new k (flat_map f all)
fails_in {X} f r e old mid new g h k done left rest all x failed is next put none b more =
    subst (λ r. Puts r old g new k (flat_map f all)) (sym failed) (began_in f old mid new done rest all x (ap (λ l. done ++ l) (sym next) ∙ is) put b, more ∙ ap (λ n. n + 1) none)

-- the sink failed in the first of two texts
pub fails_first : (r : Result (Unit {0}) OutputFailed) (e : OutputFailed) (old new text more : List ℕ) (f g : ℕ) → r ≡ Err e → Began old new text → g ≡ f + 1 → Puts r old f new g (text ++ more)
fails_first r e old new text more f g failed b one = subst (λ r. Puts r old f new g (text ++ more)) (sym failed) (began_longer old new text more b, one)
