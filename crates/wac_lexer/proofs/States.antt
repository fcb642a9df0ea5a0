-- Each state of the walk knows what may follow, shape by shape. Checked at each state and each byte.
use Rattle.wac_lexer.proofs.Common.{◌≡◌, ℕ, zero, suc, ◌+◌, ◌-◌, ◌<◌, Bool, true, false, cond, List, [], ◌∷◌, ◌++◌, take, drop, length, get_or, sym, refl, ap, ◌∙◌, subst, ⊎_elim, arith, Option, Some, None, add-one, add-zero, ◌&&◌, nat_eq, ◌⊎◌, take-add, take_more, and_parts, eqb-true, false≢true}
use Rattle.wac_lexer.specs.Pattern.{Pattern, after, after_all, may_stop}
use Rattle.wac_lexer.specs.Pattern.Pattern.{Nothing, Empty, Range, Then, Or, Many}
use Rattle.wac_lexer.specs.Shapes.{byte, some, lower, upper, digit, word, id, version_byte, version, at_version, pattern_of, shape_of}
use Rattle.wac_lexer.specs.Front.{longest}
use Rattle.wac_lexer.specs.Automaton.{class_of, step_of, shape_at}
use Rattle.wac_lexer.specs.declared.shape.Shape.{Shape}
use Rattle.wac_lexer.specs.declared.shape.Shape.TheVariants as shapes
use Rattle.wac_lexer.specs.Automaton.{Package}
use Rattle.wac_lexer.specs.Automaton.Package.{Name, Path}
use Rattle.wac_lexer.specs.Automaton.{Part}
use Rattle.wac_lexer.specs.Automaton.Part.{First, Later}
use Rattle.wac_lexer.specs.Automaton.{State}
use Rattle.wac_lexer.specs.Automaton.State.{Start, Joined, Small, Capital, After, Version, Digits, Point, Tail, Inside, Closed, Minus, OneDot, TwoDots, Ended, Dead}

abbrev more_words : Pattern
more_words = Many (Then (byte 45) word)

-- the rest of an identifier, where a word must follow, and within a word
abbrev joined : Pattern
joined = Then word more_words

abbrev small : Pattern
small = Then (Many (Or lower digit)) more_words

abbrev capital : Pattern
capital = Then (Many (Or upper digit)) more_words

abbrev colon_id : Pattern
colon_id = Then (byte 58) id

abbrev slash_id : Pattern
slash_id = Then (byte 47) id

-- the rest of a name and of a path, after the rest of one of their identifiers
abbrev name_after : Part → Pattern → Pattern
name_after First rest = Then rest (Then (some colon_id) at_version)
name_after (Later Name) rest = Then (Then rest (Many colon_id)) at_version
name_after (Later Path) rest = Nothing

abbrev path_after : Part → Pattern → Pattern
path_after First rest = Then rest (Then (some colon_id) (Then (some slash_id) at_version))
path_after (Later Name) rest = Then (Then rest (Many colon_id)) (Then (some slash_id) at_version)
path_after (Later Path) rest = Then (Then rest (Many slash_id)) at_version

abbrev points : Pattern
points = Many (Then (byte 46) (some version_byte))

abbrev of_kind : Package → Shape → Pattern → Pattern
of_kind Name shapes.Name rest = rest
of_kind Path shapes.Path rest = rest
of_kind kind shape rest = Nothing

abbrev id_after : Part → Pattern → Pattern
id_after First rest = rest
id_after part rest = Nothing

abbrev in_id : Part → Shape → Pattern → Pattern
in_id part shapes.Word rest = id_after part rest
in_id part shapes.Name rest = name_after part rest
in_id part shapes.Path rest = path_after part rest
in_id part shape rest = Nothing

-- what may follow in a state, for a text of a shape
abbrev pub rest_of : State → Shape → Pattern
rest_of Start shape = pattern_of shape
rest_of (Joined part) shape = in_id part shape joined
rest_of (Small part) shape = in_id part shape small
rest_of (Capital part) shape = in_id part shape capital
rest_of (After kind) shape = in_id (Later kind) shape id
rest_of (Version kind) shape = of_kind kind shape version
rest_of (Digits kind) shape = of_kind kind shape (Then (Many digit) points)
rest_of (Point kind) shape = of_kind kind shape (Then (some version_byte) points)
rest_of (Tail kind) shape = of_kind kind shape (Then (Many version_byte) points)
rest_of Inside shapes.Quoted = Then (Many (Or (Range 0 33) (Range 35 255))) (byte 34)
rest_of Closed shapes.Quoted = Empty
rest_of Minus shapes.Symbol = Then (byte 62) Empty
rest_of OneDot shapes.Symbol = Or Empty (Then (byte 46) (Then (byte 46) Empty))
rest_of TwoDots shapes.Symbol = Then (byte 46) Empty
rest_of Ended shapes.Symbol = Empty
rest_of state shape = Nothing

-- whether two patterns are one
abbrev same : Pattern → Pattern → Bool
same Nothing Nothing = true
same Empty Empty = true
same (Range a b) (Range c d) = nat_eq a c && nat_eq b d
same (Then p q) (Then r s) = same p r && same q s
same (Or p q) (Or r s) = same p r && same q s
same (Many p) (Many q) = same p q
same p q = false

same_is : (p q : Pattern) → same p q ≡ true → p ≡ q
same_is Nothing Nothing e = refl
same_is Empty Empty e = refl
same_is (Range a b) (Range c d) e =
    let t = and_parts (nat_eq a c) (nat_eq b d) e in
    let x = eqb-true a c t.0 in
    let y = eqb-true b d t.1 in
    (λ i. Range (x i) (y i))
same_is (Then p q) (Then r s) e =
    let t = and_parts (same p r) (same q s) e in
    let x = same_is p r t.0 in
    let y = same_is q s t.1 in
    (λ i. Then (x i) (y i))
same_is (Or p q) (Or r s) e =
    let t = and_parts (same p r) (same q s) e in
    let x = same_is p r t.0 in
    let y = same_is q s t.1 in
    (λ i. Or (x i) (y i))
same_is (Many p) (Many q) e = ap Many (same_is p q e)
same_is p q e = absurd (false≢true e)

-- at this byte the state's successor knows what may follow
abbrev agrees_at : State → ℕ → Shape → Bool
agrees_at state b shape = same (after b (rest_of state shape)) (rest_of (step_of state (class_of b)) shape)

abbrev agrees : State → ℕ → Bool
agrees state b =
    agrees_at state b shapes.Word && (agrees_at state b shapes.Name && (agrees_at state b shapes.Path
    && (agrees_at state b shapes.Quoted && agrees_at state b shapes.Symbol)))

agrees_each : (state : State) (b : ℕ) → agrees state b ≡ true → (shape : Shape) → agrees_at state b shape ≡ true
agrees_each state b e shape = go shape
  where
    w : (agrees_at state b shapes.Word ≡ true) × ((agrees_at state b shapes.Name && (agrees_at state b shapes.Path && (agrees_at state b shapes.Quoted && agrees_at state b shapes.Symbol))) ≡ true)
    w = and_parts (agrees_at state b shapes.Word) _ e

    n : (agrees_at state b shapes.Name ≡ true) × ((agrees_at state b shapes.Path && (agrees_at state b shapes.Quoted && agrees_at state b shapes.Symbol)) ≡ true)
    n = and_parts (agrees_at state b shapes.Name) _ w.1

    p : (agrees_at state b shapes.Path ≡ true) × ((agrees_at state b shapes.Quoted && agrees_at state b shapes.Symbol) ≡ true)
    p = and_parts (agrees_at state b shapes.Path) _ n.1

    q : (agrees_at state b shapes.Quoted ≡ true) × (agrees_at state b shapes.Symbol ≡ true)
    q = and_parts (agrees_at state b shapes.Quoted) _ p.1

    go : (shape : Shape) → agrees_at state b shape ≡ true
    go shapes.Word = w.0
    go shapes.Name = n.0
    go shapes.Path = p.0
    go shapes.Quoted = q.0
    go shapes.Symbol = q.1

abbrev pub below : (ℕ → Bool) → ℕ → Bool
below test zero = true
below test (suc n) = test n && below test n

pub below_at : (test : ℕ → Bool) (n b : ℕ) → below test n ≡ true → b < n → test b ≡ true
below_at test zero b e h = absurd (omega arith)
below_at test (suc n) b e h =
    let t = and_parts (test n) (below test n) e in
    ⊎_elim (λ (w : b ≡ n). subst (λ m. test m ≡ true) (sym w) t.0) (λ (w : b < n). below_at test n b t.1 w) (apart b n (omega arith))
  where
    apart : (b n : ℕ) → b < n + 1 → (b ≡ n) ⊎ (b < n)
    apart b n h = search arith

each_agrees : (state : State) → below (agrees state) 256 ≡ true
each_agrees Start = refl
each_agrees (Joined First) = refl
each_agrees (Joined (Later Name)) = refl
each_agrees (Joined (Later Path)) = refl
each_agrees (Small First) = refl
each_agrees (Small (Later Name)) = refl
each_agrees (Small (Later Path)) = refl
each_agrees (Capital First) = refl
each_agrees (Capital (Later Name)) = refl
each_agrees (Capital (Later Path)) = refl
each_agrees (After Name) = refl
each_agrees (After Path) = refl
each_agrees (Version Name) = refl
each_agrees (Version Path) = refl
each_agrees (Digits Name) = refl
each_agrees (Digits Path) = refl
each_agrees (Point Name) = refl
each_agrees (Point Path) = refl
each_agrees (Tail Name) = refl
each_agrees (Tail Path) = refl
each_agrees Inside = refl
each_agrees Closed = refl
each_agrees Minus = refl
each_agrees OneDot = refl
each_agrees TwoDots = refl
each_agrees Ended = refl
each_agrees Dead = refl

-- what each state of the walk knows of the bytes read so far
abbrev pub Reads : State → List ℕ → Type 0
Reads state text = (shape : Shape) → after_all text (pattern_of shape) ≡ rest_of state shape

after_all-append : (xs ys : List ℕ) (p : Pattern) → after_all (xs ++ ys) p ≡ after_all ys (after_all xs p)
after_all-append [] ys p = refl
after_all-append (x ∷ xs) ys p = after_all-append xs ys (after x p)

pub reads_none : Reads Start []
reads_none shape = refl

pub reads_more : (state : State) (text : List ℕ) (b : ℕ) → Reads state text → b < 256 → Reads (step_of state (class_of b)) (text ++ b ∷ [])
reads_more state text b r h shape =
    let here = agrees_each state b (below_at (agrees state) 256 b (each_agrees state) h) shape in
    after_all-append text (b ∷ []) (pattern_of shape) ∙ ap (after b) (r shape) ∙ same_is (after b (rest_of state shape)) (rest_of (step_of state (class_of b)) shape) here

-- the shape of a text by what may follow it
abbrev shape_by : Pattern → Pattern → Pattern → Pattern → Pattern → Option Shape
shape_by i n p q s =
    cond (may_stop i) (Some shapes.Word) (cond (may_stop n) (Some shapes.Name) (cond (may_stop p) (Some shapes.Path)
    (cond (may_stop q) (Some shapes.Quoted) (cond (may_stop s) (Some shapes.Symbol) None))))

abbrev shape_in : State → Option Shape
shape_in state = shape_by (rest_of state shapes.Word) (rest_of state shapes.Name) (rest_of state shapes.Path) (rest_of state shapes.Quoted) (rest_of state shapes.Symbol)

shape_by_state : (state : State) → shape_in state ≡ shape_at state
shape_by_state Start = refl
shape_by_state (Joined First) = refl
shape_by_state (Joined (Later Name)) = refl
shape_by_state (Joined (Later Path)) = refl
shape_by_state (Small First) = refl
shape_by_state (Small (Later Name)) = refl
shape_by_state (Small (Later Path)) = refl
shape_by_state (Capital First) = refl
shape_by_state (Capital (Later Name)) = refl
shape_by_state (Capital (Later Path)) = refl
shape_by_state (After Name) = refl
shape_by_state (After Path) = refl
shape_by_state (Version Name) = refl
shape_by_state (Version Path) = refl
shape_by_state (Digits Name) = refl
shape_by_state (Digits Path) = refl
shape_by_state (Point Name) = refl
shape_by_state (Point Path) = refl
shape_by_state (Tail Name) = refl
shape_by_state (Tail Path) = refl
shape_by_state Inside = refl
shape_by_state Closed = refl
shape_by_state Minus = refl
shape_by_state OneDot = refl
shape_by_state TwoDots = refl
shape_by_state Ended = refl
shape_by_state Dead = refl

pub shape_is : (state : State) (text : List ℕ) → Reads state text → shape_of text ≡ shape_at state
shape_is state text r =
    (λ i. shape_by (r shapes.Word i) (r shapes.Name i) (r shapes.Path i) (r shapes.Quoted i) (r shapes.Symbol i)) ∙ shape_by_state state

pub after_nothing : (text : List ℕ) → after_all text Nothing ≡ Nothing
after_nothing [] = refl
after_nothing (b ∷ text) = after_nothing text

pub reads_dead : (text more : List ℕ) → Reads Dead text → Reads Dead (text ++ more)
reads_dead text more r shape = after_all-append text more (pattern_of shape) ∙ ap (after_all more) (r shape ∙ dead shape) ∙ after_nothing more ∙ sym (dead shape)
  where
    dead : (shape : Shape) → rest_of Dead shape ≡ Nothing
    dead shapes.Word = refl
    dead shapes.Name = refl
    dead shapes.Path = refl
    dead shapes.Quoted = refl
    dead shapes.Symbol = refl

-- the longest match with at most one byte more
abbrev pub one_longer : ℕ → Option Shape → Option (ℕ × Shape) → Option (ℕ × Shape)
one_longer n shape found = elim shape [ Some s ↦ Some (n, s) | None ↦ found ]

pub longest_more : (text : List ℕ) (n : ℕ) (shape : Option Shape) → shape_of (take (n + 1) text) ≡ shape → longest text (n + 1) ≡ one_longer (n + 1) shape (longest text n)
longest_more text n shape e =
    let f : shape_of (take (suc n) text) ≡ shape = subst (λ k. shape_of (take k text) ≡ shape) (add-one n) e in
    subst (λ k. longest text k ≡ one_longer k shape (longest text n)) (sym (add-one n)) (ap (λ s. one_longer (suc n) s (longest text n)) f)

-- where nothing continues the first n + 1 bytes, no longer prefix has a shape
pub longest_dead : (text : List ℕ) (n m : ℕ) → Reads Dead (take (n + 1) text) → longest text (n + m) ≡ longest text n
longest_dead text n zero r = ap (longest text) (add-zero n)
longest_dead text n (suc m) r =
    let split : n + suc m ≡ n + 1 + m = omega arith in
    let step : n + m + 1 ≡ n + suc m = omega arith in
    let parts : take (n + m + 1) text ≡ take (n + 1) text ++ take m (drop (n + 1) text) =
    ap (λ k. take k text) (step ∙ split) ∙ take-add (n + 1) m text in
    let none : shape_of (take (n + m + 1) text) ≡ None =
    shape_is Dead (take (n + m + 1) text) (subst (Reads Dead) (sym parts) (reads_dead (take (n + 1) text) (take m (drop (n + 1) text)) r)) in
    ap (longest text) (sym step) ∙ longest_more text (n + m) None none ∙ longest_dead text n m r

-- one byte of a walk
pub walk_reads : (text : List ℕ) (i : ℕ) (state next : State) → i < length text → get_or text i 0 < 256 → Reads state (take i text) → next ≡ step_of state (class_of (get_or text i 0)) → Reads next (take (i + 1) text)
walk_reads text i state next h fits r e =
    subst (Reads next) (sym (take_more text i 0 h))
    (subst (λ s. Reads s (take i text ++ get_or text i 0 ∷ [])) (sym e) (reads_more state (take i text) (get_or text i 0) r fits))

pub walk_longest : (text : List ℕ) (i : ℕ) (next : State) (shape : Option Shape) → Reads next (take (i + 1) text) → shape ≡ shape_at next → longest text (i + 1) ≡ one_longer (i + 1) shape (longest text i)
walk_longest text i next shape r e = longest_more text i shape (shape_is next (take (i + 1) text) r ∙ sym e)

-- where nothing continues, the walk ends
pub walk_ends : (text : List ℕ) (i : ℕ) (next : State) → i < length text → Reads next (take (i + 1) text) → next ≡ Dead → longest text i ≡ longest text (length text)
walk_ends text i next h r e =
    let all : i + (length text - i) ≡ length text = omega arith in
    sym (longest_dead text i (length text - i) (subst (λ s. Reads s (take (i + 1) text)) e r)) ∙ ap (longest text) all
