-- The code's tables are the automaton's classes and steps: held against them entry by entry, by computation.
use Rattle.wac_lexer.proofs.Common.{◌≡◌, ℕ, zero, suc, ◌+◌, ◌*◌, ◌-◌, ◌<◌, ◌≤◌, Bool, true, List, [], ◌∷◌, take, length, get_or, refl, sym, ap, ◌∙◌, subst, ⊎_elim, arith, Option, Some, None, nat_eq, nat_lt, is_some, is_none, option_map, eqb-true, ltb-true, cases_lt, false≢true, get_or_past}
use Rattle.wac_lexer.specs.Automaton.{Class, State, class_of, step_of, shape_at, class_at, state_at, states}
use Rattle.wac_lexer.specs.Automaton.Class.{Lower, Upper, Digit, Percent, Dash, Plus, Colon, Slash, At, Dot, Quote, CloseAngle, OtherSymbol, Other}
use Rattle.wac_lexer.specs.Automaton.Package.{Name, Path}
use Rattle.wac_lexer.specs.Automaton.Part.{First, Later}
use Rattle.wac_lexer.specs.Automaton.State.{Start, Joined, Small, Capital, After, Version, Digits, Point, Tail, Inside, Closed, Minus, OneDot, TwoDots, Ended, Dead}
use Rattle.wac_lexer.specs.declared.shape.Shape.{Shape}
use Rattle.wac_lexer.specs.declared.shape.Shape.TheVariants as shapes
use Rattle.wac_lexer.specs.declared.automaton.TheConstants.{CLASSES, STEPS}
use Rattle.wac_lexer.specs.Front.{found_at, longest}
use Rattle.wac_lexer.proofs.States.{Reads, below, below_at, one_longer, shape_is, walk_longest, walk_reads, walk_ends}
use Rattle.wac_lexer.proofs.Texts.{is_shape, is_shape_is}

abbrev class_number : Class → ℕ
class_number Lower = 0
class_number Upper = 1
class_number Digit = 2
class_number Percent = 3
class_number Dash = 4
class_number Plus = 5
class_number Colon = 6
class_number Slash = 7
class_number At = 8
class_number Dot = 9
class_number Quote = 10
class_number CloseAngle = 11
class_number OtherSymbol = 12
class_number Other = 13

class_numbered : (c : Class) → class_at (class_number c) ≡ c
class_numbered Lower = refl
class_numbered Upper = refl
class_numbered Digit = refl
class_numbered Percent = refl
class_numbered Dash = refl
class_numbered Plus = refl
class_numbered Colon = refl
class_numbered Slash = refl
class_numbered At = refl
class_numbered Dot = refl
class_numbered Quote = refl
class_numbered CloseAngle = refl
class_numbered OtherSymbol = refl
class_numbered Other = refl

abbrev state_number : State → ℕ
state_number (Small First) = 0
state_number (Capital First) = 1
state_number (Small (Later Name)) = 2
state_number (Capital (Later Name)) = 3
state_number (Digits Name) = 4
state_number (Tail Name) = 5
state_number (Small (Later Path)) = 6
state_number (Capital (Later Path)) = 7
state_number (Digits Path) = 8
state_number (Tail Path) = 9
state_number Closed = 10
state_number OneDot = 11
state_number Ended = 12
state_number Start = 13
state_number (Joined First) = 14
state_number (Joined (Later Name)) = 15
state_number (Joined (Later Path)) = 16
state_number (After Name) = 17
state_number (After Path) = 18
state_number (Version Name) = 19
state_number (Version Path) = 20
state_number (Point Name) = 21
state_number (Point Path) = 22
state_number Inside = 23
state_number Minus = 24
state_number TwoDots = 25
state_number Dead = 26

state_numbered : (s : State) → state_at (state_number s) ≡ s
state_numbered (Small First) = refl
state_numbered (Capital First) = refl
state_numbered (Small (Later Name)) = refl
state_numbered (Capital (Later Name)) = refl
state_numbered (Digits Name) = refl
state_numbered (Tail Name) = refl
state_numbered (Small (Later Path)) = refl
state_numbered (Capital (Later Path)) = refl
state_numbered (Digits Path) = refl
state_numbered (Tail Path) = refl
state_numbered Closed = refl
state_numbered OneDot = refl
state_numbered Ended = refl
state_numbered Start = refl
state_numbered (Joined First) = refl
state_numbered (Joined (Later Name)) = refl
state_numbered (Joined (Later Path)) = refl
state_numbered (After Name) = refl
state_numbered (After Path) = refl
state_numbered (Version Name) = refl
state_numbered (Version Path) = refl
state_numbered (Point Name) = refl
state_numbered (Point Path) = refl
state_numbered Inside = refl
state_numbered Minus = refl
state_numbered TwoDots = refl
state_numbered Dead = refl

-- the classes
each_class : below (λ b. nat_eq (get_or CLASSES b 0) (class_number (class_of b))) 256 ≡ true
each_class = refl

each_class_within : below (λ b. nat_lt (get_or CLASSES b 0) 16) 256 ≡ true
each_class_within = refl

pub class_is : (b : ℕ) → b < 256 → class_at (get_or CLASSES b 0) ≡ class_of b
class_is b h =
    ap class_at (eqb-true (get_or CLASSES b 0) (class_number (class_of b)) (below_at (λ k. nat_eq (get_or CLASSES k 0) (class_number (class_of k))) 256 b each_class h))
    ∙ class_numbered (class_of b)

pub class_within : (b : ℕ) → b < 256 → get_or CLASSES b 0 < 16
class_within b h = ltb-true (get_or CLASSES b 0) 16 (below_at (λ k. nat_lt (get_or CLASSES k 0) 16) 256 b each_class_within h)

-- the steps: a row for each state, a column for each class
abbrev steps_in : ℕ → ℕ → Bool
steps_in s k = nat_eq (get_or STEPS (s * 16 + k) 0) (state_number (step_of (state_at s) (class_at k)))

abbrev row_agrees : ℕ → Bool
row_agrees s = below (steps_in s) 16

each_step : below row_agrees 27 ≡ true
each_step = refl

each_step_within : below (λ n. nat_lt (get_or STEPS n 0) 27) 432 ≡ true
each_step_within = refl

pub step_is : (s k : ℕ) → s < 27 → k < 16 → state_at (get_or STEPS (s * 16 + k) 0) ≡ step_of (state_at s) (class_at k)
step_is s k hs hk =
    let row = below_at row_agrees 27 s each_step hs in
    ap state_at (eqb-true (get_or STEPS (s * 16 + k) 0) (state_number (step_of (state_at s) (class_at k))) (below_at (steps_in s) 16 k row hk))
    ∙ state_numbered (step_of (state_at s) (class_at k))

pub step_within : (n : ℕ) → n < 432 → get_or STEPS n 0 < 27
step_within n h = ltb-true (get_or STEPS n 0) 27 (below_at (λ k. nat_lt (get_or STEPS k 0) 27) 432 n each_step_within h)

-- the states in which a token of each shape ends
ends_from : (shape : Shape) (from count n : ℕ) → below (λ k. is_shape shape (shape_at (state_at (from + k)))) count ≡ true → from ≤ n → n < from + count → shape_at (state_at n) ≡ Some shape
ends_from shape from count n e low high =
    let split : from + (n - from) ≡ n = omega arith in
    let test = below_at (λ k. is_shape shape (shape_at (state_at (from + k)))) count (n - from) e (omega arith) in
    subst (λ k. shape_at (state_at k) ≡ Some shape) split (is_shape_is shape (shape_at (state_at (from + (n - from)))) test)

pub ends_word : (n : ℕ) → n < 2 → shape_at (state_at n) ≡ Some shapes.Word
ends_word n h = ends_from shapes.Word 0 2 n refl (omega arith) (omega arith)

pub ends_name : (n : ℕ) → 2 ≤ n → n ≤ 5 → shape_at (state_at n) ≡ Some shapes.Name
ends_name n low high = ends_from shapes.Name 2 4 n refl low (omega arith)

pub ends_path : (n : ℕ) → 6 ≤ n → n ≤ 9 → shape_at (state_at n) ≡ Some shapes.Path
ends_path n low high = ends_from shapes.Path 6 4 n refl low (omega arith)

pub ends_quoted : shape_at (state_at 10) ≡ Some shapes.Quoted
ends_quoted = refl

pub ends_symbol : (n : ℕ) → 11 ≤ n → n ≤ 12 → shape_at (state_at n) ≡ Some shapes.Symbol
ends_symbol n low high = ends_from shapes.Symbol 11 2 n refl low (omega arith)

is_none_is : {A : Type 0} (o : Option A) → is_none o ≡ true → o ≡ None
is_none_is None e = refl
is_none_is (Some x) e = absurd cc

ends_some : (n : ℕ) → n < 13 → is_some (shape_at (state_at n)) ≡ true
ends_some n h = below_at (λ k. is_some (shape_at (state_at k))) 13 n refl h

none_from : (n : ℕ) → n < 27 → 13 ≤ n → shape_at (state_at n) ≡ None
none_from n h low =
    let split : 13 + (n - 13) ≡ n = omega arith in
    let test = below_at (λ k. is_none (shape_at (state_at (13 + k)))) 14 (n - 13) refl (omega arith) in
    subst (λ k. shape_at (state_at k) ≡ None) split (is_none_is (shape_at (state_at (13 + (n - 13)))) test)

pub ends_none : (n : ℕ) → 13 ≤ n → shape_at (state_at n) ≡ None
ends_none n low = ⊎_elim (λ (h : n < 27). none_from n h low) (λ (h : 27 ≤ n). ap shape_at (get_or_past states n Dead h)) (cases_lt n 27)

-- a prefix of this length, with the shape of the texts that end in a state
-- one byte of the walk: what was found is the whole of what was read where a token may end, and stays where none does
pub found_longer : (n state : ℕ) (found : Option (ℕ × Shape)) → state < 13 → found_at n state ≡ one_longer n (shape_at (state_at state)) found
found_longer n state found h = go (shape_at (state_at state)) (ends_some state h)
  where
    go : (shape : Option Shape) → is_some shape ≡ true → option_map (λ s. (n, s)) shape ≡ one_longer n shape found
    go (Some s) e = refl
    go None e = absurd cc

pub found_stays : (n state : ℕ) (found : Option (ℕ × Shape)) → 13 ≤ state → one_longer n (shape_at (state_at state)) found ≡ found
found_stays n state found h = ap (λ s. one_longer n s found) (ends_none state h)

none_is_some : (shape : Option Shape) → None ≡ shape → is_some shape ≡ true → ⊥
none_is_some None e h = absurd (false≢true h)
none_is_some (Some s) e h = absurd cc

-- where the walk stands in a state in which a token may end, all that it has read is the longest prefix with a shape
pub found_there : (text : List ℕ) (n state : ℕ) → Reads (state_at state) (take n text) → state < 13 → found_at n state ≡ longest text n
found_there text zero state reads h = absurd (none_is_some (shape_at (state_at state)) (shape_is (state_at state) [] reads) (ends_some state h))
found_there text (suc n) state reads h =
    let more : n + 1 ≡ suc n = omega arith in
    let there : Reads (state_at state) (take (n + 1) text) = subst (λ k. Reads (state_at state) (take k text)) (sym more) reads in
    let found = found_longer (n + 1) state (longest text n) h ∙ sym (walk_longest text n (state_at state) (shape_at (state_at state)) there refl) in
    subst (λ k. found_at k state ≡ longest text k) more found

-- where the first byte ends a symbol that no byte continues, no longer prefix has a shape
pub ended_alone : (text : List ℕ) → 0 < length text → ((k : ℕ) → get_or text k 0 < 256) → Reads (state_at 12) (take 1 text) → longest text (length text) ≡ Some (1, shapes.Symbol)
ended_alone [] some fits reads = absurd (omega (arith, some))
ended_alone (b ∷ []) some fits reads = sym (found_there (b ∷ []) 1 12 reads (omega arith))
ended_alone (b ∷ next ∷ rest) some fits reads =
    let text = b ∷ next ∷ rest in
    let dead : Reads Dead (take 2 text) = walk_reads text 1 Ended Dead (omega arith) (fits 1) reads refl in
    sym (walk_ends text 1 Dead (omega arith) dead refl) ∙ sym (found_there text 1 12 reads (omega arith))
