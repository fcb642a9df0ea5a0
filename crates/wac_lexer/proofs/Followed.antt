-- The state in which a token ends, by its kind, and the first byte of a token.
use Rattle.wac_lexer.proofs.Common.{◌≡◌, ℕ, Bool, true, false, cond, List, [], ◌∷◌, ◌++◌, length, sym, refl, ap, ◌∙◌, subst, inl, inr, ⊎_elim, arith, Some, None, Ok, ◌&&◌, ◌||◌, not, nat_eq, is_some, ◌==◌, bytes_eq, and_parts, or_cases, eqb-true, false≢true, ne_eqb}
use Rattle.wac_lexer.specs.Comments.{is_blank, begins, line_len, block_len, part_len}
use Rattle.wac_lexer.specs.Words.{fixed_texts}
use Rattle.wac_lexer.specs.Shapes.{shape_of}
use Rattle.wac_lexer.specs.Tokens.{token_of, InTable, IsToken}
use Rattle.wac_lexer.specs.Tokens.IsToken.{fixed, identifier, string, name, path}
use Rattle.wac_lexer.specs.Items.{first_item}
use Rattle.wac_lexer.specs.Automaton.{class_of, step_of, shape_at}
use Rattle.wac_lexer.proofs.Following.{run, is_dead, quiet, ends, all_quiet, follows}
use Rattle.wac_lexer.specs.declared.token.Token.{Token}
use Rattle.wac_lexer.specs.declared.token.Token.TheVariants as tokens
use Rattle.wac_lexer.specs.declared.shape.Shape.{Shape}
use Rattle.wac_lexer.specs.declared.shape.Shape.TheVariants as shapes
use Rattle.wac_lexer.specs.Automaton.{Class}
use Rattle.wac_lexer.specs.Automaton.Class.{Dot}
use Rattle.wac_lexer.specs.Automaton.Package.{Name, Path}
use Rattle.wac_lexer.specs.Automaton.Part.{First, Later}
use Rattle.wac_lexer.specs.Automaton.{State}
use Rattle.wac_lexer.specs.Automaton.State.{Start, Small, Capital, Digits, Tail, Closed, OneDot, TwoDots, Ended, Dead}
use Rattle.wac_lexer.proofs.Sorts.{AreBytes, shape_bytes, shape_found, token_meant}
use Rattle.wac_lexer.proofs.InFront.{shape_run}

-- the state is one of these
abbrev same_state : State → State → Bool
same_state (Small First) (Small First) = true
same_state (Capital First) (Capital First) = true
same_state OneDot OneDot = true
same_state Ended Ended = true
same_state a b = false

same_quiet : (a b : State) (u : List ℕ) → same_state a b ≡ true → quiet b u ≡ true → quiet a u ≡ true
same_quiet (Small First) (Small First) u e q = q
same_quiet (Capital First) (Capital First) u e q = q
same_quiet OneDot OneDot u e q = q
same_quiet Ended Ended u e q = q
same_quiet a b u e q = absurd (false≢true e)

abbrev is_among : State → List State → Bool
is_among a [] = false
is_among a (b ∷ states) = same_state a b || is_among a states

among_quiet : (a : State) (states : List State) (u : List ℕ) → is_among a states ≡ true → all_quiet states u ≡ true → quiet a u ≡ true
among_quiet a [] u e q = absurd (false≢true e)
among_quiet a (b ∷ states) u e q =
    let p = and_parts (quiet b u) (all_quiet states u) q in
    ⊎_elim (λ f. same_quiet a b u f p.0) (λ f. among_quiet a states u f p.1) (or_cases (same_state a b) (is_among a states) e)

-- neither a blank nor a comment begins with the first byte
abbrev pub begins_item : List ℕ → Bool
begins_item [] = false
begins_item (b ∷ t) = not (is_blank b) && not (nat_eq b 47)

abbrev pub is_slash : Token → Bool
is_slash tokens.Slash = true
is_slash k = false

abbrev pub begins_well : List ℕ → Token → Bool
begins_well t k = begins_item t || (is_slash k && bytes_eq t (47 ∷ []))

-- each text of the tables ends in a state of its kind
abbrev fits : List ℕ → Token → Bool
fits t k = is_among (run Start t) (ends k) && begins_well t k

abbrev all_fit : List (List ℕ × Token) → Bool
all_fit [] = true
all_fit (entry ∷ table) = fits entry.0 entry.1 && all_fit table

tables_fit : all_fit fixed_texts ≡ true
tables_fit = refl

fit_in : (table : List (List ℕ × Token)) (t : List ℕ) (k : Token) → all_fit table ≡ true → InTable t k table → fits t k ≡ true
fit_in [] t k e h = absurd h
fit_in (entry ∷ table) t k e (inl h) = (λ i. fits (h.0 i) (h.1 i)) ∙ (and_parts (fits entry.0 entry.1) (all_fit table) e).0
fit_in (entry ∷ table) t k e (inr h) = fit_in table t k (and_parts (fits entry.0 entry.1) (all_fit table) e).1 h

-- what a token needs of the text after it, and what it gives
abbrev pub Stands : Token → List ℕ → Type 0
Stands k t = ((u : List ℕ) → follows k u ≡ true → quiet (run Start t) u ≡ true) × (begins_well t k ≡ true)

slash_quiet : (t u : List ℕ) → is_among (run Start t) (ends tokens.Slash) ≡ true → quiet (run Start t) u ≡ true
slash_quiet t [] e = among_quiet (run Start t) (ends tokens.Slash) [] e refl
slash_quiet t (b ∷ u) e = among_quiet (run Start t) (ends tokens.Slash) (b ∷ u) e refl

fixed_stands : (t : List ℕ) (k : Token) → InTable t k fixed_texts → Stands k t
fixed_stands t k h = let p = and_parts (is_among (run Start t) (ends k)) (begins_well t k) (fit_in fixed_texts t k tables_fit h) in (go k p.0, p.1)
  where
    go : (k : Token) → is_among (run Start t) (ends k) ≡ true → (u : List ℕ) → follows k u ≡ true → quiet (run Start t) u ≡ true
    go tokens.Slash e u q = slash_quiet t u e
    go k e u q = among_quiet (run Start t) (ends k) u e q

-- the states of the other shapes
front : (a b : Bool) → (a && b) ≡ true → a ≡ true
front a b h = (and_parts a b h).0

back : (a b : Bool) → (a && b) ≡ true → b ≡ true
back a b h = (and_parts a b h).1

word_quiet : (s : State) (u : List ℕ) → shape_at s ≡ Some shapes.Word → all_quiet (ends tokens.Ident) u ≡ true → quiet s u ≡ true
word_quiet (Small First) u e q = front (quiet (Small First) u) _ q
word_quiet (Capital First) u e q = front (quiet (Capital First) u) _ (back (quiet (Small First) u) _ q)
word_quiet (Small (Later Name)) u e q = absurd cc
word_quiet (Small (Later Path)) u e q = absurd cc
word_quiet (Capital (Later Name)) u e q = absurd cc
word_quiet (Capital (Later Path)) u e q = absurd cc
word_quiet (Digits Name) u e q = absurd cc
word_quiet (Digits Path) u e q = absurd cc
word_quiet (Tail Name) u e q = absurd cc
word_quiet (Tail Path) u e q = absurd cc
word_quiet s u e q = absurd cc

name_quiet : (s : State) (u : List ℕ) → shape_at s ≡ Some shapes.Name → all_quiet (ends tokens.PackageName) u ≡ true → quiet s u ≡ true
name_quiet (Small (Later Name)) u e q = front (quiet (Small (Later Name)) u) _ q
name_quiet (Capital (Later Name)) u e q = front (quiet (Capital (Later Name)) u) _ (back (quiet (Small (Later Name)) u) _ q)
name_quiet (Digits Name) u e q = front (quiet (Digits Name) u) _ (back (quiet (Capital (Later Name)) u) _ (back (quiet (Small (Later Name)) u) _ q))
name_quiet (Tail Name) u e q = front (quiet (Tail Name) u) _ (back (quiet (Digits Name) u) _ (back (quiet (Capital (Later Name)) u) _ (back (quiet (Small (Later Name)) u) _ q)))
name_quiet (Small (Later Path)) u e q = absurd cc
name_quiet (Capital (Later Path)) u e q = absurd cc
name_quiet (Digits Path) u e q = absurd cc
name_quiet (Tail Path) u e q = absurd cc
name_quiet (Small First) u e q = absurd cc
name_quiet (Capital First) u e q = absurd cc
name_quiet s u e q = absurd cc

path_quiet : (s : State) (u : List ℕ) → shape_at s ≡ Some shapes.Path → all_quiet (ends tokens.PackagePath) u ≡ true → quiet s u ≡ true
path_quiet (Small (Later Path)) u e q = front (quiet (Small (Later Path)) u) _ q
path_quiet (Capital (Later Path)) u e q = front (quiet (Capital (Later Path)) u) _ (back (quiet (Small (Later Path)) u) _ q)
path_quiet (Digits Path) u e q = front (quiet (Digits Path) u) _ (back (quiet (Capital (Later Path)) u) _ (back (quiet (Small (Later Path)) u) _ q))
path_quiet (Tail Path) u e q = front (quiet (Tail Path) u) _ (back (quiet (Digits Path) u) _ (back (quiet (Capital (Later Path)) u) _ (back (quiet (Small (Later Path)) u) _ q)))
path_quiet (Small (Later Name)) u e q = absurd cc
path_quiet (Capital (Later Name)) u e q = absurd cc
path_quiet (Digits Name) u e q = absurd cc
path_quiet (Tail Name) u e q = absurd cc
path_quiet (Small First) u e q = absurd cc
path_quiet (Capital First) u e q = absurd cc
path_quiet s u e q = absurd cc

string_quiet : (s : State) (u : List ℕ) → shape_at s ≡ Some shapes.Quoted → all_quiet (ends tokens.String) u ≡ true → quiet s u ≡ true
string_quiet Closed u e q = front (quiet Closed u) _ q
string_quiet (Small First) u e q = absurd cc
string_quiet (Capital First) u e q = absurd cc
string_quiet (Small (Later Name)) u e q = absurd cc
string_quiet (Small (Later Path)) u e q = absurd cc
string_quiet (Capital (Later Name)) u e q = absurd cc
string_quiet (Capital (Later Path)) u e q = absurd cc
string_quiet (Digits Name) u e q = absurd cc
string_quiet (Digits Path) u e q = absurd cc
string_quiet (Tail Name) u e q = absurd cc
string_quiet (Tail Path) u e q = absurd cc
string_quiet s u e q = absurd cc

-- their first bytes
run_dead : (t : List ℕ) → run Dead t ≡ Dead
run_dead [] = refl
run_dead (b ∷ t) = run_dead t

abbrev is_symbol : Shape → Bool
is_symbol shapes.Symbol = true
is_symbol shape = false

blank_dead : (b : ℕ) → is_blank b ≡ true → step_of Start (class_of b) ≡ Dead
blank_dead b e =
    let at = λ (n : ℕ) (dead : step_of Start (class_of n) ≡ Dead) (same : nat_eq b n ≡ true). ap (λ c. step_of Start (class_of c)) (eqb-true b n same) ∙ dead in
    ⊎_elim (at 32 refl)
    (λ f. ⊎_elim (at 9 refl)
    (λ g. ⊎_elim (at 13 refl) (at 10 refl) (or_cases (nat_eq b 13) (nat_eq b 10) g))
    (or_cases (nat_eq b 9) (nat_eq b 13 || nat_eq b 10) f))
    (or_cases (nat_eq b 32) (nat_eq b 9 || (nat_eq b 13 || nat_eq b 10)) e)

dead_shape : (t : List ℕ) (s : State) (shape : Shape) → s ≡ Dead → shape_at (run s t) ≡ Some shape → ⊥
dead_shape t s shape d e = let none : None ≡ Some shape = sym (ap (λ x. shape_at (run x t)) d ∙ ap shape_at (run_dead t)) ∙ e in cc

ended_shape : (t : List ℕ) (shape : Shape) → is_symbol shape ≡ false → shape_at (run Ended t) ≡ Some shape → ⊥
ended_shape [] shape n e = let same : shapes.Symbol ≡ shape = cc in false≢true (sym n ∙ ap is_symbol (sym same))
ended_shape (b ∷ t) shape n e = dead_shape t Dead shape refl e

shape_begins : (t : List ℕ) (shape : Shape) → AreBytes t → shape_of t ≡ Some shape → is_symbol shape ≡ false → begins_item t ≡ true
shape_begins [] shape h e n = let none : None ≡ Some shape = e in absurd cc
shape_begins (b ∷ t) shape h e n = both (is_blank b) (nat_eq b 47) refl refl
  where
    here : shape_at (run (step_of Start (class_of b)) t) ≡ Some shape
    here = sym (shape_run (b ∷ t) h) ∙ e

    both : (white slash : Bool) → is_blank b ≡ white → nat_eq b 47 ≡ slash → (not (is_blank b) && not (nat_eq b 47)) ≡ true
    both true slash w s = absurd (dead_shape t (step_of Start (class_of b)) shape (blank_dead b w) here)
    both false true w s = absurd (ended_shape t shape n (subst (λ c. shape_at (run (step_of Start (class_of c)) t) ≡ Some shape) (eqb-true b 47 s) here))
    both false false w s = (λ i. not (w i) && not (s i))

begins_or : (t : List ℕ) (k : Token) → begins_item t ≡ true → begins_well t k ≡ true
begins_or t k e = ap (λ b. b || (is_slash k && bytes_eq t (47 ∷ []))) e

module _ (t : List ℕ) (h : AreBytes t) where
  state_shape : (shape : Shape) → shape_of t ≡ Some shape → shape_at (run Start t) ≡ Some shape
  state_shape shape e = sym (shape_run t h) ∙ e

  pub token_stands : (k : Token) → IsToken k t → Stands k t
  token_stands k (fixed f) = fixed_stands t k f
  token_stands k (identifier m absent) =
      let s = shape_found t shapes.Word m in
      (λ u q. word_quiet (run Start t) u (state_shape shapes.Word s) q, begins_or t tokens.Ident (shape_begins t shapes.Word h s refl))
  token_stands k (string m) =
      let s = shape_found t shapes.Quoted m in
      (λ u q. string_quiet (run Start t) u (state_shape shapes.Quoted s) q, begins_or t tokens.String (shape_begins t shapes.Quoted h s refl))
  token_stands k (name m) =
      let s = shape_found t shapes.Name m in
      (λ u q. name_quiet (run Start t) u (state_shape shapes.Name s) q, begins_or t tokens.PackageName (shape_begins t shapes.Name h s refl))
  token_stands k (path m) =
      let s = shape_found t shapes.Path m in
      (λ u q. path_quiet (run Start t) u (state_shape shapes.Path s) q, begins_or t tokens.PackagePath (shape_begins t shapes.Path h s refl))

-- no part of a gap begins with a token
abbrev pub part_by : List ℕ → Bool → Bool → Bool → Bool → ℕ
part_by text none white line block = cond none 0 (cond white 1 (cond line (line_len text) (cond block (block_len text) 0)))

pub not_true : (b : Bool) → not b ≡ true → b ≡ false
not_true true e = absurd (false≢true e)
not_true false e = refl

pub some_bytes : (b : ℕ) (t : List ℕ) → (length (b ∷ t) == 0) ≡ false
some_bytes b t = ne_eqb (length (b ∷ t)) 0 (λ z. omega arith)

pub no_comment : (b : ℕ) (t : List ℕ) (y : ℕ) → nat_eq b 47 ≡ false → begins 47 y (b ∷ t) ≡ false
no_comment b [] y e = refl
no_comment b (c ∷ t) y e = ap (λ v. v && nat_eq c y) e

-- a text that begins with neither a blank nor a comment, and with this token
abbrev pub BeginsWith : List ℕ → Token → List ℕ → Type 0
BeginsWith t k u = (part_len (t ++ u) ≡ 0) × (first_item (t ++ u) ≡ Some (Ok k, length t))

-- no word continues with a dot
dot_dead : (c : Class) (t : List ℕ) (shape : Shape) → is_symbol shape ≡ false → shape_at (run (step_of Start c) t) ≡ Some shape → is_dead (step_of OneDot c) ≡ true
dot_dead Dot t shape n e = absurd (dot_shape t shape n e)
  where
    two_shape : (t : List ℕ) (shape : Shape) → is_symbol shape ≡ false → shape_at (run TwoDots t) ≡ Some shape → ⊥
    two_shape [] shape n e = let none : None ≡ Some shape = e in cc
    two_shape (b ∷ t) shape n e = go (class_of b) e
      where
        go : (c : Class) → shape_at (run (step_of TwoDots c) t) ≡ Some shape → ⊥
        go Dot e = ended_shape t shape n e
        go c e = dead_shape t Dead shape refl e

    dot_shape : (t : List ℕ) (shape : Shape) → is_symbol shape ≡ false → shape_at (run OneDot t) ≡ Some shape → ⊥
    dot_shape [] shape n e = let same : shapes.Symbol ≡ shape = cc in false≢true (sym n ∙ ap is_symbol (sym same))
    dot_shape (b ∷ t) shape n e = go (class_of b) e
      where
        go : (c : Class) → shape_at (run (step_of OneDot c) t) ≡ Some shape → ⊥
        go Dot e = two_shape t shape n e
        go c e = dead_shape t Dead shape refl e
dot_dead c t shape n e = refl

dot_quiet : (t u : List ℕ) (shape : Shape) → is_symbol shape ≡ false → shape_at (run Start t) ≡ Some shape → quiet OneDot (t ++ u) ≡ true
dot_quiet [] u shape n e = let none : None ≡ Some shape = e in absurd cc
dot_quiet (b ∷ t) u shape n e =
    let next = step_of OneDot (class_of b) in
    ap (λ d. cond d true (not (is_some (shape_at next)) && quiet next (t ++ u))) (dot_dead (class_of b) t shape n e)

-- a state in which a word ends
word_state : (s : State) → is_among s (ends tokens.Ident) ≡ true → shape_at s ≡ Some shapes.Word
word_state (Small First) e = refl
word_state (Capital First) e = refl
word_state s e = absurd (false≢true e)

word_shape : (t : List ℕ) (k : Token) → IsToken k t → k ≡ tokens.Ident → shape_at (run Start t) ≡ Some shapes.Word
word_shape t k (fixed f) same = word_state (run Start t) (and_parts (is_among (run Start t) (ends tokens.Ident)) (begins_well t tokens.Ident) (subst (λ k. fits t k ≡ true) same (fit_in fixed_texts t k tables_fit f))).0
word_shape t k (identifier m absent) same = sym (shape_run t (shape_bytes shapes.Word t m)) ∙ shape_found t shapes.Word m
word_shape t k (string m) same = absurd cc
word_shape t k (name m) same = absurd cc
word_shape t k (path m) same = absurd cc

-- a word may follow a dot
pub dot_before_word : (t u : List ℕ) → token_of t ≡ Some tokens.Ident → follows tokens.Dot (t ++ u) ≡ true
dot_before_word t u e = ap (λ b. b && true) (dot_quiet t u shapes.Word refl (word_shape t tokens.Ident (token_meant t tokens.Ident e) refl))
