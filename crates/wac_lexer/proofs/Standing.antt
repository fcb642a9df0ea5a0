-- What the walk lets follow a token may follow it; and a token before what may follow it is the first item.
use Rattle.wac_lexer.proofs.Common.{◌≡◌, ℕ, zero, suc, ◌+◌, ◌-◌, ◌<◌, ◌≤◌, Bool, true, false, cond, List, [], ◌∷◌, ◌++◌, take, length, sym, refl, ap, ◌∙◌, subst, inl, inr, ⊎_elim, arith, Option, Some, None, length-append, ◌&&◌, ◌||◌, not, nat_eq, nat_lt, is_some, bytes_eq, take-append_seam, take-take, length-take-le, and_parts, or_cases, false≢true, ltb-true, eqb-true}
use Rattle.wac_lexer.specs.Comments.{is_blank, begins, opens}
use Rattle.wac_lexer.specs.Words.{fixed_texts}
use Rattle.wac_lexer.specs.Tokens.{token_of, longest_token, InTable, IsToken}
use Rattle.wac_lexer.specs.Tokens.IsToken.{fixed, identifier, string, name, path}
use Rattle.wac_lexer.specs.Shapes.{shape_of}
use Rattle.wac_lexer.specs.Follow.{Follows}
use Rattle.wac_lexer.specs.Automaton.{class_of, step_of, shape_at}
use Rattle.wac_lexer.specs.declared.token.Token.{Token}
use Rattle.wac_lexer.specs.declared.token.Token.TheVariants as tokens
use Rattle.wac_lexer.specs.declared.shape.Shape.TheVariants as shapes
use Rattle.wac_lexer.specs.Automaton.{State}
use Rattle.wac_lexer.specs.Automaton.State.{Start}
use Rattle.wac_lexer.proofs.Texts.{bytes_eq_is}
use Rattle.wac_lexer.proofs.Sorts.{AreBytes, shape_bytes, token_found, token_meant}
use Rattle.wac_lexer.proofs.States.{reads_none}
use Rattle.wac_lexer.proofs.Fronts.{first_item_is, no_shape_no_token}
use Rattle.wac_lexer.proofs.Following.{run, is_dead, quiet, follows}
use Rattle.wac_lexer.proofs.InFront.{reads_run, quiet_none, longest_stays, found_at, take_beyond, bytes_back}
use Rattle.wac_lexer.proofs.Followed.{is_slash, begins_item, begins_well, Stands, token_stands, part_by, some_bytes, no_comment, not_true, BeginsWith, dot_before_word}

-- ---- tokens consist of bytes

abbrev are_bytes : List ℕ → Bool
are_bytes [] = true
are_bytes (b ∷ t) = nat_lt b 256 && are_bytes t

bytes_are : (t : List ℕ) → are_bytes t ≡ true → AreBytes t
bytes_are [] e = tt
bytes_are (b ∷ t) e = let p = and_parts (nat_lt b 256) (are_bytes t) e in (ltb-true b 256 p.0, bytes_are t p.1)

abbrev all_bytes : List (List ℕ × Token) → Bool
all_bytes [] = true
all_bytes (entry ∷ table) = are_bytes entry.0 && all_bytes table

table_bytes : (table : List (List ℕ × Token)) (t : List ℕ) (k : Token) → all_bytes table ≡ true → InTable t k table → AreBytes t
table_bytes [] t k e h = absurd h
table_bytes (entry ∷ table) t k e (inl h) = subst AreBytes (sym h.0) (bytes_are entry.0 (and_parts (are_bytes entry.0) (all_bytes table) e).0)
table_bytes (entry ∷ table) t k e (inr h) = table_bytes table t k (and_parts (are_bytes entry.0) (all_bytes table) e).1 h

pub token_bytes : (t : List ℕ) (k : Token) → IsToken k t → AreBytes t
token_bytes t k (fixed f) = table_bytes fixed_texts t k refl f
token_bytes t k (identifier m absent) = shape_bytes shapes.Word t m
token_bytes t k (string m) = shape_bytes shapes.Quoted t m
token_bytes t k (name m) = shape_bytes shapes.Name t m
token_bytes t k (path m) = shape_bytes shapes.Path t m

-- ---- no longer prefix is a token

-- the prefix of a quiet text is quiet
quiet_front : (u : List ℕ) (state : State) (m : ℕ) → quiet state u ≡ true → quiet state (take m u) ≡ true
quiet_front [] state zero q = refl
quiet_front [] state (suc m) q = refl
quiet_front (b ∷ u) state zero q = refl
quiet_front (b ∷ u) state (suc m) q = go (is_dead (step_of state (class_of b))) refl (quiet_front u (step_of state (class_of b)) m)
  where
    next : State
    next = step_of state (class_of b)

    go : (d : Bool) → is_dead next ≡ d → (quiet next u ≡ true → quiet next (take m u) ≡ true) → quiet state (b ∷ take m u) ≡ true
    go true e later = ap (λ v. cond v true (not (is_some (shape_at next)) && quiet next (take m u))) e
    go false e later =
        let here : (not (is_some (shape_at next)) && quiet next u) ≡ true = sym (ap (λ v. cond v true (not (is_some (shape_at next)) && quiet next u)) e) ∙ q in
        let p = and_parts (not (is_some (shape_at next))) (quiet next u) here in
        ap (λ v. cond v true (not (is_some (shape_at next)) && quiet next (take m u))) e ∙ (λ i. p.0 i && later p.1 i)

longer_is_none : (t u : List ℕ) (n : ℕ) (other : Token) → AreBytes t → quiet (run Start t) u ≡ true → length t < n → n ≤ length (t ++ u) → IsToken other (take n (t ++ u)) → ⊥
longer_is_none t u n other bytes q longer within is =
    let m = n - length t in
    let v = take m u in
    let fits : m ≤ length u = omega (arith, length-append t u) in
    let len : length v ≡ m = length-take-le m u fits in
    let place : length t + m ≡ n = omega arith in
    let same : take n (t ++ u) ≡ t ++ v = sym (ap (λ k. take k (t ++ u)) place) ∙ take_beyond t u m in
    let all : AreBytes (t ++ v) = subst AreBytes same (token_bytes (take n (t ++ u)) other is) in
    let none = quiet_none t v (run Start t) m (bytes_back t v all) (reads_run [] t Start bytes reads_none) (quiet_front u (run Start t) m q) (omega arith) (omega (arith, len)) in
    let whole : take m v ≡ v = take-take m m u (omega arith) in
    let no_token : token_of (t ++ v) ≡ None = no_shape_no_token (t ++ v) (ap (λ w. shape_of (t ++ w)) (sym whole) ∙ none) in
    let both : None ≡ Some other = sym no_token ∙ token_found (t ++ v) other (subst (IsToken other) same is) in
    cc

-- ---- what the walk lets follow a token

abbrev NoComment : ℕ → List ℕ → Type 0
NoComment b t = (begins 47 47 (b ∷ t) ≡ false) × (opens (b ∷ t) ≡ false)

item_no_comment : (b : ℕ) (t u : List ℕ) → begins_item (b ∷ t) ≡ true → NoComment b (t ++ u)
item_no_comment b t u e =
    let slash = not_true (nat_eq b 47) (and_parts (not (is_blank b)) (not (nat_eq b 47)) e).1 in
    (no_comment b (t ++ u) 47 slash, no_comment b (t ++ u) 42 slash)

slash_no_comment : (b : ℕ) (t u : List ℕ) (k : Token) → is_slash k ≡ true → b ∷ t ≡ 47 ∷ [] → follows k u ≡ true → NoComment b (t ++ u)
slash_no_comment b t u tokens.Slash s is q =
    let p = and_parts (not (begins 47 47 (47 ∷ u))) (not (opens (47 ∷ u))) q in
    (ap (λ x. begins 47 47 (x ++ u)) is ∙ not_true (begins 47 47 (47 ∷ u)) p.0, ap (λ x. opens (x ++ u)) is ∙ not_true (opens (47 ∷ u)) p.1)
slash_no_comment b t u k s is q = absurd (false≢true s)

pub walk_follows : (t u : List ℕ) (k : Token) → token_of t ≡ Some k → follows k u ≡ true → Follows k t u
walk_follows [] u k e q = let none : None ≡ Some k = e in absurd cc
walk_follows (b ∷ t) u k e q =
    let meant = token_meant (b ∷ t) k e in
    let bytes = token_bytes (b ∷ t) k meant in
    let stands : Stands k (b ∷ t) = token_stands (b ∷ t) bytes k meant in
    let apart : NoComment b (t ++ u) =
    ⊎_elim (item_no_comment b t u)
    (λ f. let p = and_parts (is_slash k) (bytes_eq (b ∷ t) (47 ∷ [])) f in slash_no_comment b t u k p.0 (bytes_eq_is (b ∷ t) (47 ∷ []) p.1) q)
    (or_cases (begins_item (b ∷ t)) (is_slash k && bytes_eq (b ∷ t) (47 ∷ [])) stands.1) in
    record {
      longest = record {
        some = omega arith;
        within = omega (arith, length-append (b ∷ t) u);
        is = subst (IsToken k) (sym (take-append_seam (b ∷ t) u)) meant;
        longest = λ n other longer within is. longer_is_none (b ∷ t) u n other bytes (stands.0 u q) longer within is;
      };
      no_line = apart.0;
      no_block = apart.1;
    }

-- ---- a token before what may follow it

none_of : (x : List ℕ) → ((other : Token) → IsToken other x → ⊥) → token_of x ≡ None
none_of x h = go (token_of x) refl
  where
    go : (found : Option Token) → token_of x ≡ found → token_of x ≡ None
    go None e = e
    go (Some other) e = absurd (h other (token_meant x other e))

no_blank : (b : ℕ) (t : List ℕ) (k : Token) → begins_well (b ∷ t) k ≡ true → is_blank b ≡ false
no_blank b t k e =
    ⊎_elim (λ f. not_true (is_blank b) (and_parts (not (is_blank b)) (not (nat_eq b 47)) f).0)
    (λ f.
    let is : b ∷ t ≡ 47 ∷ [] = bytes_eq_is (b ∷ t) (47 ∷ []) (and_parts (is_slash k) (bytes_eq (b ∷ t) (47 ∷ [])) f).1 in
    let slash : b ≡ 47 = cc in
    ap is_blank slash)
    (or_cases (begins_item (b ∷ t)) (is_slash k && bytes_eq (b ∷ t) (47 ∷ [])) e)

pub stands_alone : (t u : List ℕ) (k : Token) → Follows k t u → BeginsWith t k u
stands_alone [] u k f = absurd (omega (arith, f.longest.some))
stands_alone (b ∷ t) u k f =
    let x = b ∷ t in
    let text = x ++ u in
    let meant : IsToken k x = subst (IsToken k) (take-append_seam x u) f.longest.is in
    let white = no_blank b t k (token_stands x (token_bytes x k meant) k meant).1 in
    let longer = longest_stays text (length x) (length u) (λ m a c. none_of (take (length x + m) text) (λ other. f.longest.longest (length x + m) other (omega arith) (omega (arith, length-append x u)))) in
    let found : longest_token text (length x) ≡ Some (length x, k) = found_at text (length x) k (omega arith) (token_found (take (length x) text) k f.longest.is) in
    let longest : longest_token text (length text) ≡ Some (length x, k) = ap (longest_token text) (length-append x u) ∙ longer ∙ found in
    ((λ i. part_by text (some_bytes b (t ++ u) i) (white i) (f.no_line i) (f.no_block i)), first_item_is text (Some (length x, k)) (some_bytes b (t ++ u)) f.no_block longest)

-- a word may follow a dot
pub dot_follows : (t u : List ℕ) → token_of t ≡ Some tokens.Ident → Follows tokens.Dot (46 ∷ []) (t ++ u)
dot_follows t u e = walk_follows (46 ∷ []) (t ++ u) tokens.Dot refl (dot_before_word t u e)

-- and a blank after any token
space_quiet : (k : Token) (u : List ℕ) → follows k (32 ∷ u) ≡ true
space_quiet tokens.Slash u = refl
space_quiet _ u = refl

tab_quiet : (k : Token) (u : List ℕ) → follows k (9 ∷ u) ≡ true
tab_quiet tokens.Slash u = refl
tab_quiet _ u = refl

return_quiet : (k : Token) (u : List ℕ) → follows k (13 ∷ u) ≡ true
return_quiet tokens.Slash u = refl
return_quiet _ u = refl

line_quiet : (k : Token) (u : List ℕ) → follows k (10 ∷ u) ≡ true
line_quiet tokens.Slash u = refl
line_quiet _ u = refl

blank_quiet : (k : Token) (b : ℕ) (u : List ℕ) → is_blank b ≡ true → follows k (b ∷ u) ≡ true
blank_quiet k b u e =
    let at = λ (n : ℕ) (quiet : follows k (n ∷ u) ≡ true) (same : nat_eq b n ≡ true). subst (λ c. follows k (c ∷ u) ≡ true) (sym (eqb-true b n same)) quiet in
    ⊎_elim (at 32 (space_quiet k u))
    (λ f. ⊎_elim (at 9 (tab_quiet k u))
    (λ g. ⊎_elim (at 13 (return_quiet k u)) (at 10 (line_quiet k u)) (or_cases (nat_eq b 13) (nat_eq b 10) g))
    (or_cases (nat_eq b 9) (nat_eq b 13 || nat_eq b 10) f))
    (or_cases (nat_eq b 32) (nat_eq b 9 || (nat_eq b 13 || nat_eq b 10)) e)

pub blank_follows : (t u : List ℕ) (k : Token) (b : ℕ) → token_of t ≡ Some k → is_blank b ≡ true → Follows k t (b ∷ u)
blank_follows t u k b e blank = walk_follows t (b ∷ u) k e (blank_quiet k b u blank)
