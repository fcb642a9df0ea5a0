-- What stands after a token and doesn't continue it.
use Rattle.wac_comments_layout.proofs.Common.{◌≡◌, ℕ, Bool, true, false, cond, List, [], ◌∷◌, ◌++◌, sym, refl, ap, ◌∙◌, subst, inl, inr, ⊎_elim, arith, Some, codes, ◌&&◌, ◌||◌, not, nat_eq, nat_le, is_some, if◌then◌else◌, list_any, bytes_eq, and_parts, or_cases, false≢true, eqb-true, leb-true, is_blank, Follows, token_of, InTable, IsToken, Token, walk_follows, blank_follows, bytes_eq_is}
use Rattle.std.proofs.lemmas.List.Folds.{list_any-append}
use Rattle.wac_lexer.specs.Automaton.{class_of, step_of, shape_at}
use Rattle.wac_lexer.specs.Pattern.{Pattern, Matches}
use Rattle.wac_lexer.specs.Pattern.Pattern.{Then}
use Rattle.wac_lexer.specs.Shapes.{byte, id, some, at_version}
use Rattle.wac_lexer.specs.Tokens.IsToken.{fixed, identifier, string, name, path}
use Rattle.wac_lexer.specs.Words.{fixed_texts}
use Rattle.wac_lexer.specs.declared.token.Token.TheVariants as tokens
use Rattle.wac_lexer.proofs.Following.{ends, follows, is_dead, quiet}
use Rattle.wac_lexer.proofs.Sorts.{token_meant}
use Rattle.wac_comments_layout.specs.Following.{ends_tokens, end_tokens, stands_apart, is_closed, is_access, may_follow}

-- a byte ends each token, whatever stands after it
abbrev Ends : ℕ → Type 0
Ends b = (k : Token) (u : List ℕ) → follows k (b ∷ u) ≡ true

semicolon : Ends 59
semicolon tokens.Slash u = refl
semicolon _ u = refl

comma : Ends 44
comma tokens.Slash u = refl
comma _ u = refl

open_parenthesis : Ends 40
open_parenthesis tokens.Slash u = refl
open_parenthesis _ u = refl

close_parenthesis : Ends 41
close_parenthesis tokens.Slash u = refl
close_parenthesis _ u = refl

open_angle : Ends 60
open_angle tokens.Slash u = refl
open_angle _ u = refl

close_angle : Ends 62
close_angle tokens.Slash u = refl
close_angle _ u = refl

open_bracket : Ends 91
open_bracket tokens.Slash u = refl
open_bracket _ u = refl

close_bracket : Ends 93
close_bracket tokens.Slash u = refl
close_bracket _ u = refl

open_brace : Ends 123
open_brace tokens.Slash u = refl
open_brace _ u = refl

close_brace : Ends 125
close_brace tokens.Slash u = refl
close_brace _ u = refl

-- what follows each token
abbrev FollowsAll : List ℕ → Type 0
FollowsAll u = (t : List ℕ) (k : Token) → token_of t ≡ Some k → Follows k t u

at : (b n : ℕ) (u : List ℕ) → Ends n → nat_eq b n ≡ true → FollowsAll (b ∷ u)
at b n u ends same t k e = walk_follows t (b ∷ u) k e (subst (λ c. follows k (c ∷ u) ≡ true) (sym (eqb-true b n same)) (ends k u))

-- one of several tests passes
one_of : (P : Type 0) (a b : Bool) → (a ≡ true → P) → (b ≡ true → P) → (a || b) ≡ true → P
one_of P a b f g e = ⊎_elim f g (or_cases a b e)

byte_ends : (b : ℕ) (u : List ℕ) → ends_tokens b ≡ true → FollowsAll (b ∷ u)
byte_ends b u =
    let P = FollowsAll (b ∷ u) in
    one_of P (is_blank b) _ (λ e t k is. blank_follows t u k b is e)
    (one_of P (nat_eq b 59) _ (at b 59 u semicolon)
    (one_of P (nat_eq b 44) _ (at b 44 u comma)
    (one_of P (nat_eq b 40) _ (at b 40 u open_parenthesis)
    (one_of P (nat_eq b 41) _ (at b 41 u close_parenthesis)
    (one_of P (nat_eq b 60) _ (at b 60 u open_angle)
    (one_of P (nat_eq b 62) _ (at b 62 u close_angle)
    (one_of P (nat_eq b 91) _ (at b 91 u open_bracket)
    (one_of P (nat_eq b 93) _ (at b 93 u close_bracket)
    (one_of P (nat_eq b 123) _ (at b 123 u open_brace) (at b 125 u close_brace))))))))))

-- a colon before a blank, and a dot before a brace
abbrev EndsWith : ℕ → ℕ → Type 0
EndsWith b c = (k : Token) (u : List ℕ) → follows k (b ∷ c ∷ u) ≡ true

colon_space : EndsWith 58 32
colon_space tokens.Slash u = refl
colon_space _ u = refl

colon_tab : EndsWith 58 9
colon_tab tokens.Slash u = refl
colon_tab _ u = refl

colon_return : EndsWith 58 13
colon_return tokens.Slash u = refl
colon_return _ u = refl

colon_line : EndsWith 58 10
colon_line tokens.Slash u = refl
colon_line _ u = refl

dot_space : EndsWith 46 32
dot_space tokens.Slash u = refl
dot_space _ u = refl

dot_tab : EndsWith 46 9
dot_tab tokens.Slash u = refl
dot_tab _ u = refl

dot_return : EndsWith 46 13
dot_return tokens.Slash u = refl
dot_return _ u = refl

dot_line : EndsWith 46 10
dot_line tokens.Slash u = refl
dot_line _ u = refl

dot_brace : EndsWith 46 123
dot_brace tokens.Slash u = refl
dot_brace _ u = refl

both_at : (b c n m : ℕ) (u : List ℕ) → EndsWith n m → nat_eq b n ≡ true → nat_eq c m ≡ true → FollowsAll (b ∷ c ∷ u)
both_at b c n m u ends first second t k e =
    let ends_here = subst (λ x. follows k (x ∷ m ∷ u) ≡ true) (sym (eqb-true b n first)) (ends k u) in
    walk_follows t (b ∷ c ∷ u) k e (subst (λ y. follows k (b ∷ y ∷ u) ≡ true) (sym (eqb-true c m second)) ends_here)

abbrev BeforeBlanks : ℕ → Type 0
BeforeBlanks n = EndsWith n 32 × EndsWith n 9 × EndsWith n 13 × EndsWith n 10

blank_after : (b c n : ℕ) (u : List ℕ) → BeforeBlanks n → nat_eq b n ≡ true → is_blank c ≡ true → FollowsAll (b ∷ c ∷ u)
blank_after b c n u ends first =
    let P = FollowsAll (b ∷ c ∷ u) in
    one_of P (nat_eq c 32) _ (both_at b c n 32 u ends.0 first)
    (one_of P (nat_eq c 9) _ (both_at b c n 9 u ends.1 first)
    (one_of P (nat_eq c 13) _ (both_at b c n 13 u ends.2 first) (both_at b c n 10 u ends.3 first)))

after_dot : (b c : ℕ) (u : List ℕ) → nat_eq b 46 ≡ true → (is_blank c || nat_eq c 123) ≡ true → FollowsAll (b ∷ c ∷ u)
after_dot b c u first =
    one_of (FollowsAll (b ∷ c ∷ u)) (is_blank c) (nat_eq c 123)
    (blank_after b c 46 u (dot_space, dot_tab, dot_return, dot_line) first)
    (both_at b c 46 123 u dot_brace first)

two_end : (b c : ℕ) (u : List ℕ) → end_tokens b c ≡ true → FollowsAll (b ∷ c ∷ u)
two_end b c u =
    one_of (FollowsAll (b ∷ c ∷ u)) (nat_eq b 58 && is_blank c) (nat_eq b 46 && (is_blank c || nat_eq c 123))
    (λ e. let p = and_parts (nat_eq b 58) (is_blank c) e in blank_after b c 58 u (colon_space, colon_tab, colon_return, colon_line) p.0 p.1)
    (λ e. let p = and_parts (nat_eq b 46) (is_blank c || nat_eq c 123) e in after_dot b c u p.0 p.1)

end_follows : (k : Token) → follows k [] ≡ true
end_follows tokens.Slash = refl
end_follows _ = refl

pub apart : (u : List ℕ) → stands_apart u ≡ true → FollowsAll u
apart [] e = λ t k is. walk_follows t [] k is (end_follows k)
apart (b ∷ []) e = one_of (FollowsAll (b ∷ [])) (ends_tokens b) false (byte_ends b []) (λ no. absurd (false≢true no)) e
apart (b ∷ c ∷ u) e = one_of (FollowsAll (b ∷ c ∷ u)) (ends_tokens b) (end_tokens b c) (byte_ends b (c ∷ u)) (two_end b c u) e

-- ---- tokens that nothing continues

-- a token with this text is of one kind
one_kind : (t known : List ℕ) (k kind : Token) → bytes_eq t known ≡ true → token_of known ≡ Some kind → token_of t ≡ Some k → kind ≡ k
one_kind t known k kind same is e =
    let both : Some kind ≡ Some k = sym is ∙ ap token_of (sym (bytes_eq_is t known same)) ∙ e in
    cc

-- nothing continues a mark
mark_quiet : (u : List ℕ) → follows tokens.OpenParen u ≡ true
mark_quiet [] = refl
mark_quiet (b ∷ u) = refl

closed_by : (t known : List ℕ) (kind : Token) (u : List ℕ) → token_of known ≡ Some kind → follows kind u ≡ true → bytes_eq t known ≡ true → (k : Token) → token_of t ≡ Some k → Follows k t u
closed_by t known kind u is quiet same k e = walk_follows t u k e (subst (λ x. follows x u ≡ true) (one_kind t known k kind same is e) quiet)

pub closed : (t u : List ℕ) → is_closed t ≡ true → (k : Token) → token_of t ≡ Some k → Follows k t u
closed t u =
    let P = (k : Token) → token_of t ≡ Some k → Follows k t u in
    one_of P (bytes_eq t (codes "(")) _ (closed_by t (codes "(") tokens.OpenParen u refl (mark_quiet u))
    (one_of P (bytes_eq t (codes "<")) _ (closed_by t (codes "<") tokens.OpenAngle u refl (mark_quiet u))
    (one_of P (bytes_eq t (codes "[")) _ (closed_by t (codes "[") tokens.OpenBracket u refl (mark_quiet u))
    (one_of P (bytes_eq t (codes "{")) _ (closed_by t (codes "{") tokens.OpenBrace u refl (mark_quiet u))
    (closed_by t (codes "...") tokens.Ellipsis u refl (mark_quiet u)))))

-- ---- a dot before a small letter

cond_true : {A : Type 0} (t : Bool) (x y : A) → t ≡ true → cond t x y ≡ x
cond_true true x y e = refl
cond_true false x y e = absurd (false≢true e)

is_lower : (b : ℕ) → (nat_le 97 b && nat_le b 122) ≡ true → class_of b ≡ class_of 97
is_lower b e = cond_true (nat_le 97 b && nat_le b 122) (class_of 97) _ e

dot_quiet : (b : ℕ) (u : List ℕ) → (nat_le 97 b && nat_le b 122) ≡ true → follows tokens.Dot (b ∷ u) ≡ true
dot_quiet b u e =
    ap (λ c. elim (ends tokens.Dot) [ [] ↦ true | s ∷ others ↦ (if is_dead (step_of s c) then true else (not (is_some (shape_at (step_of s c))) && quiet (step_of s c) u)) && true ]) (is_lower b e)

-- ---- a word before a dot

-- whether a dot may continue tokens of this kind
abbrev takes_dot : Token → Bool
takes_dot tokens.Dot = true
takes_dot tokens.PackageName = true
takes_dot tokens.PackagePath = true
takes_dot other = false

dot_follows : (k : Token) (u : List ℕ) → takes_dot k ≡ false → follows k (46 ∷ u) ≡ true
dot_follows tokens.Dot u e = absurd (false≢true (sym e))
dot_follows tokens.PackageName u e = absurd (false≢true (sym e))
dot_follows tokens.PackagePath u e = absurd (false≢true (sym e))
dot_follows tokens.Slash u e = refl
dot_follows _ u e = refl

-- of the tables, that is the dot alone
abbrev is_fine : List ℕ → Token → Bool
is_fine t k = not (takes_dot k) || bytes_eq t (codes ".")

abbrev all_fine : List (List ℕ × Token) → Bool
all_fine [] = true
all_fine (entry ∷ table) = is_fine entry.0 entry.1 && all_fine table

fine_in : (table : List (List ℕ × Token)) (t : List ℕ) (k : Token) → all_fine table ≡ true → InTable t k table → is_fine t k ≡ true
fine_in [] t k e h = absurd h
fine_in (entry ∷ table) t k e (inl h) = (λ i. is_fine (h.0 i) (h.1 i)) ∙ (and_parts (is_fine entry.0 entry.1) (all_fine table) e).0
fine_in (entry ∷ table) t k e (inr h) = fine_in table t k (and_parts (is_fine entry.0 entry.1) (all_fine table) e).1 h

fixed_fine : (t : List ℕ) (k : Token) → InTable t k fixed_texts → is_fine t k ≡ true
fixed_fine t k h = fine_in fixed_texts t k refl h

-- the name and the path of a package have a colon
abbrev has_colon : List ℕ → Bool
has_colon t = list_any (λ b. nat_eq b 58) t

or_true : (b : Bool) → (b || true) ≡ true
or_true true = refl
or_true false = refl

in_front : (t front rest : List ℕ) → t ≡ front ++ rest → has_colon front ≡ true → has_colon t ≡ true
in_front t front rest is e = ap has_colon is ∙ list_any-append (λ b. nat_eq b 58) front rest ∙ ap (λ b. b || has_colon rest) e

in_rest : (t front rest : List ℕ) → t ≡ front ++ rest → has_colon rest ≡ true → has_colon t ≡ true
in_rest t front rest is e = ap has_colon is ∙ list_any-append (λ b. nat_eq b 58) front rest ∙ ap (λ b. has_colon front || b) e ∙ or_true (has_colon front)

colon_is : (b : ℕ) → (nat_le 58 b && nat_le b 58) ≡ true → b ≡ 58
colon_is b e = let p = and_parts (nat_le 58 b) (nat_le b 58) e in omega (arith, leb-true 58 b p.0, leb-true b 58 p.1)

one_colon : (t : List ℕ) → Matches (byte 58) t → has_colon t ≡ true
one_colon t m = ap has_colon (m.1 ∙ ap (λ b. b ∷ []) (colon_is m.0 m.2))

named_colon : (q : Pattern) (t : List ℕ) → Matches (Then id (Then (some (Then (byte 58) id)) q)) t → has_colon t ≡ true
named_colon q t m =
    let rest = m.4 in
    let segments = rest.3 in
    let first = segments.3 in
    in_rest t m.0 m.1 m.2
    (in_front m.1 rest.0 rest.1 rest.2
    (in_front rest.0 segments.0 segments.1 segments.2
    (in_front segments.0 first.0 first.1 first.2 (one_colon first.0 first.3))))

not_named : (t : List ℕ) (k : Token) → IsToken k t → bytes_eq t (codes ".") ≡ false → has_colon t ≡ false → takes_dot k ≡ false
not_named t k (fixed h) other none = go (takes_dot k) (bytes_eq t (codes ".")) (fixed_fine t k h) other
  where
    go : (a b : Bool) → (not a || b) ≡ true → b ≡ false → a ≡ false
    go false b e o = refl
    go true b e o = absurd (false≢true (sym o ∙ e))
not_named t k (identifier m absent) other none = refl
not_named t k (string m) other none = refl
not_named t k (name m) other none = absurd (false≢true (sym none ∙ named_colon at_version t m))
not_named t k (path m) other none = absurd (false≢true (sym none ∙ named_colon (Then (some (Then (byte 47) id)) at_version) t m))

not_true : (b : Bool) → not b ≡ true → b ≡ false
not_true true e = absurd (false≢true e)
not_true false e = refl

access : (t : List ℕ) (b : ℕ) (u : List ℕ) → is_access t (b ∷ u) ≡ true → (k : Token) → token_of t ≡ Some k → Follows k t (b ∷ u)
access t b u =
    let dot = bytes_eq t (codes ".") in
    one_of ((k : Token) → token_of t ≡ Some k → Follows k t (b ∷ u)) (nat_eq b 46 && (not dot && not (has_colon t))) (dot && (nat_le 97 b && nat_le b 122))
    (λ e k is.
    let p = and_parts (nat_eq b 46) (not dot && not (has_colon t)) e in
    let q = and_parts (not dot) (not (has_colon t)) p.1 in
    let word = not_named t k (token_meant t k is) (not_true dot q.0) (not_true (has_colon t) q.1) in
    walk_follows t (b ∷ u) k is (subst (λ c. follows k (c ∷ u) ≡ true) (sym (eqb-true b 46 p.0)) (dot_follows k u word)))
    (λ e. let p = and_parts dot (nat_le 97 b && nat_le b 122) e in closed_by t (codes ".") tokens.Dot (b ∷ u) refl (dot_quiet b u p.1) p.0)

access_follows : (t u : List ℕ) → is_access t u ≡ true → (k : Token) → token_of t ≡ Some k → Follows k t u
access_follows t [] e = absurd (false≢true e)
access_follows t (b ∷ u) e = access t b u e

-- THE LAW
pub what_may_follow : (t u : List ℕ) (k : Token) → token_of t ≡ Some k → may_follow t u ≡ true → Follows k t u
what_may_follow t u k is e =
    one_of (Follows k t u) (stands_apart u) (is_closed t || is_access t u) (λ f. apart u f t k is)
    (one_of (Follows k t u) (is_closed t) (is_access t u) (λ f. closed t u f k is) (λ f. access_follows t u f k is)) e
