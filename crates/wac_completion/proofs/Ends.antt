-- Whether a text, a blank and a token begin some document, by what was tried.
use Rattle.std.proofs.Common.{◌≡◌, refl, sym, subst, ℕ, ◌+◌, List, length, Bool, true, false, Option, None, Ok, inr, ⊎_elim}
use Rattle.std.specs.Prelude.{◌⊎◌, MatchBool}
use Rattle.wac_lexer.specs.Characters.{refused}
use Rattle.wac_lexer.specs.Items.{items}
use Rattle.wac_lexer.specs.declared.token.Token.{Token}
use Rattle.wac_lexer.specs.declared.token.Token.TheVariants as t
use Rattle.wac_ast_grammar.specs.Arguments.{EndsArgued}
use Rattle.wac_ast_grammar.specs.Grammar.{document}
use Rattle.wac_ast_grammar.specs.Tokens.{is_token}
use Rattle.wac_ast_grammar.specs.Viable.{Viable}
use Rattle.wac_completion.specs.Faults.{last_is_string}
use Rattle.wac_completion.specs.Standing.{CanFollow, IsBegun, Reads, tried}
use Rattle.wac_completion.proofs.Suffixes.{no_argument}

-- whether something holds, as a bool
abbrev pub Decides : Bool → Type 0 → Type 0
Decides b P = MatchBool b P (¬ P)

pub yes : (P : Type 0) (b : Bool) → Decides b P → b ≡ true → P
yes P true d e = d
yes P false d e = absurd cc

pub no : (P : Type 0) (b : Bool) → Decides b P → b ≡ false → ¬ P
no P false d e = d
no P true d e = absurd cc

pub last_of_three : (P Q R : Type 0) (b : Bool) → ¬ P → ¬ Q → Decides b R → Decides b (P ⊎ (Q ⊎ R))
last_of_three P Q R true p q r = inr (inr r)
last_of_three P Q R false p q r = λ h. ⊎_elim p (λ s. ⊎_elim q r s) h

-- what is no string is tried alone
pub follows_alone : (text : List ℕ) (k : Token) (b : Bool) → is_token t.String (Ok k) ≡ false → Decides b (IsBegun text k None) → Decides b (CanFollow text k)
follows_alone text t.String b h d = absurd cc
follows_alone text _ b h d = d

-- a string is one
is_string : (k : Token) → is_token t.String (Ok k) ≡ true → k ≡ t.String
is_string t.String h = refl
is_string _ h = absurd cc

pub follows_string : (text : List ℕ) (k : Token) (b : Bool) → is_token t.String (Ok k) ≡ true → Decides b (CanFollow text t.String) → Decides b (CanFollow text k)
follows_string text k b h d = subst (λ (a : Token). Decides b (CanFollow text a)) (sym (is_string k h)) d

-- a text that was tried, and is read as it should be
module _ (text all : List ℕ) (k : Token) (next : Option Token) (is : all ≡ tried text k next) where
  -- it isn't
  pub not_read : ¬ (Reads all (length text + 1) k next) → ¬ (IsBegun text k next)
  not_read none h = none (subst (λ (a : List ℕ). Reads a (length text + 1) k next) (sym is) h.0)

  pub decided : (b : Bool) → Reads all (length text + 1) k next → last_is_string k next ≡ false → (b ≡ true → Viable document (items all))
      → (b ≡ false → refused all ≡ None → Viable document (items all) → EndsArgued document (items all)) → Decides b (IsBegun text k next)
  decided true reads last there none =
      (subst (λ (a : List ℕ). Reads a (length text + 1) k next) is reads, subst (λ (a : List ℕ). Viable document (items a)) is (there refl))
  decided false reads last there none = λ h.
      let viable = subst (λ (a : List ℕ). Viable document (items a)) (sym is) h.1 in
      no_argument (length text + 1) (items all) k next reads.1 last (none refl reads.0 viable)
