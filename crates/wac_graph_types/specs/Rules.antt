-- What lawful rules say.
use Rattle.std.specs.Prelude.{◌≡◌, ◌⊎◌, ℕ, Option, Some, None, Result, Ok, Err}
use Rattle.wac_graph_types.specs.declared.rules.Reason.{Reason}
use Rattle.wac_graph_types.specs.Label.{Label, plain, resource}
use Rattle.wac_graph_types.specs.Meaning.{Meaning, node, Row, done, more}

-- what was returned is this verdict: no reason, or a reason against
abbrev pub Answers : Result (Unit {0}) Reason → Option Reason → Type 0
Answers (Ok _) verdict = verdict ≡ None
Answers (Err r) verdict = verdict ≡ Some r

-- a label under other origins
abbrev pub renamed_label : (ℕ → ℕ) → Label → Label
renamed_label f (resource origin name) = resource (f origin) name
renamed_label f (plain p) = plain p

-- a meaning under other origins
abbrev mutual
  pub renamed : (ℕ → ℕ) → Meaning → Meaning
  renamed f (node l r) = node (renamed_label f l) (renamed_row f r)

  pub renamed_row : (ℕ → ℕ) → Row → Row
  renamed_row f done = done
  renamed_row f (more s m r) = more s (renamed f m) (renamed_row f r)

abbrev pub HasOrigin : ℕ → Label → Type 0
HasOrigin i (plain p) = ⊥
HasOrigin i (resource origin name) = origin ≡ i

-- an origin occurs in a meaning
abbrev mutual
  pub Occurs : ℕ → Meaning → Type 0
  Occurs i (node l r) = HasOrigin i l ⊎ OccursInRow i r

  pub OccursInRow : ℕ → Row → Type 0
  OccursInRow i done = ⊥
  OccursInRow i (more s m r) = Occurs i m ⊎ OccursInRow i r

-- no two of the origins that occur in the meanings get one number
abbrev pub KeepsApart : (ℕ → ℕ) → Meaning → Meaning → Type 0
KeepsApart f a b = (i j : ℕ) → Occurs i a ⊎ Occurs i b → Occurs j a ⊎ Occurs j b → f i ≡ f j → i ≡ j

-- a verdict on two meanings stays the same when the origins that occur in them are renamed one to one
abbrev pub IgnoresRenaming : (Meaning → Meaning → Option Reason) → Type 0
IgnoresRenaming verdict = (f : ℕ → ℕ) (a b : Meaning) → KeepsApart f a b
    → verdict (renamed f a) (renamed f b) ≡ verdict a b
