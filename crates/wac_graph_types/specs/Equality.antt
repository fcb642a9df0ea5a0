-- Meanings are equal or not, and renaming their origins one to one changes no such result.
use Rattle.std.specs.Prelude.{◌≡◌, ℕ, zero, suc, List, Option, Some, None}
use Rattle.std.proofs.Math.Decide.{ℕ_discrete}
use Rattle.std.proofs.Math.Bool.{Bool-discrete}
use mathlib.Core.List.{List-discrete}
use Rattle.std.proofs.Common.{refl, sym, ◌∙◌, ap, inl, inr}
use Rattle.wac_graph_types.specs.declared.kind.PrimitiveType.{PrimitiveType}
use Rattle.wac_graph_types.specs.declared.kind.PrimitiveType.TheVariants as primitives
use Rattle.wac_graph_types.specs.declared.rules.Reason.{Reason}
use Rattle.wac_graph_types.specs.Kind.{ValueForm-discrete, Form, Form-discrete}
use Rattle.wac_graph_types.specs.Entry.{Slot-discrete}
use Rattle.wac_graph_types.specs.Label.{Label, plain, resource, Plain-discrete, Label-discrete}
use Rattle.wac_graph_types.specs.Meaning.{Meaning, node, Row, done, more, Meaning-discrete}
use Rattle.wac_graph_types.specs.Rules.{renamed, renamed_row, renamed_label, HasOrigin, Occurs, OccursInRow, KeepsApart}

-- the primitive types, numbered
number_of : PrimitiveType → ℕ
number_of primitives.U8 = 0
number_of primitives.S8 = 1
number_of primitives.U16 = 2
number_of primitives.S16 = 3
number_of primitives.U32 = 4
number_of primitives.S32 = 5
number_of primitives.U64 = 6
number_of primitives.S64 = 7
number_of primitives.F32 = 8
number_of primitives.F64 = 9
number_of primitives.Char = 10
number_of primitives.Bool = 11
number_of primitives.String = 12
number_of primitives.ErrorContext = 13

numbered : ℕ → PrimitiveType
numbered zero = primitives.U8
numbered (suc zero) = primitives.S8
numbered (suc (suc zero)) = primitives.U16
numbered (suc (suc (suc zero))) = primitives.S16
numbered (suc (suc (suc (suc zero)))) = primitives.U32
numbered (suc (suc (suc (suc (suc zero))))) = primitives.S32
numbered (suc (suc (suc (suc (suc (suc zero)))))) = primitives.U64
numbered (suc (suc (suc (suc (suc (suc (suc zero))))))) = primitives.S64
numbered (suc (suc (suc (suc (suc (suc (suc (suc zero)))))))) = primitives.F32
numbered (suc (suc (suc (suc (suc (suc (suc (suc (suc zero))))))))) = primitives.F64
numbered (suc (suc (suc (suc (suc (suc (suc (suc (suc (suc zero)))))))))) = primitives.Char
numbered (suc (suc (suc (suc (suc (suc (suc (suc (suc (suc (suc zero))))))))))) = primitives.Bool
numbered (suc (suc (suc (suc (suc (suc (suc (suc (suc (suc (suc (suc zero)))))))))))) = primitives.String
numbered (suc (suc (suc (suc (suc (suc (suc (suc (suc (suc (suc (suc (suc n))))))))))))) = primitives.ErrorContext

numbered_back : (p : PrimitiveType) → numbered (number_of p) ≡ p
unfolding number_of numbered
numbered_back primitives.U8 = refl
numbered_back primitives.S8 = refl
numbered_back primitives.U16 = refl
numbered_back primitives.S16 = refl
numbered_back primitives.U32 = refl
numbered_back primitives.S32 = refl
numbered_back primitives.U64 = refl
numbered_back primitives.S64 = refl
numbered_back primitives.F32 = refl
numbered_back primitives.F64 = refl
numbered_back primitives.Char = refl
numbered_back primitives.Bool = refl
numbered_back primitives.String = refl
numbered_back primitives.ErrorContext = refl

primitive_discrete : Discrete PrimitiveType
primitive_discrete p q = elim (ℕ_discrete (number_of p) (number_of q)) [
  | yes e ↦ yes (sym (numbered_back p) ∙ ap numbered e ∙ numbered_back q)
  | no n ↦ no (λ h. n (ap number_of h))
]

texts_discrete : Discrete (List ℕ)
texts_discrete = List-discrete ℕ_discrete

option_discrete : {X : Type 0} → Discrete X → Discrete (Option X)
option_discrete d None None = yes refl
option_discrete d None (Some y) = no (λ h. absurd (cc))
option_discrete d (Some x) None = no (λ h. absurd (cc))
option_discrete d (Some x) (Some y) = elim (d x y) [ yes e ↦ yes (ap Some e) | no n ↦ no (λ h. n (cc)) ]

form_discrete : Discrete Form
form_discrete = Form-discrete ℕ_discrete (ValueForm-discrete primitive_discrete)

label_discrete : Discrete Label
label_discrete = Label-discrete (Plain-discrete form_discrete Bool-discrete (option_discrete texts_discrete)) ℕ_discrete texts_discrete

pub meaning_discrete : Discrete Meaning
meaning_discrete = Meaning-discrete label_discrete (Slot-discrete texts_discrete (option_discrete texts_discrete))

-- passes where the meanings are equal
pub equal_or : {X : Type 0} → Reason → {a b : X} → Dec (a ≡ b) → Option Reason
equal_or reason (yes e) = None
equal_or reason (no n) = Some reason

pub equal_or-equal : {X : Type 0} (reason : Reason) {a b : X} (d : Dec (a ≡ b)) → a ≡ b → equal_or reason d ≡ None
unfolding equal_or
equal_or-equal reason (yes e) h = refl
equal_or-equal reason (no n) h = absurd (n h)

pub equal_or-unequal : {X : Type 0} (reason : Reason) {a b : X} (d : Dec (a ≡ b)) → (a ≡ b → ⊥) → equal_or reason d ≡ Some reason
unfolding equal_or
equal_or-unequal reason (yes e) h = absurd (h e)
equal_or-unequal reason (no n) h = refl

-- two labels whose renamed labels are equal, where renaming keeps their origins apart
label_back : (f : ℕ → ℕ) (l k : Label) → ((i j : ℕ) → HasOrigin i l → HasOrigin j k → f i ≡ f j → i ≡ j) → renamed_label f l ≡ renamed_label f k → l ≡ k
label_back f (plain p) (plain q) one h = h
label_back f (plain p) (resource o n) one h = absurd (cc)
label_back f (resource o n) (plain q) one h = absurd (cc)
label_back f (resource o n) (resource u m) one h =
    let same : f o ≡ f u = cc in
    let e : o ≡ u = one o u refl refl same in
    cc

mutual
  pub meaning_back : (f : ℕ → ℕ) (a b : Meaning) → ((i j : ℕ) → Occurs i a → Occurs j b → f i ≡ f j → i ≡ j) → renamed f a ≡ renamed f b → a ≡ b
  meaning_back f (node l r) (node k q) one h =
      let le : renamed_label f l ≡ renamed_label f k = cc in
      let re : renamed_row f r ≡ renamed_row f q = cc in
      let e : l ≡ k = label_back f l k (λ i j p s. one i j (inl p) (inl s)) le in
      let d : r ≡ q = row_back f r q (λ i j p s. one i j (inr p) (inr s)) re in
      cc

  row_back : (f : ℕ → ℕ) (a b : Row) → ((i j : ℕ) → OccursInRow i a → OccursInRow j b → f i ≡ f j → i ≡ j) → renamed_row f a ≡ renamed_row f b → a ≡ b
  row_back f done done one h = refl
  row_back f done (more s m r) one h = absurd (cc)
  row_back f (more s m r) done one h = absurd (cc)
  row_back f (more s m r) (more t n q) one h =
      let slot : s ≡ t = cc in
      let me : renamed f m ≡ renamed f n = cc in
      let re : renamed_row f r ≡ renamed_row f q = cc in
      let e : m ≡ n = meaning_back f m n (λ i j p w. one i j (inl p) (inl w)) me in
      let d : r ≡ q = row_back f r q (λ i j p w. one i j (inr p) (inr w)) re in
      cc

-- equality is the same under other origins
pub equal_or-renamed : (reason : Reason) (f : ℕ → ℕ) (a b : Meaning) → KeepsApart f a b
    → equal_or reason (meaning_discrete (renamed f a) (renamed f b)) ≡ equal_or reason (meaning_discrete a b)
equal_or-renamed reason f a b apart = go (meaning_discrete a b)
  where
    go : (d : Dec (a ≡ b)) → equal_or reason (meaning_discrete (renamed f a) (renamed f b)) ≡ equal_or reason d
    go (yes e) = equal_or-equal reason (meaning_discrete (renamed f a) (renamed f b)) (ap (renamed f) e) ∙ sym (equal_or-equal reason (yes e) e)
    go (no n) = equal_or-unequal reason (meaning_discrete (renamed f a) (renamed f b)) (λ h. n (meaning_back f a b (λ i j p q. apart i j (inl p) (inr q)) h)) ∙ sym (equal_or-unequal reason {a = a} {b = b} (no n) n)
