-- What an option holds.
use Rattle.wac_resolution_rules.proofs.Common.{◌≡◌, Option, Some, None}

pub some_back : {X : Type 0} {a b : X} → Some a ≡ Some b → a ≡ b
some_back h = cc

pub some_once : {X : Type 0} (o : Option X) (x y : X) → o ≡ Some x → o ≡ Some y → x ≡ y
some_once o x y p q = cc (p, q)

pub neither : {X : Type 0} (o : Option X) (x : X) → o ≡ None → o ≡ Some x → ⊥
neither o x p q = cc (p, q)
