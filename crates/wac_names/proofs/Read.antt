-- Elements of a slice by their numbers.
use Rattle.std.proofs.Common.{◌≡◌, ℕ, List, Option, None, Some, sym, refl}
use Rattle.std.proofs.lemmas.Option.{slice_get_past, slice_get_read}
use Rattle.std.specs.Prelude.{option_copied, slice_get}
use Rattle.std.specs.Slice.{IsItemAt}
use denote.Ref.{Bor}

-- what is read at a number is the element of that number
pub numbered : {X : Type 0} (xs : List X) (i : ℕ) (r : Option (Bor X)) → IsItemAt xs i r → option_copied r ≡ slice_get xs i
numbered xs i None h = sym (slice_get_past xs i h.3)
numbered xs i (Some x) h = sym (slice_get_read xs _ i x.now refl h.3.0 h.1)
