-- One more item or member without floats.
use Rattle.wac_json.proofs.Common.{◌≡◌, List, ℕ, [], ◌∷◌, ◌++◌, Ordering, Less, Equal, Greater, false, refl, Data, Members, no_members, member, put, view, items_view, Value}
use Rattle.std.specs.Ordering.{match_ordering}
use Rattle.std.proofs.lemmas.Bool.{or_parts}
use Rattle.serde_json.specs.Written.{has_float, items_have_float, members_have_float}

chosen : (o : Ordering) (a b c : Members) → members_have_float a ≡ false → members_have_float b ≡ false → members_have_float c ≡ false
    → members_have_float (match_ordering o a b c) ≡ false
chosen Less a b c p q r = p
chosen Equal a b c p q r = q
chosen Greater a b c p q r = r

pub put_floatless : (k : List ℕ) (d : Data) (ms : Members) → has_float d ≡ false → members_have_float ms ≡ false → members_have_float (put k d ms) ≡ false
put_floatless k d no_members p q = rw p refl
put_floatless k d (member l e ms) p q =
    let parts = or_parts (has_float e) (members_have_float ms) q in
    let rest : members_have_float (put k d ms) ≡ false = put_floatless k d ms p parts.1 in
    chosen _ (member k d (member l e ms)) (member l d ms) (member l e (put k d ms)) (rw (p, q) refl) (rw (p, parts.1) refl) (rw (parts.0, rest) refl)

pub push_floatless : (vs : List Value) (v : Value) → items_have_float (items_view vs) ≡ false → has_float (view v) ≡ false → items_have_float (items_view (vs ++ v ∷ [])) ≡ false
push_floatless [] v p q = rw q refl
push_floatless (x ∷ vs) v p q =
    let parts = or_parts (has_float (view x)) (items_have_float (items_view vs)) p in
    rw (parts.0, push_floatless vs v parts.1 q) refl
