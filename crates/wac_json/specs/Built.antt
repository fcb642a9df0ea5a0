-- What objects that are being built hold.
use Rattle.std.specs.Prelude.{◌≡◌, ℕ, List, [], ◌∷◌, String, codes, refl}
use Rattle.std.specs.declared.alloc.Global.{Global}
use Rattle.serde_json.specs.Data.{Data, Members, put}
use Rattle.serde_json.specs.View.{members_view}
use Rattle.serde_json.specs.declared.value.Value.{Value}
use Rattle.wac_json_forms.specs.Forms.{members, result_json, variant}

-- this was put at the key, and nothing else was changed
abbrev pub Puts : List ℕ → Data → List (String Global × Value) → List (String Global × Value) → Type 0
Puts key x old new = members_view new ≡ put key x (members_view old)

-- a result, by the forms of its parts, and the members of it that are put first
abbrev pub result_variant : Data → Data → Data → Data
result_variant ok err s = variant (codes "result") (result_json ok err s)

abbrev pub placed : Data → Data → Members
placed ok s = members ((codes "ok", ok) ∷ (codes "span", s) ∷ [])

-- ---- examples

keys_are_sorted : (a b : Data) → put (codes "id") b (put (codes "ty") a (members [])) ≡ members ((codes "id", b) ∷ (codes "ty", a) ∷ [])
keys_are_sorted a b = refl

later_wins : (a b : Data) → put (codes "id") b (put (codes "id") a (members [])) ≡ members ((codes "id", b) ∷ [])
later_wins a b = refl
