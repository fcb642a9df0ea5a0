-- JSON values without floats: their compact text is decided by `serde_json`'s `compact_text`.
use Rattle.std.specs.Prelude.{◌≡◌, true, false, Float, codes, refl}
use Rattle.serde_json.specs.Data.{unsigned, float, null, boolean, number, string, array, object, Items, no_items, item, Members, no_members, member}
use Rattle.serde_json.specs.View.{view}
use Rattle.serde_json.specs.Written.{has_float, items_have_float, members_have_float}
use Rattle.serde_json.specs.declared.value.Value.{Value}

-- no number in the value, however deep, is a float
abbrev pub IsFloatless : Value → Type 0
IsFloatless value = has_float (view value) ≡ false

-- no item of an array has a float
abbrev pub HasFloatlessItems : Items → Type 0
HasFloatlessItems items = items_have_float items ≡ false

-- no member of an object has a float
abbrev pub HasFloatlessMembers : Members → Type 0
HasFloatlessMembers members = members_have_float members ≡ false

-- ---- examples

-- {"length":3,"offset":8}
span_of_three : has_float (object (member (codes "length") (number (unsigned 3)) (member (codes "offset") (number (unsigned 8)) no_members))) ≡ false
span_of_three = refl

-- [null,"x",true]
list_of_three : has_float (array (item null (item (string (codes "x")) (item (boolean true) no_items)))) ≡ false
list_of_three = refl

-- a float alone, and a float inside a list inside an object
float_alone : (x : Float) → has_float (number (float x)) ≡ true
float_alone x = refl

float_inside : (x : Float) → has_float (object (member (codes "a") (array (item (number (float x)) no_items)) no_members)) ≡ true
float_inside x = refl
