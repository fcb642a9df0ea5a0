-- Forms of lists and of optional parts.
use Rattle.wac_json.proofs.Common.{◌≡◌, ◌∙◌, List, [], ◌∷◌, map, refl, ap, Result, Ok, Err, IfOk, Data, array, item, Value, list_of-map, optional-map}
use Rattle.serde_json.specs.View as view
use Rattle.wac_json_forms.specs.Forms.{items_of, list_json}

-- the items of a list's form, as the data of each
pub items_are : {X : Type 0} (form : X → Data) (xs : List X) → view.items_of (map form xs) ≡ items_of form xs
items_are form [] = refl
items_are form (x ∷ xs) = ap (item (form x)) (items_are form xs)

pub list_of_items : {X : Type 0} (form : X → Data) (xs : List X) → array (view.items_of (map form xs)) ≡ list_json form xs
unfolding list_json
list_of_items form xs = ap array (items_are form xs)

pub ruleset forms = (list_of-map, optional-map)

-- a value that has one form, where that form is another
pub formed_as : {E : Type 0} (r : Result Value E) (d e : Data) → d ≡ e → IfOk r (λ v. view.view v ≡ d) → IfOk r (λ v. view.view v ≡ e)
formed_as (Ok v) d e p h = h ∙ p
formed_as (Err x) d e p h = h
