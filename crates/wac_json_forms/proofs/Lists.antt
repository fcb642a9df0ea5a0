-- Forms of lists and of optional parts, by the values that the trees are of.
use Rattle.std.proofs.Common.{◌≡◌, List, [], ◌∷◌, map, refl, ap, Option, Some, None}
use Rattle.std.specs.Option.{option_map}
use Rattle.serde_json.specs.Data.{Data, array, item}
use Rattle.wac_ast_grammar.specs.Tree as tree
use Rattle.wac_ast_grammar.specs.Tree.{arguments_from, types_from}
use Rattle.wac_json_forms.specs.Forms.{argument_json, arguments_json, items_of, list_json, optional, ty_json, types_json}

pub items_of-map : {X Y : Type 0} (form : Y → Data) (g : X → Y) (xs : List X) → items_of form (map g xs) ≡ items_of (λ x. form (g x)) xs
items_of-map form g [] = refl
items_of-map form g (x ∷ xs) = ap (item (form (g x))) (items_of-map form g xs)

pub list_of-map : {X Y : Type 0} (form : Y → Data) (g : X → Y) (xs : List X) → list_json form (map g xs) ≡ list_json (λ x. form (g x)) xs
unfolding list_json
list_of-map form g xs = ap array (items_of-map form g xs)

pub optional-map : {X Y : Type 0} (form : Y → Data) (g : X → Y) (o : Option X) → optional form (option_map g o) ≡ optional (λ x. form (g x)) o
unfolding optional
optional-map form g None = refl
optional-map form g (Some x) = refl

-- a tuple's types, and the arguments of an instantiation, whose trees have lists of their own
pub types_items : {X : Type 0} (g : X → tree.Ty) (xs : List X) → items_of (λ x. ty_json (g x)) xs ≡ types_json (types_from (map g xs))
unfolding types_json
types_items g [] = refl
types_items g (x ∷ xs) = ap (item (ty_json (g x))) (types_items g xs)

pub arguments_items : {X : Type 0} (g : X → tree.InstantiationArgument) (xs : List X) → items_of (λ x. argument_json (g x)) xs ≡ arguments_json (arguments_from (map g xs))
unfolding arguments_json
arguments_items g [] = refl
arguments_items g (x ∷ xs) = ap (item (argument_json (g x))) (arguments_items g xs)
