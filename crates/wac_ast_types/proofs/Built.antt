-- The trees of productions with a part of two forms.
use Rattle.wac_ast_types.proofs.Common.{◌≡◌, List, refl, inl, inr, ◌⊎◌, Item, Doc, TreeOf, Parts, build, is_there, identifier, resource_decl, method, variant_case, func_type}
use Rattle.wac_ast_types.specs.Tails.{resource_tail, tail_methods, case_tail, held_type}

pub resource_built : (ds : List Doc) (word : Item) (id : TreeOf identifier) (p : Parts resource_tail) → build resource_decl (ds, (word, (id, p))) ≡ record { docs = ds; id = id; methods = tail_methods p }
resource_built ds word id (inl p) = refl
resource_built ds word id (inr p) = refl

pub method_built : (ds : List Doc) (id : TreeOf identifier) (colon : Item) (p : Item ⊎ Unit {0}) (func : TreeOf func_type) (close : Item) → build method (ds, (id, (colon, (p, (func, close))))) ≡ record { docs = ds; id = id; is_static = is_there p; ty = func }
method_built ds id colon (inl p) func close = refl
method_built ds id colon (inr p) func close = refl

pub case_built : (ds : List Doc) (id : TreeOf identifier) (p : Parts case_tail) → build variant_case (ds, (id, p)) ≡ record { docs = ds; id = id; ty = held_type p }
case_built ds id (inl p) = refl
case_built ds id (inr p) = refl
