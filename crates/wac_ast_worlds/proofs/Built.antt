-- The trees of productions with a part that may be left out.
use Rattle.wac_ast_worlds.proofs.Common.{◌≡◌, List, refl, inl, inr, ◌⊎◌, Item, Doc, TreeOf, build, import_statement, identifier, extern_name, import_type}
use Rattle.wac_ast_base.specs.Pieces.{after_word}

-- the tree of an import, by the name that is read
pub import_built : (ds : List Doc) (word : Item) (id : TreeOf identifier) (p : (Item × TreeOf extern_name) ⊎ Unit {0}) (colon : Item) (ty : TreeOf import_type) (close : Item) → build import_statement (ds, (word, (id, (p, (colon, (ty, close)))))) ≡ record { docs = ds; id = id; name = after_word p; ty = ty }
import_built ds word id (inl p) colon ty close = refl
import_built ds word id (inr u) colon ty close = refl
