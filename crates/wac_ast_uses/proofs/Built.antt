-- The trees of productions with a part that may be left out.
use Rattle.std.proofs.Common.{◌≡◌, List, refl, inl, inr, ◌⊎◌}
use Rattle.wac_lexer.specs.Item.{Item, Doc}
use Rattle.wac_ast_grammar.specs.Grammar.{TreeOf, Parts, build, use_item, world_include, identifier, world_ref}
use Rattle.wac_ast_base.specs.Pieces.{after_word}
use Rattle.wac_ast_uses.specs.Tails.{with_part, with_items}

-- the tree of an item of a use, by the name that it is given
pub use_item_built : (id : TreeOf identifier) (p : (Item × TreeOf identifier) ⊎ Unit {0}) → build use_item (id, p) ≡ record { id = id; as_id = after_word p }
use_item_built id (inl p) = refl
use_item_built id (inr u) = refl

-- the tree of an inclusion, by its new names
pub include_built : (ds : List Doc) (word : Item) (world : TreeOf world_ref) (p : Parts with_part) (close : Item) → build world_include (ds, (word, (world, (p, close)))) ≡ record { docs = ds; world = world; items = with_items p }
include_built ds word world (inl p) close = refl
include_built ds word world (inr u) close = refl
