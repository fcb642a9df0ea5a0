-- The trees of uses and inclusions.
use Rattle.std.specs.Prelude.{map}
use Rattle.std.specs.Option.{option_map}
use Rattle.wac_ast_grammar.specs.Tree as tree
use Rattle.wac_ast_grammar.specs.Tree.{UsePath, WorldRef}
use Rattle.wac_ast_uses.specs.declared.uses.UseItem.{UseItem as CodeUseItem}
use Rattle.wac_ast_uses.specs.declared.uses.UsePath.{UsePath as CodeUsePath}
use Rattle.wac_ast_uses.specs.declared.uses.UsePath.TheVariants as uses
use Rattle.wac_ast_uses.specs.declared.uses.Use.{Use as CodeUse}
use Rattle.wac_ast_uses.specs.declared.includes.WorldRef.{WorldRef as CodeWorldRef}
use Rattle.wac_ast_uses.specs.declared.includes.WorldRef.TheVariants as worlds
use Rattle.wac_ast_uses.specs.declared.includes.WorldIncludeItem.{WorldIncludeItem as CodeWorldIncludeItem}
use Rattle.wac_ast_uses.specs.declared.includes.WorldInclude.{WorldInclude}
use Rattle.wac_ast_base.specs.Names.{doc_comment_of, ident_of, package_path_of}

abbrev pub use_item_of : CodeUseItem → tree.UseItem
use_item_of x = record { id = ident_of x.id; as_id = option_map ident_of x.as_id }

abbrev pub use_path_of : CodeUsePath → tree.UsePath
use_path_of (uses.Package x) = UsePath.path (package_path_of x)
use_path_of (uses.Ident x) = UsePath.ident (ident_of x)

abbrev pub use_of : CodeUse → tree.Use
use_of x = record { docs = map doc_comment_of x.docs.items; path = use_path_of x.path; items = map use_item_of x.items.items }

abbrev pub world_ref_of : CodeWorldRef → tree.WorldRef
world_ref_of (worlds.Package x) = WorldRef.path (package_path_of x)
world_ref_of (worlds.Ident x) = WorldRef.ident (ident_of x)

abbrev pub world_include_item_of : CodeWorldIncludeItem → tree.WorldIncludeItem
world_include_item_of x = record { from = ident_of x.from; to = ident_of x.to }

abbrev pub world_include_of : WorldInclude → tree.WorldInclude
world_include_of x = record { docs = map doc_comment_of x.docs.items; world = world_ref_of x.world; items = map world_include_item_of x.with.items }
