-- The words of other crates that proofs of this crate cite, given on from one place. It declares nothing.
pub use Rattle.std.proofs.Common.{Bool, List, [], ap, cond, false, inl, inr, refl, true, ◌∙◌, ◌∷◌, ◌≡◌, ◌⊎◌}
pub use Rattle.wac_ast_base.proofs.Lookaheads.{Looks, looks, looks_on, peeks_met, peeks_on, tests}
pub use Rattle.wac_ast_base.specs.Lookahead.{Looked, Peeks}
pub use Rattle.wac_ast_grammar.specs.Grammar.{TreeOf, build, extern_name, extern_type, identifier, import_statement, import_type, inline_interface, interface_decl, interface_export, interface_item, named_world_item, world_decl, world_export, world_import, world_item, world_item_path}
pub use Rattle.wac_ast_grammar.specs.Reading.{at_one_of, begins, mapped, read}
pub use Rattle.wac_ast_grammar.specs.Tree.{Ident, NamedWorldItem, WorldItemPath}
pub use Rattle.wac_lexer.specs.Item.{Doc, Item, after_first_item}
pub use Rattle.wac_lexer.specs.Reading.{Reading, left}
