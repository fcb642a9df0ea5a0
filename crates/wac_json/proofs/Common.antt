-- The words of other crates that proofs of this crate cite, given on from one place. It declares nothing.
pub use Rattle.serde_json.specs.Data.{Data, Members, array, item, member, no_members, put}
pub use Rattle.serde_json.specs.View.{items_view, view}
pub use Rattle.serde_json.specs.declared.value.Value.{Value}
pub use Rattle.std.proofs.Common.{Equal, Err, Greater, IfOk, Less, List, Ok, Ordering, Result, [], ap, codes, false, length, map, refl, rules, sym, ℕ, ◌++◌, ◌∙◌, ◌∷◌, ◌≡◌, ◌≤◌}
pub use Rattle.std.proofs.lemmas.List.{take_all}
pub use Rattle.std.specs.Prelude.{take}
pub use Rattle.wac_ast_statements.specs.Expressions.{argument_of, primary_expr_of}
pub use Rattle.wac_ast_types.specs.Types.{ty_of}
pub use Rattle.wac_json_forms.proofs.Lists.{arguments_items, list_of-map, optional-map, types_items}
pub use Rattle.wac_json_forms.specs.Forms.{pair, span_json, variant}
