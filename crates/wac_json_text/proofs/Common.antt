-- The words of other crates that proofs of this crate cite, given on from one place. It declares nothing.
pub use Rattle.json.specs.Print.{escape, quoted}
pub use Rattle.semver.specs.Identifiers.{marked, parts_of, parts_text}
pub use Rattle.serde_json.specs.Data.{Data, Items, Members, array, boolean, item, member, no_items, no_members, null, number, object, string}
pub use Rattle.serde_json.specs.Written.{comma_if, compact_text, items_text, members_text, number_text}
pub use Rattle.std.proofs.Common.{Bool, Err, List, None, Ok, OnErr, OnOk, Option, Result, Some, [], ap, append-nil, append_assoc, arith, codes, cond, decimal, drop, false, get_or, inl, inr, length, map, one-add, refl, rules, subst, suc, sym, take, true, zero, ℕ, ⊎_elim, ◌*◌, ◌++◌, ◌+◌, ◌-◌, ◌<◌, ◌∙◌, ◌∷◌, ◌≡◌, ◌≤◌}
pub use Rattle.std.proofs.lemmas.Str.{IsAscii-drop, IsCharBoundary-after_ascii, IsCharBoundary-before_ascii, IsCharBoundary-end, IsCharBoundary-from_ascii, IsCharBoundary-from_rest, IsCharBoundary-start}
pub use Rattle.std.specs.List.{AllByRecursion, flat_map, prefix_len, slice_get}
pub use Rattle.std.specs.Option.{option_map}
pub use Rattle.std.specs.Prelude.{nat_eq, nat_le, nat_lt, not, ◌&&◌, ◌||◌, ◌⊎◌}
pub use Rattle.std.specs.Str.{IsAscii, IsCharBoundary, IsUtf8, bytes_eq}
pub use Rattle.wac_ast.specs.Statements.{document_of, statement_of, type_statement_of}
pub use Rattle.wac_ast_base.specs.Names.{doc_comment_of, extern_name_of, ident_of, package_name_of, package_path_of, string_of}
pub use Rattle.wac_ast_statements.specs.Expressions.{access_expr_of, argument_name_of, argument_of, expr_of, named_access_expr_of, new_expr_of, postfix_expr_of, primary_expr_of}
pub use Rattle.wac_ast_statements.specs.declared.expr.InstantiationArgument.{InstantiationArgument, size-InstantiationArgument}
pub use Rattle.wac_ast_statements.specs.declared.expr.PrimaryExpr.{PrimaryExpr, size-PrimaryExpr}
pub use Rattle.wac_ast_statements.specs.Statements.{export_options_of, export_statement_of, let_statement_of}
pub use Rattle.wac_ast_types.specs.Declarations.{constructor_of, enum_case_of, enum_decl_of, field_of, flag_of, flags_decl_of, func_type_of, func_type_ref_of, item_type_decl_of, method_of, named_type_of, record_decl_of, resource_decl_of, resource_method_of, result_list_of, type_alias_kind_of, type_alias_of, type_decl_of, variant_case_of, variant_decl_of}
pub use Rattle.wac_ast_types.specs.Types.{optional_of, ty_of}
pub use Rattle.wac_ast_uses.specs.Uses.{use_item_of, use_of, use_path_of, world_include_item_of, world_include_of, world_ref_of}
pub use Rattle.wac_ast_worlds.specs.Worlds.{extern_type_of, import_statement_of, import_type_of, inline_interface_of, interface_decl_of, interface_export_of, interface_item_of, named_world_item_of, world_decl_of, world_export_of, world_import_of, world_item_of, world_item_path_of}
pub use Rattle.wac_json_forms.proofs.Lists.{arguments_items, items_of-map, list_of-map, optional-map, types_items}
pub use Rattle.wac_json_forms.specs.Forms.{items_of, optional, pair, target_member, variant, version_json}
pub use Rattle.wac_printer.proofs.Trees.{most_rest}
pub use Rattle.wac_printer_layout.specs.Printed.{Piece, blank, fresh_after, text, text_of}
pub use Rattle.wac_printer_pieces.proofs.Indentation.{prints_same}
pub use Rattle.wac_printer_pieces.proofs.Printing.{after-append, after-blank, fresh_after-append, goes, seq, stops, text-append, wrote_all}
pub use Rattle.wac_printer_pieces.proofs.Progress.{IsSoFar, ends, first_goes, first_stops, goes_at, none_is, starts, stops_at}
pub use Rattle.wac_printer_pieces.proofs.Sequence.{first, last, printed_as, printed_at}
pub use Rattle.wac_printer_pieces.specs.Printed.{Printer, Prints, has_failed, is_front}
pub use Rattle.wac_printer_pieces.specs.declared.error.PrintError.{PrintError}
