-- The words of other crates that proofs of this crate cite, given on from one place. It declares nothing.
pub use Rattle.std.proofs.Common.{Bool, Err, Global, List, None, Ok, Option, Result, Some, [], ap, append_assoc, arith, codes, false, get_or, length, map, refl, rules, subst, suc, sym, true, zero, ℕ, ◌++◌, ◌<◌, ◌∙◌, ◌∷◌, ◌≡◌, ◌≤◌}
pub use Rattle.std.specs.List.{All, AllByRecursion, flat_map}
pub use Rattle.std.specs.Option.{option_map}
pub use Rattle.std.specs.Prelude.{Vec, ◌*◌, ◌+◌}
pub use Rattle.wac_ast.specs.Statements.{document_of, statement_of, type_statement_of}
pub use Rattle.wac_ast_base.specs.Names.{doc_comment_of, extern_name_of, ident_of, package_path_of}
pub use Rattle.wac_ast_base.specs.declared.names.DocComment.{DocComment}
pub use Rattle.wac_ast_grammar.specs.Tree.{Arguments, Document, arguments_from, types_from}
pub use Rattle.wac_ast_statements.proofs.ExprViews.{nested_out, new_is}
pub use Rattle.wac_ast_statements.specs.Expressions.{argument_name_of, argument_of, expr_of, postfix_expr_of, primary_expr_of}
pub use Rattle.wac_ast_statements.specs.Statements.{directive_of, export_options_of}
pub use Rattle.wac_ast_statements.specs.declared.expr.InstantiationArgument.{Fill, InstantiationArgument, Named, size-InstantiationArgument}
pub use Rattle.wac_ast_statements.specs.declared.expr.NestedExpr.{NestedExpr, out-NestedExpr}
pub use Rattle.wac_ast_statements.specs.declared.expr.PrimaryExpr.{Nested, PrimaryExpr, size-PrimaryExpr}
pub use Rattle.wac_ast_types.specs.Declarations.{enum_case_of, field_of, flag_of, func_type_of, func_type_ref_of, item_type_decl_of, named_type_of, resource_method_of, result_list_of, type_alias_kind_of, type_decl_of, variant_case_of}
pub use Rattle.wac_ast_types.specs.Types.{ty_of, types_of_row}
pub use Rattle.wac_ast_uses.specs.Uses.{use_item_of, use_of, use_path_of, world_include_item_of, world_ref_of}
pub use Rattle.wac_ast_worlds.specs.Worlds.{extern_type_of, import_type_of, interface_item_of, world_item_of, world_item_path_of}
pub use Rattle.wac_lexer.specs.Reading.{Slices, slice}
pub use Rattle.wac_lexer.specs.Span.{Span}
pub use Rattle.wac_printer_layout.specs.Bare.{bare_document, bare_ident, bare_package_path, doc_line}
pub use Rattle.wac_printer_layout.specs.DeclarationLayout.{enum_case_layout, field_layout, flag_layout, head_layout, label_layout, payload_layout, variant_case_layout}
pub use Rattle.wac_printer_layout.specs.ExpressionLayout.{argument_name_layout, braced_layout, comma_layout, postfix_expr_layout}
pub use Rattle.wac_printer_layout.specs.InterfaceLayout.{as_layout, use_item_layout, use_items_layout, use_layout, use_path_layout}
pub use Rattle.wac_printer_layout.specs.Parts.{between, close_body, doc_layout, newline, open_body, space}
pub use Rattle.wac_printer_layout.specs.Printed.{Piece, deeper, line, text, token}
pub use Rattle.wac_printer_layout.specs.StatementLayout.{directive_layout, document_layout, export_options_layout, import_name_layout, targets_layout}
pub use Rattle.wac_printer_layout.specs.TypeLayout.{extern_name_layout, func_type_layout, further_types_layout, named_type_layout, params_layout, results_layout, ty_layout, types_layout}
pub use Rattle.wac_printer_layout.specs.WorldLayout.{with_layout, world_include_item_layout, world_ref_layout}
pub use Rattle.wac_printer_pieces.proofs.Printing.{flat_map-append, flat_map-of, seq}
pub use Rattle.wac_printer_pieces.proofs.Progress.{All-at, All-of-map, IsSoFar, deeper_part, ends, first_goes, first_stops, goes_at, none_is, others_sliced, part_at, starts, stops_at}
pub use Rattle.wac_printer_pieces.proofs.Sequence.{fail, fails, first, last, parts, piece, printed_as, printed_at, there}
pub use Rattle.wac_printer_pieces.specs.Arguments.{ending_layout}
pub use Rattle.wac_printer_pieces.specs.Printed.{Printer, Prints}
pub use Rattle.wac_printer_pieces.specs.declared.error.PrintError.{PrintError}
