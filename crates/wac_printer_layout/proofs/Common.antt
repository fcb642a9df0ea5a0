-- The words of other crates that proofs of this crate cite, given on from one place. It declares nothing.
pub use Rattle.std.proofs.Common.{Bool, Err, List, None, Ok, Option, Result, Some, [], add-zero, ap, append-nil, append_assoc, arith, codes, cond, drop, false, get_or, inl, inr, length, length-append, map, refl, subst, suc, sym, take, true, zero, ℕ, ⊎_elim, ◌++◌, ◌+◌, ◌-◌, ◌/◌, ◌<◌, ◌↔◌, ◌∙◌, ◌∷◌, ◌≡◌, ◌≢◌, ◌≤◌}
pub use Rattle.std.proofs.Math.Seq.{drop-append_seam, get_or-append_seam, take-append_seam}
pub use Rattle.std.proofs.lemmas.Bool.{and_parts, cases_Bool, cond_both, eqb-false, eqb-true, false≢true, leb-true, ltb-true, ne_eqb, or_cases}
pub use Rattle.std.proofs.lemmas.List.{drop-drop, get_or-drop, length-drop, length-take-le, take-append-drop}
pub use Rattle.std.proofs.lemmas.Str.{IsCharBoundary-after_ascii, IsCharBoundary-before_ascii, IsCharBoundary-end, IsCharBoundary-start, IsUtf8-append, IsUtf8-drop, IsUtf8-from_ascii, IsUtf8-nil, IsUtf8-take, chars-IsAscii, chars-append, chars-encodes, chars-nil, encode_ascii, encodes-chars, scalars-chars}
pub use Rattle.std.proofs.lemmas.Str.Ascii.{IsAscii-cons, IsAscii-nil}
pub use Rattle.std.specs.Char.{is_whitespace, len_utf8}
pub use Rattle.std.specs.List.{AllByRecursion, concat, filter, flat_map, onto_first, slice_split}
pub use Rattle.std.specs.Option.{option_map}
pub use Rattle.std.specs.Prelude.{MatchOption, if◌then◌else◌, is_none, nat_eq, nat_le, nat_lt, not, slice_index, ◌&&◌, ◌==◌, ◌||◌, ◌⊎◌}
pub use Rattle.std.specs.Str.{IsAscii, IsCharBoundary, IsUtf8, bytes_eq, chars, drop_trailing_whitespace, encode_utf8_all, skip_leading_whitespace, trim}
pub use Rattle.std.specs.Str.Lines.{lines, lines_of_parts, strip_carriage_return}
pub use Rattle.wac_ast_grammar.proofs.Completed.{by_rule}
pub use Rattle.wac_ast_grammar.proofs.Walked.{Gives, agree, document_agreeing, document_any_spans, document_asked, document_composed, document_implied}
pub use Rattle.wac_ast_grammar.specs.Grammar.{Derives, DerivesIn, access_expr, argument, arguments, borrow_type, build, cases, constructor, directive, docs_of, document, enum_case, enum_cases, enum_decl, export_options, export_statement, expr, extern_name, extern_type, field, fields, flag, flags, flags_decl, future_type, import_statement, import_type, include_item, include_items, inline_interface, interface_decl, interface_export, interface_item, interface_items, item_type_decl, let_statement, list_items, list_type, method, methods, more_items, named_access_expr, named_type, nested_expr, new_expr, option_type, payload, postfix_expr, postfixes, primary_expr, record_decl, resource_decl, resource_method, result_part, result_type, rule, statement, statements, stream_type, tuple_type, ty, type_alias, type_alias_kind, type_decl, type_statement, types, use_item, use_items, use_path, use_statement, variant_case, variant_decl, world_decl, world_export, world_import, world_include, world_item, world_item_path, world_items, world_ref}
pub use Rattle.wac_ast_grammar.specs.Leaves.{Change, IfThere, Leaf, asked_after, changed, docs_leaf, leaves, of_leaves, of_option, unchanged}
pub use Rattle.wac_ast_grammar.specs.TextTree.{IsTreeOf}
pub use Rattle.wac_ast_grammar.specs.Tokens.{is_token, valid}
pub use Rattle.wac_ast_grammar.specs.Tree.{AccessExpr, Arguments, Constructor, Document, EnumCase, EnumDecl, ExportOptions, ExportStatement, Expr, ExternName, ExternType, Field, Flag, FlagsDecl, FuncType, FuncTypeRef, Ident, ImportStatement, ImportType, InlineInterface, InstantiationArgument, InstantiationArgumentName, InterfaceDecl, InterfaceExport, InterfaceItem, ItemTypeDecl, LetStatement, Method, NamedAccessExpr, NamedType, NamedWorldItem, OptionalTy, PackageDirective, PackageName, PackagePath, PostfixExpr, PrimaryExpr, RecordDecl, ResourceDecl, ResourceMethod, ResultList, Statement, String, Ty, TypeAlias, TypeAliasKind, TypeDecl, TypeStatement, Types, Use, UseItem, UsePath, VariantCase, VariantDecl, WorldDecl, WorldExport, WorldImport, WorldInclude, WorldIncludeItem, WorldItem, WorldItemPath, WorldRef, arguments_from, between_quotes, types_from, without_percent}
pub use Rattle.wac_ast_grammar.specs.Version.{path_name, path_segments, reads_version, unversioned, version_of}
pub use Rattle.wac_ast_grammar.specs.Walk.{Walk, walk_document}
pub use Rattle.wac_lexer.proofs.Following.{follows}
pub use Rattle.wac_lexer.proofs.Fronts.{blank_ascii}
pub use Rattle.wac_lexer.proofs.Gaps.{gap_done, gap_part}
pub use Rattle.wac_lexer.proofs.InFront.{bytes_back}
pub use Rattle.wac_lexer.proofs.Ordered.{ordered}
pub use Rattle.wac_lexer.proofs.Parts.{docs_in_gap, longest_gap, part_takes}
pub use Rattle.wac_lexer.proofs.Sorts.{AreBytes, token_found, token_meant}
pub use Rattle.wac_lexer.proofs.Standing.{stands_alone, walk_follows}
pub use Rattle.wac_lexer.proofs.Unfolded.{first_docs, items_end, items_none, items_some, start_of}
pub use Rattle.wac_lexer.specs.Characters.{IsFirstRefused, fault_of, refused_from}
pub use Rattle.wac_lexer.specs.Comments.{gap, is_blank, part_len}
pub use Rattle.wac_lexer.specs.Docs.{begins_with, doc_of_part, doc_text, ends_with}
pub use Rattle.wac_lexer.specs.Gap.{EndsLine, Gap, IsPart, docs_among}
pub use Rattle.wac_lexer.specs.Item.{Doc, Item, OnFirst}
pub use Rattle.wac_lexer.specs.Items.{first_item, items, items_from}
pub use Rattle.wac_lexer.specs.Order.{InOrder}
pub use Rattle.wac_lexer.specs.Reading.{Slices, slice}
pub use Rattle.wac_lexer.specs.Span.{Span, end_of, span}
pub use Rattle.wac_lexer.specs.Tokens.{InTable, IsToken, token_of}
pub use Rattle.wac_lexer.specs.declared.error.Error.{Error}
pub use Rattle.wac_lexer.specs.declared.token.Token.{Token}
