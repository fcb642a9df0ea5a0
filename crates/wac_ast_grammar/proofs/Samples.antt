-- A list of tokens for each symbol, which is read by computation, each with a text of its shape.
use Rattle.std.proofs.Common.{◌≡◌, true, List, [], ◌∷◌, map, Ok, refl, sym as back, subst, ◌∙◌}
use Rattle.wac_ast_grammar.proofs.Common.{span, append-nil, Token, Item}
use Rattle.wac_ast_grammar.specs.Tokens.{valid}
use Rattle.wac_ast_grammar.specs.TokenTexts.{text_of}
use Rattle.wac_lexer.specs.declared.token.Token.TheVariants as t
use Rattle.wac_ast_grammar.specs.Grammar.{Sym, document, directive, statements, statement, import_statement, extern_name, import_type, let_statement, export_statement, export_options, expr, primary_expr, new_expr, arguments, argument, named_argument, argument_name, nested_expr, postfixes, postfix_expr, access_expr, named_access_expr, type_statement, type_decl, item_type_decl, resource_decl, methods, resource_method, constructor, method, variant_decl, variant_case, record_decl, field, flags_decl, flag, enum_decl, enum_case, type_alias, type_alias_kind, func_type_ref, func_type, result_list, named_type, ty, tuple_type, list_type, option_type, result_type, borrow_type, stream_type, future_type, result_part, payload, interface_decl, inline_interface, interface_items, interface_item, interface_export, use_statement, use_path, use_item, world_decl, world_items, world_item, world_import, world_export, world_item_path, named_world_item, extern_type, world_include, world_ref, include_item, identifier, string, package_name, package_path, TreeOf, Derives, list_items, more_items, close_of}
use Rattle.wac_ast_grammar.specs.Reading.{read}
use Rattle.wac_ast_grammar.specs.Possible.{IsOf}
use Rattle.wac_ast_grammar.proofs.Sound.{sound}
use Rattle.wac_ast_grammar.proofs.Completed.{Sample, self_token}

abbrev pub item : Token → Item
item k = record { token = Ok k; text = text_of k; span = span 0 0; docs = [] }

item_valid : (k : Token) → valid k (text_of k) ≡ true
item_valid t.Comment = refl
item_valid _ = refl

pub some_item : (k : Token) → (x : Item) × IsOf k x
some_item k = (item k, (self_token k, item_valid k))

sample_of : (s : Sym) (ks : List Token) (u : TreeOf s) → read s (map item ks) ≡ Ok (u, []) → Sample (Derives s)
sample_of s ks u h =
    let d = sound s (map item ks) u [] h in
    (map item ks, u, subst (λ (ys : List Item). Derives s ys u) (back (d.1 ∙ append-nil d.0)) d.2)

pub sample : (s : Sym) → Sample (Derives s)
unfolding read
sample document = sample_of document (t.PackageKeyword ∷ t.PackageName ∷ t.Semicolon ∷ []) _ refl
sample directive = sample_of directive (t.PackageKeyword ∷ t.PackageName ∷ t.Semicolon ∷ []) _ refl
sample statements = sample_of statements ([]) _ refl
sample statement = sample_of statement (t.ExportKeyword ∷ t.Ident ∷ t.Semicolon ∷ []) _ refl
sample import_statement = sample_of import_statement (t.ImportKeyword ∷ t.Ident ∷ t.Colon ∷ t.PackagePath ∷ t.Semicolon ∷ []) _ refl
sample extern_name = sample_of extern_name (t.Ident ∷ []) _ refl
sample import_type = sample_of import_type (t.PackagePath ∷ []) _ refl
sample let_statement = sample_of let_statement (t.LetKeyword ∷ t.Ident ∷ t.Equals ∷ t.Ident ∷ t.Semicolon ∷ []) _ refl
sample export_statement = sample_of export_statement (t.ExportKeyword ∷ t.Ident ∷ t.Semicolon ∷ []) _ refl
sample export_options = sample_of export_options ([]) _ refl
sample expr = sample_of expr (t.Ident ∷ []) _ refl
sample primary_expr = sample_of primary_expr (t.Ident ∷ []) _ refl
sample new_expr = sample_of new_expr (t.NewKeyword ∷ t.PackageName ∷ t.OpenBrace ∷ t.CloseBrace ∷ []) _ refl
sample argument = sample_of argument (t.Ident ∷ []) _ refl
sample named_argument = sample_of named_argument (t.Ident ∷ t.Colon ∷ t.Ident ∷ []) _ refl
sample argument_name = sample_of argument_name (t.Ident ∷ []) _ refl
sample nested_expr = sample_of nested_expr (t.OpenParen ∷ t.Ident ∷ t.CloseParen ∷ []) _ refl
sample postfixes = sample_of postfixes ([]) _ refl
sample postfix_expr = sample_of postfix_expr (t.Dot ∷ t.Ident ∷ []) _ refl
sample access_expr = sample_of access_expr (t.Dot ∷ t.Ident ∷ []) _ refl
sample named_access_expr = sample_of named_access_expr (t.OpenBracket ∷ t.String ∷ t.CloseBracket ∷ []) _ refl
sample type_statement = sample_of type_statement (t.InterfaceKeyword ∷ t.Ident ∷ t.OpenBrace ∷ t.CloseBrace ∷ []) _ refl
sample type_decl = sample_of type_decl (t.VariantKeyword ∷ t.Ident ∷ t.OpenBrace ∷ t.Ident ∷ t.CloseBrace ∷ []) _ refl
sample item_type_decl = sample_of item_type_decl (t.ResourceKeyword ∷ t.Ident ∷ t.Semicolon ∷ []) _ refl
sample resource_decl = sample_of resource_decl (t.ResourceKeyword ∷ t.Ident ∷ t.Semicolon ∷ []) _ refl
sample methods = sample_of methods (t.CloseBrace ∷ []) _ refl
sample resource_method = sample_of resource_method (t.ConstructorKeyword ∷ t.OpenParen ∷ t.CloseParen ∷ t.Semicolon ∷ []) _ refl
sample constructor = sample_of constructor (t.ConstructorKeyword ∷ t.OpenParen ∷ t.CloseParen ∷ t.Semicolon ∷ []) _ refl
sample method = sample_of method (t.Ident ∷ t.Colon ∷ t.FuncKeyword ∷ t.OpenParen ∷ t.CloseParen ∷ t.Semicolon ∷ []) _ refl
sample variant_decl = sample_of variant_decl (t.VariantKeyword ∷ t.Ident ∷ t.OpenBrace ∷ t.Ident ∷ t.CloseBrace ∷ []) _ refl
sample variant_case = sample_of variant_case (t.Ident ∷ []) _ refl
sample record_decl = sample_of record_decl (t.RecordKeyword ∷ t.Ident ∷ t.OpenBrace ∷ t.Ident ∷ t.Colon ∷ t.U8Keyword ∷ t.CloseBrace ∷ []) _ refl
sample field = sample_of field (t.Ident ∷ t.Colon ∷ t.U8Keyword ∷ []) _ refl
sample flags_decl = sample_of flags_decl (t.FlagsKeyword ∷ t.Ident ∷ t.OpenBrace ∷ t.Ident ∷ t.CloseBrace ∷ []) _ refl
sample flag = sample_of flag (t.Ident ∷ []) _ refl
sample enum_decl = sample_of enum_decl (t.EnumKeyword ∷ t.Ident ∷ t.OpenBrace ∷ t.Ident ∷ t.CloseBrace ∷ []) _ refl
sample enum_case = sample_of enum_case (t.Ident ∷ []) _ refl
sample type_alias = sample_of type_alias (t.TypeKeyword ∷ t.Ident ∷ t.Equals ∷ t.U8Keyword ∷ t.Semicolon ∷ []) _ refl
sample type_alias_kind = sample_of type_alias_kind (t.U8Keyword ∷ []) _ refl
sample func_type_ref = sample_of func_type_ref (t.Ident ∷ []) _ refl
sample func_type = sample_of func_type (t.FuncKeyword ∷ t.OpenParen ∷ t.CloseParen ∷ []) _ refl
sample result_list = sample_of result_list ([]) _ refl
sample named_type = sample_of named_type (t.Ident ∷ t.Colon ∷ t.U8Keyword ∷ []) _ refl
sample ty = sample_of ty (t.U8Keyword ∷ []) _ refl
sample tuple_type = sample_of tuple_type (t.TupleKeyword ∷ t.OpenAngle ∷ t.U8Keyword ∷ t.CloseAngle ∷ []) _ refl
sample list_type = sample_of list_type (t.ListKeyword ∷ t.OpenAngle ∷ t.U8Keyword ∷ t.CloseAngle ∷ []) _ refl
sample option_type = sample_of option_type (t.OptionKeyword ∷ t.OpenAngle ∷ t.U8Keyword ∷ t.CloseAngle ∷ []) _ refl
sample result_type = sample_of result_type (t.ResultKeyword ∷ []) _ refl
sample borrow_type = sample_of borrow_type (t.BorrowKeyword ∷ t.OpenAngle ∷ t.Ident ∷ t.CloseAngle ∷ []) _ refl
sample stream_type = sample_of stream_type (t.StreamKeyword ∷ []) _ refl
sample future_type = sample_of future_type (t.FutureKeyword ∷ []) _ refl
sample result_part = sample_of result_part (t.Underscore ∷ []) _ refl
sample payload = sample_of payload ([]) _ refl
sample interface_decl = sample_of interface_decl (t.InterfaceKeyword ∷ t.Ident ∷ t.OpenBrace ∷ t.CloseBrace ∷ []) _ refl
sample inline_interface = sample_of inline_interface (t.InterfaceKeyword ∷ t.OpenBrace ∷ t.CloseBrace ∷ []) _ refl
sample interface_items = sample_of interface_items (t.CloseBrace ∷ []) _ refl
sample interface_item = sample_of interface_item (t.ResourceKeyword ∷ t.Ident ∷ t.Semicolon ∷ []) _ refl
sample interface_export = sample_of interface_export (t.Ident ∷ t.Colon ∷ t.Ident ∷ t.Semicolon ∷ []) _ refl
sample use_statement = sample_of use_statement (t.UseKeyword ∷ t.PackagePath ∷ t.Dot ∷ t.OpenBrace ∷ t.CloseBrace ∷ t.Semicolon ∷ []) _ refl
sample use_path = sample_of use_path (t.PackagePath ∷ []) _ refl
sample use_item = sample_of use_item (t.Ident ∷ []) _ refl
sample world_decl = sample_of world_decl (t.WorldKeyword ∷ t.Ident ∷ t.OpenBrace ∷ t.CloseBrace ∷ []) _ refl
sample world_items = sample_of world_items (t.CloseBrace ∷ []) _ refl
sample world_item = sample_of world_item (t.ResourceKeyword ∷ t.Ident ∷ t.Semicolon ∷ []) _ refl
sample world_import = sample_of world_import (t.ImportKeyword ∷ t.PackagePath ∷ t.Semicolon ∷ []) _ refl
sample world_export = sample_of world_export (t.ExportKeyword ∷ t.PackagePath ∷ t.Semicolon ∷ []) _ refl
sample world_item_path = sample_of world_item_path (t.PackagePath ∷ []) _ refl
sample named_world_item = sample_of named_world_item (t.Ident ∷ t.Colon ∷ t.Ident ∷ []) _ refl
sample extern_type = sample_of extern_type (t.Ident ∷ []) _ refl
sample world_include = sample_of world_include (t.IncludeKeyword ∷ t.PackagePath ∷ t.Semicolon ∷ []) _ refl
sample world_ref = sample_of world_ref (t.PackagePath ∷ []) _ refl
sample include_item = sample_of include_item (t.Ident ∷ t.AsKeyword ∷ t.Ident ∷ []) _ refl
sample identifier = sample_of identifier (t.Ident ∷ []) _ refl
sample string = sample_of string (t.String ∷ []) _ refl
sample package_name = sample_of package_name (t.PackageName ∷ []) _ refl
sample package_path = sample_of package_path (t.PackagePath ∷ []) _ refl
sample (list_items arguments) = sample_of (list_items arguments) (close_of arguments ∷ []) _ refl
sample (list_items l) = sample_of (list_items l) (close_of l ∷ []) _ refl
sample (more_items arguments) = sample_of (more_items arguments) (close_of arguments ∷ []) _ refl
sample (more_items l) = sample_of (more_items l) (close_of l ∷ []) _ refl
