-- The leaves of a tree that derives from items: what is asked of them holds, where it does of what items make.
use Rattle.std.proofs.Common.{◌≡◌, ℕ, zero, suc, true, Some, None, List, [], ◌∷◌, ◌++◌, inl, inr, subst, sym as back}
use Rattle.wac_ast_grammar.proofs.Common.{AllByRecursion, Span, Item, Doc}
use Rattle.wac_lexer.specs.declared.token.Token.TheVariants as t
use Rattle.wac_ast_grammar.specs.Tokens.{is_token, valid}
use Rattle.wac_ast_grammar.specs.Grammar.{Sym, document, directive, statements, statement, import_statement, extern_name, import_type, let_statement, export_statement, export_options, expr, primary_expr, new_expr, arguments, argument, named_argument, argument_name, nested_expr, postfixes, postfix_expr, access_expr, named_access_expr, type_statement, type_decl, item_type_decl, resource_decl, methods, resource_method, constructor, method, variant_decl, cases, variant_case, record_decl, fields, field, flags_decl, flags, flag, enum_decl, enum_cases, enum_case, type_alias, type_alias_kind, func_type_ref, func_type, params, result_list, named_type, ty, tuple_type, list_type, option_type, result_type, borrow_type, stream_type, future_type, types, result_part, payload, interface_decl, inline_interface, interface_items, interface_item, interface_export, use_statement, use_path, use_items, use_item, world_decl, world_items, world_item, world_import, world_export, world_item_path, named_world_item, extern_type, world_include, world_ref, include_items, include_item, identifier, string, package_name, package_path, rule, build, docs_of, primary_span, postfix_span, last_span, TreeOf, Parts, Grammar, token, sym, then, either, nothing, to_end, docs, not_empty, more, or_told, DerivesIn, DerivesBy, Derives, CommaList, list_items, more_items}
use Rattle.wac_ast_grammar.specs.Tree as tree
use Rattle.wac_ast_grammar.specs.Tree.{Ident, Ty, PrimaryExpr, PostfixExpr, InstantiationArgument, Document, join, types_from, arguments_from}
use Rattle.wac_ast_grammar.specs.Walk.{walk_extern_name, walk_ty, walk_optional_ty, walk_types, walk_named_type, walk_result_list, walk_func_type, walk_func_type_ref, walk_constructor, walk_method, walk_resource_method, walk_resource_decl, walk_variant_case, walk_variant_decl, walk_field, walk_record_decl, walk_flag, walk_flags_decl, walk_enum_case, walk_enum_decl, walk_type_alias_kind, walk_type_alias, walk_type_decl, walk_item_type_decl, walk_use_path, walk_use_item, walk_use, walk_interface_export, walk_interface_item, walk_interface_decl, walk_inline_interface, walk_extern_type, walk_named_world_item, walk_world_item_path, walk_world_import, walk_world_export, walk_world_ref, walk_world_include_item, walk_world_include, walk_world_item, walk_world_decl, walk_access_expr, walk_named_access_expr, walk_postfix_expr, walk_instantiation_argument_name, walk_expr, walk_primary_expr, walk_arguments, walk_instantiation_argument, walk_named_instantiation_argument, walk_import_type, walk_import_statement, walk_let_statement, walk_export_options, walk_export_statement, walk_type_statement, walk_statement, walk_package_directive, walk_document}
use Rattle.wac_ast_grammar.specs.Leaves.{IfThere, Asked, holds, holds_with_spans}
use Rattle.wac_ast_grammar.proofs.Complete.{Family}
use Rattle.wac_ast_grammar.proofs.Walked.{document_spans_aside}

-- what is known of the items, and that it makes leaves as they are asked to be.
pub record Made (P : Asked) (D : List Doc → Type 0) : Type 1 where
  pub Known : Item → Type 0
  pub ident : (x : Item) → Known x → is_token t.Ident x.token ≡ true → P.ident (build identifier x)
  pub string : (x : Item) → Known x → is_token t.String x.token ≡ true → P.string (build string x)
  pub name : (x : Item) → Known x → is_token t.PackageName x.token ≡ true → valid t.PackageName x.text ≡ true → P.name (build package_name x)
  pub path : (x : Item) → Known x → is_token t.PackagePath x.token ≡ true → valid t.PackagePath x.text ≡ true → P.path (build package_path x)
  pub docs : (x : Item) → Known x → D x.docs
  pub no_docs : D []
  pub filled : P.filled true

-- the leaves of the items of a list are as asked, and the span of the token that closes it where a tree has it
abbrev pub ListHolds : Asked → (Span → Type 0) → (List Doc → Type 0) → (l : CommaList) → TreeOf (list_items l) → Type 0
ListHolds P S D arguments x = AllByRecursion (walk_instantiation_argument (holds_with_spans P S)) x.0 × S x.1.span
ListHolds P S D cases x = AllByRecursion (walk_variant_case (holds_with_spans P S) D) x.0
ListHolds P S D fields x = AllByRecursion (walk_field (holds_with_spans P S) D) x.0
ListHolds P S D flags x = AllByRecursion (walk_flag (holds_with_spans P S) D) x.0
ListHolds P S D enum_cases x = AllByRecursion (walk_enum_case (holds_with_spans P S) D) x.0
ListHolds P S D params x = AllByRecursion (walk_named_type (holds_with_spans P S)) x.0
ListHolds P S D types x = AllByRecursion (walk_ty (holds_with_spans P S)) x.0 × S x.1.span
ListHolds P S D use_items x = AllByRecursion (walk_use_item (holds_with_spans P S)) x.0
ListHolds P S D include_items x = AllByRecursion (walk_world_include_item (holds_with_spans P S)) x.0

-- the leaves of the tree of a symbol are as asked
abbrev pub TreeHolds : Asked → (Span → Type 0) → (List Doc → Type 0) → (s : Sym) → TreeOf s → Type 0
TreeHolds P S D document x = walk_document (holds_with_spans P S) D x
TreeHolds P S D directive x = walk_package_directive (holds_with_spans P S) x
TreeHolds P S D statements x = AllByRecursion (walk_statement (holds_with_spans P S) D) x
TreeHolds P S D statement x = walk_statement (holds_with_spans P S) D x
TreeHolds P S D import_statement x = walk_import_statement (holds_with_spans P S) D x
TreeHolds P S D extern_name x = walk_extern_name (holds_with_spans P S) x
TreeHolds P S D import_type x = walk_import_type (holds_with_spans P S) D x
TreeHolds P S D let_statement x = walk_let_statement (holds_with_spans P S) D x
TreeHolds P S D export_statement x = walk_export_statement (holds_with_spans P S) D x
TreeHolds P S D export_options x = walk_export_options (holds_with_spans P S) x
TreeHolds P S D expr x = walk_expr (holds_with_spans P S) x
TreeHolds P S D primary_expr x = walk_primary_expr (holds_with_spans P S) x
TreeHolds P S D new_expr x = walk_primary_expr (holds_with_spans P S) x
TreeHolds P S D argument x = walk_instantiation_argument (holds_with_spans P S) x
TreeHolds P S D named_argument x = walk_named_instantiation_argument (holds_with_spans P S) x
TreeHolds P S D argument_name x = walk_instantiation_argument_name (holds_with_spans P S) x
TreeHolds P S D nested_expr x = walk_primary_expr (holds_with_spans P S) x
TreeHolds P S D postfixes x = AllByRecursion (walk_postfix_expr (holds_with_spans P S)) x
TreeHolds P S D postfix_expr x = walk_postfix_expr (holds_with_spans P S) x
TreeHolds P S D access_expr x = walk_access_expr (holds_with_spans P S) x
TreeHolds P S D named_access_expr x = walk_named_access_expr (holds_with_spans P S) x
TreeHolds P S D type_statement x = walk_type_statement (holds_with_spans P S) D x
TreeHolds P S D type_decl x = walk_type_decl (holds_with_spans P S) D x
TreeHolds P S D item_type_decl x = walk_item_type_decl (holds_with_spans P S) D x
TreeHolds P S D resource_decl x = walk_resource_decl (holds_with_spans P S) D x
TreeHolds P S D methods x = AllByRecursion (walk_resource_method (holds_with_spans P S) D) x.0
TreeHolds P S D resource_method x = walk_resource_method (holds_with_spans P S) D x
TreeHolds P S D constructor x = walk_constructor (holds_with_spans P S) D x
TreeHolds P S D method x = walk_method (holds_with_spans P S) D x
TreeHolds P S D variant_decl x = walk_variant_decl (holds_with_spans P S) D x
TreeHolds P S D variant_case x = walk_variant_case (holds_with_spans P S) D x
TreeHolds P S D record_decl x = walk_record_decl (holds_with_spans P S) D x
TreeHolds P S D field x = walk_field (holds_with_spans P S) D x
TreeHolds P S D flags_decl x = walk_flags_decl (holds_with_spans P S) D x
TreeHolds P S D flag x = walk_flag (holds_with_spans P S) D x
TreeHolds P S D enum_decl x = walk_enum_decl (holds_with_spans P S) D x
TreeHolds P S D enum_case x = walk_enum_case (holds_with_spans P S) D x
TreeHolds P S D type_alias x = walk_type_alias (holds_with_spans P S) D x
TreeHolds P S D type_alias_kind x = walk_type_alias_kind (holds_with_spans P S) x
TreeHolds P S D func_type_ref x = walk_func_type_ref (holds_with_spans P S) x
TreeHolds P S D func_type x = walk_func_type (holds_with_spans P S) x
TreeHolds P S D result_list x = walk_result_list (holds_with_spans P S) x
TreeHolds P S D named_type x = walk_named_type (holds_with_spans P S) x
TreeHolds P S D ty x = walk_ty (holds_with_spans P S) x
TreeHolds P S D tuple_type x = walk_ty (holds_with_spans P S) x
TreeHolds P S D list_type x = walk_ty (holds_with_spans P S) x
TreeHolds P S D option_type x = walk_ty (holds_with_spans P S) x
TreeHolds P S D result_type x = walk_ty (holds_with_spans P S) x
TreeHolds P S D borrow_type x = walk_ty (holds_with_spans P S) x
TreeHolds P S D stream_type x = walk_ty (holds_with_spans P S) x
TreeHolds P S D future_type x = walk_ty (holds_with_spans P S) x
TreeHolds P S D result_part x = walk_optional_ty (holds_with_spans P S) x
TreeHolds P S D payload x = IfThere (λ (p : Ty × Item). walk_ty (holds_with_spans P S) p.0 × S p.1.span) x
TreeHolds P S D interface_decl x = walk_interface_decl (holds_with_spans P S) D x
TreeHolds P S D inline_interface x = walk_inline_interface (holds_with_spans P S) D x
TreeHolds P S D interface_items x = AllByRecursion (walk_interface_item (holds_with_spans P S) D) x.0
TreeHolds P S D interface_item x = walk_interface_item (holds_with_spans P S) D x
TreeHolds P S D interface_export x = walk_interface_export (holds_with_spans P S) D x
TreeHolds P S D use_statement x = walk_use (holds_with_spans P S) D x
TreeHolds P S D use_path x = walk_use_path (holds_with_spans P S) x
TreeHolds P S D use_item x = walk_use_item (holds_with_spans P S) x
TreeHolds P S D world_decl x = walk_world_decl (holds_with_spans P S) D x
TreeHolds P S D world_items x = AllByRecursion (walk_world_item (holds_with_spans P S) D) x.0
TreeHolds P S D world_item x = walk_world_item (holds_with_spans P S) D x
TreeHolds P S D world_import x = walk_world_import (holds_with_spans P S) D x
TreeHolds P S D world_export x = walk_world_export (holds_with_spans P S) D x
TreeHolds P S D world_item_path x = walk_world_item_path (holds_with_spans P S) D x
TreeHolds P S D named_world_item x = walk_named_world_item (holds_with_spans P S) D x
TreeHolds P S D extern_type x = walk_extern_type (holds_with_spans P S) D x
TreeHolds P S D world_include x = walk_world_include (holds_with_spans P S) D x
TreeHolds P S D world_ref x = walk_world_ref (holds_with_spans P S) x
TreeHolds P S D include_item x = walk_world_include_item (holds_with_spans P S) x
TreeHolds P S D identifier x = P.ident x
TreeHolds P S D string x = P.string x
TreeHolds P S D package_name x = P.name x
TreeHolds P S D package_path x = P.path x
TreeHolds P S D (list_items l) x = ListHolds P S D l x
TreeHolds P S D (more_items l) x = ListHolds P S D l x

-- what of spans is known so
pub record MadeSpans (P : Asked) (S : Span → Type 0) (D : List Doc → Type 0) (M : Made P D) : Type 1 where
  pub item : (x : Item) → M.Known x → S x.span
  pub ident : (x : Ident) → P.ident x → S x.span
  pub joined : (a b : Span) → S a → S b → S (join a b)

module _ (P : Asked) (S : Span → Type 0) (D : List Doc → Type 0) (M : Made P D) (N : MadeSpans P S D M) where
  abbrev PartsHold : (g : Grammar) → Parts g → Type 0
  PartsHold (token k) x = M.Known x × (is_token k x.token ≡ true) × (valid k x.text ≡ true)
  PartsHold (sym s) x = TreeHolds P S D s x
  PartsHold (then g h) p = PartsHold g p.0 × PartsHold h p.1
  PartsHold (either loud g h) (inl p) = PartsHold g p
  PartsHold (either loud g h) (inr p) = PartsHold h p
  PartsHold (nothing b) p = Unit {0}
  PartsHold (to_end g) (inl p) = Unit {0}
  PartsHold (to_end g) (inr p) = PartsHold g p
  PartsHold (docs g) p = D p.0 × PartsHold g p.1
  PartsHold (not_empty e k g) p = PartsHold g p
  PartsHold (more k s g) p = PartsHold g p
  PartsHold (or_told g k h) (inl p) = PartsHold g p
  PartsHold (or_told g k h) (inr p) = (M.Known p.0 × (is_token k p.0.token ≡ true) × (valid k p.0.text ≡ true)) × PartsHold h p.1

  types_hold : (xs : List Ty) → AllByRecursion (walk_ty (holds_with_spans P S)) xs → walk_types (holds_with_spans P S) (types_from xs)
  types_hold [] h = tt
  types_hold (x ∷ xs) h = (h.0, types_hold xs h.1)

  arguments_hold : (xs : List InstantiationArgument) → AllByRecursion (walk_instantiation_argument (holds_with_spans P S)) xs → walk_arguments (holds_with_spans P S) (arguments_from xs)
  arguments_hold [] h = tt
  arguments_hold (x ∷ xs) h = (h.0, arguments_hold xs h.1)

  -- of two items
  pair : (x y : Item) → M.Known x → M.Known y → S (join x.span y.span)
  pair x y h k = N.joined x.span y.span (N.item x h) (N.item y k)

  primary_holds : (x : PrimaryExpr) → walk_primary_expr (holds_with_spans P S) x → S (primary_span x)
  primary_holds (tree.PrimaryExpr.new s name xs) h = h.1
  primary_holds (tree.PrimaryExpr.nested s inner) h = h.1
  primary_holds (tree.PrimaryExpr.ident id) h = N.ident id h

  postfix_holds : (x : PostfixExpr) → walk_postfix_expr (holds_with_spans P S) x → S (postfix_span x)
  postfix_holds (tree.PostfixExpr.access x) h = h.1
  postfix_holds (tree.PostfixExpr.named_access x) h = h.1

  last_holds : (s : Span) (xs : List PostfixExpr) → S s → AllByRecursion (walk_postfix_expr (holds_with_spans P S)) xs → S (last_span s xs)
  last_holds s [] k h = k
  last_holds s (x ∷ xs) k h = last_holds (postfix_span x) xs (postfix_holds x h.0) h.1

  build_holds : (s : Sym) (p : Parts (rule s)) → PartsHold (rule s) p → TreeHolds P S D s (build s p)
  build_holds document (ds, (d, xs)) h = (h.0, h.1.0, h.1.1)
  build_holds directive (_, (name, (inl (_, path), _))) h = (h.1.0, h.1.1.0.1)
  build_holds directive (_, (name, (inr _, _))) h = (h.1.0, tt)
  build_holds statements (inl _) h = tt
  build_holds statements (inr (x, xs)) h = (h.0, h.1)
  build_holds statement (inl x) h = h
  build_holds statement (inr (inl x)) h = h
  build_holds statement (inr (inr (inl x))) h = h
  build_holds statement (inr (inr (inr x))) h = h
  build_holds import_statement (ds, (_, (id, (inl (_, name), (_, (kind, _)))))) h = (h.0, h.1.1.0, h.1.1.1.0.1, h.1.1.1.1.1.0)
  build_holds import_statement (ds, (_, (id, (inr _, (_, (kind, _)))))) h = (h.0, h.1.1.0, tt, h.1.1.1.1.1.0)
  build_holds extern_name (inl x) h = h
  build_holds extern_name (inr x) h = h
  build_holds import_type (inl x) h = h
  build_holds import_type (inr (inl x)) h = h
  build_holds import_type (inr (inr (inl x))) h = h
  build_holds import_type (inr (inr (inr x))) h = h
  build_holds let_statement (ds, (_, (id, (_, (value, _))))) h = (h.0, h.1.1.0, h.1.1.1.1.0)
  build_holds export_statement (ds, (_, (value, (options, _)))) h = (h.0, h.1.1.0, h.1.1.1.0)
  build_holds export_options (inl dots) h = (tt, N.item dots h.0)
  build_holds export_options (inr (inl (_, name))) h = h.1
  build_holds export_options (inr (inr _)) h = tt
  build_holds expr (first, others) h =
      let s = primary_holds first h.0 in
      ((h.0, h.1), N.joined (primary_span first) (last_span (primary_span first) others) s (last_holds (primary_span first) others s h.1))
  build_holds primary_expr (inl x) h = h
  build_holds primary_expr (inr (inl x)) h = h
  build_holds primary_expr (inr (inr x)) h = h
  build_holds new_expr (first, (name, (_, (xs, last)))) h = ((h.1.0, arguments_hold xs h.1.1.1.0), N.joined first.span last.span (N.item first h.0.0) h.1.1.1.1)
  build_holds argument (inl (dots, inl id)) h = h.1
  build_holds argument (inl (dots, inr _)) h = (tt, N.item dots h.0.0)
  build_holds argument (inr (inl (id, inl (_, value)))) h = (h.0, h.1.1)
  build_holds argument (inr (inl (id, inr _))) h = h.0
  build_holds argument (inr (inr (x, (_, value)))) h = (M.string x h.0.0 h.0.1, h.1.1)
  build_holds named_argument (name, (_, value)) h = (h.0, h.1.1)
  build_holds argument_name (inl x) h = h
  build_holds argument_name (inr x) h = h
  build_holds nested_expr (first, (inner, last)) h = (h.1.0, pair first last h.0.0 h.1.1.0)
  build_holds postfixes (inl (x, xs)) h = (h.0, h.1)
  build_holds postfixes (inr _) h = tt
  build_holds postfix_expr (inl x) h = h
  build_holds postfix_expr (inr x) h = h
  build_holds access_expr (dot, id) h = (h.1, N.joined dot.span id.span (N.item dot h.0.0) (N.ident id h.1))
  build_holds named_access_expr (first, (value, last)) h = (h.1.0, pair first last h.0.0 h.1.1.0)
  build_holds type_statement (inl x) h = h
  build_holds type_statement (inr (inl x)) h = h
  build_holds type_statement (inr (inr x)) h = h
  build_holds type_decl (inl x) h = h
  build_holds type_decl (inr (inl x)) h = h
  build_holds type_decl (inr (inr (inl x))) h = h
  build_holds type_decl (inr (inr (inr (inl x)))) h = h
  build_holds type_decl (inr (inr (inr (inr x)))) h = h
  build_holds item_type_decl (inl x) h = h
  build_holds item_type_decl (inr (inl x)) h = h
  build_holds item_type_decl (inr (inr (inl x))) h = h
  build_holds item_type_decl (inr (inr (inr (inl x)))) h = h
  build_holds item_type_decl (inr (inr (inr (inr (inl x))))) h = h
  build_holds item_type_decl (inr (inr (inr (inr (inr x))))) h = h
  build_holds resource_decl (ds, (_, (id, inl _))) h = (h.0, h.1.1.0, tt)
  build_holds resource_decl (ds, (_, (id, inr (_, xs)))) h = (h.0, h.1.1.0, h.1.1.1.1)
  build_holds methods (inl last) h = tt
  build_holds methods (inr (x, others)) h = (h.0, h.1)
  build_holds resource_method (inl x) h = h
  build_holds resource_method (inr x) h = h
  build_holds constructor (ds, (first, (_, (xs, _)))) h = ((h.0, h.1.1.1.0), N.item first h.1.0.0)
  build_holds method (ds, (id, (_, (inl _, (func, _))))) h = (h.0, h.1.0, h.1.1.1.1.0)
  build_holds method (ds, (id, (_, (inr _, (func, _))))) h = (h.0, h.1.0, h.1.1.1.1.0)
  build_holds variant_decl (ds, (_, (id, (_, (x, others))))) h = ((h.0, h.1.1.0, (h.1.1.1.1.0, h.1.1.1.1.1)), M.filled)
  build_holds variant_case (ds, (id, inl (_, (value, _)))) h = (h.0, h.1.0, h.1.1.1.0)
  build_holds variant_case (ds, (id, inr _)) h = (h.0, h.1.0, tt)
  build_holds record_decl (ds, (_, (id, (_, (x, others))))) h = ((h.0, h.1.1.0, (h.1.1.1.1.0, h.1.1.1.1.1)), M.filled)
  build_holds field (ds, x) h = (h.0, h.1.0, h.1.1)
  build_holds flags_decl (ds, (_, (id, (_, (x, others))))) h = ((h.0, h.1.1.0, (h.1.1.1.1.0, h.1.1.1.1.1)), M.filled)
  build_holds flag (ds, id) h = (h.0, h.1)
  build_holds enum_decl (ds, (_, (id, (_, (x, others))))) h = ((h.0, h.1.1.0, (h.1.1.1.1.0, h.1.1.1.1.1)), M.filled)
  build_holds enum_case (ds, id) h = (h.0, h.1)
  build_holds type_alias (ds, (_, (id, (_, (value, _))))) h = (h.0, h.1.1.0, h.1.1.1.1.0)
  build_holds type_alias_kind (inl x) h = h
  build_holds type_alias_kind (inr x) h = h
  build_holds func_type_ref (inl x) h = h
  build_holds func_type_ref (inr x) h = h
  build_holds func_type (first, (_, (_, (xs, inl (_, results))))) h = (h.1.1.1.0, h.1.1.1.1.1)
  build_holds func_type (first, (_, (_, (xs, inr _)))) h = (h.1.1.1.0, tt)
  build_holds result_list (inl (_, (x, others))) h = ((h.1.0, h.1.1), M.filled)
  build_holds result_list (inr (inl x)) h = h
  build_holds result_list (inr (inr _)) h = tt
  build_holds named_type (id, (_, value)) h = (h.0, h.1.1)
  build_holds ty (inl x) h = (tt, N.item x h.0)
  build_holds ty (inr (inl x)) h = (tt, N.item x h.0)
  build_holds ty (inr (inr (inl x))) h = (tt, N.item x h.0)
  build_holds ty (inr (inr (inr (inl x)))) h = (tt, N.item x h.0)
  build_holds ty (inr (inr (inr (inr (inl x))))) h = (tt, N.item x h.0)
  build_holds ty (inr (inr (inr (inr (inr (inl x)))))) h = (tt, N.item x h.0)
  build_holds ty (inr (inr (inr (inr (inr (inr (inl x))))))) h = (tt, N.item x h.0)
  build_holds ty (inr (inr (inr (inr (inr (inr (inr (inl x)))))))) h = (tt, N.item x h.0)
  build_holds ty (inr (inr (inr (inr (inr (inr (inr (inr (inl x))))))))) h = (tt, N.item x h.0)
  build_holds ty (inr (inr (inr (inr (inr (inr (inr (inr (inr (inl x)))))))))) h = (tt, N.item x h.0)
  build_holds ty (inr (inr (inr (inr (inr (inr (inr (inr (inr (inr (inl x))))))))))) h = (tt, N.item x h.0)
  build_holds ty (inr (inr (inr (inr (inr (inr (inr (inr (inr (inr (inr (inl x)))))))))))) h = (tt, N.item x h.0)
  build_holds ty (inr (inr (inr (inr (inr (inr (inr (inr (inr (inr (inr (inr (inl x))))))))))))) h = (tt, N.item x h.0)
  build_holds ty (inr (inr (inr (inr (inr (inr (inr (inr (inr (inr (inr (inr (inr (inl x)))))))))))))) h = h
  build_holds ty (inr (inr (inr (inr (inr (inr (inr (inr (inr (inr (inr (inr (inr (inr (inl x))))))))))))))) h = h
  build_holds ty (inr (inr (inr (inr (inr (inr (inr (inr (inr (inr (inr (inr (inr (inr (inr (inl x)))))))))))))))) h = h
  build_holds ty (inr (inr (inr (inr (inr (inr (inr (inr (inr (inr (inr (inr (inr (inr (inr (inr (inl x))))))))))))))))) h = h
  build_holds ty (inr (inr (inr (inr (inr (inr (inr (inr (inr (inr (inr (inr (inr (inr (inr (inr (inr (inl x)))))))))))))))))) h = h
  build_holds ty (inr (inr (inr (inr (inr (inr (inr (inr (inr (inr (inr (inr (inr (inr (inr (inr (inr (inr (inl x))))))))))))))))))) h = h
  build_holds ty (inr (inr (inr (inr (inr (inr (inr (inr (inr (inr (inr (inr (inr (inr (inr (inr (inr (inr (inr (inl x)))))))))))))))))))) h = h
  build_holds ty (inr (inr (inr (inr (inr (inr (inr (inr (inr (inr (inr (inr (inr (inr (inr (inr (inr (inr (inr (inr (inl x))))))))))))))))))))) h = (tt, N.item x h.0)
  build_holds ty (inr (inr (inr (inr (inr (inr (inr (inr (inr (inr (inr (inr (inr (inr (inr (inr (inr (inr (inr (inr (inr x))))))))))))))))))))) h = h
  build_holds tuple_type (first, (_, (x, (xs, last)))) h = (((h.1.1.0, types_hold xs h.1.1.1.0), N.joined first.span last.span (N.item first h.0.0) h.1.1.1.1), M.filled)
  build_holds list_type (first, (_, (x, last))) h = (h.1.1.0, pair first last h.0.0 h.1.1.1.0)
  build_holds option_type (first, (_, (x, last))) h = (h.1.1.0, pair first last h.0.0 h.1.1.1.0)
  build_holds result_type (first, inl (_, (ok, (inl (_, err), last)))) h = ((h.1.1.0, h.1.1.1.0.1), pair first last h.0.0 h.1.1.1.1.0)
  build_holds result_type (first, inl (_, (ok, (inr _, last)))) h = ((h.1.1.0, tt), pair first last h.0.0 h.1.1.1.1.0)
  build_holds result_type (first, inr _) h = ((tt, tt), N.item first h.0.0)
  build_holds borrow_type (first, (_, (id, last))) h = (h.1.1.0, pair first last h.0.0 h.1.1.1.0)
  build_holds stream_type (first, Some (x, last)) h = (h.1.0, N.joined first.span last.span (N.item first h.0.0) h.1.1)
  build_holds stream_type (first, None) h = (tt, N.item first h.0.0)
  build_holds future_type (first, Some (x, last)) h = (h.1.0, N.joined first.span last.span (N.item first h.0.0) h.1.1)
  build_holds future_type (first, None) h = (tt, N.item first h.0.0)
  build_holds result_part (inl _) h = tt
  build_holds result_part (inr x) h = h
  build_holds payload (inl (_, (x, last))) h = (h.1.0, N.item last h.1.1.0)
  build_holds payload (inr _) h = tt
  build_holds interface_decl (ds, (_, (id, (_, xs)))) h = (h.0, h.1.1.0, h.1.1.1.1)
  build_holds inline_interface (_, (_, xs)) h = h.1.1
  build_holds interface_items (inl last) h = tt
  build_holds interface_items (inr (x, others)) h = (h.0, h.1)
  build_holds interface_item (inl x) h = h
  build_holds interface_item (inr (inl x)) h = h
  build_holds interface_item (inr (inr x)) h = h
  build_holds interface_export (ds, (id, (_, (value, _)))) h = (h.0, h.1.0, h.1.1.1.0)
  build_holds use_statement (ds, (_, (path, (_, (_, (xs, _)))))) h = (h.0, h.1.1.0, h.1.1.1.1.1.0)
  build_holds use_path (inl x) h = h
  build_holds use_path (inr x) h = h
  build_holds use_item (id, inl (_, name)) h = (h.0, h.1.1)
  build_holds use_item (id, inr _) h = (h.0, tt)
  build_holds world_decl (ds, (_, (id, (_, xs)))) h = (h.0, h.1.1.0, h.1.1.1.1)
  build_holds world_items (inl last) h = tt
  build_holds world_items (inr (x, others)) h = (h.0, h.1)
  build_holds world_item (inl x) h = h
  build_holds world_item (inr (inl x)) h = h
  build_holds world_item (inr (inr (inl x))) h = h
  build_holds world_item (inr (inr (inr (inl x)))) h = h
  build_holds world_item (inr (inr (inr (inr x)))) h = h
  build_holds world_import (ds, (_, (path, _))) h = (h.0, h.1.1.0)
  build_holds world_export (ds, (_, (path, _))) h = (h.0, h.1.1.0)
  build_holds world_item_path (inl x) h = h
  build_holds world_item_path (inr (id, inl (_, value))) h = (h.0, h.1.1)
  build_holds world_item_path (inr (id, inr _)) h = h.0
  build_holds named_world_item (id, (_, value)) h = (h.0, h.1.1)
  build_holds extern_type (inl x) h = h
  build_holds extern_type (inr (inl x)) h = h
  build_holds extern_type (inr (inr x)) h = h
  build_holds world_include (ds, (_, (world, (inl (_, (_, xs)), _)))) h = (h.0, h.1.1.0, h.1.1.1.0.1.1)
  build_holds world_include (ds, (_, (world, (inr _, _)))) h = (h.0, h.1.1.0, tt)
  build_holds world_ref (inl x) h = h
  build_holds world_ref (inr x) h = h
  build_holds include_item (id, (_, name)) h = (h.0, h.1.1)
  build_holds identifier x h = M.ident x h.0 h.1
  build_holds string x h = M.string x h.0 h.1
  build_holds package_name x h = M.name x h.0 h.1 h.2
  build_holds package_path x h = M.path x h.0 h.1 h.2
  build_holds (list_items arguments) (inl last) h = (tt, N.item last h.0)
  build_holds (list_items arguments) (inr (x, others)) h = ((h.0, h.1.0), h.1.1)
  build_holds (list_items types) (inl last) h = (tt, N.item last h.0)
  build_holds (list_items types) (inr (x, others)) h = ((h.0, h.1.0), h.1.1)
  build_holds (list_items _) (inl last) h = tt
  build_holds (list_items _) (inr (x, others)) h = (h.0, h.1)
  build_holds (more_items arguments) (inl last) h = (tt, N.item last h.0)
  build_holds (more_items types) (inl last) h = (tt, N.item last h.0)
  build_holds (more_items _) (inl last) h = tt
  build_holds (more_items l) (inr (_, others)) h = h.1

  abbrev AllKnown : List Item → Type 0
  AllKnown xs = AllByRecursion M.Known xs

  front : (a b : List Item) → AllKnown (a ++ b) → AllKnown a
  front [] b h = tt
  front (x ∷ a) b h = (h.0, front a b h.1)

  after : (a b : List Item) → AllKnown (a ++ b) → AllKnown b
  after [] b h = h
  after (x ∷ a) b h = after a b h.1

  docs_hold : (xs : List Item) → AllKnown xs → D (docs_of xs)
  docs_hold [] h = M.no_docs
  docs_hold (x ∷ xs) h = M.docs x h.0

  module _ (F : Family) (each : (s : Sym) (xs : List Item) (x : TreeOf s) → AllKnown xs → F s xs x → TreeHolds P S D s x) where
    parts_hold : (g : Grammar) (xs : List Item) (p : Parts g) → AllKnown xs → DerivesIn F g xs p → PartsHold g p
    parts_hold (token k) xs x h d = ((subst AllKnown d.0 h).0, d.1, d.2)
    parts_hold (sym s) xs x h d = each s xs x h d
    parts_hold (then g k) xs p h d =
        let all = subst AllKnown d.2 h in
        (parts_hold g d.0 p.0 (front d.0 d.1 all) d.3, parts_hold k d.1 p.1 (after d.0 d.1 all) d.4)
    parts_hold (either loud g k) xs (inl p) h d = parts_hold g xs p h d
    parts_hold (either loud g k) xs (inr p) h d = parts_hold k xs p h d
    parts_hold (nothing b) xs p h d = tt
    parts_hold (to_end g) xs (inl p) h d = tt
    parts_hold (to_end g) xs (inr p) h d = parts_hold g xs p h d
    parts_hold (docs g) xs p h d = (subst D (back d.0) (docs_hold xs h), parts_hold g xs p.1 h d.1)
    parts_hold (not_empty e k g) xs p h d = parts_hold g xs p h d
    parts_hold (more k s g) xs p h d = parts_hold g xs p h d
    parts_hold (or_told g k l) xs (inl p) h d = parts_hold g xs p h d
    parts_hold (or_told g k l) xs (inr p) h d =
        let all = subst AllKnown d.1 h in
        ((all.0, d.2, d.3), parts_hold l d.0 p.1 all.1 d.4)

  holds_by : (n : ℕ) (s : Sym) (xs : List Item) (x : TreeOf s) → AllKnown xs → DerivesBy n s xs x → TreeHolds P S D s x
  holds_by zero s xs x h d = absurd d
  holds_by (suc n) s xs x h d = subst (TreeHolds P S D s) d.2 (build_holds s d.0 (parts_hold (DerivesBy n) (holds_by n) (rule s) xs d.0 h d.1))

  pub derived_holds : (s : Sym) (xs : List Item) (x : TreeOf s) → AllKnown xs → Derives s xs x → TreeHolds P S D s x
  derived_holds s xs x h d = holds_by d.0 s xs x h d.1

-- without spans
pub derived_document : (P : Asked) (D : List Doc → Type 0) (M : Made P D) (xs : List Item) (x : Document) → AllByRecursion M.Known xs → Derives document xs x → walk_document (holds P) D x
derived_document P D M xs x h d =
    let any : MadeSpans P (λ s. Unit {0}) D M = record { item = λ x h. tt; ident = λ x h. tt; joined = λ a b h k. tt } in
    document_spans_aside P (λ s. Unit {0}) D x (derived_holds P (λ s. Unit {0}) D M any document xs x h d)
