-- Statements and documents are read back.
use Rattle.std.proofs.Common.{◌≡◌, ℕ, List, [], ◌∷◌, ◌++◌, map, sym as back, refl, ap, ◌∙◌, subst, Option, Some, None, inl, inr, codes, append-nil}
use Rattle.wac_ast_grammar.specs.Walk.{walk_export_options, walk_export_statement, walk_expr, walk_extern_name, walk_import_statement, walk_import_type, walk_let_statement, walk_package_directive, walk_statement, walk_type_statement}
use Rattle.wac_printer_layout.proofs.Common.{AllByRecursion, option_map, Item, Doc, is_token, Ident, ExternName, PackageName, PackagePath, ImportType, ImportStatement, LetStatement, ExportOptions, ExportStatement, TypeStatement, Statement, PackageDirective, Document, docs_of, build, Derives, import_type, import_statement, let_statement, export_options, export_statement, type_statement, statement, statements, directive, document, by_rule}
use Rattle.wac_lexer.specs.declared.token.Token.TheVariants as kinds
use Rattle.wac_ast_grammar.specs.Tree as tree
use Rattle.wac_ast_grammar.specs.Grammar.{identifier, package_path}
use Rattle.wac_printer_layout.specs.Printed.{token}
use Rattle.wac_printer_layout.specs.Bare.{doc_lines, bare_package_path, bare_document, bare}
use Rattle.wac_printer_layout.specs.Parts.{newline, spaced, docs_layout}
use Rattle.wac_printer_layout.specs.TypeLayout.{extern_name_layout}
use Rattle.wac_printer_layout.specs.ExpressionLayout.{expr_layout}
use Rattle.wac_printer_layout.specs.StatementLayout.{import_type_layout, import_name_layout, import_statement_layout, let_statement_layout, export_options_layout, export_statement_layout, type_statement_layout, statement_layout, targets_layout, directive_layout, document_layout}
use Rattle.wac_printer_layout.specs.Texts.{Spelled, DocumentHas, DocsHave, has}
use Rattle.wac_printer_layout.specs.Reread.{read_docs}
use Rattle.wac_printer_layout.proofs.Means.{texts_of, Means, split, pending}
use Rattle.wac_printer_layout.proofs.NamesBack.{alone, word_back, name_back, path_back, extern_name_back, documented, docs_back}
use Rattle.wac_printer_layout.proofs.FunctionsBack.{func_type_back}
use Rattle.wac_printer_layout.proofs.ListsBack.{spaced_back}
use Rattle.wac_printer_layout.proofs.DeclarationsBack.{ends_in, leaves_none, type_decl_back, type_decl_closed}
use Rattle.wac_printer_layout.proofs.InterfacesBack.{inline_interface_back, interface_decl_back, interface_decl_closed}
use Rattle.wac_printer_layout.proofs.WorldsBack.{world_decl_back, world_decl_closed}
use Rattle.wac_printer_layout.proofs.ExpressionsBack.{expr_back}

module _ (S P : List ℕ) where
  import_type_back : (depth : ℕ) (x : ImportType) (ds : List (List ℕ)) (ys : List Item) → walk_import_type (has Spelled) (DocsHave Spelled) (walk_import_type (bare S) doc_lines x) → Means P ds ys (import_type_layout depth (walk_import_type (bare S) doc_lines x))
      → (u : ImportType) × Derives import_type ys u × (walk_import_type (bare P) read_docs u ≡ walk_import_type (bare S) doc_lines x)
  unfolding import_type_layout
  import_type_back depth (tree.ImportType.func x) ds ys is h = let r = func_type_back S P x ds ys is h in (tree.ImportType.func r.0, by_rule import_type ys (inl r.0) r.1, ap tree.ImportType.func r.2)
  import_type_back depth (tree.ImportType.interface x) ds ys is h = let r = inline_interface_back S P depth x ds ys is h in (tree.ImportType.interface r.0, by_rule import_type ys (inr (inl r.0)) r.1, ap tree.ImportType.interface r.2)
  import_type_back depth (tree.ImportType.path x) ds ys is h =
      let r = path_back S P x ds h.0 is h.3 in
      (tree.ImportType.path r.0, by_rule import_type ys (inr (inr (inl r.0))) (subst (λ zs. Derives package_path zs r.0) (back (alone h.0 h.1 ys h.2 h.4)) r.1), ap tree.ImportType.path r.2)
  import_type_back depth (tree.ImportType.ident x) ds ys is h =
      let r = word_back S P x ds h.0 is h.3 in
      (tree.ImportType.ident r.0, by_rule import_type ys (inr (inr (inr r.0))) (subst (λ zs. Derives identifier zs r.0) (back (alone h.0 h.1 ys h.2 h.4)) r.1), ap tree.ImportType.ident r.2)

  import_by : (depth : ℕ) (docs : List Doc) (id : Ident) (name : Option ExternName) (kind : ImportType) (ys : List Item) → let x : ImportStatement = record { docs = docs; id = id; name = name; ty = kind } in
      walk_import_statement (has Spelled) (DocsHave Spelled) (walk_import_statement (bare S) doc_lines x) → Means P [] ys (import_statement_layout depth (walk_import_statement (bare S) doc_lines x)) → (u : ImportStatement) × Derives import_statement ys u × (walk_import_statement (bare P) read_docs u ≡ walk_import_statement (bare S) doc_lines x)
  import_by depth docs id None kind ys is h0 =
      let h = documented S P depth docs ys _ h0 in
      let k = docs_back S P docs h.0 h.1 ys h.2 h.3.3 in
      let h1 = h.4 in
      let w = word_back S P id _ h1.0 is.1 h1.3 in
      let h2 = h1.4 in
      let c = split P _ _ (import_type_layout depth (walk_import_type (bare S) doc_lines kind)) _ h2.4 in
      let r = import_type_back depth kind _ c.0 is.3 c.3 in
      let l = c.4 in
      (build import_statement (docs_of ys, (h.0, (w.0, (inr tt, (h2.0, (r.0, l.0)))))), by_rule import_statement ys (docs_of ys, (h.0, (w.0, (inr tt, (h2.0, (r.0, l.0)))))) (refl, (h.0 ∷ [], h.1, h.2, (refl, ap (is_token kinds.ImportKeyword) h.3.0, refl), (h1.0 ∷ [], h1.1, h1.2, w.1, ([], h1.1, refl, refl, (h2.0 ∷ [], h2.1, h2.2, (refl, ap (is_token kinds.Colon) h2.3.0, refl), (c.0, c.1, c.2, r.1, (alone l.0 l.1 c.1 l.2 l.4, ap (is_token kinds.Semicolon) l.3.0, refl))))))), (λ i. record { docs = k i; id = w.2 i; name = None; ty = r.2 i }))
  import_by depth docs id (Some name) kind ys is h0 =
      let h = documented S P depth docs ys _ h0 in
      let k = docs_back S P docs h.0 h.1 ys h.2 h.3.3 in
      let h1 = h.4 in
      let w = word_back S P id _ h1.0 is.1 h1.3 in
      let h2 = h1.4 in
      let a = split P _ _ (extern_name_layout (walk_extern_name (bare S) name)) _ h2.4 in
      let n = extern_name_back S P name _ a.0 is.2 a.3 in
      let h3 = a.4 in
      let c = split P _ _ (import_type_layout depth (walk_import_type (bare S) doc_lines kind)) _ h3.4 in
      let r = import_type_back depth kind _ c.0 is.3 c.3 in
      let l = c.4 in
      (build import_statement (docs_of ys, (h.0, (w.0, (inl (h2.0, n.0), (h3.0, (r.0, l.0)))))), by_rule import_statement ys (docs_of ys, (h.0, (w.0, (inl (h2.0, n.0), (h3.0, (r.0, l.0)))))) (refl, (h.0 ∷ [], h.1, h.2, (refl, ap (is_token kinds.ImportKeyword) h.3.0, refl), (h1.0 ∷ [], h1.1, h1.2, w.1, (h2.0 ∷ a.0, a.1, h2.2 ∙ ap (λ zs. h2.0 ∷ zs) a.2, (h2.0 ∷ [], a.0, refl, (refl, ap (is_token kinds.AsKeyword) h2.3.0, refl), n.1), (h3.0 ∷ [], h3.1, h3.2, (refl, ap (is_token kinds.Colon) h3.3.0, refl), (c.0, c.1, c.2, r.1, (alone l.0 l.1 c.1 l.2 l.4, ap (is_token kinds.Semicolon) l.3.0, refl))))))), (λ i. record { docs = k i; id = w.2 i; name = Some (n.2 i); ty = r.2 i }))

  pub import_back : (depth : ℕ) (x : ImportStatement) (ys : List Item) → walk_import_statement (has Spelled) (DocsHave Spelled) (walk_import_statement (bare S) doc_lines x) → Means P [] ys (import_statement_layout depth (walk_import_statement (bare S) doc_lines x)) → (u : ImportStatement) × Derives import_statement ys u × (walk_import_statement (bare P) read_docs u ≡ walk_import_statement (bare S) doc_lines x)
  import_back depth x ys is h = import_by depth x.docs x.id x.name x.ty ys is h

  pub let_back : (depth : ℕ) (x : LetStatement) (ys : List Item) → walk_let_statement (has Spelled) (DocsHave Spelled) (walk_let_statement (bare S) doc_lines x) → Means P [] ys (let_statement_layout depth (walk_let_statement (bare S) doc_lines x)) → (u : LetStatement) × Derives let_statement ys u × (walk_let_statement (bare P) read_docs u ≡ walk_let_statement (bare S) doc_lines x)
  let_back depth x ys is h0 =
      let h = documented S P depth x.docs ys _ h0 in
      let k = docs_back S P x.docs h.0 h.1 ys h.2 h.3.3 in
      let h1 = h.4 in
      let w = word_back S P x.id _ h1.0 is.1 h1.3 in
      let h2 = h1.4 in
      let h3 = h2.4 in
      let c4 = split P _ _ (expr_layout depth (walk_expr (bare S) x.expr)) _ h3 in
      let r = expr_back S P depth x.expr _ c4.0 is.2 c4.3 in
      let h5 = c4.4 in
      (build let_statement (docs_of ys, (h.0, (w.0, (h2.0, (r.0, h5.0))))), by_rule let_statement ys (docs_of ys, (h.0, (w.0, (h2.0, (r.0, h5.0))))) (refl, (h.0 ∷ [], h.1, h.2, (refl, ap (is_token kinds.LetKeyword) h.3.0, refl), (h1.0 ∷ [], h1.1, h1.2, w.1, (h2.0 ∷ [], h2.1, h2.2, (refl, ap (is_token kinds.Equals) h2.3.0, refl), (c4.0, c4.1, c4.2, r.1, (alone h5.0 h5.1 c4.1 h5.2 h5.4, ap (is_token kinds.Semicolon) h5.3.0, refl)))))), (λ i. record { docs = k i; id = w.2 i; expr = r.2 i }))

  options_back : (x : ExportOptions) (ds : List (List ℕ)) (ys : List Item) → walk_export_options (has Spelled) (walk_export_options (bare S) x) → Means P ds ys (export_options_layout (walk_export_options (bare S) x))
      → (u : ExportOptions) × Derives export_options ys u × (walk_export_options (bare P) u ≡ walk_export_options (bare S) x)
  options_back (tree.ExportOptions.spread s) ds ys is h = (build export_options (inl h.0), by_rule export_options ys (inl h.0) (alone h.0 h.1 ys h.2 h.4, ap (is_token kinds.Ellipsis) h.3.0, refl), refl)
  options_back (tree.ExportOptions.rename x) ds ys is h =
      let n = extern_name_back S P x _ h.1 is h.4 in
      (build export_options (inr (inl (h.0, n.0))), by_rule export_options ys (inr (inl (h.0, n.0))) (h.0 ∷ [], h.1, h.2, (refl, ap (is_token kinds.AsKeyword) h.3.0, refl), n.1), ap tree.ExportOptions.rename n.2)
  options_back tree.ExportOptions.none ds ys is h = (build export_options (inr (inr tt)), by_rule export_options ys (inr (inr tt)) h, refl)

  pub export_back : (depth : ℕ) (x : ExportStatement) (ys : List Item) → walk_export_statement (has Spelled) (DocsHave Spelled) (walk_export_statement (bare S) doc_lines x) → Means P [] ys (export_statement_layout depth (walk_export_statement (bare S) doc_lines x)) → (u : ExportStatement) × Derives export_statement ys u × (walk_export_statement (bare P) read_docs u ≡ walk_export_statement (bare S) doc_lines x)
  export_back depth x ys is h0 =
      let h = documented S P depth x.docs ys _ h0 in
      let k = docs_back S P x.docs h.0 h.1 ys h.2 h.3.3 in
      let h1 = h.4 in
      let c2 = split P _ _ (expr_layout depth (walk_expr (bare S) x.expr)) _ h1 in
      let r = expr_back S P depth x.expr _ c2.0 is.1 c2.3 in
      let h3 = c2.4 in
      let c4 = split P _ _ (export_options_layout (walk_export_options (bare S) x.options)) _ h3 in
      let q = options_back x.options _ c4.0 is.2 c4.3 in
      let h5 = c4.4 in
      (build export_statement (docs_of ys, (h.0, (r.0, (q.0, h5.0)))), by_rule export_statement ys (docs_of ys, (h.0, (r.0, (q.0, h5.0)))) (refl, (h.0 ∷ [], h.1, h.2, (refl, ap (is_token kinds.ExportKeyword) h.3.0, refl), (c2.0, c2.1, c2.2, r.1, (c4.0, c4.1, c4.2, q.1, (alone h5.0 h5.1 c4.1 h5.2 h5.4, ap (is_token kinds.Semicolon) h5.3.0, refl))))), (λ i. record { docs = k i; expr = r.2 i; options = q.2 i }))

  pub type_statement_back : (depth : ℕ) (x : TypeStatement) (ys : List Item) → walk_type_statement (has Spelled) (DocsHave Spelled) (walk_type_statement (bare S) doc_lines x) → Means P [] ys (type_statement_layout depth (walk_type_statement (bare S) doc_lines x)) → (u : TypeStatement) × Derives type_statement ys u × (walk_type_statement (bare P) read_docs u ≡ walk_type_statement (bare S) doc_lines x)
  unfolding type_statement_layout
  type_statement_back depth (tree.TypeStatement.interface x) ys is h = let r = interface_decl_back S P depth x ys is h in (tree.TypeStatement.interface r.0, by_rule type_statement ys (inl r.0) r.1, ap tree.TypeStatement.interface r.2)
  type_statement_back depth (tree.TypeStatement.world x) ys is h = let r = world_decl_back S P depth x ys is h in (tree.TypeStatement.world r.0, by_rule type_statement ys (inr (inl r.0)) r.1, ap tree.TypeStatement.world r.2)
  type_statement_back depth (tree.TypeStatement.ty x) ys is h = let r = type_decl_back S P depth x ys is h in (tree.TypeStatement.ty r.0, by_rule type_statement ys (inr (inr r.0)) r.1, ap tree.TypeStatement.ty r.2)

  pub statement_back : (depth : ℕ) (x : Statement) (ys : List Item) → walk_statement (has Spelled) (DocsHave Spelled) (walk_statement (bare S) doc_lines x) → Means P [] ys (statement_layout depth (walk_statement (bare S) doc_lines x)) → (u : Statement) × Derives statement ys u × (walk_statement (bare P) read_docs u ≡ walk_statement (bare S) doc_lines x)
  unfolding statement_layout
  statement_back depth (tree.Statement.import_statement x) ys is h = let r = import_back depth x ys is h in (tree.Statement.import_statement r.0, by_rule statement ys (inl r.0) r.1, ap tree.Statement.import_statement r.2)
  statement_back depth (tree.Statement.let_statement x) ys is h = let r = let_back depth x ys is h in (tree.Statement.let_statement r.0, by_rule statement ys (inr (inl r.0)) r.1, ap tree.Statement.let_statement r.2)
  statement_back depth (tree.Statement.export_statement x) ys is h = let r = export_back depth x ys is h in (tree.Statement.export_statement r.0, by_rule statement ys (inr (inr (inl r.0))) r.1, ap tree.Statement.export_statement r.2)
  statement_back depth (tree.Statement.type_statement x) ys is h = let r = type_statement_back depth x ys is h in (tree.Statement.type_statement r.0, by_rule statement ys (inr (inr (inr r.0))) r.1, ap tree.Statement.type_statement r.2)

  type_statement_closed : (depth : ℕ) (x : TypeStatement) (ds : List (List ℕ)) → pending ds (type_statement_layout depth (walk_type_statement (bare S) doc_lines x)) ≡ []
  unfolding type_statement_layout
  type_statement_closed depth (tree.TypeStatement.interface x) ds = interface_decl_closed S P depth x ds
  type_statement_closed depth (tree.TypeStatement.world x) ds = world_decl_closed S P depth x ds
  type_statement_closed depth (tree.TypeStatement.ty x) ds = type_decl_closed S P depth x ds

  statement_closed : (depth : ℕ) (x : Statement) (ds : List (List ℕ)) → pending ds (statement_layout depth (walk_statement (bare S) doc_lines x)) ≡ []
  unfolding statement_layout
  statement_closed depth (tree.Statement.import_statement x) ds =
      leaves_none (docs_layout depth (doc_lines x.docs)) _ (λ es. leaves_none (import_name_layout (option_map (walk_extern_name (bare S)) x.name)) _ (λ fs. ends_in [] (import_type_layout depth (walk_import_type (bare S) doc_lines x.ty)) (codes ";")) []) ds
  statement_closed depth (tree.Statement.let_statement x) ds = leaves_none (docs_layout depth (doc_lines x.docs)) _ (λ es. ends_in [] (expr_layout depth (walk_expr (bare S) x.expr)) (codes ";")) ds
  statement_closed depth (tree.Statement.export_statement x) ds =
      leaves_none (docs_layout depth (doc_lines x.docs)) _ (λ es. leaves_none (expr_layout depth (walk_expr (bare S) x.expr)) _ (λ fs. ends_in fs (export_options_layout (walk_export_options (bare S) x.options)) (codes ";")) []) ds
  statement_closed depth (tree.Statement.type_statement x) ds = type_statement_closed depth x ds

  statements_back : (depth : ℕ) (xs : List Statement) (ys : List Item) → AllByRecursion (walk_statement (has Spelled) (DocsHave Spelled)) (map (walk_statement (bare S) doc_lines) xs) → Means P [] ys (spaced (statement_layout depth) (map (walk_statement (bare S) doc_lines) xs) ++ [])
      → (q : List Statement) × Derives statements ys q × (map (walk_statement (bare P) read_docs) q ≡ map (walk_statement (bare S) doc_lines) xs)
  statements_back depth xs ys is h =
      spaced_back P (walk_statement (bare S) doc_lines) (walk_statement (bare P) read_docs) (walk_statement (has Spelled) (DocsHave Spelled)) (statement_layout depth) (Derives statement) (Derives statements) (λ q. q) [] (statement_back depth)
      (λ ds zs m. ([], by_rule statements zs (inl tt) m, refl))
      (λ zs front rest u q e d m. (u ∷ q, by_rule statements zs (inr (u, q)) (front, rest, e, d, m), refl))
      (statement_closed depth) xs ys is h

  directive_by : (depth : ℕ) (name : PackageName) (targets : Option PackagePath) (ds : List (List ℕ)) (ys : List Item) → let x : PackageDirective = record { package_name = name; targets = targets } in
      walk_package_directive (has Spelled) (walk_package_directive (bare S) x) → Means P ds ys (directive_layout depth (walk_package_directive (bare S) x)) → (u : PackageDirective) × Derives directive ys u × (walk_package_directive (bare P) u ≡ walk_package_directive (bare S) x)
  directive_by depth name None ds ys is h =
      let h1 = h.4 in
      let w = name_back S P name _ h1.0 is.0 h1.3 in
      let l = h1.4 in
      (build directive (h.0, (w.0, (inr tt, l.0))), by_rule directive ys (h.0, (w.0, (inr tt, l.0))) (h.0 ∷ [], h.1, h.2, (refl, ap (is_token kinds.PackageKeyword) h.3.0, refl), (h1.0 ∷ [], h1.1, h1.2, w.1, ([], h1.1, refl, refl, (alone l.0 l.1 h1.1 l.2 l.4, ap (is_token kinds.Semicolon) l.3.0, refl)))), (λ i. record { package_name = w.2 i; targets = None }))
  directive_by depth name (Some path) ds ys is h =
      let h1 = h.4 in
      let w = name_back S P name _ h1.0 is.0 h1.3 in
      let h2 = h1.4 in
      let h3 = h2.4 in
      let v = path_back S P path _ h3.0 is.1 h3.3 in
      let l = h3.4 in
      (build directive (h.0, (w.0, (inl (h2.0, v.0), l.0))), by_rule directive ys (h.0, (w.0, (inl (h2.0, v.0), l.0))) (h.0 ∷ [], h.1, h.2, (refl, ap (is_token kinds.PackageKeyword) h.3.0, refl), (h1.0 ∷ [], h1.1, h1.2, w.1, (h2.0 ∷ (h3.0 ∷ []), h3.1, h2.2 ∙ ap (λ zs. h2.0 ∷ zs) h3.2, (h2.0 ∷ [], h3.0 ∷ [], refl, (refl, ap (is_token kinds.TargetsKeyword) h2.3.0, refl), v.1), (alone l.0 l.1 h3.1 l.2 l.4, ap (is_token kinds.Semicolon) l.3.0, refl)))), (λ i. record { package_name = w.2 i; targets = Some (v.2 i) }))

  -- A DOCUMENT IS READ BACK
  pub document_back : (depth : ℕ) (x : Document) (ys : List Item) → DocumentHas Spelled (bare_document doc_lines S x) → Means P [] ys (document_layout depth (bare_document doc_lines S x))
      → (u : Document) × Derives document ys u × (bare_document read_docs P u ≡ bare_document doc_lines S x)
  document_back depth x ys is h0 =
      let h = documented S P depth x.docs ys _ h0 in
      let k = docs_back S P x.docs h.0 h.1 ys h.2 h.3.3 in
      let d = directive_layout depth (walk_package_directive (bare S) x.directive) in
      let rest = spaced (statement_layout depth) (map (walk_statement (bare S) doc_lines) x.statements) in
      let c = split P (texts_of (doc_lines x.docs)) ys d rest h in
      let a = directive_by depth x.directive.package_name x.directive.targets _ c.0 is.1 c.3 in
      let none = leaves_none (targets_layout (option_map (bare_package_path S) x.directive.targets)) (token (codes ";") ∷ newline ∷ newline ∷ []) (λ es. refl) [] in
      let m = subst (λ ds. Means P ds c.1 rest) none c.4 in
      let q = statements_back depth x.statements c.1 is.2 (subst (Means P [] c.1) (back (append-nil rest)) m) in
      (build document (docs_of ys, (a.0, q.0)), by_rule document ys (docs_of ys, (a.0, q.0)) (refl, (c.0, c.1, c.2, a.1, q.1)), (λ i. record { docs = k i; directive = a.2 i; statements = q.2 i }))
