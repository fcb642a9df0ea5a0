-- Worlds are read back.
use Rattle.std.proofs.Common.{◌≡◌, ℕ, List, [], ◌∷◌, ◌++◌, map, sym as back, refl, ap, ◌∙◌, subst, inl, inr, codes}
use Rattle.wac_ast_grammar.specs.Walk.{walk_extern_type, walk_world_decl, walk_world_export, walk_world_import, walk_world_include, walk_world_include_item, walk_world_item, walk_world_item_path, walk_world_ref}
use Rattle.wac_printer_layout.proofs.Common.{AllByRecursion, flat_map, Item, Doc, is_token, Ident, PackagePath, ExternType, NamedWorldItem, WorldItemPath, WorldImport, WorldExport, WorldRef, WorldIncludeItem, WorldInclude, WorldItem, WorldDecl, docs_of, build, Derives, extern_type, world_item_path, world_import, world_export, world_ref, include_item, include_items, world_include, world_item, world_items, world_decl, by_rule, list_items, more_items}
use Rattle.wac_lexer.specs.declared.token.Token.TheVariants as kinds
use Rattle.wac_ast_grammar.specs.Tree as tree
use Rattle.wac_ast_grammar.specs.Grammar.{identifier, package_path}
use Rattle.wac_printer_layout.specs.Printed.{token, deeper}
use Rattle.wac_printer_layout.specs.Bare.{doc_lines, bare}
use Rattle.wac_printer_layout.specs.Parts.{newline, spaced, body, rows, docs_layout, close_body}
use Rattle.wac_printer_layout.specs.WorldLayout.{extern_type_layout, world_item_path_layout, world_import_layout, world_export_layout, world_ref_layout, world_include_item_layout, with_layout, world_include_layout, world_item_layout, world_decl_layout}
use Rattle.wac_printer_layout.specs.Texts.{Spelled, DocsHave, has}
use Rattle.wac_printer_layout.specs.Reread.{read_docs}
use Rattle.wac_printer_layout.proofs.Means.{Means, split, pending}
use Rattle.wac_printer_layout.proofs.NamesBack.{alone, word_back, path_back, documented, docs_back}
use Rattle.wac_printer_layout.proofs.FunctionsBack.{func_type_back}
use Rattle.wac_printer_layout.proofs.ListsBack.{rows_back, spaced_back}
use Rattle.wac_printer_layout.proofs.DeclarationsBack.{ends_in, leaves_none, body_closed, item_type_decl_back, item_type_decl_closed}
use Rattle.wac_printer_layout.proofs.InterfacesBack.{use_back, use_closed, inline_interface_back}

module _ (S P : List ℕ) where
  extern_type_back : (depth : ℕ) (x : ExternType) (ds : List (List ℕ)) (ys : List Item) → walk_extern_type (has Spelled) (DocsHave Spelled) (walk_extern_type (bare S) doc_lines x) → Means P ds ys (extern_type_layout depth (walk_extern_type (bare S) doc_lines x))
      → (u : ExternType) × Derives extern_type ys u × (walk_extern_type (bare P) read_docs u ≡ walk_extern_type (bare S) doc_lines x)
  unfolding extern_type_layout
  extern_type_back depth (tree.ExternType.ident x) ds ys is h =
      let r = word_back S P x ds h.0 is h.3 in
      (tree.ExternType.ident r.0, by_rule extern_type ys (inl r.0) (subst (λ zs. Derives identifier zs r.0) (back (alone h.0 h.1 ys h.2 h.4)) r.1), ap tree.ExternType.ident r.2)
  extern_type_back depth (tree.ExternType.func x) ds ys is h = let r = func_type_back S P x ds ys is h in (tree.ExternType.func r.0, by_rule extern_type ys (inr (inl r.0)) r.1, ap tree.ExternType.func r.2)
  extern_type_back depth (tree.ExternType.interface x) ds ys is h = let r = inline_interface_back S P depth x ds ys is h in (tree.ExternType.interface r.0, by_rule extern_type ys (inr (inr r.0)) r.1, ap tree.ExternType.interface r.2)

  world_item_path_back : (depth : ℕ) (x : WorldItemPath) (ds : List (List ℕ)) (ys : List Item) → walk_world_item_path (has Spelled) (DocsHave Spelled) (walk_world_item_path (bare S) doc_lines x) → Means P ds ys (world_item_path_layout depth (walk_world_item_path (bare S) doc_lines x))
      → (u : WorldItemPath) × Derives world_item_path ys u × (walk_world_item_path (bare P) read_docs u ≡ walk_world_item_path (bare S) doc_lines x)
  unfolding world_item_path_layout
  world_item_path_back depth (tree.WorldItemPath.path x) ds ys is h =
      let r = path_back S P x ds h.0 is h.3 in
      (tree.WorldItemPath.path r.0, by_rule world_item_path ys (inl r.0) (subst (λ zs. Derives package_path zs r.0) (back (alone h.0 h.1 ys h.2 h.4)) r.1), ap tree.WorldItemPath.path r.2)
  world_item_path_back depth (tree.WorldItemPath.named x) ds ys is h =
      let w = word_back S P x.id ds h.0 is.0 h.3 in
      let h1 = h.4 in
      let r = extern_type_back depth x.ty _ h1.1 is.1 h1.4 in (
        build world_item_path (inr (w.0, inl (h1.0, r.0))),
        by_rule world_item_path ys (inr (w.0, inl (h1.0, r.0))) (h.0 ∷ [], h.1, h.2, w.1, (h1.0 ∷ [], h1.1, h1.2, (refl, ap (is_token kinds.Colon) h1.3.0, refl), r.1)),
        (λ i. tree.WorldItemPath.named (record { id = w.2 i; ty = r.2 i })),
      )
  world_item_path_back depth (tree.WorldItemPath.ident x) ds ys is h =
      let w = word_back S P x ds h.0 is h.3 in
      (build world_item_path (inr (w.0, inr tt)), by_rule world_item_path ys (inr (w.0, inr tt)) (h.0 ∷ [], h.1, h.2, w.1, h.4), ap tree.WorldItemPath.ident w.2)

  world_ref_back : (x : WorldRef) (ds : List (List ℕ)) (ys : List Item) → walk_world_ref (has Spelled) (walk_world_ref (bare S) x) → Means P ds ys (world_ref_layout (walk_world_ref (bare S) x))
      → (u : WorldRef) × Derives world_ref ys u × (walk_world_ref (bare P) u ≡ walk_world_ref (bare S) x)
  world_ref_back (tree.WorldRef.path x) ds ys is h =
      let r = path_back S P x ds h.0 is h.3 in
      (tree.WorldRef.path r.0, by_rule world_ref ys (inl r.0) (subst (λ zs. Derives package_path zs r.0) (back (alone h.0 h.1 ys h.2 h.4)) r.1), ap tree.WorldRef.path r.2)
  world_ref_back (tree.WorldRef.ident x) ds ys is h =
      let r = word_back S P x ds h.0 is h.3 in
      (tree.WorldRef.ident r.0, by_rule world_ref ys (inr r.0) (subst (λ zs. Derives identifier zs r.0) (back (alone h.0 h.1 ys h.2 h.4)) r.1), ap tree.WorldRef.ident r.2)

  include_item_back : (depth : ℕ) (x : WorldIncludeItem) (ys : List Item) → walk_world_include_item (has Spelled) (walk_world_include_item (bare S) x) → Means P [] ys (world_include_item_layout depth (walk_world_include_item (bare S) x))
      → (u : WorldIncludeItem) × Derives include_item ys u × (walk_world_include_item (bare P) u ≡ walk_world_include_item (bare S) x)
  include_item_back depth x ys is h =
      let w = word_back S P x.from _ h.0 is.0 h.3 in
      let h1 = h.4 in
      let h2 = h1.4 in
      let v = word_back S P x.to _ h2.0 is.1 h2.3 in
      (build include_item (w.0, (h1.0, v.0)), by_rule include_item ys (w.0, (h1.0, v.0)) (h.0 ∷ [], h.1, h.2, w.1, (h1.0 ∷ [], h1.1, h1.2, (refl, ap (is_token kinds.AsKeyword) h1.3.0, refl), subst (λ zs. Derives identifier zs v.0) (back (alone h2.0 h2.1 h1.1 h2.2 h2.4)) v.1)), (λ i. record { from = w.2 i; to = v.2 i }))

  include_rows : (depth inner : ℕ) (xs : List WorldIncludeItem) (ys : List Item) → AllByRecursion (walk_world_include_item (has Spelled)) (map (walk_world_include_item (bare S)) xs)
      → Means P [] ys (flat_map (λ y. world_include_item_layout inner y ++ token (codes ",") ∷ newline ∷ []) (map (walk_world_include_item (bare S)) xs) ++ close_body depth)
      → (q : List WorldIncludeItem × Item) × Derives (list_items include_items) ys q × (map (walk_world_include_item (bare P)) q.0 ≡ map (walk_world_include_item (bare S)) xs)
  include_rows depth inner xs ys is h =
      rows_back P (walk_world_include_item (bare S)) (walk_world_include_item (bare P)) (walk_world_include_item (has Spelled)) (world_include_item_layout inner) (Derives include_item) (Derives (list_items include_items)) (λ q. q.0) (close_body depth) (include_item_back inner)
      (λ ds zs m. (([], m.0), by_rule (list_items include_items) zs (inl m.0) (alone m.0 m.1 zs m.2 m.4, ap (is_token kinds.CloseBrace) m.3.0, refl), refl))
      (Derives (more_items include_items))
      (λ ds zs m. (([], m.0), by_rule (more_items include_items) zs (inl m.0) (alone m.0 m.1 zs m.2 m.4, ap (is_token kinds.CloseBrace) m.3.0, refl), refl))
      (λ zs front rest u q e d m. ((u ∷ q.0, q.1), by_rule (list_items include_items) zs (inr (u, q)) (front, rest, e, d, m), refl))
      (λ c zs rest q e t l. (q, by_rule (more_items include_items) zs (inr (c, q)) (c ∷ [], rest, e, (refl, t, refl), l), refl))
      xs ys is h

  pub world_import_back : (depth : ℕ) (x : WorldImport) (ys : List Item) → walk_world_import (has Spelled) (DocsHave Spelled) (walk_world_import (bare S) doc_lines x) → Means P [] ys (world_import_layout depth (walk_world_import (bare S) doc_lines x)) → (u : WorldImport) × Derives world_import ys u × (walk_world_import (bare P) read_docs u ≡ walk_world_import (bare S) doc_lines x)
  world_import_back depth x ys is h0 =
      let h = documented S P depth x.docs ys _ h0 in
      let k = docs_back S P x.docs h.0 h.1 ys h.2 h.3.3 in
      let h1 = h.4 in
      let c2 = split P _ _ (world_item_path_layout depth (walk_world_item_path (bare S) doc_lines x.path)) _ h1 in
      let r = world_item_path_back depth x.path _ c2.0 is.1 c2.3 in
      let h3 = c2.4 in
      (build world_import (docs_of ys, (h.0, (r.0, h3.0))), by_rule world_import ys (docs_of ys, (h.0, (r.0, h3.0))) (refl, (h.0 ∷ [], h.1, h.2, (refl, ap (is_token kinds.ImportKeyword) h.3.0, refl), (c2.0, c2.1, c2.2, r.1, (alone h3.0 h3.1 c2.1 h3.2 h3.4, ap (is_token kinds.Semicolon) h3.3.0, refl)))), (λ i. record { docs = k i; path = r.2 i }))

  pub world_export_back : (depth : ℕ) (x : WorldExport) (ys : List Item) → walk_world_export (has Spelled) (DocsHave Spelled) (walk_world_export (bare S) doc_lines x) → Means P [] ys (world_export_layout depth (walk_world_export (bare S) doc_lines x)) → (u : WorldExport) × Derives world_export ys u × (walk_world_export (bare P) read_docs u ≡ walk_world_export (bare S) doc_lines x)
  world_export_back depth x ys is h0 =
      let h = documented S P depth x.docs ys _ h0 in
      let k = docs_back S P x.docs h.0 h.1 ys h.2 h.3.3 in
      let h1 = h.4 in
      let c2 = split P _ _ (world_item_path_layout depth (walk_world_item_path (bare S) doc_lines x.path)) _ h1 in
      let r = world_item_path_back depth x.path _ c2.0 is.1 c2.3 in
      let h3 = c2.4 in
      (build world_export (docs_of ys, (h.0, (r.0, h3.0))), by_rule world_export ys (docs_of ys, (h.0, (r.0, h3.0))) (refl, (h.0 ∷ [], h.1, h.2, (refl, ap (is_token kinds.ExportKeyword) h.3.0, refl), (c2.0, c2.1, c2.2, r.1, (alone h3.0 h3.1 c2.1 h3.2 h3.4, ap (is_token kinds.Semicolon) h3.3.0, refl)))), (λ i. record { docs = k i; path = r.2 i }))

  include_by : (depth : ℕ) (docs : List Doc) (world : WorldRef) (xs : List WorldIncludeItem) (ys : List Item) → let x : WorldInclude = record { docs = docs; world = world; items = xs } in
      walk_world_include (has Spelled) (DocsHave Spelled) (walk_world_include (bare S) doc_lines x) → Means P [] ys (world_include_layout depth (walk_world_include (bare S) doc_lines x)) → (u : WorldInclude) × Derives world_include ys u × (walk_world_include (bare P) read_docs u ≡ walk_world_include (bare S) doc_lines x)
  unfolding rows
  include_by depth docs world [] ys is h0 =
      let h = documented S P depth docs ys _ h0 in
      let k = docs_back S P docs h.0 h.1 ys h.2 h.3.3 in
      let h1 = h.4 in
      let c = split P _ _ (world_ref_layout (walk_world_ref (bare S) world)) _ h1 in
      let a = world_ref_back world _ c.0 is.1 c.3 in
      let l = c.4 in
      (build world_include (docs_of ys, (h.0, (a.0, (inr tt, l.0)))), by_rule world_include ys (docs_of ys, (h.0, (a.0, (inr tt, l.0)))) (refl, (h.0 ∷ [], h.1, h.2, (refl, ap (is_token kinds.IncludeKeyword) h.3.0, refl), (c.0, c.1, c.2, a.1, ([], c.1, refl, refl, (alone l.0 l.1 c.1 l.2 l.4, ap (is_token kinds.Semicolon) l.3.0, refl))))), (λ i. record { docs = k i; world = a.2 i; items = [] }))
  include_by depth docs world (x ∷ xs) ys is h0 =
      let h = documented S P depth docs ys _ h0 in
      let k = docs_back S P docs h.0 h.1 ys h.2 h.3.3 in
      let h1 = h.4 in
      let c = split P _ _ (world_ref_layout (walk_world_ref (bare S) world)) _ h1 in
      let a = world_ref_back world _ c.0 is.1 c.3 in
      let h2 = c.4 in
      let h3 = h2.4 in
      let e = split P [] h3.1 (flat_map (λ y. world_include_item_layout (deeper depth) y ++ token (codes ",") ∷ newline ∷ []) (map (walk_world_include_item (bare S)) (x ∷ xs)) ++ close_body depth) (token (codes ";") ∷ []) h3.4 in
      let q = include_rows depth (deeper depth) (x ∷ xs) e.0 is.2 e.3 in
      let l = e.4 in
      (build world_include (docs_of ys, (h.0, (a.0, (inl (h2.0, (h3.0, q.0)), l.0)))), by_rule world_include ys (docs_of ys, (h.0, (a.0, (inl (h2.0, (h3.0, q.0)), l.0)))) (refl, (h.0 ∷ [], h.1, h.2, (refl, ap (is_token kinds.IncludeKeyword) h.3.0, refl), (c.0, c.1, c.2, a.1, (h2.0 ∷ (h3.0 ∷ e.0), e.1, h2.2 ∙ ap (λ zs. h2.0 ∷ zs) (h3.2 ∙ ap (λ zs. h3.0 ∷ zs) e.2), (h2.0 ∷ [], h3.0 ∷ e.0, refl, (refl, ap (is_token kinds.WithKeyword) h2.3.0, refl), (h3.0 ∷ [], e.0, refl, (refl, ap (is_token kinds.OpenBrace) h3.3.0, refl), q.1)), (alone l.0 l.1 e.1 l.2 l.4, ap (is_token kinds.Semicolon) l.3.0, refl))))), (λ i. record { docs = k i; world = a.2 i; items = q.2 i }))

  pub world_include_back : (depth : ℕ) (x : WorldInclude) (ys : List Item) → walk_world_include (has Spelled) (DocsHave Spelled) (walk_world_include (bare S) doc_lines x) → Means P [] ys (world_include_layout depth (walk_world_include (bare S) doc_lines x)) → (u : WorldInclude) × Derives world_include ys u × (walk_world_include (bare P) read_docs u ≡ walk_world_include (bare S) doc_lines x)
  world_include_back depth x ys is h = include_by depth x.docs x.world x.items ys is h

  pub world_item_back : (depth : ℕ) (x : WorldItem) (ys : List Item) → walk_world_item (has Spelled) (DocsHave Spelled) (walk_world_item (bare S) doc_lines x) → Means P [] ys (world_item_layout depth (walk_world_item (bare S) doc_lines x)) → (u : WorldItem) × Derives world_item ys u × (walk_world_item (bare P) read_docs u ≡ walk_world_item (bare S) doc_lines x)
  unfolding world_item_layout
  world_item_back depth (tree.WorldItem.use_statement x) ys is h = let r = use_back S P depth x ys is h in (tree.WorldItem.use_statement r.0, by_rule world_item ys (inl r.0) r.1, ap tree.WorldItem.use_statement r.2)
  world_item_back depth (tree.WorldItem.world_import x) ys is h = let r = world_import_back depth x ys is h in (tree.WorldItem.world_import r.0, by_rule world_item ys (inr (inl r.0)) r.1, ap tree.WorldItem.world_import r.2)
  world_item_back depth (tree.WorldItem.world_export x) ys is h = let r = world_export_back depth x ys is h in (tree.WorldItem.world_export r.0, by_rule world_item ys (inr (inr (inl r.0))) r.1, ap tree.WorldItem.world_export r.2)
  world_item_back depth (tree.WorldItem.world_include x) ys is h = let r = world_include_back depth x ys is h in (tree.WorldItem.world_include r.0, by_rule world_item ys (inr (inr (inr (inl r.0)))) r.1, ap tree.WorldItem.world_include r.2)
  world_item_back depth (tree.WorldItem.ty x) ys is h = let r = item_type_decl_back S P depth x ys is h in (tree.WorldItem.ty r.0, by_rule world_item ys (inr (inr (inr (inr r.0)))) r.1, ap tree.WorldItem.ty r.2)

  world_item_closed : (depth : ℕ) (x : WorldItem) (ds : List (List ℕ)) → pending ds (world_item_layout depth (walk_world_item (bare S) doc_lines x)) ≡ []
  unfolding world_item_layout
  world_item_closed depth (tree.WorldItem.use_statement x) ds = use_closed S P depth x ds
  world_item_closed depth (tree.WorldItem.world_import x) ds = leaves_none (docs_layout depth (doc_lines x.docs)) _ (λ es. ends_in [] (world_item_path_layout depth (walk_world_item_path (bare S) doc_lines x.path)) (codes ";")) ds
  world_item_closed depth (tree.WorldItem.world_export x) ds = leaves_none (docs_layout depth (doc_lines x.docs)) _ (λ es. ends_in [] (world_item_path_layout depth (walk_world_item_path (bare S) doc_lines x.path)) (codes ";")) ds
  world_item_closed depth (tree.WorldItem.world_include x) ds =
      leaves_none (docs_layout depth (doc_lines x.docs)) _ (λ es. leaves_none (world_ref_layout (walk_world_ref (bare S) x.world)) _ (λ fs. ends_in fs (with_layout depth (map (walk_world_include_item (bare S)) x.items)) (codes ";")) []) ds
  world_item_closed depth (tree.WorldItem.ty x) ds = item_type_decl_closed S P depth x ds

  pub world_items_back : (depth inner : ℕ) (xs : List WorldItem) (ys : List Item) → AllByRecursion (walk_world_item (has Spelled) (DocsHave Spelled)) (map (walk_world_item (bare S) doc_lines) xs) → Means P [] ys (spaced (world_item_layout inner) (map (walk_world_item (bare S) doc_lines) xs) ++ close_body depth)
      → (q : List WorldItem × Item) × Derives world_items ys q × (map (walk_world_item (bare P) read_docs) q.0 ≡ map (walk_world_item (bare S) doc_lines) xs)
  world_items_back depth inner xs ys is h =
      spaced_back P (walk_world_item (bare S) doc_lines) (walk_world_item (bare P) read_docs) (walk_world_item (has Spelled) (DocsHave Spelled)) (world_item_layout inner) (Derives world_item) (Derives world_items) (λ q. q.0) (close_body depth) (world_item_back inner)
      (λ ds zs m. (([], m.0), by_rule world_items zs (inl m.0) (alone m.0 m.1 zs m.2 m.4, ap (is_token kinds.CloseBrace) m.3.0, refl), refl))
      (λ zs front rest u q e d m. ((u ∷ q.0, q.1), by_rule world_items zs (inr (u, q)) (front, rest, e, d, m), refl))
      (world_item_closed inner) xs ys is h

  pub world_decl_back : (depth : ℕ) (x : WorldDecl) (ys : List Item) → walk_world_decl (has Spelled) (DocsHave Spelled) (walk_world_decl (bare S) doc_lines x) → Means P [] ys (world_decl_layout depth (walk_world_decl (bare S) doc_lines x)) → (u : WorldDecl) × Derives world_decl ys u × (walk_world_decl (bare P) read_docs u ≡ walk_world_decl (bare S) doc_lines x)
  unfolding body
  world_decl_back depth x ys is h0 =
      let h = documented S P depth x.docs ys _ h0 in
      let k = docs_back S P x.docs h.0 h.1 ys h.2 h.3.3 in
      let h1 = h.4 in
      let w = word_back S P x.id _ h1.0 is.1 h1.3 in
      let h2 = h1.4 in
      let q = world_items_back depth (deeper depth) x.items h2.1 is.2 h2.4 in
      (build world_decl (docs_of ys, (h.0, (w.0, (h2.0, q.0)))), by_rule world_decl ys (docs_of ys, (h.0, (w.0, (h2.0, q.0)))) (refl, (h.0 ∷ [], h.1, h.2, (refl, ap (is_token kinds.WorldKeyword) h.3.0, refl), (h1.0 ∷ [], h1.1, h1.2, w.1, (h2.0 ∷ [], h2.1, h2.2, (refl, ap (is_token kinds.OpenBrace) h2.3.0, refl), q.1)))), (λ i. record { docs = k i; id = w.2 i; items = q.2 i }))

  pub world_decl_closed : (depth : ℕ) (x : WorldDecl) (ds : List (List ℕ)) → pending ds (world_decl_layout depth (walk_world_decl (bare S) doc_lines x)) ≡ []
  world_decl_closed depth x ds = leaves_none (docs_layout depth (doc_lines x.docs)) _ (λ es. body_closed world_item_layout depth (map (walk_world_item (bare S) doc_lines) x.items) []) ds
