-- Interfaces are read back.
use Rattle.std.proofs.Common.{◌≡◌, ℕ, List, [], ◌∷◌, ◌++◌, map, sym as back, refl, ap, subst, Option, Some, None, inl, inr, codes}
use Rattle.wac_ast_grammar.specs.Walk.{walk_func_type_ref, walk_inline_interface, walk_interface_decl, walk_interface_export, walk_interface_item, walk_use, walk_use_item, walk_use_path}
use Rattle.wac_printer_layout.proofs.Common.{AllByRecursion, Item, is_token, Ident, PackagePath, FuncTypeRef, UsePath, UseItem, Use, InterfaceExport, InterfaceItem, InterfaceDecl, InlineInterface, docs_of, build, Derives, use_path, use_item, use_items, use_statement, interface_export, interface_item, interface_items, interface_decl, inline_interface, by_rule, list_items, more_items}
use Rattle.wac_lexer.specs.declared.token.Token.TheVariants as kinds
use Rattle.wac_ast_grammar.specs.Tree as tree
use Rattle.wac_ast_grammar.specs.Grammar.{identifier, package_path}
use Rattle.wac_printer_layout.specs.Printed.{token, deeper}
use Rattle.wac_printer_layout.specs.Bare.{doc_lines, bare}
use Rattle.wac_printer_layout.specs.Parts.{space, joined, spaced, body, docs_layout, close_body}
use Rattle.wac_printer_layout.specs.TypeLayout.{func_type_ref_layout}
use Rattle.wac_printer_layout.specs.InterfaceLayout.{use_path_layout, use_item_layout, use_items_layout, use_layout, interface_export_layout, interface_item_layout, interface_decl_layout, inline_interface_layout}
use Rattle.wac_printer_layout.specs.Texts.{Spelled, DocsHave, has}
use Rattle.wac_printer_layout.specs.Reread.{read_docs}
use Rattle.wac_printer_layout.proofs.Means.{Means, split, pending}
use Rattle.wac_printer_layout.proofs.NamesBack.{alone, word_back, path_back, documented, docs_back}
use Rattle.wac_printer_layout.proofs.FunctionsBack.{func_type_ref_back}
use Rattle.wac_printer_layout.proofs.ListsBack.{joined_back, spaced_back}
use Rattle.wac_printer_layout.proofs.DeclarationsBack.{ends_in, leaves_none, body_closed, item_type_decl_back, item_type_decl_closed}

module _ (S P : List ℕ) where
  use_path_back : (x : UsePath) (ds : List (List ℕ)) (ys : List Item) → walk_use_path (has Spelled) (walk_use_path (bare S) x) → Means P ds ys (use_path_layout (walk_use_path (bare S) x))
      → (u : UsePath) × Derives use_path ys u × (walk_use_path (bare P) u ≡ walk_use_path (bare S) x)
  use_path_back (tree.UsePath.path x) ds ys is h =
      let r = path_back S P x ds h.0 is h.3 in
      (tree.UsePath.path r.0, by_rule use_path ys (inl r.0) (subst (λ zs. Derives package_path zs r.0) (back (alone h.0 h.1 ys h.2 h.4)) r.1), ap tree.UsePath.path r.2)
  use_path_back (tree.UsePath.ident x) ds ys is h =
      let r = word_back S P x ds h.0 is h.3 in
      (tree.UsePath.ident r.0, by_rule use_path ys (inr r.0) (subst (λ zs. Derives identifier zs r.0) (back (alone h.0 h.1 ys h.2 h.4)) r.1), ap tree.UsePath.ident r.2)

  use_item_by : (id : Ident) (name : Option Ident) (ys : List Item) → let x : UseItem = record { id = id; as_id = name } in
      walk_use_item (has Spelled) (walk_use_item (bare S) x) → Means P [] ys (use_item_layout (walk_use_item (bare S) x)) → (u : UseItem) × Derives use_item ys u × (walk_use_item (bare P) u ≡ walk_use_item (bare S) x)
  use_item_by id None ys is h =
      let w = word_back S P id _ h.0 is.0 h.3 in
      (build use_item (w.0, inr tt), by_rule use_item ys (w.0, inr tt) (h.0 ∷ [], h.1, h.2, w.1, h.4), (λ i. record { id = w.2 i; as_id = None }))
  use_item_by id (Some name) ys is h =
      let w = word_back S P id _ h.0 is.0 h.3 in
      let h1 = h.4 in
      let h2 = h1.4 in
      let v = word_back S P name _ h2.0 is.1 h2.3 in (
        build use_item (w.0, inl (h1.0, v.0)),
        by_rule use_item ys (w.0, inl (h1.0, v.0))
            (h.0 ∷ [], h.1, h.2, w.1, (h1.0 ∷ [], h1.1, h1.2, (refl, ap (is_token kinds.AsKeyword) h1.3.0, refl), subst (λ zs. Derives identifier zs v.0) (back (alone h2.0 h2.1 h1.1 h2.2 h2.4)) v.1)),
        (λ i. record { id = w.2 i; as_id = Some (v.2 i) }),
      )

  use_item_back : (x : UseItem) (ys : List Item) → walk_use_item (has Spelled) (walk_use_item (bare S) x) → Means P [] ys (use_item_layout (walk_use_item (bare S) x)) → (u : UseItem) × Derives use_item ys u × (walk_use_item (bare P) u ≡ walk_use_item (bare S) x)
  use_item_back x ys is h = use_item_by x.id x.as_id ys is h

  use_items_back : (xs : List UseItem) (ys : List Item) → AllByRecursion (walk_use_item (has Spelled)) (map (walk_use_item (bare S)) xs) → Means P [] ys (joined use_item_layout (map (walk_use_item (bare S)) xs) ++ space ∷ token (codes "}") ∷ [])
      → (q : List UseItem × Item) × Derives (list_items use_items) ys q × (map (walk_use_item (bare P)) q.0 ≡ map (walk_use_item (bare S)) xs)
  use_items_back xs ys is h =
      joined_back P (walk_use_item (bare S)) (walk_use_item (bare P)) (walk_use_item (has Spelled)) use_item_layout (Derives use_item) (Derives (list_items use_items)) (λ q. q.0) (space ∷ token (codes "}") ∷ []) use_item_back
      (λ ds zs m. (([], m.0), by_rule (list_items use_items) zs (inl m.0) (alone m.0 m.1 zs m.2 m.4, ap (is_token kinds.CloseBrace) m.3.0, refl), refl))
      (Derives (more_items use_items))
      (λ ds zs m. (([], m.0), by_rule (more_items use_items) zs (inl m.0) (alone m.0 m.1 zs m.2 m.4, ap (is_token kinds.CloseBrace) m.3.0, refl), refl))
      (λ zs front rest u q e d m. ((u ∷ q.0, q.1), by_rule (list_items use_items) zs (inr (u, q)) (front, rest, e, d, m), refl))
      (λ c zs rest q e t l. (q, by_rule (more_items use_items) zs (inr (c, q)) (c ∷ [], rest, e, (refl, t, refl), l), refl))
      xs [] ys is h

  pub use_back : (depth : ℕ) (x : Use) (ys : List Item) → walk_use (has Spelled) (DocsHave Spelled) (walk_use (bare S) doc_lines x) → Means P [] ys (use_layout depth (walk_use (bare S) doc_lines x)) → (u : Use) × Derives use_statement ys u × (walk_use (bare P) read_docs u ≡ walk_use (bare S) doc_lines x)
  use_back depth x ys is h0 =
      let h = documented S P depth x.docs ys _ h0 in
      let k = docs_back S P x.docs h.0 h.1 ys h.2 h.3.3 in
      let h1 = h.4 in
      let c = split P _ _ (use_path_layout (walk_use_path (bare S) x.path)) _ h1 in
      let a = use_path_back x.path _ c.0 is.1 c.3 in
      let h2 = c.4 in
      let h3 = h2.4 in
      let e = split P [] h3.1 (joined use_item_layout (map (walk_use_item (bare S)) x.items) ++ space ∷ token (codes "}") ∷ []) (token (codes ";") ∷ []) h3.4 in
      let q = use_items_back x.items e.0 is.2 e.3 in
      let l = e.4 in
      (build use_statement (docs_of ys, (h.0, (a.0, (h2.0, (h3.0, (q.0, l.0)))))), by_rule use_statement ys (docs_of ys, (h.0, (a.0, (h2.0, (h3.0, (q.0, l.0)))))) (refl, (h.0 ∷ [], h.1, h.2, (refl, ap (is_token kinds.UseKeyword) h.3.0, refl), (c.0, c.1, c.2, a.1, (h2.0 ∷ [], h2.1, h2.2, (refl, ap (is_token kinds.Dot) h2.3.0, refl), (h3.0 ∷ [], h3.1, h3.2, (refl, ap (is_token kinds.OpenBrace) h3.3.0, refl), (e.0, e.1, e.2, q.1, (alone l.0 l.1 e.1 l.2 l.4, ap (is_token kinds.Semicolon) l.3.0, refl))))))), (λ i. record { docs = k i; path = a.2 i; items = q.2 i }))

  pub interface_export_back : (depth : ℕ) (x : InterfaceExport) (ys : List Item) → walk_interface_export (has Spelled) (DocsHave Spelled) (walk_interface_export (bare S) doc_lines x) → Means P [] ys (interface_export_layout depth (walk_interface_export (bare S) doc_lines x)) → (u : InterfaceExport) × Derives interface_export ys u × (walk_interface_export (bare P) read_docs u ≡ walk_interface_export (bare S) doc_lines x)
  interface_export_back depth x ys is h0 =
      let h = documented S P depth x.docs ys _ h0 in
      let k = docs_back S P x.docs h.0 h.1 ys h.2 h.3.3 in
      let w = word_back S P x.id _ h.0 is.1 h.3 in
      let h1 = h.4 in
      let h2 = h1.4 in
      let c3 = split P _ _ (func_type_ref_layout (walk_func_type_ref (bare S) x.ty)) _ h2 in
      let r = func_type_ref_back S P x.ty _ c3.0 is.2 c3.3 in
      let h4 = c3.4 in
      (build interface_export (docs_of ys, (w.0, (h1.0, (r.0, h4.0)))), by_rule interface_export ys (docs_of ys, (w.0, (h1.0, (r.0, h4.0)))) (refl, (h.0 ∷ [], h.1, h.2, w.1, (h1.0 ∷ [], h1.1, h1.2, (refl, ap (is_token kinds.Colon) h1.3.0, refl), (c3.0, c3.1, c3.2, r.1, (alone h4.0 h4.1 c3.1 h4.2 h4.4, ap (is_token kinds.Semicolon) h4.3.0, refl))))), (λ i. record { docs = k i; id = w.2 i; ty = r.2 i }))

  pub interface_item_back : (depth : ℕ) (x : InterfaceItem) (ys : List Item) → walk_interface_item (has Spelled) (DocsHave Spelled) (walk_interface_item (bare S) doc_lines x) → Means P [] ys (interface_item_layout depth (walk_interface_item (bare S) doc_lines x)) → (u : InterfaceItem) × Derives interface_item ys u × (walk_interface_item (bare P) read_docs u ≡ walk_interface_item (bare S) doc_lines x)
  unfolding interface_item_layout
  interface_item_back depth (tree.InterfaceItem.use_statement x) ys is h = let r = use_back depth x ys is h in (tree.InterfaceItem.use_statement r.0, by_rule interface_item ys (inl r.0) r.1, ap tree.InterfaceItem.use_statement r.2)
  interface_item_back depth (tree.InterfaceItem.interface_export x) ys is h = let r = interface_export_back depth x ys is h in (tree.InterfaceItem.interface_export r.0, by_rule interface_item ys (inr (inl r.0)) r.1, ap tree.InterfaceItem.interface_export r.2)
  interface_item_back depth (tree.InterfaceItem.ty x) ys is h = let r = item_type_decl_back S P depth x ys is h in (tree.InterfaceItem.ty r.0, by_rule interface_item ys (inr (inr r.0)) r.1, ap tree.InterfaceItem.ty r.2)

  pub use_closed : (depth : ℕ) (x : Use) (ds : List (List ℕ)) → pending ds (use_layout depth (walk_use (bare S) doc_lines x)) ≡ []
  use_closed depth x ds =
      leaves_none (docs_layout depth (doc_lines x.docs)) _ (λ es. leaves_none (use_path_layout (walk_use_path (bare S) x.path)) _ (λ fs. ends_in fs (use_items_layout (map (walk_use_item (bare S)) x.items)) (codes ";")) []) ds

  interface_item_closed : (depth : ℕ) (x : InterfaceItem) (ds : List (List ℕ)) → pending ds (interface_item_layout depth (walk_interface_item (bare S) doc_lines x)) ≡ []
  unfolding interface_item_layout
  interface_item_closed depth (tree.InterfaceItem.use_statement x) ds = use_closed depth x ds
  interface_item_closed depth (tree.InterfaceItem.interface_export x) ds = leaves_none (docs_layout depth (doc_lines x.docs)) _ (λ es. ends_in [] (func_type_ref_layout (walk_func_type_ref (bare S) x.ty)) (codes ";")) ds
  interface_item_closed depth (tree.InterfaceItem.ty x) ds = item_type_decl_closed S P depth x ds

  pub interface_items_back : (depth inner : ℕ) (xs : List InterfaceItem) (ys : List Item) → AllByRecursion (walk_interface_item (has Spelled) (DocsHave Spelled)) (map (walk_interface_item (bare S) doc_lines) xs) → Means P [] ys (spaced (interface_item_layout inner) (map (walk_interface_item (bare S) doc_lines) xs) ++ close_body depth)
      → (q : List InterfaceItem × Item) × Derives interface_items ys q × (map (walk_interface_item (bare P) read_docs) q.0 ≡ map (walk_interface_item (bare S) doc_lines) xs)
  interface_items_back depth inner xs ys is h =
      spaced_back P (walk_interface_item (bare S) doc_lines) (walk_interface_item (bare P) read_docs) (walk_interface_item (has Spelled) (DocsHave Spelled)) (interface_item_layout inner) (Derives interface_item) (Derives interface_items) (λ q. q.0) (close_body depth) (interface_item_back inner)
      (λ ds zs m. (([], m.0), by_rule interface_items zs (inl m.0) (alone m.0 m.1 zs m.2 m.4, ap (is_token kinds.CloseBrace) m.3.0, refl), refl))
      (λ zs front rest u q e d m. ((u ∷ q.0, q.1), by_rule interface_items zs (inr (u, q)) (front, rest, e, d, m), refl))
      (interface_item_closed inner) xs ys is h

  pub interface_decl_back : (depth : ℕ) (x : InterfaceDecl) (ys : List Item) → walk_interface_decl (has Spelled) (DocsHave Spelled) (walk_interface_decl (bare S) doc_lines x) → Means P [] ys (interface_decl_layout depth (walk_interface_decl (bare S) doc_lines x)) → (u : InterfaceDecl) × Derives interface_decl ys u × (walk_interface_decl (bare P) read_docs u ≡ walk_interface_decl (bare S) doc_lines x)
  unfolding body
  interface_decl_back depth x ys is h0 =
      let h = documented S P depth x.docs ys _ h0 in
      let k = docs_back S P x.docs h.0 h.1 ys h.2 h.3.3 in
      let h1 = h.4 in
      let w = word_back S P x.id _ h1.0 is.1 h1.3 in
      let h2 = h1.4 in
      let q = interface_items_back depth (deeper depth) x.items h2.1 is.2 h2.4 in
      (build interface_decl (docs_of ys, (h.0, (w.0, (h2.0, q.0)))), by_rule interface_decl ys (docs_of ys, (h.0, (w.0, (h2.0, q.0)))) (refl, (h.0 ∷ [], h.1, h.2, (refl, ap (is_token kinds.InterfaceKeyword) h.3.0, refl), (h1.0 ∷ [], h1.1, h1.2, w.1, (h2.0 ∷ [], h2.1, h2.2, (refl, ap (is_token kinds.OpenBrace) h2.3.0, refl), q.1)))), (λ i. record { docs = k i; id = w.2 i; items = q.2 i }))

  pub interface_decl_closed : (depth : ℕ) (x : InterfaceDecl) (ds : List (List ℕ)) → pending ds (interface_decl_layout depth (walk_interface_decl (bare S) doc_lines x)) ≡ []
  interface_decl_closed depth x ds = leaves_none (docs_layout depth (doc_lines x.docs)) _ (λ es. body_closed interface_item_layout depth (map (walk_interface_item (bare S) doc_lines) x.items) []) ds

  pub inline_interface_back : (depth : ℕ) (x : InlineInterface) (ds : List (List ℕ)) (ys : List Item) → walk_inline_interface (has Spelled) (DocsHave Spelled) (walk_inline_interface (bare S) doc_lines x) → Means P ds ys (inline_interface_layout depth (walk_inline_interface (bare S) doc_lines x))
      → (u : InlineInterface) × Derives inline_interface ys u × (walk_inline_interface (bare P) read_docs u ≡ walk_inline_interface (bare S) doc_lines x)
  unfolding body
  inline_interface_back depth x ds ys is h =
      let h1 = h.4 in
      let q = interface_items_back depth (deeper depth) x.items h1.1 is h1.4 in (
        build inline_interface (h.0, (h1.0, q.0)),
        by_rule inline_interface ys (h.0, (h1.0, q.0)) (h.0 ∷ [], h.1, h.2, (refl, ap (is_token kinds.InterfaceKeyword) h.3.0, refl), (h1.0 ∷ [], h1.1, h1.2, (refl, ap (is_token kinds.OpenBrace) h1.3.0, refl), q.1)),
        (λ i. record { items = q.2 i }),
      )
