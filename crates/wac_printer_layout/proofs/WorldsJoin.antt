-- The pieces of worlds join.
use Rattle.wac_ast_grammar.specs.Walk.{walk_extern_type, walk_named_world_item, walk_world_decl, walk_world_export, walk_world_import, walk_world_include, walk_world_include_item, walk_world_item, walk_world_item_path, walk_world_ref}
use Rattle.wac_printer_layout.proofs.Common.{◌≡◌, ℕ, Bool, true, List, [], ◌∷◌, ◌++◌, refl, codes, AllByRecursion, follows, Ident, ExternType, NamedWorldItem, WorldItemPath, WorldImport, WorldExport, WorldRef, WorldIncludeItem, WorldInclude, WorldItem, WorldDecl}
use Rattle.wac_lexer.specs.declared.token.Token.TheVariants as kinds
use Rattle.wac_ast_grammar.specs.Tree as tree
use Rattle.wac_printer_layout.specs.Printed.{token, text}
use Rattle.wac_printer_layout.specs.Texts.{Spelled, DocsHave, has}
use Rattle.wac_printer_layout.specs.WorldLayout.{extern_type_layout, named_world_item_layout, world_item_path_layout, world_import_layout, world_export_layout, world_ref_layout, world_include_item_layout, with_layout, world_include_layout, world_item_layout, world_decl_layout}
use Rattle.wac_printer_layout.proofs.Joints.{J, also, documented, known, word, path, colon, semicolon, rows_follow, body_follow, rows_join, body_join}
use Rattle.wac_printer_layout.proofs.TypesJoin.{func_type_join}
use Rattle.wac_printer_layout.proofs.DeclarationsJoin.{item_type_decl_join}
use Rattle.wac_printer_layout.proofs.InterfacesJoin.{use_join, inline_interface_join}

module _ (gap : List ℕ) where
  extern_type_join : (depth : ℕ) (x : ExternType) (rest : List ℕ) (fresh : Bool) → walk_extern_type (has Spelled) (DocsHave Spelled) x → follows kinds.Ident rest ≡ true → J gap rest fresh (extern_type_layout depth x)
  unfolding extern_type_layout
  extern_type_join depth (tree.ExternType.ident x) rest fresh is h = (word _ _ is h, tt)
  extern_type_join depth (tree.ExternType.func x) rest fresh is h = func_type_join gap x rest fresh is h
  extern_type_join depth (tree.ExternType.interface x) rest fresh is h = inline_interface_join gap depth x rest fresh is

  named_world_item_join : (depth : ℕ) (x : NamedWorldItem) (rest : List ℕ) (fresh : Bool) → walk_named_world_item (has Spelled) (DocsHave Spelled) x → follows kinds.Ident rest ≡ true → J gap rest fresh (named_world_item_layout depth x)
  named_world_item_join depth x rest fresh is h = (word _ _ is.0 refl, (colon _, ((refl, tt), extern_type_join depth x.ty rest _ is.1 h)))

  world_item_path_join : (depth : ℕ) (x : WorldItemPath) (rest : List ℕ) (fresh : Bool) → walk_world_item_path (has Spelled) (DocsHave Spelled) x → follows kinds.Ident rest ≡ true → follows kinds.PackagePath rest ≡ true
      → J gap rest fresh (world_item_path_layout depth x)
  unfolding world_item_path_layout
  world_item_path_join depth (tree.WorldItemPath.path x) rest fresh is h k = (path _ _ is.0.0 k, tt)
  world_item_path_join depth (tree.WorldItemPath.named x) rest fresh is h k = named_world_item_join depth x rest fresh is h
  world_item_path_join depth (tree.WorldItemPath.ident x) rest fresh is h k = (word _ _ is h, tt)

  world_import_join : (depth : ℕ) (x : WorldImport) (rest : List ℕ) (fresh : Bool) → walk_world_import (has Spelled) (DocsHave Spelled) x → J gap rest fresh (world_import_layout depth x)
  world_import_join depth x rest fresh is =
      documented gap depth x.docs _ rest fresh is.0 (λ later. (
        tt,
        (
          known _ refl _ refl,
          (
            (refl, tt),
            also gap _ _ (world_item_path_layout depth x.path) _ (world_item_path_join depth x.path _ _ is.1 refl refl) (semicolon _, tt),
          ),
        ),
      ))

  world_export_join : (depth : ℕ) (x : WorldExport) (rest : List ℕ) (fresh : Bool) → walk_world_export (has Spelled) (DocsHave Spelled) x → J gap rest fresh (world_export_layout depth x)
  world_export_join depth x rest fresh is =
      documented gap depth x.docs _ rest fresh is.0 (λ later. (
        tt,
        (
          known _ refl _ refl,
          (
            (refl, tt),
            also gap _ _ (world_item_path_layout depth x.path) _ (world_item_path_join depth x.path _ _ is.1 refl refl) (semicolon _, tt),
          ),
        ),
      ))

  world_ref_join : (x : WorldRef) (rest : List ℕ) (fresh : Bool) → walk_world_ref (has Spelled) x → follows kinds.Ident rest ≡ true → follows kinds.PackagePath rest ≡ true → J gap rest fresh (world_ref_layout x)
  world_ref_join (tree.WorldRef.path x) rest fresh is h k = (path _ _ is.0.0 k, tt)
  world_ref_join (tree.WorldRef.ident x) rest fresh is h k = (word _ _ is h, tt)

  pub world_include_item_join : (depth : ℕ) (x : WorldIncludeItem) (rest : List ℕ) (fresh : Bool) → walk_world_include_item (has Spelled) x → follows kinds.Ident rest ≡ true → J gap rest fresh (world_include_item_layout depth x)
  world_include_item_join depth x rest fresh is h = (tt, (word _ _ is.0 refl, ((refl, tt), (known _ refl _ refl, ((refl, tt), (word _ _ is.1 h, tt))))))

  with_follows : (depth : ℕ) (xs : List WorldIncludeItem) (rest : List ℕ) (fresh : Bool) → follows kinds.Ident (text gap fresh (with_layout depth xs ++ token (codes ";") ∷ []) ++ rest) ≡ true
  with_follows depth [] rest fresh = refl
  with_follows depth (x ∷ xs) rest fresh = refl

  with_follows_path : (depth : ℕ) (xs : List WorldIncludeItem) (rest : List ℕ) (fresh : Bool) → follows kinds.PackagePath (text gap fresh (with_layout depth xs ++ token (codes ";") ∷ []) ++ rest) ≡ true
  with_follows_path depth [] rest fresh = refl
  with_follows_path depth (x ∷ xs) rest fresh = refl

  with_join : (depth : ℕ) (xs : List WorldIncludeItem) (rest : List ℕ) (fresh : Bool) → AllByRecursion (walk_world_include_item (has Spelled)) xs → J gap rest fresh (with_layout depth xs)
  with_join depth [] rest fresh is = tt
  with_join depth (x ∷ xs) rest fresh is = (
    (refl, tt),
    (
      known _ refl _ (rows_follow gap world_include_item_layout depth (x ∷ xs) _ _),
      rows_join gap world_include_item_layout (walk_world_include_item (has Spelled)) world_include_item_join depth (x ∷ xs) rest _ is,
    ),
  )

  world_include_join : (depth : ℕ) (x : WorldInclude) (rest : List ℕ) (fresh : Bool) → walk_world_include (has Spelled) (DocsHave Spelled) x → J gap rest fresh (world_include_layout depth x)
  world_include_join depth x rest fresh is =
      documented gap depth x.docs _ rest fresh is.0 (λ later. (
        tt,
        (
          known _ refl _ refl,
          (
            (refl, tt),
            also gap _ _ (world_ref_layout x.world) _ (world_ref_join x.world _ _ is.1 (with_follows depth x.items rest _) (with_follows_path depth x.items rest _))
                (also gap _ _ (with_layout depth x.items) _ (with_join depth x.items _ _ is.2) (semicolon _, tt)),
          ),
        ),
      ))

  world_item_join : (depth : ℕ) (x : WorldItem) (rest : List ℕ) (fresh : Bool) → walk_world_item (has Spelled) (DocsHave Spelled) x → J gap rest fresh (world_item_layout depth x)
  unfolding world_item_layout
  world_item_join depth (tree.WorldItem.use_statement x) rest fresh is = use_join gap depth x rest fresh is
  world_item_join depth (tree.WorldItem.world_import x) rest fresh is = world_import_join depth x rest fresh is
  world_item_join depth (tree.WorldItem.world_export x) rest fresh is = world_export_join depth x rest fresh is
  world_item_join depth (tree.WorldItem.world_include x) rest fresh is = world_include_join depth x rest fresh is
  world_item_join depth (tree.WorldItem.ty x) rest fresh is = item_type_decl_join gap depth x rest fresh is

  pub world_decl_join : (depth : ℕ) (x : WorldDecl) (rest : List ℕ) (fresh : Bool) → walk_world_decl (has Spelled) (DocsHave Spelled) x → J gap rest fresh (world_decl_layout depth x)
  world_decl_join depth x rest fresh is =
      documented gap depth x.docs _ rest fresh is.0 (λ later. (
        tt,
        (
          known _ refl _ refl,
          (
            (refl, tt),
            (
              word _ _ is.1 (body_follow gap world_item_layout depth x.items _ _),
              body_join gap world_item_layout (walk_world_item (has Spelled) (DocsHave Spelled)) world_item_join depth x.items rest _ is.2,
            ),
          ),
        ),
      ))
