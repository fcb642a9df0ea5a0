-- The pieces of interfaces join.
use Rattle.wac_ast_grammar.specs.Walk.{walk_inline_interface, walk_interface_decl, walk_interface_export, walk_interface_item, walk_use, walk_use_item, walk_use_path}
use Rattle.wac_printer_layout.proofs.Common.{◌≡◌, ℕ, Bool, true, false, List, [], ◌∷◌, ◌++◌, refl, Option, Some, None, codes, AllByRecursion, follows, Ident, UsePath, UseItem, Use, InterfaceExport, InterfaceItem, InterfaceDecl, InlineInterface, IfThere}
use Rattle.wac_lexer.specs.declared.token.Token.TheVariants as kinds
use Rattle.wac_ast_grammar.specs.Tree as tree
use Rattle.wac_printer_layout.specs.Printed.{token, text, fresh_after_token}
use Rattle.wac_printer_layout.specs.Parts.{joined}
use Rattle.wac_printer_layout.specs.Texts.{Spelled, IdentHas, DocsHave, has}
use Rattle.wac_printer_layout.specs.TypeLayout.{func_type_ref_layout}
use Rattle.wac_printer_layout.specs.InterfaceLayout.{use_path_layout, as_layout, use_item_layout, use_items_layout, use_layout, interface_export_layout, interface_item_layout, interface_decl_layout, inline_interface_layout}
use Rattle.wac_printer_layout.proofs.Joints.{J, also, documented, known, word, path, colon, semicolon, open_brace, close_brace, joined_join, body_follow, body_join}
use Rattle.wac_printer_layout.proofs.TypesJoin.{func_type_ref_join}
use Rattle.wac_printer_layout.proofs.DeclarationsJoin.{item_type_decl_join}

module _ (gap : List ℕ) where
  use_path_join : (x : UsePath) (rest : List ℕ) (fresh : Bool) → walk_use_path (has Spelled) x → follows kinds.Ident rest ≡ true → follows kinds.PackagePath rest ≡ true → J gap rest fresh (use_path_layout x)
  use_path_join (tree.UsePath.path x) rest fresh is h k = (path _ _ is.0.0 k, tt)
  use_path_join (tree.UsePath.ident x) rest fresh is h k = (word _ _ is h, tt)

  as_follows : (x : Option Ident) (rest : List ℕ) (fresh : Bool) → follows kinds.Ident rest ≡ true → follows kinds.Ident (text gap fresh (as_layout x) ++ rest) ≡ true
  as_follows None rest fresh h = h
  as_follows (Some x) rest fresh h = refl

  as_join : (x : Option Ident) (rest : List ℕ) (fresh : Bool) → IfThere (IdentHas Spelled) x → follows kinds.Ident rest ≡ true → J gap rest fresh (as_layout x)
  as_join None rest fresh is h = tt
  as_join (Some x) rest fresh is h = ((refl, tt), (known _ refl _ refl, ((refl, tt), (word _ _ is h, tt))))

  pub use_item_join : (x : UseItem) (rest : List ℕ) (fresh : Bool) → walk_use_item (has Spelled) x → follows kinds.Ident rest ≡ true → J gap rest fresh (use_item_layout x)
  use_item_join x rest fresh is h = (word _ _ is.0 (as_follows x.as_id rest _ h), as_join x.as_id rest _ is.1 h)

  use_items_join : (items : List UseItem) (rest : List ℕ) (fresh : Bool) → AllByRecursion (walk_use_item (has Spelled)) items → J gap rest fresh (use_items_layout items)
  use_items_join items rest fresh is =
      (known _ refl _ refl, (open_brace _, ((refl, tt), also gap _ _ (joined use_item_layout items) _ (joined_join gap use_item_layout (walk_use_item (has Spelled)) use_item_join items _ _ is refl) ((refl, tt), (close_brace _, tt)))))

  pub use_join : (depth : ℕ) (x : Use) (rest : List ℕ) (fresh : Bool) → walk_use (has Spelled) (DocsHave Spelled) x → J gap rest fresh (use_layout depth x)
  use_join depth x rest fresh is =
      documented gap depth x.docs _ rest fresh is.0 (λ later. (
        tt,
        (
          known _ refl _ refl,
          (
            (refl, tt),
            also gap _ _ (use_path_layout x.path) _ (use_path_join x.path _ _ is.1 refl refl) (after (fresh_after_token gap false (use_path_layout x.path))),
          ),
        ),
      ))
    where
      after : (later : Bool) → J gap rest later (use_items_layout x.items ++ token (codes ";") ∷ [])
      after later = also gap rest later (use_items_layout x.items) (token (codes ";") ∷ []) (use_items_join x.items _ later is.2) (semicolon _, tt)

  interface_export_join : (depth : ℕ) (x : InterfaceExport) (rest : List ℕ) (fresh : Bool) → walk_interface_export (has Spelled) (DocsHave Spelled) x → J gap rest fresh (interface_export_layout depth x)
  interface_export_join depth x rest fresh is =
      documented gap depth x.docs _ rest fresh is.0 (λ later. (
        tt,
        (
          word _ _ is.1 refl,
          (
            colon _,
            (
              (refl, tt),
              also gap _ _ (func_type_ref_layout x.ty) _ (func_type_ref_join gap x.ty _ _ is.2 refl) (semicolon _, tt),
            ),
          ),
        ),
      ))

  pub interface_item_join : (depth : ℕ) (x : InterfaceItem) (rest : List ℕ) (fresh : Bool) → walk_interface_item (has Spelled) (DocsHave Spelled) x → J gap rest fresh (interface_item_layout depth x)
  unfolding interface_item_layout
  interface_item_join depth (tree.InterfaceItem.use_statement x) rest fresh is = use_join depth x rest fresh is
  interface_item_join depth (tree.InterfaceItem.interface_export x) rest fresh is = interface_export_join depth x rest fresh is
  interface_item_join depth (tree.InterfaceItem.ty x) rest fresh is = item_type_decl_join gap depth x rest fresh is

  pub interface_decl_join : (depth : ℕ) (x : InterfaceDecl) (rest : List ℕ) (fresh : Bool) → walk_interface_decl (has Spelled) (DocsHave Spelled) x → J gap rest fresh (interface_decl_layout depth x)
  interface_decl_join depth x rest fresh is =
      documented gap depth x.docs _ rest fresh is.0 (λ later. (
        tt,
        (
          known _ refl _ refl,
          (
            (refl, tt),
            (
              word _ _ is.1 (body_follow gap interface_item_layout depth x.items _ _),
              body_join gap interface_item_layout (walk_interface_item (has Spelled) (DocsHave Spelled)) interface_item_join depth x.items rest _ is.2,
            ),
          ),
        ),
      ))

  pub inline_interface_join : (depth : ℕ) (x : InlineInterface) (rest : List ℕ) (fresh : Bool) → walk_inline_interface (has Spelled) (DocsHave Spelled) x → J gap rest fresh (inline_interface_layout depth x)
  inline_interface_join depth x rest fresh is =
      (known _ refl _ (body_follow gap interface_item_layout depth x.items _ _), body_join gap interface_item_layout (walk_interface_item (has Spelled) (DocsHave Spelled)) interface_item_join depth x.items rest _ is)
