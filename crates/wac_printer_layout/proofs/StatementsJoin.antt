-- The pieces of statements and of documents join.
use Rattle.wac_ast_grammar.specs.Walk.{walk_export_options, walk_export_statement, walk_extern_name, walk_import_statement, walk_import_type, walk_let_statement, walk_package_directive, walk_statement, walk_type_statement}
use Rattle.wac_printer_layout.proofs.Common.{◌≡◌, ℕ, Bool, true, List, [], ◌∷◌, ◌++◌, refl, Option, Some, None, codes, follows, ExternName, PackagePath, ImportType, ImportStatement, LetStatement, ExportOptions, ExportStatement, TypeStatement, Statement, PackageDirective, Document, IfThere}
use Rattle.wac_lexer.specs.declared.token.Token.TheVariants as kinds
use Rattle.wac_ast_grammar.specs.Tree as tree
use Rattle.wac_printer_layout.specs.Printed.{Piece, token, text}
use Rattle.wac_printer_layout.specs.Parts.{space, spaced}
use Rattle.wac_printer_layout.specs.Texts.{Spelled, PackagePathHas, DocumentHas, DocsHave, has}
use Rattle.wac_printer_layout.specs.ExpressionLayout.{expr_layout}
use Rattle.wac_printer_layout.specs.StatementLayout.{import_type_layout, renamed_layout, import_name_layout, import_statement_layout, let_statement_layout, export_options_layout, export_statement_layout, type_statement_layout, statement_layout, targets_layout, directive_layout, document_layout}
use Rattle.wac_printer_layout.proofs.Joints.{J, also, documented, known, word, path, name, colon, equals, semicolon, ellipsis, spaced_join}
use Rattle.wac_printer_layout.proofs.TypesJoin.{extern_name_join, func_type_join}
use Rattle.wac_printer_layout.proofs.DeclarationsJoin.{type_decl_join}
use Rattle.wac_printer_layout.proofs.InterfacesJoin.{interface_decl_join, inline_interface_join}
use Rattle.wac_printer_layout.proofs.WorldsJoin.{world_decl_join}
use Rattle.wac_printer_layout.proofs.ExpressionsJoin.{expr_join}

module _ (gap : List ℕ) where
  import_type_join : (depth : ℕ) (x : ImportType) (rest : List ℕ) (fresh : Bool) → walk_import_type (has Spelled) (DocsHave Spelled) x → follows kinds.Ident rest ≡ true → follows kinds.PackagePath rest ≡ true → J gap rest fresh (import_type_layout depth x)
  unfolding import_type_layout
  import_type_join depth (tree.ImportType.func x) rest fresh is h k = func_type_join gap x rest fresh is h
  import_type_join depth (tree.ImportType.interface x) rest fresh is h k = inline_interface_join gap depth x rest fresh is
  import_type_join depth (tree.ImportType.path x) rest fresh is h k = (path _ _ is.0.0 k, tt)
  import_type_join depth (tree.ImportType.ident x) rest fresh is h k = (word _ _ is h, tt)

  renamed_join : (x : ExternName) (rest : List ℕ) (fresh : Bool) → walk_extern_name (has Spelled) x → follows kinds.Ident rest ≡ true → J gap rest fresh (renamed_layout x)
  renamed_join x rest fresh is h = ((refl, tt), (known _ refl _ refl, ((refl, tt), extern_name_join gap x rest _ is h)))

  import_name_follows : (x : Option ExternName) (more : List Piece) (rest : List ℕ) (fresh : Bool) → follows kinds.Ident (text gap fresh (import_name_layout x ++ token (codes ":") ∷ space ∷ more) ++ rest) ≡ true
  import_name_follows None more rest fresh = refl
  import_name_follows (Some x) more rest fresh = refl

  import_name_join : (x : Option ExternName) (rest : List ℕ) (fresh : Bool) → IfThere (walk_extern_name (has Spelled)) x → follows kinds.Ident rest ≡ true → J gap rest fresh (import_name_layout x)
  import_name_join None rest fresh is h = tt
  import_name_join (Some x) rest fresh is h = renamed_join x rest fresh is h

  import_join : (depth : ℕ) (x : ImportStatement) (rest : List ℕ) (fresh : Bool) → walk_import_statement (has Spelled) (DocsHave Spelled) x → J gap rest fresh (import_statement_layout depth x)
  import_join depth x rest fresh is =
      documented gap depth x.docs _ rest fresh is.0 (λ later. (
        tt,
        (
          known _ refl _ refl,
          (
            (refl, tt),
            (
              word _ _ is.1 (import_name_follows x.name _ _ _),
              also gap _ _ (import_name_layout x.name) _ (import_name_join x.name _ _ is.2 refl)
                  (colon _, ((refl, tt), also gap _ _ (import_type_layout depth x.ty) _ (import_type_join depth x.ty _ _ is.3 refl refl) (semicolon _, tt))),
            ),
          ),
        ),
      ))

  let_join : (depth : ℕ) (x : LetStatement) (rest : List ℕ) (fresh : Bool) → walk_let_statement (has Spelled) (DocsHave Spelled) x → J gap rest fresh (let_statement_layout depth x)
  let_join depth x rest fresh is =
      documented gap depth x.docs _ rest fresh is.0 (λ later. (
        tt,
        (
          known _ refl _ refl,
          (
            (refl, tt),
            (
              word _ _ is.1 refl,
              (
                (refl, tt),
                (
                  equals _,
                  (
                    (refl, tt),
                    also gap _ _ (expr_layout depth x.expr) _ (expr_join gap depth x.expr _ _ is.2 refl) (semicolon _, tt),
                  ),
                ),
              ),
            ),
          ),
        ),
      ))

  options_follow : (x : ExportOptions) (rest : List ℕ) (fresh : Bool) → follows kinds.Ident (text gap fresh (export_options_layout x ++ token (codes ";") ∷ []) ++ rest) ≡ true
  options_follow (tree.ExportOptions.spread s) rest fresh = refl
  options_follow (tree.ExportOptions.rename x) rest fresh = refl
  options_follow tree.ExportOptions.none rest fresh = refl

  options_join : (x : ExportOptions) (rest : List ℕ) (fresh : Bool) → walk_export_options (has Spelled) x → follows kinds.Ident rest ≡ true → J gap rest fresh (export_options_layout x)
  options_join (tree.ExportOptions.spread s) rest fresh is h = (ellipsis _, tt)
  options_join (tree.ExportOptions.rename x) rest fresh is h = renamed_join x rest fresh is h
  options_join tree.ExportOptions.none rest fresh is h = tt

  export_join : (depth : ℕ) (x : ExportStatement) (rest : List ℕ) (fresh : Bool) → walk_export_statement (has Spelled) (DocsHave Spelled) x → J gap rest fresh (export_statement_layout depth x)
  export_join depth x rest fresh is =
      documented gap depth x.docs _ rest fresh is.0 (λ later. (
        tt,
        (
          known _ refl _ refl,
          (
            (refl, tt),
            also gap _ _ (expr_layout depth x.expr) _ (expr_join gap depth x.expr _ _ is.1 (options_follow x.options _ _))
                (also gap _ _ (export_options_layout x.options) _ (options_join x.options _ _ is.2 refl) (semicolon _, tt)),
          ),
        ),
      ))

  type_statement_join : (depth : ℕ) (x : TypeStatement) (rest : List ℕ) (fresh : Bool) → walk_type_statement (has Spelled) (DocsHave Spelled) x → J gap rest fresh (type_statement_layout depth x)
  unfolding type_statement_layout
  type_statement_join depth (tree.TypeStatement.interface x) rest fresh is = interface_decl_join gap depth x rest fresh is
  type_statement_join depth (tree.TypeStatement.world x) rest fresh is = world_decl_join gap depth x rest fresh is
  type_statement_join depth (tree.TypeStatement.ty x) rest fresh is = type_decl_join gap depth x rest fresh is

  pub statement_join : (depth : ℕ) (x : Statement) (rest : List ℕ) (fresh : Bool) → walk_statement (has Spelled) (DocsHave Spelled) x → J gap rest fresh (statement_layout depth x)
  unfolding statement_layout
  statement_join depth (tree.Statement.import_statement x) rest fresh is = import_join depth x rest fresh is
  statement_join depth (tree.Statement.let_statement x) rest fresh is = let_join depth x rest fresh is
  statement_join depth (tree.Statement.export_statement x) rest fresh is = export_join depth x rest fresh is
  statement_join depth (tree.Statement.type_statement x) rest fresh is = type_statement_join depth x rest fresh is

  targets_follow : (x : Option PackagePath) (more : List Piece) (rest : List ℕ) (fresh : Bool) → follows kinds.PackageName (text gap fresh (targets_layout x ++ token (codes ";") ∷ more) ++ rest) ≡ true
  targets_follow None more rest fresh = refl
  targets_follow (Some x) more rest fresh = refl

  targets_join : (x : Option PackagePath) (rest : List ℕ) (fresh : Bool) → IfThere (PackagePathHas Spelled) x → follows kinds.PackagePath rest ≡ true → J gap rest fresh (targets_layout x)
  targets_join None rest fresh is k = tt
  targets_join (Some x) rest fresh is k = ((refl, tt), (known _ refl _ refl, ((refl, tt), (path _ _ is.0.0 k, tt))))

  directive_join : (depth : ℕ) (x : PackageDirective) (rest : List ℕ) (fresh : Bool) → walk_package_directive (has Spelled) x → J gap rest fresh (directive_layout depth x)
  directive_join depth x rest fresh is = (
    tt,
    (
      known _ refl _ refl,
      (
        (refl, tt),
        (
          name _ _ is.0.0.0 (targets_follow x.targets _ _ _),
          also gap _ _ (targets_layout x.targets) _ (targets_join x.targets _ _ is.1 refl) (semicolon _, ((refl, tt), ((refl, tt), tt))),
        ),
      ),
    ),
  )

  pub document_join : (depth : ℕ) (x : Document) (rest : List ℕ) (fresh : Bool) → DocumentHas Spelled x → J gap rest fresh (document_layout depth x)
  document_join depth x rest fresh is =
      documented gap depth x.docs _ rest fresh is.0 (λ later. also gap rest later (directive_layout depth x.directive) (spaced (statement_layout depth) x.statements) (directive_join depth x.directive _ later is.1)
      (spaced_join gap (statement_layout depth) (walk_statement (has Spelled) (DocsHave Spelled)) (statement_join depth) x.statements rest _ is.2))
