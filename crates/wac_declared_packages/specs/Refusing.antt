-- Documents that declare no package, and errors for which a declaration makes none.
use Rattle.std.specs.Prelude.{◌≡◌, ◌⊎◌, List, [], ◌∷◌, Option, Some, None, alloc_error, option_map}
use Rattle.wac_lexer.specs.Span.{Span}
use Rattle.wac_ast_grammar.specs.Tree.{Document, Expr, Statement}
use Rattle.wac_graph_types.specs.declared.package.PackageError.{PackageError}
use Rattle.wac_resolution_errors.specs.declared.error.Error.{Error as ResolutionError}
use Rattle.wac_declared_packages.specs.declared.error.DeclarationError.{DeclarationError}
use Rattle.wac_declared_packages.specs.declared.error.DeclarationError.TheVariants as errors

abbrev pub place_of : Expr → Span
place_of (Expr.expr span first rest) = span

-- where a statement is that is no type statement
abbrev pub other_place : Statement → Option Span
other_place (Statement.import_statement x) = Some x.id.span
other_place (Statement.let_statement x) = Some x.id.span
other_place (Statement.export_statement x) = Some (place_of x.expr)
other_place (Statement.type_statement x) = None

-- where the first of these is
abbrev pub first_other : List Statement → Option Span
first_other [] = None
first_other (s ∷ ss) = elim (other_place s) [ None ↦ first_other ss | Some place ↦ Some place ]

-- where the target's path is
abbrev pub target_place : Document → Option Span
target_place d = option_map (λ path. path.span) d.directive.targets

-- it has no target, and type statements alone
pub record IsDeclaration (d : Document) : Type 0 where
  pub no_target : target_place d ≡ None
  pub types : first_other d.statements ≡ None

-- the error names the target, or else the first statement of another sort, with the place
abbrev pub Unfit : Document → DeclarationError → Type 0
Unfit d e = ((place : Span) × (e ≡ errors.Targets place) × (target_place d ≡ Some place))
    ⊎ ((place : Span) × (e ≡ errors.OtherStatement place) × (target_place d ≡ None)
    × (first_other d.statements ≡ Some place))

-- ---- errors for which a declaration makes no package

-- memory ran out
abbrev pub IsMemory : DeclarationError → Type 0
IsMemory e = e ≡ errors.Memory alloc_error

-- the document is no declaration, as the error says; or it is one, and memory ran out
abbrev pub IsUnread : Document → DeclarationError → Type 0
IsUnread d e = Unfit d e ⊎ (IsDeclaration d × IsMemory e)

-- it is this error of resolving, or memory ran out
abbrev pub IsOfResolving : ResolutionError → DeclarationError → Type 0
IsOfResolving cause e = (e ≡ errors.Resolution cause) ⊎ IsMemory e

-- the parts make no package, or memory ran out
abbrev pub IsOfParts : DeclarationError → Type 0
IsOfParts e = ((cause : PackageError) × (e ≡ errors.Parts cause)) ⊎ IsMemory e

-- there is no world of the name, or the parts make no package, or memory ran out
abbrev pub IsUnmade : Span → DeclarationError → Type 0
IsUnmade place e = (e ≡ errors.NoSuchWorld place) ⊎ IsOfParts e
