-- What is found of a text.
use Rattle.std.specs.Prelude.{◌≡◌, ◌≢◌, List, ℕ, ◌⊎◌, Bool, true, false, Some, None, alloc_error}
use Rattle.wac_lexer.specs.Span.{Span}
use Rattle.wac_ast_grammar.specs.Tree.{Document as Tree}
use Rattle.wac_ast_grammar.specs.TextTree.{IsTreeOf}
use Rattle.wac_ast.specs.Document.{ErrorOf}
use Rattle.wac_ast_base.specs.Error.{Told, no_memory}
use Rattle.wac_comments_layout.specs.Nesting.{too_deep}
use Rattle.wac_resolution_errors.specs.ErrorModel.{error_model}
use Rattle.wac_resolution_errors.specs.declared.error.Error.{Error}
use Rattle.wac_resolution_errors.specs.declared.error.Error.TheVariants as errors
use Rattle.wac_first_error.specs.Mentioned.{mentions_foreign}
use Rattle.wac_tool_graphs.specs.Alone.{IsComposition}
use Rattle.wac_diagnostics.specs.declared.diagnostic.Diagnostic.{Diagnostic}
use Rattle.wac_first_error.specs.Diagnostics.{IsOfParsing, IsOfResolving}
use Rattle.wac_first_error.specs.Reading.{SaysTooDeep}
use Rattle.wac_first_error.specs.Rules.{IsOfRule}
use Rattle.wac_first_error.specs.declared.finding.Finding.{Finding}
use Rattle.wac_first_error.specs.declared.finding.Finding.TheVariants as findings

-- the text is a document that isn't nested too deeply, and this holds of its tree
abbrev pub IsDocumentWith : List ℕ → (Tree → Type 0) → Type 0
IsDocumentWith text Holds = (too_deep text ≡ None) × ((tree : Tree) × IsTreeOf text tree × Holds tree)

-- brackets of the text are nested too deeply, and the diagnostic is that of the first one
abbrev pub IsOfDepth : List ℕ → Diagnostic → Type 0
IsOfDepth text d = (at : Span) × (too_deep text ≡ Some at) × SaysTooDeep at d

-- the text is no document, and the diagnostic is that of its error
abbrev pub IsOfNoDocument : List ℕ → Diagnostic → Type 0
IsOfNoDocument text d = ((tree : Tree) → ¬ (IsTreeOf text tree)) × ((e : Told) × ErrorOf e text × IsOfParsing e d)

-- what is found is this error of depth
abbrev pub IsDepth : Span → Finding → Type 0
IsDepth at findings.Document = ⊥
IsDepth at findings.Unresolved = ⊥
IsDepth at (findings.Rejected d) = SaysTooDeep at d

-- what is found is this error of parsing
abbrev pub IsFault : Told → Finding → Type 0
IsFault e findings.Document = ⊥
IsFault e findings.Unresolved = ⊥
IsFault e (findings.Rejected d) = (e ≢ no_memory) × IsOfParsing e d

-- ---- what a document is found to be, where it is to be resolved or not

-- where it is, it mentions no foreign package, and describes a composition
abbrev pub IsAccepted : Bool → Tree → Type 0
IsAccepted resolve tree = resolve ≡ true → (mentions_foreign tree ≡ false) × IsComposition tree

-- it is, and it mentions a foreign package
abbrev pub IsLeft : Bool → Tree → Type 0
IsLeft resolve tree = (resolve ≡ true) × (mentions_foreign tree ≡ true)

-- it is, mentions no foreign package, and breaks a rule: the diagnostic is that of the first
abbrev pub IsBroken : Bool → Diagnostic → Tree → Type 0
IsBroken resolve d tree = (resolve ≡ true) × (mentions_foreign tree ≡ false) × IsOfRule tree d

abbrev pub IsResolved : Tree → Bool → Finding → Type 0
IsResolved tree resolve findings.Document = IsAccepted resolve tree
IsResolved tree resolve findings.Unresolved = IsLeft resolve tree
IsResolved tree resolve (findings.Rejected d) = IsBroken resolve d tree

-- what is found is this error of resolving
abbrev pub IsRule : Error → Finding → Type 0
IsRule e findings.Document = ⊥
IsRule e findings.Unresolved = ⊥
IsRule e (findings.Rejected d) = (e ≢ errors.Memory alloc_error) × IsOfResolving (error_model e) d

-- ---- what a text is found to be

-- the diagnostic is that of a text: of depth, of parsing, or of resolving where that is asked for
abbrev pub IsOfText : List ℕ → Bool → Diagnostic → Type 0
IsOfText text resolve d = IsOfDepth text d ⊎ (IsOfNoDocument text d ⊎ IsDocumentWith text (λ tree. IsBroken resolve d tree))

abbrev pub IsFinding : List ℕ → Bool → Finding → Type 0
IsFinding text resolve findings.Document = IsDocumentWith text (λ tree. IsAccepted resolve tree)
IsFinding text resolve findings.Unresolved = IsDocumentWith text (λ tree. IsLeft resolve tree)
IsFinding text resolve (findings.Rejected d) = IsOfText text resolve d
