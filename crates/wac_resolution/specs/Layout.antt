-- Layout carries no meaning: what is returned for a document is right for each document with the same bare tree.
use Rattle.std.specs.Prelude.{◌≡◌, ℕ, List, Result, Ok, Err}
use Rattle.wac_ast_grammar.specs.Spelled.{DocumentSpelled}
use Rattle.wac_ast_grammar.specs.Tree.{Document}
use Rattle.wac_graph_types.specs.Scope.{Named}
use Rattle.wac_printer_layout.specs.Bare.{Keep, bare_document}
use Rattle.wac_resolution_errors.specs.Error.{Error, memory}
use Rattle.wac_resolution_rules.specs.Composition.{Composition}
use Rattle.wac_resolution_rules.specs.Given.{Given}
use Rattle.wac_resolution_rules.specs.ResolvedDocument.{GraphClause, OnlyClause}
use Rattle.wac_resolution.specs.Resolved.{Call, Promised}

-- two documents, each spelled in a text, have equal bare trees: they differ in blanks, comments, docs and places alone
pub record SameBareTree (document other : Document) : Type 0 where
  pub source : List ℕ
  pub spelled : DocumentSpelled source document
  pub text : List ℕ
  pub other_spelled : DocumentSpelled text other
  pub keep : Keep
  pub other_keep : Keep
  pub bare : bare_document keep source document ≡ bare_document other_keep text other

-- what is returned is described, and what is described is returned, unless memory ran out: after any other error
-- nothing is described
abbrev pub DescribedClause : Given → Document → Result Composition Error → Type 0
DescribedClause s doc r = GraphClause s doc r × OnlyClause s doc r

-- what the call returns is equally right for each document with the same bare tree
abbrev pub IgnoresLayout : Call → Type 0
IgnoresLayout c = (declared : Named ℕ)
    × ((other : Document) → SameBareTree c.document other
    → Promised DescribedClause (record c { document = other }) declared)

-- two compositions that are the same, or two errors, unless memory ran out
abbrev pub ReturnedAlike : Result Composition Error → Result Composition Error → Type 0
ReturnedAlike (Ok c) (Ok d) = c ≡ d
ReturnedAlike (Ok c) (Err e) = e ≡ memory
ReturnedAlike (Err e) (Ok d) = e ≡ memory
ReturnedAlike (Err e) (Err f) = Unit {0}
