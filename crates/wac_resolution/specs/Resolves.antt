-- What resolving a document with packages and by rules promises of what it returns.
use Rattle.std.specs.Prelude.{◌≡◌, IfOk, List, Result}
use Rattle.wac_graph_types.specs.Package.{PackageParts}
use Rattle.wac_ast.specs.Statements.{document_of}
use Rattle.wac_ast.specs.declared.document.Document.{Document as CodeDocument}
use Rattle.wac_ast_grammar.specs.Tree.{Document}
use Rattle.wac_graph.specs.declared.package_key.PackageKey.{PackageKey}
use Rattle.wac_resolution_errors.specs.declared.error.Error.{Error}
use Rattle.wac_resolution_rules.specs.Given.{Rules}
use Rattle.wac_resolution_rules.specs.Mentions.{Mention, kept, mentions}
use Rattle.wac_resolution.specs.Packages.{AreFirst, OnlyTheseMatter}
use Rattle.wac_resolution.specs.Layout.{IgnoresLayout}
use Rattle.wac_resolution.specs.Resolved.{Resolved, by_key, call, HoldsMentioned, HoldsSupplied, IsDescribed, IsReturned, IsFirstFault}

-- the packages that are kept are those of the first mentions, and no others matter to the document
pub record IsKept (doc : Document) (packages others : List (PackageKey × PackageParts)) : Type 0 where
  pub these : List Mention
  pub first : AreFirst (mentions doc) these
  pub matter : OnlyTheseMatter doc these
  pub are : by_key others ≡ kept these (by_key packages)

-- what is returned for a document that is resolved with all of these packages
pub record ResolvesOver (packages : List (PackageKey × PackageParts)) (rules : Rules) (doc : Document)
    (result : Result Resolved Error) : Type 0 where
  pub supplied : IfOk result (λ r. HoldsSupplied packages r.graph)
  pub graph : IsDescribed (call packages rules doc result)
  pub only : IsReturned (call packages rules doc result)
  pub first : IsFirstFault (call packages rules doc result)

-- with these packages and by these rules, this is what resolving returns for the given document
pub record Resolves (packages : List (PackageKey × PackageParts)) (rules : Rules) (given : CodeDocument)
    (result : Result Resolved Error) : Type 0 where
  -- It is the document's resolution.
  pub document : IfOk result (λ r. r.document ≡ given)
  -- The graph holds no package that the document doesn't mention.
  pub held : IfOk result (λ r. HoldsMentioned (mentions (document_of given)) r.graph)
  -- Each package that the graph holds has there the world, the instance and the definitions that were supplied under
  -- its key.
  pub supplied : IfOk result (λ r. HoldsSupplied packages r.graph)
  -- The graph that is returned is described, with the names that the document binds.
  pub graph : IsDescribed (call packages rules (document_of given) result)
  -- What is described is returned, unless memory runs out.
  pub only : IsReturned (call packages rules (document_of given) result)
  -- An error names a rule that the first failing statement breaks, unless memory runs out.
  pub first : IsFirstFault (call packages rules (document_of given) result)
  -- It is equally right for each document with the same bare tree: layout carries no meaning.
  pub layout : IgnoresLayout (call packages rules (document_of given) result)
