-- What resolving is given and returns, in the words of the rules.
use Rattle.std.specs.Prelude.{ℕ, List, map, Result, Ok, Err}
use Rattle.std.specs.List.{AllByRecursion}
use Rattle.wac_graph_types.specs.Package.{PackageParts}
use Rattle.wac_graph_types.specs.Scope.{Named}
use Rattle.wac_ast.specs.declared.document.Document.{Document as CodeDocument}
use Rattle.wac_graph.specs.declared.package_key.PackageKey.{PackageKey}
use Rattle.wac_graph.specs.Graph.{Parts}
use Rattle.wac_graph.specs.Origin.{Numbering}
use Rattle.wac_graph.specs.Package.{HeldPackage, Key, key_of}
use Rattle.wac_ast_grammar.specs.Tree.{Document}
use Rattle.wac_resolution_errors.specs.Error as told_errors
use Rattle.wac_resolution_errors.specs.declared.error.Error.{Error}
use Rattle.wac_resolution_errors.specs.ErrorModel.{error_model}
use Rattle.wac_resolution_rules.specs.Composition.{Composition}
use Rattle.wac_resolution_rules.specs.Given.{Given, Rules}
use Rattle.wac_resolution_rules.specs.Mentions.{IsMentioned, Mention}
use Rattle.wac_resolution_rules.specs.ResolvedDocument.{given_to, EveryNumbering, GraphClause, OnlyClause, FirstClause}
use Rattle.wac_resolution_state.specs.Nodes.{composition_of}
use Rattle.wac_resolution_state.specs.Expands.{AllSupplied}

-- a document, and a graph
pub record Resolved : Type 0 where
  pub document : CodeDocument
  pub graph : Parts

-- a graph that is returned for a document, with that document
abbrev pub in_resolution : CodeDocument → Result Parts Error → Result Resolved Error
in_resolution document (Ok g) = Ok (record { document = document; graph = g })
in_resolution document (Err e) = Err e

-- the supplied packages, by key
abbrev pub by_key : List (PackageKey × PackageParts) → List (Key × PackageParts)
by_key packages = map (λ e. (key_of e.0, e.1)) packages

-- what is returned: the composition that the graph denotes, where these names are bound at root; or the error
abbrev pub returned : Numbering → Named ℕ → Result Resolved Error → Result Composition told_errors.Error
returned numbering declared (Ok r) = Ok (composition_of numbering r.graph declared)
returned numbering declared (Err e) = Err (error_model e)

-- a call that resolves: what it is given, and what it returns
pub record Call : Type 0 where
  pub packages : List (PackageKey × PackageParts)
  pub rules : Rules
  pub document : Document
  pub result : Result Resolved Error

abbrev pub call : List (PackageKey × PackageParts) → Rules → Document → Result Resolved Error → Call
call packages rules document result =
    record { packages = packages; rules = rules; document = document; result = result }

-- this clause holds of what the call returns, under every numbering of origins that is one to one, where the document
-- binds these names
abbrev pub Promised : (Given → Document → Result Composition told_errors.Error → Type 0) → Call → Named ℕ → Type 0
Promised Clause c declared = EveryNumbering
    (λ numbering. Clause (given_to numbering (by_key c.packages) c.rules c.document) c.document
    (returned numbering declared c.result))

-- the graph that is returned is described, with the names that the document binds
abbrev pub IsDescribed : Call → Type 0
IsDescribed c = (declared : Named ℕ) × Promised GraphClause c declared

-- what is described is returned, unless memory runs out
abbrev pub IsReturned : Call → Type 0
IsReturned c = (declared : Named ℕ) → Promised OnlyClause c declared

-- an error names a rule that the first failing statement breaks, unless memory runs out
abbrev pub IsFirstFault : Call → Type 0
IsFirstFault c = (declared : Named ℕ) → Promised FirstClause c declared

-- each package that the graph holds is mentioned
abbrev pub HoldsMentioned : List Mention → Parts → Type 0
HoldsMentioned ms g = AllByRecursion (λ (p : HeldPackage). IsMentioned ms p.key) g.packages

-- each package that the graph holds was supplied under its key, and its world, its instance and its definitions mean in
-- the graph what they meant there
abbrev pub HoldsSupplied : List (PackageKey × PackageParts) → Parts → Type 0
HoldsSupplied packages g = AllSupplied (by_key packages) g
