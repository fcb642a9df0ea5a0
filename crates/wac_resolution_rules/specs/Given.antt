-- What resolving is given besides a document: the context, and rules.
use Rattle.std.specs.Prelude.{ℕ, List, Option, None, if◌then◌else◌}
use Rattle.std.specs.Str.{bytes_eq}
use Rattle.wac_graph_types.specs.declared.rules.Reason.{Reason}
use Rattle.wac_graph_types.specs.declared.rules.Rules as trait
use Rattle.wac_graph_types.specs.Meaning.{Meaning}
use Rattle.wac_graph_types.specs.Scope.{Named}
use Rattle.wac_graph_types.specs.Shape.{entry_of, imports_of}
use Rattle.wac_graph.specs.Package.{Key}
use Rattle.wac_graph.specs.Packages.{Contents, package_of}
use Rattle.wac_ast_grammar.specs.Tree.{PackageName}
use Rattle.wac_ast_grammar.specs.Version.{version_text}
use Rattle.wac_resolution_rules.specs.Paths.{Context}

-- two tests: each returns no reason, or the reason against
pub record Rules : Type 0 where
  -- does the first fit where the second is expected
  pub passes : Meaning → Meaning → Option Reason
  -- may this be the name of an import or export
  pub named : List ℕ → Option Reason

-- the rules that a value of a type with the trait supplies
abbrev pub rules_of : {X : Type 0} → trait.Ghosts X → X → Rules
rules_of members x = record { passes = members.passes x; named = members.named x }

-- rules that test by these two
abbrev pub rules_by : (Meaning → Meaning → Option Reason) → (List ℕ → Option Reason) → Rules
rules_by passes named = record { passes = passes; named = named }

pub record Given : Type 0 where
  pub context : Context
  pub rules : Rules

-- the key that a package's name denotes: the name and the text of the version
abbrev pub key_named : PackageName → Key
key_named x = (x.name, version_text x.string)

-- the package that a name denotes after `new`: never the document's own
abbrev pub instantiable : Given → PackageName → Option Contents
instantiable s x = if bytes_eq x.name s.context.own then None else package_of (key_named x) s.context.packages

-- what a package imports
abbrev pub imports_in : Contents → Named Meaning
imports_in p = imports_of (entry_of p.world)
