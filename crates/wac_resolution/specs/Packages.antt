-- What the packages that a document mentions are.
use Rattle.std.specs.Prelude.{◌≡◌, ◌↔◌, List}
use Rattle.std.specs.List.{IsDistinct}
use Rattle.std.specs.Map.{keys_of, lookup}
use Rattle.wac_graph.specs.Package.{Key, same_key}
use Rattle.wac_graph.specs.Packages.{Packages}
use Rattle.wac_ast_grammar.specs.Tree.{Document}
use Rattle.wac_resolution_errors.specs.Error.{Error}
use Rattle.wac_resolution_rules.specs.Composition.{Composition}
use Rattle.wac_resolution_rules.specs.Given.{Given}
use Rattle.wac_resolution_rules.specs.Mentions.{IsMentioned, KeysHold, Mention, given_over, kept}
use Rattle.wac_resolution_rules.specs.ResolvedDocument.{Describes, FirstFailing}

-- These are the first of all mentions.
pub record AreFirst (all these : List Mention) : Type 0 where
  -- no key is listed twice
  pub once : IsDistinct same_key (keys_of these)
  -- a key is listed exactly where it is mentioned
  pub keys : (key : Key) → IsMentioned these key ↔ IsMentioned all key
  -- with the place of its first mention
  pub places : (key : Key) → lookup (same_key key) these ≡ lookup (same_key key) all

-- To a document no packages matter but those of these mentions.
pub record OnlyTheseMatter (document : Document) (these : List Mention) : Type 0 where
  -- whatever packages are passed, the document describes with these alone what it describes with all of them
  pub describes : (s : Given) (packages : Packages) (c : Composition)
      → s.context.own ≡ document.directive.package_name.name
      → Describes (given_over s (kept these packages)) document c ↔ Describes (given_over s packages) document c
  -- and with these alone the same fails in it first
  pub fails : (s : Given) (packages : Packages) (e : Error) → s.context.own ≡ document.directive.package_name.name
      → FirstFailing (given_over s (kept these packages)) document e ↔ FirstFailing (given_over s packages) document e
  -- each package of which a described composition has an instance is one of these
  pub instances : (s : Given) (c : Composition) → s.context.own ≡ document.directive.package_name.name
      → Describes s document c → KeysHold (IsMentioned these) c.nodes
