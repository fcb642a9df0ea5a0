-- What was noted so far.
use Rattle.std.specs.Prelude.{◌≡◌, ℕ, List, ◌++◌, flat_map, map}
use Rattle.wac_lexer.specs.Span.{Span}
use Rattle.wac_graph.specs.declared.package_key.PackageKey.{PackageKey}
use Rattle.wac_graph.specs.Package.{key_of}
use Rattle.wac_ast_grammar.specs.Tree.{PackageDirective, Statement}
use Rattle.wac_resolution_rules.specs.Mentions.{Mention, statement_mentions, target_mentions}
use Rattle.wac_resolution.specs.FirstMentions.{first_mentions}

-- what the entries of a map say
abbrev pub mentions_in : List (PackageKey × Span) → List Mention
mentions_in es = map (λ e. (key_of e.0, e.1)) es

-- what a directive and statements mention, in their order
abbrev pub mentioned_by : PackageDirective → List Statement → List Mention
mentioned_by directive statements = target_mentions directive.package_name.name directive.targets ++ flat_map
    (statement_mentions directive.package_name.name) statements

-- the name of the document's own package, and the first mentions of foreign ones
pub record Noted : Type 0 where
  pub own : List ℕ
  pub first : List Mention

-- A part's mentions were noted: of whatever mentions the first ones were there before, now the first ones of these and
-- the part's are.
pub record Notes (old new : Noted) (part : List Mention) : Type 0 where
  pub own : new.own ≡ old.own
  pub first : (ms : List Mention) → old.first ≡ first_mentions ms → new.first ≡ first_mentions (ms ++ part)
