-- What a document is resolved in, as the code holds it.
use Rattle.std.specs.Prelude.{List, map, option_map}
use Rattle.wac_graph_types.specs.Package.{PackageParts}
use Rattle.wac_graph.specs.Origin.{Numbering}
use Rattle.wac_graph.specs.Package.{Key, key_of}
use Rattle.wac_graph.specs.Packages.{supplied_packages}
use Rattle.wac_resolution_rules.specs.Paths as rules
use Rattle.wac_resolution_state.specs.declared.context.Context.{Context}

-- the supplied packages by key
abbrev pub packages_in : Context → List (Key × PackageParts)
packages_in s = map (λ e. (key_of e.0, e.1)) s.packages.now.entries

-- the context that the rules speak of
abbrev pub context_of : Numbering → Context → rules.Context
context_of numbering s = record {
  numbering = numbering;
  own = s.own.now;
  version = option_map (λ v. v.now) s.version;
  packages = supplied_packages numbering (packages_in s);
}
