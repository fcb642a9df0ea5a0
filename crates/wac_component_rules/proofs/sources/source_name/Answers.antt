use Rattle.std.proofs.Common.{◌∙◌, Some, sym, ap}
use Rattle.std.specs.Prelude.{option_copied}
use Rattle.wac_graph_types.specs.declared.kind.Sort.TheVariants as sorts
use Rattle.wac_graph_types.proofs.Rows.{stands}
use Rattle.wac_component_rules.specs.Seen.{What}
use Rattle.wac_component_rules.proofs.Aliases.{no_resource, own_name, resource_entry, sort_at, source_before, source_sort, sources_name}
use Rattle.wac_component_rules.proofs.sources.source_name.Goals as goal

pub loop-resource-init : goal.loop-resource-init
loop-resource-init c = record { within = c.requires.within; sort = c.requires.sort; named = λ o name h. h }

pub loop-resource-smaller : goal.loop-resource-smaller
loop-resource-smaller c =
    let found = sym (ap option_copied c.in-Some.is) ∙ c.resource_of.ensures in
    let at = stands c.args.entries.now c.loop-resource.at c.index-entries-at.result c.loop-resource.invariant.within c.index-entries-at.is ∙ ap Some (resource_entry c.index-entries-at.result c.in-Some.resource.now found) in
    source_before c.args.entries.now c.loop-resource.at c.in-Some.resource.now c.in-Some-alias.alias c.requires.table at c.in-Some-alias.is

pub loop-resource-preserved : goal.loop-resource-preserved
loop-resource-preserved c =
    let found = sym (ap option_copied c.in-Some.is) ∙ c.resource_of.ensures in
    let at = stands c.args.entries.now c.loop-resource.at c.index-entries-at.result c.loop-resource.invariant.within c.index-entries-at.is ∙ ap Some (resource_entry c.index-entries-at.result c.in-Some.resource.now found) in
    let sorted = source_sort c.args.entries.now c.loop-resource.at c.in-Some.resource.now c.in-Some-alias.alias c.requires.table at c.in-Some-alias.is in
    record {
      within = sorted.0;
      sort = sorted.1;
      named = λ o name h. c.loop-resource.invariant.named o name (sources_name o c.args.entries.now c.loop-resource.at c.in-Some.resource.now c.in-Some-alias.alias name c.requires.table.0 at c.in-Some-alias.is h);
    }

pub returns-in-None : goal.returns-in-None
returns-in-None c =
    let found = sym (ap option_copied c.in-None.is) ∙ c.resource_of.ensures in
    let is = stands c.args.entries.now c.loop-resource.at c.index-entries-at.result c.loop-resource.invariant.within c.index-entries-at.is in
    absurd (no_resource c.index-entries-at.result found (sort_at c.args.entries.now c.loop-resource.at c.index-entries-at.result sorts.Resource is c.loop-resource.invariant.sort))

pub returns-in-None-alias : goal.returns-in-None-alias
returns-in-None-alias c = λ o.
    let found = sym (ap option_copied c.in-Some.is) ∙ c.resource_of.ensures in
    let at = stands c.args.entries.now c.loop-resource.at c.index-entries-at.result c.loop-resource.invariant.within c.index-entries-at.is ∙ ap Some (resource_entry c.index-entries-at.result c.in-Some.resource.now found) in
    c.loop-resource.invariant.named o c.as_str.result.now (own_name o c.args.entries.now c.loop-resource.at c.in-Some.resource.now c.requires.table.0 at c.in-None-alias.is ∙ ap What.named_resource (sym c.as_str.ensures.value))
