-- What tests over all kinds of a package say of it.
use Rattle.wac_graph_types.proofs.Common.{ℕ, List, length}
use Rattle.wac_graph_types.specs.declared.kind.ItemKind.{ItemKind}
use Rattle.wac_graph_types.specs.declared.entry.Entry.{Entry}
use Rattle.wac_graph_types.specs.declared.package.Test.TheVariants as tests
use Rattle.wac_graph_types.specs.Entry.{children}
use Rattle.wac_graph_types.specs.Meaning.{NamesBefore, EachKind}
use Rattle.wac_graph_types.specs.Package.{PackageParts, HasId, IdsInRange, IdsOfSort, HaveIds}
use Rattle.wac_graph_types.specs.Table.{IsOfSort}
use Rattle.wac_graph_types.specs.Tests.{AllPass, DefinitionsPass, EntriesPass}
use Rattle.wac_graph_types.proofs.Each.{each_all, all_each}

pub in_range_passes : (p : PackageParts) → IdsInRange p → AllPass tests.InRange p
in_range_passes p h = record { of_world = h.each.of_world; of_instance = h.each.of_instance; of_definitions = h.each.of_definitions; of_entries = all_each (λ (e : Entry). EachKind (NamesBefore (length p.types)) (children e)) 0 p.types h.each.of_entries }

pub passes_in_range : (p : PackageParts) → AllPass tests.InRange p → IdsInRange p
passes_in_range p h = record { each = record { of_world = h.of_world; of_instance = h.of_instance; of_definitions = h.of_definitions; of_entries = each_all (λ (e : Entry). EachKind (NamesBefore (length p.types)) (children e)) 0 p.types h.of_entries } }

pub of_sort_passes : (p : PackageParts) → IdsOfSort p → AllPass tests.OfSort p
of_sort_passes p h = record { of_world = h.each.of_world; of_instance = h.each.of_instance; of_definitions = h.each.of_definitions; of_entries = all_each (λ (e : Entry). EachKind (IsOfSort p.types) (children e)) 0 p.types h.each.of_entries }

pub passes_of_sort : (p : PackageParts) → AllPass tests.OfSort p → IdsOfSort p
passes_of_sort p h = record { each = record { of_world = h.of_world; of_instance = h.of_instance; of_definitions = h.of_definitions; of_entries = each_all (λ (e : Entry). EachKind (IsOfSort p.types) (children e)) 0 p.types h.of_entries } }

pub ids_pass : (es : List Entry) (ds : List (List ℕ × ItemKind)) → HaveIds es ds → EntriesPass tests.HasId es
ids_pass es ds h = all_each (λ (e : Entry). EachKind (HasId es) (children e)) 0 es h.in_entries

pub pass_ids : (es : List Entry) (ds : List (List ℕ × ItemKind)) → DefinitionsPass tests.HasId es ds → EntriesPass tests.HasId es → HaveIds es ds
pass_ids es ds d h = record { in_definitions = d; in_entries = each_all (λ (e : Entry). EachKind (HasId es) (children e)) 0 es h }
