-- What a package names is in its table.
use Rattle.wac_graph_types.proofs.Common.{length, List, [], ◌∷◌, ℕ}
use Rattle.wac_graph_types.specs.declared.kind.ItemKind.{ItemKind}
use Rattle.wac_graph_types.specs.declared.kind.ItemKind.TheVariants as kinds
use Rattle.wac_graph_types.specs.declared.entry.Entry.{Entry}
use Rattle.wac_graph_types.specs.Entry.{children}
use Rattle.wac_graph_types.specs.Meaning.{NamesBefore, EachKind}
use Rattle.wac_graph_types.specs.Package.{PackageParts, IsPackage, EachItem}
use Rattle.wac_graph_types.specs.Table.{IsOfSort, Names, IsTable, ItemsNamed}
use Rattle.wac_graph_types.proofs.Each.{all_each}

pub package_table : (p : PackageParts) → IsPackage p → IsTable p.types
package_table p h = (h.earlier.each, all_each (λ (e : Entry). EachKind (IsOfSort p.types) (children e)) 0 p.types h.of_sort.each.of_entries)

pub package_world : (p : PackageParts) → IsPackage p → Names p.types (kinds.Component p.world)
package_world p h = (h.in_range.each.of_world, h.of_sort.each.of_world)

pub package_instance : (p : PackageParts) → IsPackage p → Names p.types (kinds.Instance p.instance)
package_instance p h = (h.in_range.each.of_instance, h.of_sort.each.of_instance)

both : (es : List Entry) (ds : List (List ℕ × ItemKind)) → EachItem (NamesBefore (length es)) ds → EachItem (IsOfSort es) ds → ItemsNamed es ds
both es [] r s = tt
both es (d ∷ ds) r s = ((r.0, s.0), both es ds r.1 s.1)

pub package_definitions : (p : PackageParts) → IsPackage p → ItemsNamed p.types p.definitions
package_definitions p h = both p.types p.definitions h.in_range.each.of_definitions h.of_sort.each.of_definitions
