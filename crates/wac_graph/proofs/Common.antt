-- The words of other crates that proofs of this crate cite, given on from one place. It declares nothing.
pub use Rattle.std.proofs.Common.{Bool, Bor, List, None, Option, Some, [], add-one, ap, append-nil, append_assoc, arith, cond, false, get_or, inl, inr, length, length-append, map, refl, rules, subst, suc, sym, take, true, zero, ℕ, ◌&&◌, ◌++◌, ◌+◌, ◌-◌, ◌<◌, ◌^◌, ◌||◌, ◌∙◌, ◌∷◌, ◌≡◌, ◌≤◌, ◌⊎◌}
pub use Rattle.std.proofs.lemmas.Bool.{le-ltb, lt-ltb}
pub use Rattle.std.proofs.lemmas.Bool.Decides.{Decides-eqb, nat_tests}
pub use Rattle.std.proofs.lemmas.Option.{slice_get_within}
pub use Rattle.std.proofs.lemmas.Slice.Eq.{bytes_eq-Decides}
pub use Rattle.std.specs.List.{AllByRecursion, list_any, position, position_or_len}
pub use Rattle.std.specs.Prelude.{Err, IfOk, IfSome, IsSome, IsTrue, Ok, OnErr, OnOk, Result, String, nat_eq, nat_le, nat_lt, not, option_and_then, option_map, slice_get, slice_set, string_bytes, unwrap_or, ◌↔◌}
pub use Rattle.std.specs.Str.{bytes_eq}
pub use Rattle.std.specs.declared.alloc.Global.{Global}
pub use Rattle.wac_graph_types.proofs.Found.{export_found, found_named, instance_exports_named, interface_exports_mean, kind_exports_named, world_exports_mean, world_imports_mean, world_imports_named}
pub use Rattle.wac_graph_types.proofs.Growing.{keeps_appended}
pub use Rattle.wac_graph_types.proofs.Packages.{package_definitions, package_instance, package_world}
pub use Rattle.wac_graph_types.proofs.Rows.{none_within, stands}
pub use Rattle.wac_graph_types.proofs.Tables.{each_entry_named, names_kept, table_more}
pub use Rattle.wac_graph_types.specs.Entry.{Slot, case_children, children, export, export_children, given, import, import_children, label, name_children, named_result_children, only, optional, result_children, sort_of, tuple_children, use_children, used, value_children}
pub use Rattle.wac_graph_types.specs.Growth.{KeepsMeanings, KeepsNames}
pub use Rattle.wac_graph_types.specs.Kind.{Form, form, named_by, sort_named}
pub use Rattle.wac_graph_types.specs.Label.{Label, dangling, func, interface, kind, plain, world}
pub use Rattle.wac_graph_types.specs.Meaning.{ChildrenBefore, EachKind, EarlierFrom, IsEarlier, IsResource, Meaning, NamesBefore, done, look, meaning, meaning_at, meanings_from, node, of_child, of_kind, over, row}
pub use Rattle.wac_graph_types.specs.Names.{by_name}
pub use Rattle.wac_graph_types.specs.Package.{IsPackage, PackageParts}
pub use Rattle.wac_graph_types.specs.Readings.{as_interface, as_world, instance_exports, kind_exports, world_imports}
pub use Rattle.wac_graph_types.specs.Scope.{IsFresh, Named, look_up, with_named}
pub use Rattle.wac_graph_types.specs.Shape.{cons_named, export_of, items_mean}
pub use Rattle.wac_graph_types.specs.Table.{EachEntryNamed, IsOfSort, IsTable, ItemsNamed, Names}
pub use Rattle.wac_graph_types.specs.declared.entry.Entry.{Entry}
pub use Rattle.wac_graph_types.specs.declared.kind.InterfaceId.{InterfaceId}
pub use Rattle.wac_graph_types.specs.declared.kind.ItemKind.{ItemKind}
pub use Rattle.wac_graph_types.specs.declared.kind.ValueType.{ValueType}
pub use Rattle.wac_graph_types.specs.declared.kind.WorldId.{WorldId}
