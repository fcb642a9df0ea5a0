-- What is decoded is of its table, and within the limits.
use Rattle.std.specs.Prelude.{◌≡◌, ◌≤◌, Bool, true, ◌&&◌}
use Rattle.std.specs.List.{list_all}
use Rattle.wac_components_types.specs.Closed.{TableView, IsClosed, has_name, has_item}
use Rattle.wac_components_types.specs.declared.closed.Counts.{Counts}
use Rattle.wac_components_types.specs.declared.item.Item.TheVariants as items
use Rattle.wac_components.specs.declared.decoded.Decoded.{Decoded}
use Rattle.wac_components.specs.declared.decoded.Definition.{Definition}
use Rattle.wac_components.specs.declared.limits.Limits.{Limits}

abbrev pub has_definition : Counts → Definition → Bool
has_definition n d = (has_name n d.name && has_name n d.path) && has_item n d.item

-- the component and the definitions name entries of a table, in which each number does
abbrev pub is_of_table : Decoded → Bool
is_of_table d =
    d.table.is_closed
    && (has_item d.table.counts (items.Component d.component)
    && list_all (has_definition d.table.counts) d.definitions.items)

-- no more than the limits allow
pub record IsWithin (used limits : Limits) : Type 0 where
  pub depth : used.depth ≤ limits.depth
  pub size : used.size ≤ limits.size
  pub work : used.work ≤ limits.work
