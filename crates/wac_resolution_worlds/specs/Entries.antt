-- The entries of a `with` clause that are left, by the names that they rename.
use Rattle.std.specs.Prelude.{◌≡◌, List, [], map, Some}
use Rattle.std.specs.Borrow.{Bor}
use Rattle.std.specs.List.{AllByRecursion}
use Rattle.wac_ast_grammar.specs.Tree.{WorldIncludeItem}
use Rattle.wac_graph_types.specs.Scope.{Named}
use Rattle.wac_graph_types.specs.Steps.{Steps}
use Rattle.wac_ast_uses.specs.Uses.{world_include_item_of}
use Rattle.wac_ast_uses.specs.declared.includes.WorldIncludeItem.{WorldIncludeItem as CodeWorldIncludeItem}
use Rattle.wac_resolution_rules.specs.Includes.{Entries, HasEntry}
use Rattle.wac_resolution_rules.specs.BrokenWorlds.{entry_named}

abbrev pub Renamings : Type 0
Renamings = Named (Bor CodeWorldIncludeItem)

-- each name with the name to take
abbrev pub entries_of : Renamings → Entries
entries_of all = map (λ e. (e.0, e.1.now.to.string.now)) all

-- each is the clause's entry of its name
abbrev pub AreOf : List WorldIncludeItem → Renamings → Type 0
AreOf items all = AllByRecursion (λ e. entry_named e.0 items ≡ Some (world_include_item_of e.1.now)) all

-- all entries of a clause, which names each name once
pub record AreAll (items : List WorldIncludeItem) (all : Renamings) : Type 0 where
  pub once : Steps HasEntry [] items (entries_of all)
  pub of_clause : AreOf items all
