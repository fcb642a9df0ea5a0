-- Where names are bound, imported and exported. Judgements read no span: places are kept apart.
use Rattle.std.specs.Prelude.{◌≡◌, ℕ, List, [], ◌∷◌, ◌++◌, drop, length, map}
use Rattle.std.specs.List.{flat_map}
use Rattle.wac_lexer.specs.Span.{Span}
use Rattle.wac_graph_types.specs.Scope.{Named}
use Rattle.wac_ast_grammar.specs.Tree.{Ident, UseItem, InterfaceItem, WorldItem, Statement}
use Rattle.wac_resolution_rules.specs.Bodies.{used_as}
use Rattle.wac_resolution_rules.specs.TypeStatements.{identifier_of}
use Rattle.wac_resolution_rules.specs.Spans.{item_identifier, import_span, export_span}
use Rattle.wac_resolution_rules.specs.Given.{Given}
use Rattle.wac_resolution_rules.specs.Composition.{Composition}
use Rattle.wac_resolution_rules.specs.Nodes.{imports}
use Rattle.wac_resolution_rules.specs.Find.{names_of}
use Rattle.wac_resolution_rules.specs.Statements.{StatementStep}

-- ---- in a body

abbrev pub at_ident : Ident → List ℕ × Span
at_ident x = (x.string, x.span)

abbrev pub used_at : List UseItem → Named Span
used_at xs = map (λ x. at_ident (used_as x)) xs

abbrev pub bound_in_interface_item : InterfaceItem → Named Span
bound_in_interface_item (InterfaceItem.use_statement u) = used_at u.items
bound_in_interface_item (InterfaceItem.interface_export x) = []
bound_in_interface_item (InterfaceItem.ty d) = at_ident (item_identifier d) ∷ []

abbrev pub bound_in_world_item : WorldItem → Named Span
bound_in_world_item (WorldItem.use_statement u) = used_at u.items
bound_in_world_item (WorldItem.ty d) = at_ident (item_identifier d) ∷ []
bound_in_world_item _ = []

-- what the items of a body bind to types, and where
abbrev pub bound_in_interface : List InterfaceItem → Named Span
bound_in_interface items = flat_map bound_in_interface_item items

abbrev pub bound_in_world : List WorldItem → Named Span
bound_in_world items = flat_map bound_in_world_item items

-- ---- at root

-- where each name was bound at root, imported and exported
pub record Places : Type 0 where
  pub bound : Named Span
  pub imported : Named Span
  pub exported : Named Span

abbrev pub nowhere_yet : Places
nowhere_yet = record { bound = []; imported = []; exported = [] }

-- names, each at one span
abbrev pub names_at : {X : Type 0} → Span → Named X → Named Span
names_at span names = map (λ x. (x.0, span)) names

-- the span of the name that a statement imports or exports; any span where it does neither
abbrev pub extern_at : Statement → Span
extern_at (Statement.import_statement x) = import_span x
extern_at (Statement.let_statement x) = x.id.span
extern_at (Statement.export_statement x) = export_span x
extern_at (Statement.type_statement x) = (identifier_of x).span

-- the span of what a statement binds: of an import its identifier's; any span where it binds nothing
abbrev pub bound_at : Statement → Span
bound_at (Statement.import_statement x) = x.id.span
bound_at x = extern_at x

-- the names that the new list adds, at a span
abbrev pub more_at : {X : Type 0} → Span → Named X → Named X → Named Span
more_at span old new = names_at span (drop (length old) new)

-- the places after a statement that turned one composition into another
abbrev pub places_after : Composition → Places → Statement → Composition → Places
places_after old p x new = record {
  bound = p.bound ++ more_at (bound_at x) old.declared new.declared;
  imported = p.imported ++ more_at (extern_at x) (imports old) (imports new);
  exported = p.exported ++ more_at (extern_at x) old.exports new.exports;
}

-- a composition and its places
pub record Placed : Type 0 where
  pub composition : Composition
  pub places : Places

abbrev pub placed_start : Composition → Placed
placed_start c = record { composition = c; places = nowhere_yet }

-- a statement turns one composition into the next, and changes the places
abbrev pub Leads : Given → Placed → Statement → Placed → Type 0
Leads s old x new = StatementStep s old.composition x new.composition
    × (new.places ≡ places_after old.composition old.places x new.composition)

-- the names that have places are those that were bound, imported and exported, in order
pub record HavePlaces (c : Composition) (p : Places) : Type 0 where
  pub bound : names_of p.bound ≡ names_of c.declared
  pub imported : names_of p.imported ≡ names_of (imports c)
  pub exported : names_of p.exported ≡ names_of c.exports
