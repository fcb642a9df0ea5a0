-- Type statements at root.
use Rattle.std.specs.Prelude.{◌≡◌, ℕ, List, ◌++◌, Option, Some, None, length, codes}
use Rattle.wac_graph_types.specs.Kind.{an_interface, a_world}
use Rattle.wac_graph_types.specs.Meaning.{Meaning}
use Rattle.wac_graph_types.specs.Scope.{IsFresh}
use Rattle.wac_graph_types.specs.Shape.{kind_of}
use Rattle.wac_ast_grammar.specs.Tree.{Ident, TypeStatement, TypeDecl}
use Rattle.wac_resolution_rules.specs.Paths.{Context}
use Rattle.wac_resolution_rules.specs.Declarations.{IsTypeDecl}
use Rattle.wac_resolution_rules.specs.Worlds.{IsInterface, IsWorld}
use Rattle.wac_resolution_rules.specs.Composition.{Composition, definition, root_scope, with_node, with_export, with_resources, binding}

abbrev pub version_part : Option (List ℕ) → List ℕ
version_part None = codes ""
version_part (Some v) = codes "@" ++ v

-- the id of an interface or world that the document declares
abbrev pub declared_id : Context → List ℕ → Option (List ℕ)
declared_id context name = Some (context.own ++ codes "/" ++ name ++ version_part context.version)

-- the identifier of a declaration
abbrev pub declared_as : TypeDecl → Ident
declared_as (TypeDecl.variant d) = d.id
declared_as (TypeDecl.record_decl d) = d.id
declared_as (TypeDecl.flags d) = d.id
declared_as (TypeDecl.enum d) = d.id
declared_as (TypeDecl.alias d) = d.id

-- the identifier of a type statement
abbrev pub identifier_of : TypeStatement → Ident
identifier_of (TypeStatement.interface d) = d.id
identifier_of (TypeStatement.world d) = d.id
identifier_of (TypeStatement.ty d) = declared_as d

-- the kind that a type statement declares, and how many resources are declared then
abbrev pub DeclaresKind : Context → Composition → TypeStatement → Meaning → ℕ → Type 0
DeclaresKind context old (TypeStatement.interface d) m n =
    (entry : Meaning) × IsInterface context (root_scope old) old.resources (declared_id context d.id.string) d.items
    entry n × (m ≡ kind_of an_interface entry)
DeclaresKind context old (TypeStatement.world d) m n =
    (entry : Meaning) × IsWorld context (root_scope old) old.resources (declared_id context d.id.string) d.items entry n
    × (m ≡ kind_of a_world entry)
DeclaresKind context old (TypeStatement.ty d) m n = IsTypeDecl (root_scope old) old.resources d m n

-- a definition of this name and kind, exported under the name and bound to it
abbrev pub defining : Composition → List ℕ → Meaning → ℕ → Composition
defining c name m n =
    binding (with_export (with_node (with_resources c n) definition m) name (length c.nodes)) name (length c.nodes)

-- the name is neither exported nor bound at root
abbrev pub Defines : Composition → List ℕ → Meaning → ℕ → Composition → Type 0
Defines old name m n new = IsFresh name old.exports × IsFresh name old.declared × (new ≡ defining old name m n)

-- a type statement turns the old composition into the new one
abbrev pub Declares : Context → Composition → TypeStatement → Composition → Type 0
Declares context old s new = (m : Meaning) × (n : ℕ) × DeclaresKind context old s m n
    × Defines old (identifier_of s).string m n new
