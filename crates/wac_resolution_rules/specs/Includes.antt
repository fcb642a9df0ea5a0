-- What including a world adds to a world.
use Rattle.std.specs.Prelude.{◌≡◌, ℕ, ◌==◌, List, [], Some, None, unwrap_or, Bool, true, false}
use Rattle.std.specs.List.{list_any}
use Rattle.wac_lexer.specs.Ascii.{colon}
use Rattle.wac_graph_types.specs.Meaning.{Meaning}
use Rattle.wac_graph_types.specs.Scope.{Named, Scope, look_up, IsFresh, with_named, without_first}
use Rattle.wac_graph_types.specs.Steps.{Steps}
use Rattle.wac_graph_types.specs.Shape.{IsA, is_world_form, entry_of, imports_of, exports_of}
use Rattle.wac_ast_grammar.specs.Tree.{WorldInclude, WorldIncludeItem}
use Rattle.wac_resolution_rules.specs.Paths.{Context, WorldNames}
use Rattle.wac_resolution_rules.specs.Bodies.{Body}

-- the entries of a `with` clause: names of the included world, each with the name to take
abbrev pub Entries : Type 0
Entries = Named (List ℕ)

-- no earlier entry renames the same name
abbrev pub HasEntry : Entries → WorldIncludeItem → Entries → Type 0
HasEntry old x new = IsFresh x.from.string old × (new ≡ with_named old x.from.string x.to.string)

abbrev pub has_colon : List ℕ → Bool
has_colon name = list_any (λ b. b == colon) name

-- the entries that are left, and the imports or exports so far
pub record Taking : Type 0 where
  pub entries : Entries
  pub there : Named Meaning

abbrev pub taking : Entries → Named Meaning → Taking
taking entries there = record { entries = entries; there = there }

-- one more name, unless it exists already
abbrev pub with_missing : Named Meaning → List ℕ → Meaning → Named Meaning
with_missing there name m = elim (look_up name there) [ None ↦ with_named there name m | Some old ↦ there ]

-- the new name of a name: that of the first entry that renames it, else itself
abbrev pub name_taken : Entries → List ℕ → List ℕ
name_taken entries name = unwrap_or (look_up name entries) name

-- one name of the included world; the test is whether it has a colon
abbrev pub TakesNamed : Bool → Taking → List ℕ × Meaning → Taking → Type 0
TakesNamed true old x new = new ≡ taking old.entries (with_missing old.there x.0 x.1)
TakesNamed false old x new = IsFresh (name_taken old.entries x.0) old.there
    × (new ≡ taking (without_first x.0 old.entries) (with_named old.there (name_taken old.entries x.0) x.1))

-- A name with a colon is taken as it is, unless it exists already. Another name is renamed by the first entry for it,
-- which is then used up; the new name may not exist yet.
abbrev pub Takes : Taking → List ℕ × Meaning → Taking → Type 0
Takes old x new = TakesNamed (has_colon x.0) old x new

-- what is taken of a world: its imports, then its exports, until no entry is left over
pub record Included (entries : Entries) (world : Meaning) (old new : Body) : Type 0 where
  pub imports : Taking
  pub exports : Taking
  pub takes_imports : Steps Takes (taking entries old.imports) (imports_of world) imports
  pub takes_exports : Steps Takes (taking imports.entries old.exports) (exports_of world) exports
  pub none_left : exports.entries ≡ []
  pub is : new ≡ record old { imports = imports.there; exports = exports.there }

-- a world or component is included, by a `with` clause that names each name once
abbrev pub HasInclude : Context → Scope → Body → WorldInclude → Body → Type 0
HasInclude context root old x new =
    (entries : Entries) × (k : Meaning)
    × Steps HasEntry [] x.items entries
    × WorldNames context root x.world k
    × IsA is_world_form k
    × Included entries (entry_of k) old new
