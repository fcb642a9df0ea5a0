-- Which identifiers a document looks up, among which names, and what they find.
use Rattle.std.specs.Prelude.{◌≡◌, ℕ, List, [], ◌∷◌, ◌++◌, Option, Some, None, option_and_then, option_map, if◌then◌else◌, codes, refl}
use Rattle.std.specs.List.{filter_map, cons_option}
use Rattle.std.specs.Str.{bytes_eq}
use Rattle.wac_lexer.specs.Span.{Span, span}
use Rattle.wac_graph_types.specs.Scope.{Named, look_up, with_named}
use Rattle.wac_ast_grammar.specs.Tree.{Ident, Document}
use Rattle.wac_names.specs.declared.found.Found.{Found}
use Rattle.wac_names.specs.declared.steps.Level.{Level}
use Rattle.wac_names.specs.declared.steps.Level.TheVariants as levels
use Rattle.wac_names.specs.Places.{same_name}
use Rattle.wac_names.specs.Steps.{Step, document_steps}

-- the names of each scope, with where they were bound
pub record Scopes : Type 0 where
  pub root : Named Span
  pub body : Named Span
  pub inner : Named Span

abbrev pub no_names : Scopes
no_names = record { root = []; body = []; inner = [] }

abbrev pub names_at : Scopes → Level → Named Span
names_at s levels.Root = s.root
names_at s levels.Body = s.body
names_at s levels.Inner = s.inner

abbrev pub with_names : Scopes → Level → Named Span → Scopes
with_names s levels.Root names = record s { root = names }
with_names s levels.Body names = record s { body = names }
with_names s levels.Inner names = record s { inner = names }

-- one more name, unless it is bound already: it stands for the first
abbrev pub with_first : {X : Type 0} → Named X → List ℕ → X → Named X
with_first names name x = elim (look_up name names) [ None ↦ with_named names name x | Some first ↦ names ]

-- the scopes after a step
abbrev pub after : Scopes → Step → Scopes
after s (Step.begins l) = with_names s l []
after s (Step.binds l x) = with_names s l (with_first (names_at s l) x.string x.span)
after s (Step.looks_up l x) = s
after s (Step.looks_outwards l x) = s
after s (Step.enters name x) = s

-- an identifier, and the names among which it is looked up
pub record LookUp : Type 0 where
  pub at : Ident
  pub among : Named Span

-- what a step looks up, in a document of the package of a name
abbrev pub looked_up : List ℕ → Scopes → Step → Option LookUp
looked_up own s (Step.begins l) = None
looked_up own s (Step.binds l x) = None
looked_up own s (Step.looks_up l x) = Some (record { at = x; among = names_at s l })
looked_up own s (Step.looks_outwards l x) = Some (record { at = x; among = names_at s l ++ s.root })
looked_up own s (Step.enters name x) = if bytes_eq name own then Some (record { at = x; among = s.root }) else None

-- what steps look up, in order
abbrev pub look_ups_from : List ℕ → Scopes → List Step → List LookUp
look_ups_from own s [] = []
look_ups_from own s (x ∷ xs) = cons_option (looked_up own s x) (look_ups_from own (after s x) xs)

abbrev pub look_ups : List ℕ → List Step → List LookUp
look_ups own steps = look_ups_from own no_names steps

-- what a document looks up
abbrev pub document_look_ups : Document → List LookUp
document_look_ups doc = look_ups doc.directive.package_name.name (document_steps doc)

-- ---- what is found

-- where the identifier is, and where the name is bound that it finds
abbrev pub finds : LookUp → Option Found
finds l = option_map (λ s. record { at = l.at.span; bound = s }) (look_up l.at.string l.among)

-- only a name that is spelled alike in the source
abbrev pub if_spelled : List ℕ → Found → Option Found
if_spelled source f = if same_name source f.at f.bound then Some f else None

abbrev pub found_in : List ℕ → LookUp → Option Found
found_in source l = option_and_then (if_spelled source) (finds l)

abbrev pub all_found : List ℕ → List LookUp → List Found
all_found source ls = filter_map (found_in source) ls

-- ---- examples

abbrev t_at : ℕ → ℕ → Ident
t_at offset len = record { string = codes "t"; span = span offset len }

-- of two names the first is found, and none before it is bound
first_of_two : all_found (codes "t %t t t") (look_ups [] (Step.looks_up levels.Root (t_at 0 1) ∷ Step.binds levels.Root (t_at 2 2)
    ∷ Step.binds levels.Root (t_at 5 1) ∷ Step.looks_up levels.Root (t_at 7 1) ∷ [])) ≡ record { at = span 7 1; bound = span 2 2 } ∷ []
first_of_two = refl

-- a body doesn't see a name of the root, unless it is looked up outwards
not_in_body : all_found (codes "t t t") (look_ups [] (Step.binds levels.Root (t_at 0 1) ∷ Step.begins levels.Body
    ∷ Step.looks_up levels.Body (t_at 2 1) ∷ Step.looks_outwards levels.Body (t_at 4 1) ∷ [])) ≡ record { at = span 4 1; bound = span 0 1 } ∷ []
not_in_body = refl

-- a path into another package finds nothing
of_own_package : all_found (codes "t t t") (look_ups (codes "a:b") (Step.binds levels.Root (t_at 0 1)
    ∷ Step.enters (codes "a:c") (t_at 2 1) ∷ Step.enters (codes "a:b") (t_at 4 1) ∷ [])) ≡ record { at = span 4 1; bound = span 0 1 } ∷ []
of_own_package = refl
