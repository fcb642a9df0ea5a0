-- That names are those which looking up finds.
use Rattle.std.specs.Prelude.{◌≡◌, ◌≢◌, ◌⊎◌, ℕ, ◌+◌, List, [], ◌∷◌, Option, None, Some, IfSome, IsSomeAnd, MatchOption, All, option_map, slice_get}
use Rattle.std.specs.List.{filter_map}
use Rattle.wac_lexer.specs.Span.{Span}
use Rattle.wac_ast_grammar.specs.TextTree.{IsTreeOf}
use Rattle.wac_ast_grammar.specs.Tree.{Document}
use Rattle.wac_comments_layout.specs.Nesting.{too_deep}
use Rattle.wac_names.specs.declared.found.Found.{Found}
use Rattle.wac_names.specs.declared.names.Kind.TheVariants as kinds
use Rattle.wac_names.specs.declared.names.Mention.{Mention}
use Rattle.wac_names.specs.declared.names.Name.{Name}
use Rattle.wac_names.specs.declared.names.Names.{Names}
use Rattle.wac_names.specs.LookUps.{LookUp, all_found, document_look_ups}

-- where a mention is, and where the name is bound that it found in a scope; a member is looked up among exports
abbrev pub said : Mention → Option Found
said m = option_map (λ s. record { at = m.span; bound = s }) m.bound

-- the name of a number is bound at a place
abbrev pub IsBoundAt : List Name → ℕ → Span → Type 0
IsBoundAt bindings n s = IsSomeAnd (slice_get bindings n) (λ b. b.span ≡ s)

-- a member at a place, as an item of a `use` is, stands for the name of a number
pub record IsMember (n : ℕ) (s : Span) (m : Mention) : Type 0 where
  pub alone : m.bound ≡ None
  pub binding : m.binding ≡ n
  pub span : m.span ≡ s

abbrev pub IsMemberAt : List Mention → ℕ → Span → Type 0
IsMemberAt mentions n s = (k : ℕ) × IsSomeAnd (slice_get mentions k) (IsMember n s)

-- the name of a number stands at a place: it is bound there, or an item of a `use` there is that name
abbrev pub StandsAt : Names → ℕ → Span → Type 0
StandsAt names n s = IsBoundAt names.bindings.items n s ⊎ IsMemberAt names.mentions.items n s

-- ---- names of what was found alone

abbrev pub name_found : Found → Name
name_found f = record { span = f.bound; kind = kinds.Let; container = None }

-- mentions of as many names, from the one of a number on
abbrev pub mentions_found : ℕ → List Found → List Mention
mentions_found n [] = []
mentions_found n (f ∷ fs) = record { span = f.at; binding = n; bound = Some f.bound } ∷ mentions_found (n + 1) fs

-- ---- names that are right

-- The mentions that scopes bind are the identifiers that find a name among those look-ups, in order; each stands for the
-- name that stands where its scope binds it.
pub record AreLookedUp (source : List ℕ) (ls : List LookUp) (names : Names) : Type 0 where
  pub found : filter_map said names.mentions.items ≡ all_found source ls
  pub stand : All (λ m. IfSome m.bound (StandsAt names m.binding)) names.mentions.items

-- the text is a document, and the names are those of what it looks up
abbrev pub AreOfText : List ℕ → Names → Type 0
AreOfText text names = (doc : Document) × IsTreeOf text doc × AreLookedUp text (document_look_ups doc) names

-- the text is no document, or its brackets are nested too deep
abbrev pub HasNoNames : List ℕ → Type 0
HasNoNames text = (doc : Document) → IsTreeOf text doc → too_deep text ≢ None

-- what is found of a text: nothing only where it has no names
abbrev pub IsFoundOf : List ℕ → Option Names → Type 0
IsFoundOf text found = MatchOption found (HasNoNames text) (AreOfText text)
