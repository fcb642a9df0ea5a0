-- Which name is at an offset, and where it is used.
use Rattle.std.specs.Prelude.{◌≡◌, ℕ, ◌-◌, ◌==◌, ◌&&◌, Bool, List, [], Option, Some, IsSomeAnd, All, filter, find, map, nat_le, option_and_then, option_map, position, slice_get}
use Rattle.std.specs.Option.{option_map_or}
use Rattle.std.specs.Str.{bytes_eq}
use Rattle.wac_lexer.specs.Reading.{slice}
use Rattle.wac_lexer.specs.Span.{Span}
use Rattle.wac_ast_grammar.specs.Tree.{without_percent}
use Rattle.wac_names.specs.declared.names.Mention.{Mention}
use Rattle.wac_names.specs.declared.names.Name.{Name}
use Rattle.wac_names.specs.declared.names.Names.{Names}

-- what a text has in a span, without a leading `%`
abbrev pub name_in : List ℕ → Span → List ℕ
name_in source span = without_percent (slice source span)

-- a text has the same name in two spans
abbrev pub same_name : List ℕ → Span → Span → Bool
same_name source a b = bytes_eq (name_in source a) (name_in source b)

-- a mention stands for one of these names, and is spelled like it
abbrev pub IsTied : List ℕ → List Name → Mention → Type 0
IsTied source names mention =
    IsSomeAnd (slice_get names mention.binding) (λ name. name_in source name.span ≡ name_in source mention.span)

-- each mention stands for one of the names, and is spelled like it
abbrev pub AreTied : List ℕ → Names → Type 0
AreTied source names = All (IsTied source names.bindings.items) names.mentions.items

-- an offset touches a span where it is in the span or just after it
abbrev pub touches : ℕ → Span → Bool
touches offset span = nat_le span.offset offset && nat_le (offset - span.offset) span.len

-- the first mention at an offset
abbrev pub first_mention : List Mention → ℕ → Option Mention
first_mention mentions offset = find (λ m. touches offset m.span) mentions

-- the number of the name for which it stands
abbrev pub mentioned_at : List Mention → ℕ → Option ℕ
mentioned_at mentions offset = option_map (λ m. m.binding) (first_mention mentions offset)

-- the number of the first name that is bound at an offset
abbrev pub bound_at : List Name → ℕ → Option ℕ
bound_at bindings offset = position (λ b. touches offset b.span) bindings

-- the number of the name at an offset: of the one that is mentioned there, else of the one that is bound there
abbrev pub binding_at : Names → ℕ → Option ℕ
binding_at names offset =
    option_map_or (λ b. Some b) (mentioned_at names.mentions.items offset) (bound_at names.bindings.items offset)

-- the name at an offset, where it is bound
abbrev pub definition_at : Names → ℕ → Option Name
definition_at names offset = option_and_then (λ b. slice_get names.bindings.items b) (binding_at names offset)

-- where the name of a number is mentioned, in order
abbrev pub mentions_of : List Mention → ℕ → List Span
mentions_of mentions binding = map (λ m. m.span) (filter (λ m. m.binding == binding) mentions)

-- where the name at an offset is mentioned: nowhere if there is no name
abbrev pub references_at : Names → ℕ → List Span
references_at names offset = option_map_or (mentions_of names.mentions.items) (binding_at names offset) []
