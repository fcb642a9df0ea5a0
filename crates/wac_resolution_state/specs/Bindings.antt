-- Names of a scope, each with where it was bound and what it denotes.
use Rattle.std.specs.Prelude.{ℕ, List, map}
use Rattle.std.specs.Borrow.{Bor}
use Rattle.wac_lexer.specs.Span.{Span}
use Rattle.wac_graph_types.specs.Scope.{Named}

abbrev pub Bindings : Type 0 → Type 0
Bindings X = Named (Span × X)

-- a map's texts and values, in its order
abbrev pub by_text : {X : Type 0} → List (Bor (List ℕ) × X) → Named X
by_text es = map (λ e. (e.0.now, e.1)) es

-- where each name was bound
abbrev pub places_of : {X : Type 0} → Bindings X → Named Span
places_of all = map (λ b. (b.0, b.1.0)) all

-- what each name denotes
abbrev pub values_of : {X : Type 0} → Bindings X → Named X
values_of all = map (λ b. (b.0, b.1.1)) all
