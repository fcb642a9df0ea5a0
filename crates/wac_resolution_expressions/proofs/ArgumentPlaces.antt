-- Where arguments are.
use Rattle.wac_resolution_expressions.proofs.Common.{◌≡◌, ◌∙◌, ℕ, List, [], ◌∷◌, Option, Some, None, ap, option_map, option_and_then, Span, Ident, Meaning, Named, look_up, argument_place, Composition, Node, name_inferred, node_at}
use Rattle.wac_ast_grammar.specs.Tree.{InstantiationArgument}

named_of : (imports : Named Meaning) (x : Ident) (o : Option Node) (text : List ℕ) → option_map (name_inferred imports x.string) o ≡ Some text
    → elim o as (λ _. Named Span) [ None ↦ [] | Some n ↦ (name_inferred imports x.string n, x.span) ∷ [] ] ≡ (text, x.span) ∷ []
named_of imports x None text is = absurd (cc)
named_of imports x (Some n) text is = (let same : name_inferred imports x.string n ≡ text = cc in ap (λ (l : List ℕ). (l, x.span) ∷ []) same)

pub inferred_at : (c : Composition) (imports : Named Meaning) (x : Ident) (node : ℕ) (text : List ℕ) → look_up x.string c.declared ≡ Some node → option_map (name_inferred imports x.string) (node_at c node) ≡ Some text
    → argument_place c imports (InstantiationArgument.inferred x) ≡ (text, x.span) ∷ []
inferred_at c imports x node text is named =
    ap (λ (o : Option ℕ). elim (option_and_then (node_at c) o) as (λ _. Named Span) [ None ↦ [] | Some n ↦ (name_inferred imports x.string n, x.span) ∷ [] ]) is
    ∙ named_of imports x (node_at c node) text named

pub inferred_nowhere_at : (c : Composition) (imports : Named Meaning) (x : Ident) → look_up x.string c.declared ≡ None → argument_place c imports (InstantiationArgument.inferred x) ≡ []
inferred_nowhere_at c imports x is =
    ap (λ (o : Option ℕ). elim (option_and_then (node_at c) o) as (λ _. Named Span) [ None ↦ [] | Some n ↦ (name_inferred imports x.string n, x.span) ∷ [] ]) is
