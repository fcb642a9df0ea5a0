-- Nodes that are given for names.
use Rattle.wac_resolution_expressions.proofs.Common.{◌≡◌, ◌∙◌, ◌<◌, ℕ, List, Option, Some, None, true, inr, Result, refl, sym, ap, subst, length, is_some, option_map, IfErr, map_push, IfErr-weaker, Span, Ident, Arguments, WorldId, Named, look_up, IsFresh, with_named, NodeId, Parts, Numbering, all_more, Error, duplicate_instantiation_arg, error_model, ArgumentBroken, Composition, Node, at, given_too, GivesOne, name_inferred, Given, node_at, Root, composition_of, numbers_of, Agrees, NodeIs, grows_none, fresh_read, read_found}
use Rattle.wac_ast_grammar.specs.Tree.{InstantiationArgument}
use Rattle.wac_resolution_errors.specs.declared.error.Error.{Error as CodeError}
use Rattle.wac_resolution_expressions.specs.Arguments.{given_nodes}
use Rattle.wac_resolution_expressions.specs.GivenByNodes.{Gave}
use Rattle.wac_resolution_expressions.specs.Spreads.{giving_of, imports_at, GivenThere}
use Rattle.wac_resolution_expressions.specs.Giving.{GivesNode, IsGiven, IsGivenFor}

pub given_already : (before : Named NodeId) (name : List ℕ) (span : Span) (e : Error) (r : Option NodeId) → r ≡ look_up name before → is_some r ≡ true → e ≡ duplicate_instantiation_arg name span → IsGiven before name span e
given_already before name span e None is some error_is = absurd (cc)
given_already before name span e (Some n) is some error_is = (n.0, read_found (λ (m : NodeId). m.0) name before ∙ ap (option_map (λ (m : NodeId). m.0)) (sym is), error_is)

-- the name is the one that is meant
pub given_for : (r : Result (Unit {0}) CodeError) (before : Named NodeId) (text : List ℕ) (meant : Numbering → List ℕ) (s t : Span) → ((numbering : Numbering) → text ≡ meant numbering) → s ≡ t → IfErr r (λ e. IsGiven before text s (error_model e)) → IfErr r (λ e. IsGivenFor before meant t (error_model e))
given_for r before text meant s t is same h =
    IfErr-weaker r (λ e. IsGiven before text s (error_model e)) (λ e. IsGivenFor before meant t (error_model e)) (λ e given numbering. subst (λ (n : List ℕ). IsGiven before n t (error_model e)) (is numbering) (subst (λ (u : Span). IsGiven before text u (error_model e)) same given)) h

-- ---- by an identifier alone

-- the import that is inferred for the node
abbrev pub IsInferred : Parts → WorldId → Ident → NodeId → List ℕ → Type 0
IsInferred g w x node text = (numbering : Numbering) (declared : Named ℕ) → option_map (name_inferred (imports_at numbering g w) x.string) (node_at (composition_of numbering g declared) node.0) ≡ Some text

pub after_more : (before after : Named NodeId) (name : List ℕ) (node : NodeId) → after ≡ with_named before name node → given_nodes after ≡ with_named (given_nodes before) name node.0
after_more before after name node is = ap given_nodes is ∙ map_push (λ (e : List ℕ × NodeId). (e.0, e.1.0)) before (name, node)

pub there_more : (g : Parts) (before after : Named NodeId) (name : List ℕ) (node : NodeId) → after ≡ with_named before name node → GivenThere g before → node.0 < length g.nodes → GivenThere g after
there_more g before after name node is there here = subst (GivenThere g) (sym is) (all_more (λ (e : List ℕ × NodeId). e.1.0 < length g.nodes) before (name, node) there here)

inferred_node : (numbering : Numbering) (g : Parts) (declared : Named ℕ) (w : WorldId) (x : Ident) (node : NodeId) (text : List ℕ) → IsInferred g w x node text
    → (n : Node) × (node_at (composition_of numbering g declared) node.0 ≡ Some n) × (name_inferred (imports_at numbering g w) x.string n ≡ text)
inferred_node numbering g declared w x node text is = go (node_at (composition_of numbering g declared) node.0) (is numbering declared)
  where
    go : (o : Option Node) → option_map (name_inferred (imports_at numbering g w) x.string) o ≡ Some text → (n : Node) × (o ≡ Some n) × (name_inferred (imports_at numbering g w) x.string n ≡ text)
    go None h = absurd (cc)
    go (Some n) h = (n, refl, cc)

pub inferred_goes : (g : Parts) (root : Root) (w : WorldId) (x : Ident) (node : NodeId) (text : List ℕ) (before after : Named NodeId) → Agrees g root → NodeIs root x node → IsInferred g w x node text → GivenThere g before → GivesNode before after text node
    → Gave g g before after (numbers_of root.nodes) (λ numbering old new. (s : Given) (rest : Arguments) → GivesOne s (imports_at numbering g w) rest old (InstantiationArgument.inferred x) new)
inferred_goes g root w x node text before after agrees is inferred there gives = record {
  grows = grows_none g agrees.nodes;
  there = there_more g before after text node gives.is there (is.there g agrees);
  is = λ numbering s rest.
      let declared : Named ℕ = numbers_of root.nodes in
      let c : Composition = composition_of numbering g declared in
      let n = inferred_node numbering g declared w x node text inferred in
      let fresh : IsFresh text (given_nodes before) = fresh_read (λ (m : NodeId). m.0) before text gives.fresh in (
        node.0,
        n.0,
        is.is,
        n.1,
        subst (λ (l : List ℕ). IsFresh l (given_nodes before)) (sym n.2) fresh,
        ap (λ (l : Named ℕ). record { composition = c; arguments = l }) (after_more before after text node gives.is) ∙ ap (λ (l : List ℕ). given_too (giving_of numbering g declared before) l (at c node.0)) (sym n.2),
      );
}

pub inferred_breaks : (g : Parts) (root : Root) (w : WorldId) (x : Ident) (node : NodeId) (text : List ℕ) (before : Named NodeId) (r : Result (Unit {0}) CodeError) → NodeIs root x node → IsInferred g w x node text → IfErr r (λ e. IsGiven before text x.span (error_model e))
    → IfErr r (λ e. (numbering : Numbering) (s : Given) (rest : Arguments) → ArgumentBroken s (imports_at numbering g w) rest (giving_of numbering g (numbers_of root.nodes) before) (error_model e) (InstantiationArgument.inferred x))
inferred_breaks g root w x node text before r is inferred h =
    IfErr-weaker r (λ e. IsGiven before text x.span (error_model e)) (λ e. (numbering : Numbering) (s : Given) (rest : Arguments) → ArgumentBroken s (imports_at numbering g w) rest (giving_of numbering g (numbers_of root.nodes) before) (error_model e) (InstantiationArgument.inferred x))
    (λ e given numbering s rest.
    let n = inferred_node numbering g (numbers_of root.nodes) w x node text inferred in
    inr (node.0, n.0, is.is, n.1, subst (λ (l : List ℕ). IsGiven before l x.span (error_model e)) (sym n.2) given)) h
