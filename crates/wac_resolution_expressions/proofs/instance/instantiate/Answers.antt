use Rattle.wac_resolution_expressions.proofs.Common.{sym, ap, subst, List, ℕ, ◌∙◌, string_bytes, IsSome, by_name, IsFresh, with_argument, parameter_kind, arguments_of}
use Rattle.wac_resolution_expressions.proofs.Making.{making_start, making_import, making_open, making_earlier, making_next, making_end}
use Rattle.wac_resolution_expressions.proofs.instance.instantiate.Goals as goal

pub loop-name-init : goal.loop-name-init
loop-name-init c =
    rw (c.into_iter-name-iterator.ensures.into_iter_gives, c.iter-name-items.ensures.rest)
    (making_start c.args.state.now.graph c.add_instantiation.new.self c.args.«package».0 c.in_ok-node.node.0 c.args.given.now.entries c.requires.held c.in_ok-node.ensures.ok c.in_ok-node.ensures.number c.requires.there c.requires.imports c.len-count.ensures.unique)

pub set_argument-requires-clause-import : goal.set_argument-requires-clause-import
set_argument-requires-clause-import c =
    subst (λ (n : List ℕ). IsSome (parameter_kind c.loop-name.state.graph c.in_ok-node.node.0 n)) (sym c.as_str.ensures.value)
    (making_import c.args.state.now.graph c.loop-name.state.graph c.args.«package».0 c.in_ok-node.node.0 (by_name c.args.given.now.entries) (by_name c.loop-name.name-iterator) (by_name c.next.new.self) (string_bytes c.in-Some.name.now, c.in-Some.value.now)
    (ap by_name c.in-Some.ensures.steps) c.loop-name.invariant)

pub set_argument-requires-clause-open : goal.set_argument-requires-clause-open
set_argument-requires-clause-open c =
    subst (λ (n : List ℕ). IsFresh n (arguments_of c.loop-name.state.graph c.in_ok-node.node.0)) (sym c.as_str.ensures.value)
    (making_open c.args.state.now.graph c.loop-name.state.graph c.args.«package».0 c.in_ok-node.node.0 (by_name c.args.given.now.entries) (by_name c.loop-name.name-iterator) (by_name c.next.new.self) (string_bytes c.in-Some.name.now, c.in-Some.value.now)
    (ap by_name c.in-Some.ensures.steps) c.loop-name.invariant)

pub set_argument-requires-clause-earlier : goal.set_argument-requires-clause-earlier
set_argument-requires-clause-earlier c =
    making_earlier c.args.state.now.graph c.loop-name.state.graph c.args.«package».0 c.in_ok-node.node.0 (by_name c.args.given.now.entries) (by_name c.loop-name.name-iterator) (by_name c.next.new.self) (string_bytes c.in-Some.name.now, c.in-Some.value.now)
    (ap by_name c.in-Some.ensures.steps) c.loop-name.invariant

pub loop-name-preserved : goal.loop-name-preserved
loop-name-preserved c =
    making_next c.args.state.now.graph c.loop-name.state.graph c.args.«package».0 c.in_ok-node.node.0 (by_name c.args.given.now.entries) (by_name c.loop-name.name-iterator) (by_name c.next.new.self) (string_bytes c.in-Some.name.now, c.in-Some.value.now)
    (ap by_name c.in-Some.ensures.steps) c.loop-name.invariant c.set_argument.new.self
    (c.in_ok-set_argument.ensures.ok ∙ ap (λ (n : List ℕ). with_argument c.loop-name.state.graph c.in_ok-node.node.0 n c.in-Some.value.now.0) c.as_str.ensures.value)

pub returns : goal.returns
returns c =
    making_end c.args.state.now.graph c.loop-name.state.graph c.args.«package».0 c.in_ok-node.node.0 (by_name c.args.given.now.entries) (by_name c.loop-name.name-iterator) (ap by_name c.in-None.ensures.steps.0) c.nodes-nodes.ensures.sound c.loop-name.invariant
