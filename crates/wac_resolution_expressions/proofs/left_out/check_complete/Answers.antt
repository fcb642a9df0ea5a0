use Rattle.wac_resolution_expressions.proofs.Common.{◌∙◌, ℕ, List, map, sym, ap, inr, string_bytes, by_name, arguments_from, package_name_of, argument_of, missing_instantiation_arg, has_fill}
use Rattle.wac_resolution_expressions.specs.Arguments.{given_nodes}
use Rattle.wac_resolution_expressions.proofs.LeavingOut.{complete_filled, complete_given, incomplete}
use Rattle.wac_resolution_expressions.proofs.left_out.check_complete.Goals as goal

pub returns-then-has_fill-clause-ok : goal.returns-then-has_fill-clause-ok
returns-then-has_fill-clause-ok c =
    complete_filled c.args.state.now.graph c.args.world (given_nodes (by_name c.args.given.now.entries)) (has_fill (arguments_from (map argument_of c.args.arguments.now))) (sym c.has_fill.ensures ∙ c.if-has_fill.true)

pub returns-in-None-clause-ok : goal.returns-in-None-clause-ok
returns-in-None-clause-ok c =
    complete_given c.args.state.now.graph c.args.world (given_nodes (by_name c.args.given.now.entries)) (has_fill (arguments_from (map argument_of c.args.arguments.now))) c.in-None.ensures

pub returns-in_ok-from_str-in-Some-2-clause-err : goal.returns-in_ok-from_str-in-Some-2-clause-err
returns-in_ok-from_str-in-Some-2-clause-err c =
    inr (incomplete c.args.state.now.graph c.args.world (package_name_of c.args.«package».now) (arguments_from (map argument_of c.args.arguments.now)) (given_nodes (by_name c.args.given.now.entries)) c.in-Some.name.now _ (sym c.has_fill.ensures ∙ c.if-has_fill.false) c.in-Some.ensures
    (ap (λ (n : List ℕ). missing_instantiation_arg n (string_bytes c.in_ok-from_str-in-Some-2.field-0) c.args.«package».now.span) c.in_ok-from_str-in-Some.ensures.ok
    ∙ ap (λ (t : List ℕ). missing_instantiation_arg c.in-Some.name.now t c.args.«package».now.span) c.in_ok-from_str-in-Some-2.ensures.ok))
