use Rattle.wac_resolution_worlds.proofs.Common.{List, [], inl, map, refl, subst, err_from_is_err_and, by_name, Fails, world_include_item_of, world_include_of, error_model, IsSecondEntry, HasEntry, values_of, lists_of, reports}
use Rattle.wac_resolution_worlds.specs.Entries.{AreAll}
use Rattle.wac_ast_uses.specs.declared.includes.WorldIncludeItem.{WorldIncludeItem}
use Rattle.wac_resolution_worlds.proofs.Including.{include_goes, world_breaks, taking_breaks}
use Rattle.wac_resolution_worlds.proofs.includes.include.Goals as goal

pub returns-in_err-renamed-clause-err : goal.returns-in_err-renamed-clause-err
returns-in_err-renamed-clause-err c =
    let p = err_from_is_err_and c.from_residual.result c.from_residual.ensures.1 in
    rw (p.1, p.2) (reports c.in_err-renamed.ensures.err (λ err numbering before. inl (subst (λ (l : List WorldIncludeItem). Fails HasEntry (IsSecondEntry (error_model c.in_err-renamed.field-0.0)) [] (map world_include_item_of l)) c.deref.ensures.value err)))

pub returns-in_err-kind-clause-err : goal.returns-in_err-kind-clause-err
returns-in_err-kind-clause-err c =
    let p = err_from_is_err_and c.from_residual-in_err-kind.result c.from_residual-in_err-kind.ensures.1 in
    let all = subst (λ (l : List WorldIncludeItem). AreAll (map world_include_item_of l) (by_name c.in_ok-renamed.renamed.entries)) c.deref.ensures.value c.in_ok-renamed.ensures.ok in
    rw (p.1, p.2) (reports c.in_err-kind.ensures.err (world_breaks c.args.outer.now.context.now c.args.state.now.graph (values_of c.args.outer.now.root.now) (lists_of c.args.body.now) c.args.world.now (world_include_of c.args.include.now) (by_name c.in_ok-renamed.renamed.entries) (error_model c.in_err-kind.field-0.0) all))

pub take-requires-clause-kind : goal.take-requires-clause-kind
take-requires-clause-kind c = c.in_ok-kind.ensures.ok.named

pub take-requires-clause-of_clause : goal.take-requires-clause-of_clause
take-requires-clause-of_clause c =
    let all = subst (λ (l : List WorldIncludeItem). AreAll (map world_include_item_of l) (by_name c.in_ok-renamed.renamed.entries)) c.deref.ensures.value c.in_ok-renamed.ensures.ok in
    all.of_clause

pub returns-in_err-take-clause-err : goal.returns-in_err-take-clause-err
returns-in_err-take-clause-err c =
    let p = err_from_is_err_and c.from_residual-in_err-take.result c.from_residual-in_err-take.ensures.1 in
    let all = subst (λ (l : List WorldIncludeItem). AreAll (map world_include_item_of l) (by_name c.in_ok-renamed.renamed.entries)) c.deref.ensures.value c.in_ok-renamed.ensures.ok in
    rw (p.1, p.2) (reports c.in_err-take.ensures.err (taking_breaks c.args.outer.now.context.now c.args.state.now.graph c.world_ref.new.state.graph (values_of c.args.outer.now.root.now) (lists_of c.args.body.now) c.args.world.now (world_include_of c.args.include.now) (by_name c.in_ok-renamed.renamed.entries) c.in_ok-kind.kind (error_model c.in_err-take.field-0.0)
    c.requires.body all c.in_ok-kind.ensures.ok))

pub returns-clause-ok : goal.returns-clause-ok
returns-clause-ok c =
    let all = subst (λ (l : List WorldIncludeItem). AreAll (map world_include_item_of l) (by_name c.in_ok-renamed.renamed.entries)) c.deref.ensures.value c.in_ok-renamed.ensures.ok in
    include_goes c.args.outer.now.context.now c.args.state.now.graph c.world_ref.new.state.graph (values_of c.args.outer.now.root.now) (lists_of c.args.body.now) (lists_of (record c.args.body.now { imports = c.take.new.imports; exports = c.take.new.exports })) (world_include_of c.args.include.now) (by_name c.in_ok-renamed.renamed.entries) c.in_ok-kind.kind
    c.requires.body all c.in_ok-kind.ensures.ok c.in_ok-take.ensures.ok refl refl
