use Rattle.wac_graph_types.proofs.Common.{refl, sym, arith}
use Rattle.wac_graph_types.specs.Names.{by_name}
use Rattle.wac_graph_types.specs.Tests.{Passes}
use Rattle.wac_graph_types.proofs.Rows.{shown, refuted}
use Rattle.wac_graph_types.proofs.Listed.{listed_at, listed_length}
use Rattle.wac_graph_types.proofs.Each.{rest_passes_step, rest_passes_fails, rest_passes_end, each_all, all_each}
use Rattle.wac_graph_types.proofs.package.definitions_pass.Goals as goal

pub loop-at-preserved : goal.loop-at-preserved
loop-at-preserved c = rest_passes_step (λ _ d. Passes c.args.test c.args.entries.now 0 d.1) (by_name c.args.definitions.now.entries) c.loop-at.at _ (listed_at c.args.definitions.now.entries c.loop-at.at _ _ (sym c.in-Some.ensures.entry)) (c.if-not-passes.ensures.0 refl) c.loop-at.invariant

pub returns : goal.returns
returns c = shown (each_all (λ d. Passes c.args.test c.args.entries.now 0 d.1) 0 (by_name c.args.definitions.now.entries) (rest_passes_end _ _ c.loop-at.at (omega (arith, listed_length c.args.definitions.now.entries)) c.loop-at.invariant))

pub returns-then-not-passes : goal.returns-then-not-passes
returns-then-not-passes c = refuted (λ all.
    rest_passes_fails (λ _ d. Passes c.args.test c.args.entries.now 0 d.1) (by_name c.args.definitions.now.entries) c.loop-at.at _ (listed_at c.args.definitions.now.entries c.loop-at.at _ _ (sym c.in-Some.ensures.entry)) (λ p. let f = c.if-not-passes.ensures.1 p in cc) c.loop-at.invariant (all_each (λ d. Passes c.args.test c.args.entries.now 0 d.1) 0 (by_name c.args.definitions.now.entries) all))
