use Rattle.wac_graph_types.proofs.Common.{refl, sym, arith}
use Rattle.wac_graph_types.specs.Entry.{export_children, child_view}
use Rattle.wac_graph_types.specs.Meaning.{meaning_at}
use Rattle.wac_graph_types.proofs.Rows.{refuted, shown, child_before, rest_differs, rest_decides_step, rest_decides_end, lengths_differ}
use Rattle.wac_graph_types.proofs.Views.{export_count}
use Rattle.wac_graph_types.proofs.package.same_externs.Goals as goal

pub returns-then-len-count : goal.returns-then-len-count
returns-then-len-count c = λ o one. refuted (λ same.
    let e = lengths_differ (meaning_at o c.args.entries.now) _ _ same in omega (arith, e, export_count c.args.first.now.entries, export_count c.args.second.now.entries))

pub returns-then-not-same : goal.returns-then-not-same
returns-then-not-same c = λ o one. refuted (λ same.
    rest_differs (meaning_at o c.args.entries.now) _ _ c.loop-at.at _ _ (sym c.in-Some-Some.ensures) (sym c.in-Some-Some.ensures') (λ slot child. let f = c.if-not-same.ensures.1 slot in cc) (c.loop-at.invariant o one) same)

pub same_child-requires-clause-first : goal.same_child-requires-clause-first
same_child-requires-clause-first c = child_before _ (export_children c.args.first.now.entries) c.loop-at.at (child_view c.in-Some-Some.c) c.requires.first (sym c.in-Some-Some.ensures)

pub same_child-requires-clause-second : goal.same_child-requires-clause-second
same_child-requires-clause-second c = child_before _ (export_children c.args.second.now.entries) c.loop-at.at (child_view c.in-Some-Some.d) c.requires.second (sym c.in-Some-Some.ensures')

pub returns-then-not-same_child : goal.returns-then-not-same_child
returns-then-not-same_child c = λ o one. refuted (λ same.
    rest_differs (meaning_at o c.args.entries.now) _ _ c.loop-at.at _ _ (sym c.in-Some-Some.ensures) (sym c.in-Some-Some.ensures') (λ slot child. let f = (c.if-not-same_child.ensures o one).1 child in cc) (c.loop-at.invariant o one) same)

pub loop-at-preserved : goal.loop-at-preserved
loop-at-preserved c = λ o one.
    rest_decides_step (meaning_at o c.args.entries.now) _ _ c.loop-at.at _ _ (sym c.in-Some-Some.ensures) (sym c.in-Some-Some.ensures') (c.if-not-same.ensures.0 refl) ((c.if-not-same_child.ensures o one).0 refl) (c.loop-at.invariant o one)

pub returns : goal.returns
returns c = λ o one. shown (rest_decides_end (meaning_at o c.args.entries.now) _ _ c.loop-at.at (omega (arith, export_count c.args.first.now.entries)) (omega (arith, export_count c.args.second.now.entries)) (c.loop-at.invariant o one))
