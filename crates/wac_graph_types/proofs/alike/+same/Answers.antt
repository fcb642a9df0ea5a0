use Rattle.wac_graph_types.proofs.Common.{arith, refl, sym}
use Rattle.wac_graph_types.specs.Entry.{children}
use Rattle.wac_graph_types.specs.Meaning.{meaning_at}
use Rattle.wac_graph_types.proofs.Rows.{node_same, same_node, refuted, shown, stands, rest_differs, rest_decides_step, rest_decides_end, lengths_differ, earlier_child, none_within, above_falls, before_more}
use Rattle.wac_graph_types.proofs.alike.+same.Goals as goal

pub same_at-returns-then-not-same_label-clause-same : goal.same_at-returns-then-not-same_label-clause-same
same_at-returns-then-not-same_label-clause-same t c = λ o one. refuted (λ same.
    let h = c.if-not-same_label.ensures (o c.args.i) (o c.args.j) (λ r s e. c.if-i-j.false (one c.args.i c.args.j _ _ (stands c.args.entries.now c.args.i c.index-entries-i.result c.requires.first c.index-entries-i.is) (stands c.args.entries.now c.args.j c.index-entries-j.result c.requires.second c.index-entries-j.is) r s e)) in
    let p = node_same o _ _ _ _ _ c.requires.earlier c.requires.first c.index-entries-i.is c.requires.second c.index-entries-j.is same in
    let f = h.1 p.0 in cc)

pub same_at-returns-then-len-count-clause-same : goal.same_at-returns-then-len-count-clause-same
same_at-returns-then-len-count-clause-same t c = λ o one. refuted (λ same.
    let p = node_same o _ _ _ _ _ c.requires.earlier c.requires.first c.index-entries-i.is c.requires.second c.index-entries-j.is same in
    let e = lengths_differ (meaning_at o c.args.entries.now) _ _ p.1 in omega (arith, e))

pub same_at-returns-then-not-same-clause-same : goal.same_at-returns-then-not-same-clause-same
same_at-returns-then-not-same-clause-same t c = λ o one. refuted (λ same.
    let p = node_same o _ _ _ _ _ c.requires.earlier c.requires.first c.index-entries-i.is c.requires.second c.index-entries-j.is same in
    rest_differs (meaning_at o c.args.entries.now) _ _ c.loop-at.at _ _ (sym c.in-Some-Some.ensures) (sym c.in-Some-Some.ensures') (λ slot child. let f = c.if-not-same.ensures.1 slot in cc) (c.loop-at.invariant.1 o one) p.1)

pub same_at-same_kind-requires : goal.same_at-same_kind-requires
same_at-same_kind-requires t c =
    let a = earlier_child c.args.entries.now c.args.i c.loop-at.at _ _ c.requires.earlier (stands c.args.entries.now c.args.i c.index-entries-i.result c.requires.first c.index-entries-i.is) (sym c.in-Some-Some.ensures) in
    let b = earlier_child c.args.entries.now c.args.j c.loop-at.at _ _ c.requires.earlier (stands c.args.entries.now c.args.j c.index-entries-j.result c.requires.second c.index-entries-j.is) (sym c.in-Some-Some.ensures') in
    (omega (arith, above_falls c.args.i c.in-Some-Some.c.kind a), (c.requires.earlier, (before_more c.args.i _ c.in-Some-Some.c.kind c.requires.first a, (before_more c.args.j _ c.in-Some-Some.d.kind c.requires.second b, c.loop-at.invariant.0))))

pub same_at-returns-then-not-same_kind-clause-same : goal.same_at-returns-then-not-same_kind-clause-same
same_at-returns-then-not-same_kind-clause-same t c = λ o one. refuted (λ same.
    let p = node_same o _ _ _ _ _ c.requires.earlier c.requires.first c.index-entries-i.is c.requires.second c.index-entries-j.is same in
    rest_differs (meaning_at o c.args.entries.now) _ _ c.loop-at.at _ _ (sym c.in-Some-Some.ensures) (sym c.in-Some-Some.ensures') (λ slot child. let f = (c.if-not-same_kind.ensures.same o one).1 child in cc) (c.loop-at.invariant.1 o one) p.1)

pub same_at-returns-in_default : goal.same_at-returns-in_default
same_at-returns-in_default t c = absurd (none_within (children c.index-entries-j.result) c.loop-at.at (sym c.in_default.ensures') (omega arith))

pub same_at-returns-in_default-2 : goal.same_at-returns-in_default-2
same_at-returns-in_default-2 t c = absurd (none_within (children c.index-entries-i.result) c.loop-at.at (sym c.in_default.ensures) (omega arith))

pub same_at-loop-at-preserved : goal.same_at-loop-at-preserved
same_at-loop-at-preserved t c = (
  c.if-not-same_kind.ensures.found,
  λ o one.
      rest_decides_step (meaning_at o c.args.entries.now) _ _ c.loop-at.at _ _ (sym c.in-Some-Some.ensures) (sym c.in-Some-Some.ensures') (c.if-not-same.ensures.0 refl) ((c.if-not-same_kind.ensures.same o one).0 refl) (c.loop-at.invariant.1 o one),
)

pub same_at-returns-clause-same : goal.same_at-returns-clause-same
same_at-returns-clause-same t c = λ o one. shown (same_node o _ _ _ _ _ c.requires.earlier c.requires.first c.index-entries-i.is c.requires.second c.index-entries-j.is ((c.if-not-same_label.ensures (o c.args.i) (o c.args.j) (λ r s e. c.if-i-j.false (one c.args.i c.args.j _ _ (stands c.args.entries.now c.args.i c.index-entries-i.result c.requires.first c.index-entries-i.is) (stands c.args.entries.now c.args.j c.index-entries-j.result c.requires.second c.index-entries-j.is) r s e))).0 refl) (rest_decides_end (meaning_at o c.args.entries.now) _ _ c.loop-at.at (omega arith) (omega arith) (c.loop-at.invariant.1 o one)))

pub same_at-returns-clause-found : goal.same_at-returns-clause-found
same_at-returns-clause-found t c = c.add.ensures.alike c.args.entries.now c.loop-at.invariant.0 (λ o one. same_node o _ _ _ _ _ c.requires.earlier c.requires.first c.index-entries-i.is c.requires.second c.index-entries-j.is ((c.if-not-same_label.ensures (o c.args.i) (o c.args.j) (λ r s e. c.if-i-j.false (one c.args.i c.args.j _ _ (stands c.args.entries.now c.args.i c.index-entries-i.result c.requires.first c.index-entries-i.is) (stands c.args.entries.now c.args.j c.index-entries-j.result c.requires.second c.index-entries-j.is) r s e))).0 refl) (rest_decides_end (meaning_at o c.args.entries.now) _ _ c.loop-at.at (omega arith) (omega arith) (c.loop-at.invariant.1 o one)))
