use Rattle.std.proofs.Common.{arith}
use Rattle.wac_graph_types.specs.declared.kind.ItemKind.TheVariants as kinds
use Rattle.wac_graph_types.proofs.Rows.{stands}
use Rattle.wac_graph_types.proofs.Meanings.{names_before_more}
use Rattle.wac_component_rules.proofs.Aliases.{alias_before, alias_names, defined_before, defined_within, stands_for_itself, stands_for_source, stands_for_unaliased, stands_for_whole}
use Rattle.wac_component_rules.proofs.Measures.{above_defined}
use Rattle.wac_component_rules.proofs.sources.plain_value.Goals as goal

pub loop-at-init : goal.loop-at-init
loop-at-init c = record { named = c.requires.named; before = λ n h. h; stands = stands_for_itself c.args.entries.now c.args.value }

pub loop-at-smaller : goal.loop-at-smaller
loop-at-smaller c =
    let is = stands c.args.entries.now c.in-Defined.id.0 c.index-entries-id.result (defined_within c.args.entries.now c.loop-at.at c.in-Defined.id c.loop-at.invariant.named c.in-Defined.is) c.index-entries-id.is in
    above_defined c.loop-at.at c.in-Defined.id c.in-Some.source c.in-Defined.is (alias_before c.args.entries.now c.in-Defined.id.0 c.index-entries-id.result c.in-Some.source c.requires.table is c.in-Some.ensures)

pub loop-at-preserved : goal.loop-at-preserved
loop-at-preserved c =
    let is = stands c.args.entries.now c.in-Defined.id.0 c.index-entries-id.result (defined_within c.args.entries.now c.loop-at.at c.in-Defined.id c.loop-at.invariant.named c.in-Defined.is) c.index-entries-id.is in
    let before = alias_before c.args.entries.now c.in-Defined.id.0 c.index-entries-id.result c.in-Some.source c.requires.table is c.in-Some.ensures in
    record {
      named = alias_names c.args.entries.now c.in-Defined.id.0 c.index-entries-id.result c.in-Some.source c.requires.table is c.in-Some.ensures;
      before = λ n h. let within = defined_before n c.loop-at.at c.in-Defined.id (c.loop-at.invariant.before n h) c.in-Defined.is in names_before_more c.in-Defined.id.0 n (kinds.Value c.in-Some.source) (omega (arith, within)) before;
      stands = stands_for_source c.args.entries.now c.args.value c.loop-at.at c.in-Defined.id c.index-entries-id.result c.in-Some.source c.requires.table.0 c.loop-at.invariant.stands c.in-Defined.is is c.in-Some.ensures;
    }

pub returns-in-Primitive-clause-value : goal.returns-in-Primitive-clause-value
returns-in-Primitive-clause-value c = λ o. (stands_for_whole c.args.entries.now c.args.value c.loop-at.at c.requires.table c.loop-at.invariant.named (λ id e. let is = c.in-Primitive.is in absurd (cc)) c.loop-at.invariant.stands o).0

pub returns-in-Primitive-clause-typed : goal.returns-in-Primitive-clause-typed
returns-in-Primitive-clause-typed c = λ o. (stands_for_whole c.args.entries.now c.args.value c.loop-at.at c.requires.table c.loop-at.invariant.named (λ id e. let is = c.in-Primitive.is in absurd (cc)) c.loop-at.invariant.stands o).1

pub returns-in-Own-clause-value : goal.returns-in-Own-clause-value
returns-in-Own-clause-value c = λ o. (stands_for_whole c.args.entries.now c.args.value c.loop-at.at c.requires.table c.loop-at.invariant.named (λ id e. let is = c.in-Own.is in absurd (cc)) c.loop-at.invariant.stands o).0

pub returns-in-Own-clause-typed : goal.returns-in-Own-clause-typed
returns-in-Own-clause-typed c = λ o. (stands_for_whole c.args.entries.now c.args.value c.loop-at.at c.requires.table c.loop-at.invariant.named (λ id e. let is = c.in-Own.is in absurd (cc)) c.loop-at.invariant.stands o).1

pub returns-in-Borrow-clause-value : goal.returns-in-Borrow-clause-value
returns-in-Borrow-clause-value c = λ o. (stands_for_whole c.args.entries.now c.args.value c.loop-at.at c.requires.table c.loop-at.invariant.named (λ id e. let is = c.in-Borrow.is in absurd (cc)) c.loop-at.invariant.stands o).0

pub returns-in-Borrow-clause-typed : goal.returns-in-Borrow-clause-typed
returns-in-Borrow-clause-typed c = λ o. (stands_for_whole c.args.entries.now c.args.value c.loop-at.at c.requires.table c.loop-at.invariant.named (λ id e. let is = c.in-Borrow.is in absurd (cc)) c.loop-at.invariant.stands o).1

pub returns-in-None-clause-value : goal.returns-in-None-clause-value
returns-in-None-clause-value c = λ o.
    let is = stands c.args.entries.now c.in-Defined.id.0 c.index-entries-id.result (defined_within c.args.entries.now c.loop-at.at c.in-Defined.id c.loop-at.invariant.named c.in-Defined.is) c.index-entries-id.is in
    (stands_for_unaliased c.args.entries.now c.args.value c.loop-at.at c.in-Defined.id c.index-entries-id.result c.requires.table.0 c.in-Defined.is is c.in-None.ensures c.loop-at.invariant.stands o).0

pub returns-in-None-clause-typed : goal.returns-in-None-clause-typed
returns-in-None-clause-typed c = λ o.
    let is = stands c.args.entries.now c.in-Defined.id.0 c.index-entries-id.result (defined_within c.args.entries.now c.loop-at.at c.in-Defined.id c.loop-at.invariant.named c.in-Defined.is) c.index-entries-id.is in
    (stands_for_unaliased c.args.entries.now c.args.value c.loop-at.at c.in-Defined.id c.index-entries-id.result c.requires.table.0 c.in-Defined.is is c.in-None.ensures c.loop-at.invariant.stands o).1
