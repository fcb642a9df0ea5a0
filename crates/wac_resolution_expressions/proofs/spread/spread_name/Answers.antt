use Rattle.wac_resolution_expressions.proofs.Common.{◌≡◌, ◌∙◌, true, false, sym, ap, is_some, is_none, rules, by_name}
use Rattle.wac_resolution_expressions.proofs.Spreading.{name_given, name_missing, name_exported}
use Rattle.wac_resolution_expressions.proofs.spread.spread_name.Goals as goal

pub returns-then-is_some : goal.returns-then-is_some
returns-then-is_some c =
    name_given c.args.state.now.graph (by_name c.args.given.now.entries) c.args.node.0 c.args.name.now c.requires.agrees c.requires.there (ap is_some (sym c.find.ensures) ∙ sym c.is_some.ensures ∙ c.if-is_some.true)

pub returns-then-is_none : goal.returns-then-is_none
returns-then-is_none c =
    let none : is_none c.export_kind.result ≡ true = search rules in
    name_missing c.args.state.now.graph (by_name c.args.given.now.entries) c.args.node.0 c.args.name.now c.requires.agrees c.requires.there (ap is_some (sym c.find.ensures) ∙ sym c.is_some.ensures ∙ c.if-is_some.false)
    (ap is_none (sym c.export_kind.ensures.kind) ∙ none)

pub returns : goal.returns
returns c =
    let some : is_none c.export_kind.result ≡ false = search rules in
    name_exported c.args.state.now.graph c.alias.new.state.graph (by_name c.args.given.now.entries) (by_name c.push.new.all.entries) c.args.node.0 c.args.name.now c.in_ok-value.value c.requires.there
    (ap is_some (sym c.find.ensures) ∙ sym c.is_some.ensures ∙ c.if-is_some.false) (ap is_none (sym c.export_kind.ensures.kind) ∙ some) c.in_ok-value.ensures c.in_ok-push.ensures.ok
