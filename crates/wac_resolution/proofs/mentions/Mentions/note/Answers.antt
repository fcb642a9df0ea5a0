use Rattle.wac_resolution.proofs.Common.{◌∙◌}
use Rattle.std.proofs.Common.{sym}
use Rattle.wac_resolution.proofs.Noting.{added, stays}
use Rattle.wac_resolution.proofs.mentions.Mentions.note.Goals as goal

pub returns-in_ok-insert : goal.returns-in_ok-insert
returns-in_ok-insert c =
    added c.args.self.now c.self.inside.own.now c.self.inside.first.entries c.insert.new.self.entries c.args.key c.args.span (sym c.self.view_is) (sym c.contains_key.ensures ∙ c.if-not-contains_key.true) c.in_ok-insert.ensures.entries

pub returns-else-not-contains_key : goal.returns-else-not-contains_key
returns-else-not-contains_key c = stays c.args.self.now c.self.inside.own.now c.self.inside.first.entries c.args.key c.args.span (sym c.self.view_is) (sym c.contains_key.ensures ∙ c.if-not-contains_key.false)
