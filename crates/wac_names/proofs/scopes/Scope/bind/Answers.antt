use Rattle.std.proofs.Common.{◌≡◌, is_none, true, sym, rules}
use Rattle.wac_names.proofs.Bound.{added}
use Rattle.wac_names.proofs.scopes.Scope.bind.Goals as goal

pub returns-in_ok-insert : goal.returns-in_ok-insert
returns-in_ok-insert g c =
    let new : is_none c.find.result ≡ true = search rules in
    added c.args.name c.args.place c.self.inside.bound.entries c.insert.new.self.entries c.args.self.now c.find.result (sym c.self.view_is) c.find.ensures new c.in_ok-insert.ensures.entries
