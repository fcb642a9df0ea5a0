use Rattle.wac_resolution_state.proofs.Common.{◌∙◌, subst, sym, ap, IsFresh, with_named}
use Rattle.wac_resolution_state.specs.Bindings.{Bindings, by_text}
use Rattle.wac_resolution_state.proofs.Bound.{text_bound}
use Rattle.wac_resolution_state.proofs.names.Names.bind.Goals as goal

pub returns-clause-ok : goal.returns-clause-ok
returns-clause-ok g c =
    let new : IsFresh c.args.id.now.string.now (by_text c.self.inside.bound.entries)
    = subst (λ (all : Bindings g.row.X.Denot). IsFresh c.args.id.now.string.now all) (sym c.self.view_is) c.requires in
    text_bound c.args.id.now.string (c.args.id.now.span, c.args.value) c.self.inside.bound.entries c.insert.new.self.entries c.in_ok-insert.ensures.entries new
    ∙ ap (λ (all : Bindings g.row.X.Denot). with_named all c.args.id.now.string.now (c.args.id.now.span, c.args.value)) c.self.view_is
