use Rattle.wac_resolution_state.proofs.Common.{◌≡◌, None, rules}
use Rattle.wac_resolution_state.proofs.Bound.{read_some, read_none}
use Rattle.wac_resolution_state.proofs.names.Names.place.Goals as goal

pub returns-in_err-span : goal.returns-in_err-span
returns-in_err-span g c =
    let none : c.from_residual.result ≡ None = search rules in
    read_none (λ b. b.0) c.args.name.now c.args.self.now c.binding.result c.from_residual.result c.binding.ensures c.in_err-span.was none

pub returns : goal.returns
returns g c = read_some (λ b. b.0) c.args.name.now c.args.self.now c.binding.result (c.in_ok-span.span, c.in_ok-span.field-0-1) c.binding.ensures c.in_ok-span.was
