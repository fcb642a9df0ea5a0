use Rattle.wac_resolution_state.proofs.Common.{◌≡◌, None, rules}
use Rattle.wac_resolution_state.proofs.Bound.{read_some, read_none}
use Rattle.wac_resolution_state.proofs.names.Names.find.Goals as goal

pub returns-in_err-value : goal.returns-in_err-value
returns-in_err-value g c =
    let none : c.from_residual.result ≡ None = search rules in
    read_none (λ b. b.1) c.args.name.now c.args.self.now c.binding.result c.from_residual.result c.binding.ensures c.in_err-value.was none

pub returns : goal.returns
returns g c = read_some (λ b. b.1) c.args.name.now c.args.self.now c.binding.result (c.in_ok-value.field-0-0, c.in_ok-value.value) c.binding.ensures c.in_ok-value.was
