use Rattle.std.proofs.Common.{◌≡◌, ◌↔◌, refl}
use Rattle.std.specs.Hash.{usize, le_bytes}
use denote.Enum.Declared.{tag_of}
use Rattle.wac_resolution_errors.specs.contracts.operation.InstanceOperation.{the_type}
use Rattle.wac_resolution_errors.specs.declared.operation.InstanceOperation.{InstanceOperation}
use Rattle.wac_resolution_errors.specs.declared.operation.InstanceOperation.TheVariants.{Access, Spread}
use Rattle.wac_resolution_errors.proofs.laws.operations_are_compared.Goals as goal

compared : (a b : InstanceOperation) → (usize (tag_of the_type a) ≡ usize (tag_of the_type b)) ↔ (a ≡ b)
unfolding le_bytes
compared Access Access = (λ _. refl, λ _. refl)
compared Spread Spread = (λ _. refl, λ _. refl)
compared Access Spread = (λ h. absurd (cc), λ h. absurd (cc))
compared Spread Access = (λ h. absurd (cc), λ h. absurd (cc))

pub returns-clause-hashes : goal.returns-clause-hashes
returns-clause-hashes c = compared
