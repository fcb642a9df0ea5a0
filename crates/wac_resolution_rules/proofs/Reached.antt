-- What holds of each holds of one that is reached.
use Rattle.wac_resolution_rules.proofs.Common.{List, [], ◌∷◌, ◌++◌, subst, AllByRecursion}
use Rattle.wac_resolution_rules.specs.BrokenExpressions.{ReachedAt}

-- what holds of each holds of one of them
pub all_at : {X : Type 0} (P : X → Type 0) (before after : List X) (x : X) → AllByRecursion P (before ++ x ∷ after) → P x
all_at P [] after x h = h.0
all_at P (y ∷ before) after x h = all_at P before after x h.1

pub reached_holds : {X : Type 0} (P Q : X → Type 0) (xs : List X) (x : X) → ReachedAt Q xs x → AllByRecursion P xs → P x
reached_holds {X} P Q xs x r h = all_at P r.0 r.1 x (subst (λ (l : List X). AllByRecursion P l) r.2 h)
