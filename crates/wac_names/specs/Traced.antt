-- The steps of a document, as values have them.
use Rattle.std.specs.Prelude.{◌≡◌, List, [], ◌∷◌, ◌++◌, Option, Some, None, map}
use Rattle.wac_ast_base.specs.Names.{ident_of}
use Rattle.wac_names.specs.declared.steps.StepTaken.{StepTaken}
use Rattle.wac_names.specs.declared.steps.StepTaken.TheVariants as steps
use Rattle.wac_names.specs.Steps.{Step}

abbrev pub step_of : StepTaken → Step
step_of (steps.Begins l) = Step.begins l
step_of (steps.Binds l x) = Step.binds l (ident_of x)
step_of (steps.LooksUp l x) = Step.looks_up l (ident_of x)
step_of (steps.LooksOutwards l x) = Step.looks_outwards l (ident_of x)
step_of (steps.Enters name x) = Step.enters name.now (ident_of x)

abbrev pub traced : List StepTaken → List Step
traced xs = map step_of xs

-- these steps were taken
pub record Takes (old new part : List Step) : Type 0 where
  pub is : new ≡ old ++ part

-- one more, if there is one
abbrev pub with_last : {X : Type 0} → List X → Option X → List X
with_last xs None = xs
with_last xs (Some x) = xs ++ x ∷ []
