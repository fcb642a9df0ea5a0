-- What was replaced after a step.
use Rattle.std.specs.Prelude.{List, [], ◌∷◌, ◌++◌}
use Rattle.wac_files.specs.Replacements.{Replacement, replacement}
use Rattle.wac_files.specs.declared.log.Step.{Step}
use Rattle.wac_files.specs.declared.log.Step.TheVariants.{Begins, Replaces}

abbrev pub replaced_by : Step → List Replacement
replaced_by Begins = []
replaced_by (Replaces before path held text) = before.now.replaced ++ replacement path.now held.now text.now ∷ []
