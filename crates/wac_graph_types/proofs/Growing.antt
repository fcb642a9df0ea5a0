-- A table that grows keeps its meanings.
use Rattle.wac_graph_types.proofs.Common.{◌≡◌, List, [], ◌∷◌, ◌++◌, sym, subst, ap, ◌∙◌}
use Rattle.wac_graph_types.specs.declared.entry.Entry.{Entry}
use Rattle.wac_graph_types.specs.Growth.{KeepsMeanings, KeepsNames}
use Rattle.wac_graph_types.specs.Table.{Names}
use Rattle.wac_graph_types.specs.Meaning.{meaning}
use Rattle.wac_graph_types.proofs.Meanings.{grown}
use Rattle.wac_graph_types.proofs.Tables.{names_kept}

pub keeps_appended : (old new fs : List Entry) → new ≡ old ++ fs → KeepsMeanings old new
keeps_appended old new fs is = λ o k names. ap (λ (l : List Entry). meaning o l k) is ∙ grown o old fs k names

pub keeps_added : (old new : List Entry) (e : Entry) → new ≡ old ++ e ∷ [] → KeepsMeanings old new
keeps_added old new e is = keeps_appended old new (e ∷ []) is

pub keeps_unchanged : (old new : List Entry) → new ≡ old → KeepsMeanings old new
keeps_unchanged old new is = λ o k names. ap (λ (l : List Entry). meaning o l k) is

pub names_appended : (old new fs : List Entry) → new ≡ old ++ fs → KeepsNames old new
names_appended old new fs is k h = subst (λ (l : List Entry). Names l k) (sym is) (names_kept old fs k h)

pub names_unchanged : (old new : List Entry) → new ≡ old → KeepsNames old new
names_unchanged old new is k h = subst (λ (l : List Entry). Names l k) (sym is) h
