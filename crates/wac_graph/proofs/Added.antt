-- What is added to a table is what was meant.
use Rattle.wac_graph.proofs.Common.{◌≡◌, ◌∙◌, ℕ, [], ◌∷◌, ◌++◌, length, ap, slice_get, Entry, children, EachKind, PackageParts, IsPackage, Names}
use Rattle.wac_graph.specs.Copied.{IsGrownBy, MeansTheSame}
use Rattle.wac_graph.specs.Adds.{Adds, AddsPackage}
use Rattle.wac_graph.specs.Graph.{Parts, with_entry, with_package}
use Rattle.wac_graph.specs.Means.{CopiesMean}
use Rattle.wac_graph.specs.Package.{Key}
use Rattle.wac_graph.specs.Sound.{IsSound}
use Rattle.wac_graph.proofs.Contents.{holds_contents}
use Rattle.wac_graph.proofs.Keeping.{names_entry}
use Rattle.wac_graph.proofs.Lists.{get_last}
use Rattle.wac_graph.proofs.Origins.{keeps_entry, means_added, count_added, copies_mean, count_package}

pub adds : (old new : Parts) (e : Entry) (id : ℕ) → IsSound old → EachKind (Names old.types) (children e) → new ≡ with_entry old e → id ≡ length old.types → Adds old new e id
adds old new e id sound here is number = record {
  number = number;
  is = is;
  there = ap (λ (g : Parts). slice_get g.types id) is ∙ ap (slice_get (old.types ++ e ∷ [])) number ∙ get_last old.types e;
  means = means_added old new e sound here is;
  count = count_added old new e sound is;
  kinds = keeps_entry old new e is;
  names = names_entry old new e is;
}

pub adds_package : (old new : Parts) (key : Key) (p : PackageParts) (id : ℕ) → IsSound old → IsPackage p → id ≡ length old.packages → new ≡ with_package old key p new.types
    → IsGrownBy old.types p.types new.types → MeansTheSame old.types p.types new.types → AddsPackage old new key p id
adds_package old new key p id sound facts number is copies means =
    let copied : CopiesMean old new key p = copies_mean old new key p sound is means in
    record {
      number = number;
      is = is;
      copies = copies;
      means = means;
      copied = copied;
      contents = holds_contents old new key p facts copied;
      count = count_package old new key p sound copies is;
    }
