-- Arguments that fit.
use Rattle.wac_resolution_expressions.proofs.Common.{◌≡◌, ◌∙◌, ◌<◌, ℕ, List, [], ◌∷◌, ◌++◌, Option, Some, None, Result, refl, sym, ap, subst, length, append_assoc, append-nil, option_map, IfSome, IsSome, AllByRecursion, Entry, ItemKind, WorldId, Reason, Meaning, meaning, world_imports, Named, look_up, Names, EachEntryNamed, world_imports_named, found_named, items_found, NodeId, Parts, means, entry_means, origin_at, EntriesMean, OriginsApart, Numbering, IsOneToOne, kind_at, Fits, Rules, composition_of, kind_in, kind_means}
use Rattle.wac_graph.specs.Means.{entry_means_in}
use Rattle.wac_graph_types.specs.declared.kind.ItemKind.TheVariants as kinds
use Rattle.wac_graph_types.specs.Meaning as tables
use Rattle.wac_graph_types.specs.Rules.{Answers}
use Rattle.wac_resolution_expressions.specs.Arguments.{given_nodes}
use Rattle.wac_resolution_expressions.specs.Fits.{IsImport, IsFit, IsForNone, IsUnfit, IsAgainst, FitAll, AllFit, IsFirstMisfit}
use Rattle.wac_resolution_expressions.specs.Spreads.{GivenThere, imports_at}
use Rattle.wac_resolution_expressions.proofs.Imports.{imports_meant}

-- ---- an import's kind

pub import_named : (es : List Entry) (w : WorldId) (name : List ℕ) (r : Option ItemKind) → EachEntryNamed es → r ≡ look_up name (world_imports es w.0) → IfSome r (Names es)
import_named es w name None named is = tt
import_named es w name (Some k) named is = found_named es name (world_imports es w.0) k (world_imports_named es named w.0) (sym is)

import_meant : (g : Parts) (w : WorldId) (name : List ℕ) (r : Option ItemKind) → EntriesMean g → Names g.types (kinds.Component w) → r ≡ look_up name (world_imports g.types w.0)
    → (numbering : Numbering) → look_up name (imports_at numbering g w) ≡ option_map (means numbering g) r
import_meant g w name r law named is numbering =
    ap (look_up name) (imports_meant g w law named numbering) ∙ items_found (entry_means numbering g) (world_imports g.types w.0) name ∙ ap (option_map (means numbering g)) (sym is)

-- ---- what rules say of kinds of a graph

meant_by : (numbering : Numbering) (g : Parts) (k : ItemKind) → meaning (λ i. numbering (origin_at g i)) g.types k ≡ means numbering g k
unfolding entry_means_in
meant_by numbering g k = refl

pub rules_say : (passes : Meaning → Meaning → Option Reason) (g : Parts) (es : List Entry) (node : ℕ) (a b : ItemKind) (r : Result (Unit {0}) Reason) → OriginsApart g → es ≡ g.types → kind_in g.nodes node ≡ Some a
    → ((origins : ℕ → ℕ) → tables.IsOneToOne es origins → Answers r (passes (meaning origins es a) (meaning origins es b)))
    → (numbering : Numbering) (declared : Named ℕ) → IsOneToOne numbering → Answers r (passes (kind_at (composition_of numbering g declared).nodes node) (means numbering g b))
rules_say passes g es node a b r apart is kind h numbering declared one =
    let origins : ℕ → ℕ = λ i. numbering (origin_at g i) in
    let said : Answers r (passes (meaning origins g.types a) (meaning origins g.types b)) =
    subst (λ (l : List Entry). (o : ℕ → ℕ) → tables.IsOneToOne l o → Answers r (passes (meaning o l a) (meaning o l b))) is h origins (apart numbering one) in
    subst (λ (m : Meaning). Answers r (passes m (means numbering g b))) (meant_by numbering g a ∙ sym (kind_means numbering g node a kind))
    (subst (λ (m : Meaning). Answers r (passes (meaning origins g.types a) m)) (meant_by numbering g b) said)

-- what is said of a node and a wanted kind
abbrev Said : Rules → Parts → ℕ → ItemKind → Option Reason → Type 0
Said rules g node wanted verdict = (numbering : Numbering) (declared : Named ℕ) → IsOneToOne numbering → rules.passes (kind_at (composition_of numbering g declared).nodes node) (means numbering g wanted) ≡ verdict

-- ---- an argument

pub fits_there : (rules : Rules) (g : Parts) (w : WorldId) (name : List ℕ) (node : ℕ) (wanted : ItemKind) → EntriesMean g → Names g.types (kinds.Component w) → Some wanted ≡ look_up name (world_imports g.types w.0)
    → Said rules g node wanted None → IsFit rules g w name node
fits_there rules g w name node wanted law named is said = record {
  import = subst (λ (o : Option ItemKind). IsSome o) is refl;
  is = λ numbering declared one. (means numbering g wanted, import_meant g w name (Some wanted) law named is numbering, said numbering declared one);
}

pub unfit_there : (rules : Rules) (g : Parts) (w : WorldId) (name : List ℕ) (node : ℕ) (wanted : ItemKind) (reason : Reason) → EntriesMean g → Names g.types (kinds.Component w) → Some wanted ≡ look_up name (world_imports g.types w.0)
    → Said rules g node wanted (Some reason) → IsUnfit rules g w name node reason
unfit_there rules g w name node wanted reason law named is said = record {
  is = λ numbering declared one. (means numbering g wanted, import_meant g w name (Some wanted) law named is numbering, said numbering declared one);
}

pub for_none : (g : Parts) (w : WorldId) (name : List ℕ) → EntriesMean g → Names g.types (kinds.Component w) → None ≡ look_up name (world_imports g.types w.0) → IsForNone g w name
for_none g w name law named is = record { is = λ numbering. import_meant g w name None law named is numbering }

-- ---- in order

-- those before the rest fit
pub record FitSoFar (rules : Rules) (g : Parts) (w : WorldId) (all rest : Named NodeId) : Type 0 where
  pub before : Named ℕ
  pub split : given_nodes all ≡ before ++ given_nodes rest
  pub imports : AllByRecursion (IsImport g w) before
  pub fit : FitAll rules g w before
  pub there : GivenThere g rest

pub none_fit : (rules : Rules) (g : Parts) (w : WorldId) (all : Named NodeId) → GivenThere g all → FitSoFar rules g w all all
none_fit rules g w all there = record { before = []; split = refl; imports = tt; fit = λ numbering declared one. tt; there = there }

pub next_there : (g : Parts) (rest left : Named NodeId) (x : List ℕ × NodeId) → rest ≡ x ∷ left → GivenThere g rest → x.1.0 < length g.nodes
next_there g rest left x is h = (subst (GivenThere g) is h).0

all_more : {X : Type 0} (P : X → Type 0) (xs : List X) (x : X) → AllByRecursion P xs → P x → AllByRecursion P (xs ++ x ∷ [])
all_more P [] x h p = (p, tt)
all_more P (y ∷ xs) x h p = (h.0, all_more P xs x h.1 p)

pub fit_next : (rules : Rules) (g : Parts) (w : WorldId) (all rest left : Named NodeId) (x : List ℕ × NodeId) → rest ≡ x ∷ left → FitSoFar rules g w all rest → IsFit rules g w x.0 x.1.0 → FitSoFar rules g w all left
fit_next rules g w all rest left x is p fit = record {
  before = p.before ++ (x.0, x.1.0) ∷ [];
  split = p.split ∙ ap (λ (l : Named NodeId). p.before ++ given_nodes l) is ∙ sym (append_assoc p.before ((x.0, x.1.0) ∷ []) (given_nodes left));
  imports = all_more (IsImport g w) p.before (x.0, x.1.0) p.imports fit.import;
  fit = λ numbering declared one. all_more (Fits rules (imports_at numbering g w) (composition_of numbering g declared).nodes) p.before (x.0, x.1.0) (p.fit numbering declared one) (fit.is numbering declared one);
  there = (subst (GivenThere g) is p.there).1;
}

pub fit_end : (rules : Rules) (g : Parts) (w : WorldId) (all rest : Named NodeId) → rest ≡ [] → FitSoFar rules g w all rest → AllFit rules g w all
fit_end rules g w all rest is p =
    let same : given_nodes all ≡ p.before = p.split ∙ ap (λ (l : Named NodeId). p.before ++ given_nodes l) is ∙ append-nil p.before in
    record { imports = subst (AllByRecursion (IsImport g w)) (sym same) p.imports; is = subst (FitAll rules g w) (sym same) p.fit }

pub misfit_first : (rules : Rules) (g : Parts) (w : WorldId) (all rest left : Named NodeId) (x : List ℕ × NodeId) (name : List ℕ) (r : Option Reason) → rest ≡ x ∷ left → name ≡ x.0 → FitSoFar rules g w all rest → IsAgainst rules g w name x.1.0 r
    → IsFirstMisfit rules g w all name r
misfit_first rules g w all rest left x name r is reads p against = record {
  before = p.before;
  node = x.1.0;
  after = given_nodes left;
  split = p.split ∙ ap (λ (l : Named NodeId). p.before ++ given_nodes l) is ∙ ap (λ (n : List ℕ). p.before ++ (n, x.1.0) ∷ given_nodes left) (sym reads);
  fit = p.fit;
  against = against;
}
