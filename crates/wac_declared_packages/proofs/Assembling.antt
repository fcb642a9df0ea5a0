-- Tables that grow by a world and an interface.
use Rattle.wac_declared_packages.proofs.Common.{◌≡◌, ◌∙◌, ◌+◌, ◌<◌, ◌≤◌, ℕ, Option, Some, None, List, [], ◌∷◌, ◌++◌, length, refl, sym, ap, subst, arith, append_assoc, append-nil, Result, Ok, Err, IfSome, slice_get, option_and_then, OnOk, OnErr, Entry, ItemKind, WorldId, KeepsMeanings, by_name, Named, IsGrown}
use Rattle.wac_graph_types.specs.declared.entry.Entry.TheVariants as entries
use Rattle.wac_graph_types.specs.declared.entry.World.{World}
use Rattle.wac_graph_types.specs.Kind.{named_by}
use Rattle.wac_graph_types.specs.Readings.{as_world, world_imports, world_exports}
use Rattle.wac_graph_types.specs.Package.{PackageParts}
use Rattle.wac_graph_types.proofs.Growing.{keeps_appended}
use Rattle.wac_declared_packages.specs.Definitions.{HasWorld, IsChosen, IsWorld}

before_more : (n m : ℕ) (x : Option ℕ) → n ≤ m → IfSome x (λ i. i < n) → IfSome x (λ i. i < m)
before_more n m None le h = tt
before_more n m (Some i) le h = omega arith

-- what is kept from table to table is kept
keeps_on : (old middle new : List Entry) → length old ≤ length middle → KeepsMeanings old middle → KeepsMeanings middle new → KeepsMeanings old new
keeps_on old middle new le first second = λ o k names. second o k (before_more (length old) (length middle) (named_by k) le names) ∙ first o k names

-- so it is in a copy that has grown
pub copy_keeps : (from table copy new : List Entry) → table ≡ from → length copy ≡ length table → KeepsMeanings table copy → IsGrown copy new → KeepsMeanings from new
copy_keeps from table copy new is len means g =
    subst (λ (es : List Entry). KeepsMeanings es new) is (keeps_on table copy new (omega (arith, len)) means (keeps_appended copy new g.0 g.1))

pub grown_none : (old new : List Entry) → new ≡ old → IsGrown old new
grown_none old new is = ([], (let nil : old ++ [] ≡ old = simp append-nil in is ∙ sym nil))

-- a table that one entry was added to
pub grown_one : {X Y : Type 0} (r : Result X Y) (old new : List Entry) (e : Entry) → OnOk r (new ≡ old ++ e ∷ []) → OnErr r (new ≡ old) → IsGrown old new
grown_one (Ok x) old new e ok err = (e ∷ [], ok)
grown_one (Err x) old new e ok err = grown_none old new err

-- a table that has grown after one entry was added
pub grown_after : (old middle new : List Entry) (e : Entry) → middle ≡ old ++ e ∷ [] → IsGrown middle new → IsGrown old new
grown_after old middle new e added g =
    let assoc : (old ++ e ∷ []) ++ g.0 ≡ old ++ (e ∷ g.0) = simp append_assoc in
    (e ∷ g.0, g.1 ∙ ap (λ (l : List Entry). l ++ g.0) added ∙ assoc)

get_after : (old more : List Entry) (e : Entry) → slice_get ((old ++ e ∷ []) ++ more) (length old) ≡ Some e
get_after [] more e = refl
get_after (x ∷ old) more e = get_after old more e

abbrev imports_at : Option Entry → Named ItemKind
imports_at o = elim (option_and_then as_world o) [ None ↦ [] | Some w ↦ by_name w.imports.entries ]

abbrev exports_at : Option Entry → Named ItemKind
exports_at o = elim (option_and_then as_world o) [ None ↦ [] | Some w ↦ by_name w.exports.entries ]

-- a world that was added with nothing in it has nothing in it
pub empty_stays : (old middle new : List Entry) (w : World) (at : ℕ) → middle ≡ old ++ entries.World w ∷ [] → at ≡ length old → IsGrown middle new
    → w.imports.entries ≡ [] → w.exports.entries ≡ [] → (world_imports new at ≡ []) × (world_exports new at ≡ [])
empty_stays old middle new w at added number g imports exports =
    let is : slice_get new at ≡ Some (entries.World w)
    = ap (slice_get new) number ∙ ap (λ (l : List Entry). slice_get l (length old)) (g.1 ∙ ap (λ (l : List Entry). l ++ g.0) added) ∙ get_after old g.0 (entries.World w) in
    (ap imports_at is ∙ ap by_name imports, ap exports_at is ∙ ap by_name exports)

-- the package's world is the one that was chosen among its definitions
pub has_world : (name : Option (List ℕ)) (p : PackageParts) (ds : Named ItemKind) (w : Option WorldId) → p.definitions ≡ ds → IsChosen name ds w → IsWorld w p → HasWorld name p
has_world name p ds w is chosen world = (w, subst (λ (l : Named ItemKind). IsChosen name l w) (sym is) chosen, world)
