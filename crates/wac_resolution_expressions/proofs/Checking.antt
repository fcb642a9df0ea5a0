-- Arguments that are wrong, and instances that are made of those that are right.
use Rattle.wac_resolution_expressions.proofs.Common.{◌≡◌, ◌∙◌, ◌<◌, ℕ, List, [], ◌∷◌, ◌++◌, Option, Some, None, false, inl, inr, sym, ap, subst, length, is_some, slice_get, option_and_then, unwrap_or, IsSome, AllByRecursion, slice_get_within, Span, PackageName, Arguments, ItemKind, WorldId, Reason, Meaning, world_imports, Named, look_up, StandsFor, IsFresh, imports_of, Steps, Fails, NodeId, Parts, import_kind, means, entry_means, Numbering, IsOneToOne, HeldPackage, contents_in, Error, ReachedAt, argument_places, SpreadBroken, Composition, at, Fits, left_out, has_fill, spreads_of, IsComplete, Spreads, Rules, imports_in, next_of, with_instance, GrowsNodes, composition_of, grows_on}
use Rattle.wac_graph_types.specs.declared.kind.ItemKind.TheVariants as kinds
use Rattle.wac_resolution_expressions.specs.Arguments.{given_nodes}
use Rattle.wac_resolution_expressions.specs.Incomplete.{IsIncomplete}
use Rattle.wac_resolution_expressions.specs.Fits.{IsImport, AllFit, IsFirstMisfit}
use Rattle.wac_resolution_expressions.specs.GivenByNodes.{Gave}
use Rattle.wac_resolution_expressions.specs.Spreads.{giving_of, imports_at}
use Rattle.wac_resolution_expressions.specs.declared.packages.Loaded.{Loaded}
use Rattle.wac_resolution_expressions.specs.Completing.{misfit_of, AreRight, AreWrong, Completes, FailsToComplete}
use Rattle.wac_resolution_expressions.specs.Instances.{MakesInstance}
use Rattle.wac_resolution_expressions.specs.Loaded.{IsLoaded, IsThere}
use Rattle.wac_resolution_expressions.specs.Places.{StandThemselves, StandSomewhere}
use Rattle.wac_resolution_expressions.proofs.Placing.{each_somewhere}

-- ---- wrong arguments

within : {X : Type 0} (P : X → Type 0) (before after : List X) (x : X) → AllByRecursion P (before ++ x ∷ after) → P x
within P [] after x h = h.0
within P (y ∷ before) after x h = within P before after x h.1

-- the first one that doesn't fit is at the span
module _ (rules : Rules) (g : Parts) (declared : Named ℕ) (w : WorldId) (x : PackageName) (args : Arguments) (given : Named NodeId) (name : List ℕ) (place : Option Span) (span : Span) (e : Error)
    (stand : StandSomewhere g declared w args given) (found : (numbering : Numbering) → look_up name (argument_places (composition_of numbering g declared) (imports_at numbering g w) args) ≡ place) (spanned : span ≡ unwrap_or place x.span) where
  placed : (r : Option Reason) → IsFirstMisfit rules g w given name r → (numbering : Numbering) → IsOneToOne numbering → StandsFor (argument_places (composition_of numbering g declared) (imports_at numbering g w) args) name span
  placed r m numbering one =
      let places : Named Span = argument_places (composition_of numbering g declared) (imports_at numbering g w) args in
      go place (found numbering) spanned (within (λ (a : List ℕ × ℕ). IsSome (look_up a.0 places)) m.before m.after (name, m.node) (subst (AllByRecursion (λ (a : List ℕ × ℕ). IsSome (look_up a.0 places))) m.split (stand numbering one)))
    where
      go : (o : Option Span) → look_up name (argument_places (composition_of numbering g declared) (imports_at numbering g w) args) ≡ o → span ≡ unwrap_or o x.span → IsSome (look_up name (argument_places (composition_of numbering g declared) (imports_at numbering g w) args))
          → look_up name (argument_places (composition_of numbering g declared) (imports_at numbering g w) args) ≡ Some span
      go None is at some = absurd (let none : is_some (look_up name (argument_places (composition_of numbering g declared) (imports_at numbering g w) args)) ≡ false = ap is_some is in cc)
      go (Some s) is at some = is ∙ ap Some (sym at)

  reached : (r : Option Reason) (m : IsFirstMisfit rules g w given name r) (numbering : Numbering) → IsOneToOne numbering → ReachedAt (Fits rules (imports_at numbering g w) (composition_of numbering g declared).nodes) (given_nodes given) (name, m.node)
  reached r m numbering one = (m.before, m.after, m.split, m.fit numbering declared one)

  pub misfit_wrong : (r : Option Reason) → IsFirstMisfit rules g w given name r → e ≡ misfit_of x.name name r span → AreWrong rules g declared w x args given e
  misfit_wrong None m error_is numbering context p one same =
      let c : Composition = composition_of numbering g declared in
      inl (record {
        argument = (name, m.node);
        span = span;
        reached = subst (λ (l : Named Meaning). ReachedAt (Fits rules l c.nodes) (given_nodes given) (name, m.node)) (sym same) (reached None m numbering one);
        place = subst (λ (l : Named Meaning). StandsFor (argument_places c l args) name span) (sym same) (placed None m numbering one);
        fresh = subst (λ (l : Named Meaning). IsFresh name l) (sym same) (m.against.is numbering);
        error = error_is;
      })
  misfit_wrong (Some r) m error_is numbering context p one same =
      let c : Composition = composition_of numbering g declared in
      let u = m.against.is numbering declared one in
      inr (inl (record {
        argument = (name, m.node);
        span = span;
        wanted = u.0;
        reason = r;
        reached = subst (λ (l : Named Meaning). ReachedAt (Fits rules l c.nodes) (given_nodes given) (name, m.node)) (sym same) (reached (Some r) m numbering one);
        place = subst (λ (l : Named Meaning). StandsFor (argument_places c l args) name span) (sym same) (placed (Some r) m numbering one);
        imported = subst (λ (l : Named Meaning). StandsFor l name u.0) (sym same) u.1;
        fails = u.2;
        error = error_is;
      }))

-- an import is left out
pub left_wrong : (rules : Rules) (g : Parts) (declared : Named ℕ) (w : WorldId) (x : PackageName) (args : Arguments) (given : Named NodeId) (e : Error) → AllFit rules g w given → IsIncomplete g w x args (given_nodes given) e → AreWrong rules g declared w x args given e
left_wrong rules g declared w x args given e fit h numbering context p one same =
    let c : Composition = composition_of numbering g declared in
    let l = h.1 numbering in
    inr (inr (record {
      wanted = l.0;
      others = l.1;
      fit = subst (λ (i : Named Meaning). AllByRecursion (Fits rules i c.nodes) (given_nodes given)) (sym same) (fit.is numbering declared one);
      unfilled = h.0;
      left = ap (λ (i : Named Meaning). left_out i (given_nodes given)) same ∙ l.2;
      error = l.3;
    }))

-- ---- spreads

imports_kept : (old new : Parts) (w : WorldId) → GrowsNodes old new → (numbering : Numbering) → imports_at numbering new w ≡ imports_at numbering old w
imports_kept old new w g numbering = ap (λ (p : Parts). imports_of (entry_means numbering p w.0)) g.same

-- spreads were given
abbrev pub SpreadsGive : Parts → Parts → Named NodeId → Named NodeId → Named ℕ → WorldId → Arguments → Type 0
SpreadsGive old mid before between declared w args = Gave old mid before between declared (λ numbering a b. Steps (Spreads (imports_at numbering old w)) a (spreads_of args) b)

module _ (old mid : Parts) (before between : Named NodeId) (declared : Named ℕ) (w : WorldId) (args : Arguments) (s : SpreadsGive old mid before between declared w args) where
  pub somewhere : StandThemselves old declared w args before → StandSomewhere mid declared w args between
  somewhere stand numbering one =
      let imports : Named Meaning = imports_at numbering old w in
      let all : AllByRecursion (λ (a : List ℕ × ℕ). IsSome (look_up a.0 (argument_places (composition_of numbering mid declared) imports args))) (given_nodes between) =
      each_somewhere imports args (giving_of numbering old declared before) (giving_of numbering mid declared between) (s.is numbering) (stand numbering one) in
      subst (λ (l : Named Meaning). AllByRecursion (λ (a : List ℕ × ℕ). IsSome (look_up a.0 (argument_places (composition_of numbering mid declared) l args))) (given_nodes between)) (sym (imports_kept old mid w s.grows numbering)) all

  pub wrong_after : (rules : Rules) (x : PackageName) (e : Error) → AreWrong rules mid declared w x args between e → FailsToComplete rules old declared w x args before e
  wrong_after rules x e h numbering context p one same = inr (
    giving_of numbering mid declared between,
    subst (λ (l : Named Meaning). Steps (Spreads l) (giving_of numbering old declared before) (spreads_of args) (giving_of numbering mid declared between)) (sym same) (s.is numbering),
    h numbering context p one (same ∙ sym (imports_kept old mid w s.grows numbering)),
  )

pub spreads_fail : (rules : Rules) (old : Parts) (declared : Named ℕ) (w : WorldId) (x : PackageName) (args : Arguments) (before : Named NodeId) (e : Error)
    → ((numbering : Numbering) → Fails (Spreads (imports_at numbering old w)) (SpreadBroken (imports_at numbering old w) e) (giving_of numbering old declared before) (spreads_of args)) → FailsToComplete rules old declared w x args before e
spreads_fail rules old declared w x args before e h numbering context p one same =
    inl (subst (λ (l : Named Meaning). Fails (Spreads l) (SpreadBroken l e) (giving_of numbering old declared before) (spreads_of args)) (sym same) (h numbering))

-- ---- the instance

pub loaded_there : (g : Parts) (p : Loaded) → IsThere g p → p.id.0 < length g.packages
loaded_there g p h = slice_get_within g.packages p.id.0 h.0 h.1.found

-- a graph with more nodes still holds it
pub loaded_nodes : (old new : Parts) (p : Loaded) (held : HeldPackage) → GrowsNodes old new → IsLoaded old p held → slice_get new.packages p.id.0 ≡ Some held
loaded_nodes old new p held g h = ap (λ (q : Parts). slice_get q.packages p.id.0) g.same ∙ h.found

-- what arguments are given for are imports of the package
pub imports_named : (rules : Rules) (old new : Parts) (p : Loaded) (given : Named NodeId) → GrowsNodes old new → IsThere old p → AllFit rules new p.world given → AllByRecursion (λ (e : List ℕ × NodeId). IsSome (import_kind new p.id.0 e.0)) given
imports_named rules old new p given g there fit = go given fit.imports
  where
    kind : (name : List ℕ) → import_kind new p.id.0 name ≡ look_up name (world_imports new.types p.world.0)
    kind name =
        ap (option_and_then (λ (h : HeldPackage). look_up name (world_imports new.types h.world.0))) (loaded_nodes old new p there.0 g there.1)
        ∙ ap (λ (v : WorldId). look_up name (world_imports new.types v.0)) there.1.world

    go : (all : Named NodeId) → AllByRecursion (IsImport new p.world) (given_nodes all) → AllByRecursion (λ (e : List ℕ × NodeId). IsSome (import_kind new p.id.0 e.0)) all
    go [] h = tt
    go (e ∷ all) h = (subst (λ (o : Option ItemKind). IsSome o) (sym (kind e.0)) h.0, go all h.1)

pub completes : (rules : Rules) (old mid new : Parts) (before between : Named NodeId) (declared : Named ℕ) (p : Loaded) (args : Arguments) (n : ℕ) → SpreadsGive old mid before between declared p.world args → AreRight rules mid p.world args between
    → MakesInstance mid new p.id.0 between n → Completes rules old new declared p args before n
completes rules old mid new before between declared p args n s right made = record {
  grows = grows_on old mid new s.grows made.grows;
  there = made.there;
  mid = mid;
  all = between;
  spread = s.is;
  made = λ held loaded numbering one.
      let same : imports_in (contents_in numbering old held) ≡ imports_at numbering mid p.world = ap (λ (v : WorldId). imports_at numbering old v) loaded.world ∙ sym (imports_kept old mid p.world s.grows numbering) in
      let c : Composition = composition_of numbering mid declared in record {
        fit = subst (λ (l : Named Meaning). AllByRecursion (Fits rules l c.nodes) (given_nodes between)) (sym same) (right.fit.is numbering declared one);
        complete = subst (λ (l : Named Meaning). IsComplete l (has_fill args) (given_nodes between)) (sym same) (right.complete numbering);
        made =
            made.is held (loaded_nodes old mid p held s.grows loaded) numbering declared
            ∙ ap (λ (q : Parts). at (with_instance c held.key (means numbering q (kinds.Instance held.instance)) (given_nodes between)) (next_of c)) s.grows.same;
      };
}
