-- A composition and the path of its target.
use Rattle.wac_resolution_statements.proofs.Common.{◌≡◌, ◌∙◌, inl, inr, ℕ, zero, suc, List, [], ◌∷◌, Some, sym, ap, subst, slice_get, AllByRecursion, Span, ItemKind, Named, Scope, look_up, Names, package_path_of, Parts, means, entry_means, EntriesMean, Numbering, IsSound, Error, composition_of, scope_agrees, IsNotWorld, TargetWorldBroken, Composition, root_scope, with_resources, Rules, world_of, LeadsTo, IsAllowed}
use Rattle.wac_graph_types.specs.declared.kind.ItemKind.TheVariants as kinds
use Rattle.wac_graph_types.specs.declared.kind.«Type».TheVariants as types
use Rattle.wac_resolution_state.specs.declared.root.Root.{Root}
use Rattle.wac_resolution_state.specs.Root.{numbers_of, composed, Agrees}
use Rattle.wac_resolution_state.proofs.Composed.{composition_expands}
use Rattle.wac_resolution_state.specs.declared.context.Context.{Context}
use Rattle.wac_resolution_state.specs.Expands.{IsSuppliedAs, AllSupplied, Found}
use Rattle.wac_resolution_state.specs.Context.{packages_in, context_of}
use Rattle.wac_resolution_rules.specs.BrokenBodies.{PathBroken}
use Rattle.wac_resolution_state.specs.Bindings.{values_of}
use Rattle.wac_resolution_state.specs.Named.{scope_of}
use Rattle.wac_resolution_statements.specs.declared.target.Target.{Target}
use Rattle.wac_resolution_statements.specs.Imported.{of_node, of_kind}
use Rattle.wac_resolution_statements.specs.Outcome.{WorldMet, WorldUnmet, Meets, Unmeets}
use Rattle.wac_resolution_statements.specs.Testing.{testing, given_by, SomeDenied, SomeUnmet}
use Rattle.wac_resolution_statements.proofs.Whole.{Holds, whole_allowed, import_denied, open_denied, export_unmet}

all_at : {X : Type 0} (P : X → Type 0) (xs : List X) (i : ℕ) (x : X) → AllByRecursion P xs → slice_get xs i ≡ Some x → P x
all_at P [] i x h is = absurd (cc)
all_at {X} P (y ∷ xs) zero x h is = (let same : y ≡ x = cc in subst P same h.0)
all_at {X} P (y ∷ xs) (suc i) x h is = all_at P xs i x h.1 is

-- what is held was supplied
pub holds_supplied : (context : Context) (g : Parts) (numbering : Numbering) → AllSupplied (packages_in context) g → Holds g numbering (context_of numbering context)
holds_supplied context g numbering h i p is = (all_at (IsSuppliedAs (packages_in context) g) g.packages i p h is).contents numbering

module _ (context : Context) (rules : Rules) (old : Parts) (root : Root) (target : Target) (agrees : Agrees old root) where
  pub path_broken : (imported exported : Named Span) (e : Error) → ((numbering : Numbering) → PathBroken (context_of numbering context) (scope_of numbering old (values_of root.kinds)) (package_path_of target.path.now) e)
      → Unmeets context rules old root (package_path_of target.path.now) imported exported e
  path_broken imported exported e h numbering p one im ex =
      inl (subst (λ (sc : Scope). PathBroken (context_of numbering context) sc (package_path_of target.path.now) e) (sym (scope_agrees numbering old root agrees)) (h numbering))

  abbrev IsFound : Parts → ItemKind → Type 0
  IsFound new k = Found (packages_in context) old new (λ numbering m. LeadsTo (context_of numbering context) (scope_of numbering old (values_of root.kinds)) (package_path_of target.path.now) m) k

  leads : (new : Parts) (k : ItemKind) → IsFound new k → (numbering : Numbering) → LeadsTo (context_of numbering context) (root_scope (composed numbering old root)) (package_path_of target.path.now) (means numbering new k)
  leads new k f numbering = subst (λ (sc : Scope). LeadsTo (context_of numbering context) sc (package_path_of target.path.now) (means numbering new k)) (sym (scope_agrees numbering old root agrees)) (f.is numbering)

  pub no_world : (new : Parts) (k : ItemKind) (imported exported : Named Span) (e : Error) → IsFound new k → ((numbering : Numbering) (g : Parts) → IsNotWorld (package_path_of target.path.now) (means numbering g k) e)
      → Unmeets context rules old root (package_path_of target.path.now) imported exported e
  no_world new k imported exported e f h numbering p one im ex = inr (means numbering new k, leads new k f numbering, inl (h numbering new))

  module _ (new : Parts) (k : ItemKind) (f : IsFound new k) (is : k ≡ kinds.Ty (types.World target.world)) (sound : IsSound new) (law : EntriesMean new) where
    pub world_there : Names new.types (kinds.Component target.world)
    world_there = subst (Names new.types) is f.named

    same_composition : (numbering : Numbering) → composition_of numbering new (numbers_of root.nodes) ≡ composed numbering old root
    same_composition numbering = composition_expands old new (numbers_of root.nodes) numbering f.grows.same f.grows.held (f.grows.kinds numbering) agrees.nodes ∙ ap (with_resources (composed numbering old root)) f.count

    is_world : (numbering : Numbering) → world_of (means numbering new k) ≡ Some (entry_means numbering new target.world.0)
    is_world numbering = ap (λ (x : ItemKind). world_of (means numbering new x)) is

    pub target_met : WorldMet (testing new rules target) → Meets context rules old new root (package_path_of target.path.now)
    target_met m = record {
      grows = f.grows;
      supplied = f.supplied;
      count = f.count;
      is = λ numbering one. (
        means numbering new k,
        entry_means numbering new target.world.0,
        leads new k f numbering,
        is_world numbering,
        subst (λ (c : Composition). IsAllowed (given_by rules (context_of numbering context)) c (entry_means numbering new target.world.0)) (same_composition numbering)
            (whole_allowed new rules target numbering one (context_of numbering context) (numbers_of root.nodes) sound law (holds_supplied context new numbering f.supplied) world_there m.nodes m.opens m.exports),
      );
    }

    pub target_unmet : (imported exported : Named Span) (e : Error) → WorldUnmet (testing new rules target) imported exported e → Unmeets context rules old root (package_path_of target.path.now) imported exported e
    target_unmet imported exported e u numbering p one im ex =
        inr (
          means numbering new k,
          leads new k f numbering,
          inr (
            entry_means numbering new target.world.0,
            is_world numbering,
            subst (λ (c : Composition). TargetWorldBroken (given_by rules (context_of numbering context)) c p e (package_path_of target.path.now) (entry_means numbering new target.world.0)) (same_composition numbering) (go u),
          ),
        )
      where
        go : WorldUnmet (testing new rules target) imported exported e
            → TargetWorldBroken (given_by rules (context_of numbering context)) (composition_of numbering new (numbers_of root.nodes)) p e (package_path_of target.path.now) (entry_means numbering new target.world.0)
        go (inl d) =
            import_denied new rules target numbering one (context_of numbering context) (numbers_of root.nodes) sound law (holds_supplied context new numbering f.supplied) world_there p e
            (subst (λ (l : Named Span). SomeDenied (testing new rules target) (of_node new) (λ x. look_up x.0 l) new.imports e) (sym im) d)
        go (inr (inl (n, d))) = open_denied new rules target numbering one (context_of numbering context) (numbers_of root.nodes) sound law (holds_supplied context new numbering f.supplied) world_there p e n d
        go (inr (inr (n, o, d))) =
            export_unmet new rules target numbering one (context_of numbering context) (numbers_of root.nodes) sound law (holds_supplied context new numbering f.supplied) world_there p e n o
            (subst (λ (l : Named Span). SomeUnmet (testing new rules target) l (of_kind new) (Rattle.wac_graph_types.specs.Readings.world_exports new.types target.world.0) e) (sym ex) d)
