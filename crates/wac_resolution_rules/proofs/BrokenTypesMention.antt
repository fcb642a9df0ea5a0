-- Of the packages only those that paths, bodies and type statements mention matter to which rules these break.
use Rattle.wac_resolution_rules.proofs.Common.{◌≡◌, ◌⊎◌, inl, inr, ℕ, List, [], ◌∷◌, ◌++◌, refl, subst, Option, Some, None, Bool, true, false, flat_map, if◌then◌else◌, bytes_eq, ExternKind, Meaning, Scope, Steps, Fails, IsA, is_interface_form, is_world_form, entry_of, promoted, Packages, Contents, PackagePath, UsePath, Use, InterfaceItem, ExternType, WorldItemPath, WorldRef, WorldInclude, WorldItem, TypeStatement, Error, unknown_package}
use Rattle.wac_graph_types.specs.declared.kind.ExternKind.TheVariants as sides
use Rattle.wac_ast_grammar.specs.Segments.{package_name_span}
use Rattle.wac_resolution_rules.specs.Composition.{Composition, root_scope}
use Rattle.wac_resolution_rules.specs.Paths.{Context, key_of_path, segments_of}
use Rattle.wac_resolution_rules.specs.Bodies.{Body, empty_body, UsesItem}
use Rattle.wac_resolution_rules.specs.Includes.{Entries, HasEntry, HasInclude}
use Rattle.wac_resolution_rules.specs.Worlds.{HasInterfaceItem, HasWorldItem, includes_of}
use Rattle.wac_resolution_rules.specs.Places.{Places}
use Rattle.wac_resolution_rules.specs.BrokenBodies.{Owner, of_interface, of_world, path_broken, ForeignPathBroken, PathBroken, UsePathBroken, IsNoInterface, UseItemBroken, UseBroken}
use Rattle.wac_resolution_rules.specs.BrokenWorlds.{InterfaceItemBroken, InterfaceBroken, ExternTypeBroken, InstanceBroken, ExternBroken, WorldItemBroken, IsSecondEntry, WorldRefBroken, IsNoWorld, TakingBroken, IncludeBroken, WorldBroken, KindBroken, DeclarationBroken}
use Rattle.wac_resolution_rules.specs.Mentions.{Mention, path_mentions, use_path_mentions, interface_item_mentions, interface_mentions, extern_type_mentions, extern_mentions, world_ref_mentions, world_item_mentions, type_mentions, Agree, over}
use Rattle.wac_resolution_rules.specs.Spans.{use_path_name, use_path_span}
use Rattle.wac_resolution_rules.proofs.StatementsStop.{all_append}
use Rattle.wac_resolution_rules.proofs.TypesMention.{along, same, agree_prefix, steps_agree, path_agrees, use_path_agrees, interface_item_agrees, world_item_agrees, world_ref_agrees, include_mentions, include_agrees, includes_agree, declared_agrees}

-- ---- lists

-- a list mentions what its items before one mention, and what that one mentions
pub agree_split : {X : Type 0} (ms : X → List Mention) (ps qs : Packages) (before : List X) (x : X) (after : List X) → Agree ps qs (flat_map ms (before ++ x ∷ after)) → Agree ps qs (flat_map ms before) × Agree ps qs (ms x)
agree_split ms ps qs [] x after h = (tt, (agree_prefix ps qs (ms x) (flat_map ms after) h).0)
agree_split ms ps qs (y ∷ before) x after h =
    let r = agree_prefix ps qs (ms y) (flat_map ms (before ++ x ∷ after)) h in
    let s = agree_split ms ps qs before x after r.1 in
    (all_append (same ps qs) (ms y) (flat_map ms before) r.0 s.0, s.1)

-- a list fails where it fails with other packages that agree on what it mentions, if each of its items does
fails_agree : {S X : Type 0} (one two : S → X → S → Type 0) (broken other : S → List X → X → Type 0) (ms : X → List Mention) (ps qs : Packages) → ((old : S) (x : X) → Agree ps qs (ms x) → one old x ≡ two old x)
    → ((old : S) (before : List X) (x : X) → Agree ps qs (ms x) → broken old before x → other old before x) → (old : S) (xs : List X) → Agree ps qs (flat_map ms xs) → Fails one broken old xs → Fails two other old xs
fails_agree {X = X} one two broken other ms ps qs steps breaks old xs h f =
    let r = agree_split ms ps qs f.before f.failing f.after (subst (λ (l : List X). Agree ps qs (flat_map ms l)) f.split h) in
    record {
      before = f.before;
      failing = f.failing;
      after = f.after;
      split = f.split;
      reached = f.reached;
      leads = along (λ i. steps_agree one two ms ps qs steps old f.before r.0 i f.reached) f.leads;
      breaks = breaks f.reached f.before f.failing r.1 f.breaks;
    }

-- ---- paths

pub path_breaks_agree : (s : Context) (ps qs : Packages) (root : Scope) (p : PackagePath) → Agree ps qs (path_mentions s.own p) → PathBroken (over s ps) root p ≡ PathBroken (over s qs) root p
path_breaks_agree s ps qs root p h = go (bytes_eq p.name s.own) h
  where
    go : (b : Bool) → Agree ps qs (if b then [] else (key_of_path p, package_name_span p) ∷ []) → path_broken b (over s ps) root p ≡ path_broken b (over s qs) root p
    go true a = refl
    go false a = λ i e. ((a.0 i ≡ None) × (e ≡ unknown_package p.name (package_name_span p))) ⊎ ((c : Contents) × (a.0 i ≡ Some c) × ForeignPathBroken c.definitions p (segments_of p) e)

use_path_breaks_agree : (s : Context) (ps qs : Packages) (root : Scope) (p : UsePath) → Agree ps qs (use_path_mentions s.own p) → UsePathBroken (over s ps) root p ≡ UsePathBroken (over s qs) root p
use_path_breaks_agree s ps qs root (UsePath.path p) h = path_breaks_agree s ps qs root p h
use_path_breaks_agree s ps qs root (UsePath.ident x) h = refl

world_ref_breaks_agree : (s : Context) (ps qs : Packages) (root : Scope) (x : WorldRef) → Agree ps qs (world_ref_mentions s.own x) → WorldRefBroken (over s ps) root x ≡ WorldRefBroken (over s qs) root x
world_ref_breaks_agree s ps qs root (WorldRef.path p) h = path_breaks_agree s ps qs root p h
world_ref_breaks_agree s ps qs root (WorldRef.ident x) h = refl

-- ---- interfaces

use_breaks_agree : (s : Context) (ps qs : Packages) (root : Scope) (side : ExternKind) (old : Body) (u : Use) → Agree ps qs (use_path_mentions s.own u.path) → UseBroken (over s ps) root side old u ≡ UseBroken (over s qs) root side old u
use_breaks_agree s ps qs root side old u h = λ i e.
    use_path_breaks_agree s ps qs root u.path h i e
    ⊎ ((k : Meaning) × use_path_agrees s ps qs root u.path h i k × (IsNoInterface k (use_path_name u.path) (use_path_span u.path) e
    ⊎ (IsA is_interface_form k × Fails (UsesItem side (promoted k)) (UseItemBroken side (promoted k) (use_path_name u.path) e) old u.items)))

interface_item_breaks : (s : Context) (ps qs : Packages) (root : Scope) (of : Owner) (e : Error) (old : Body) (before : List InterfaceItem) (x : InterfaceItem) → Agree ps qs (interface_item_mentions s.own x)
    → InterfaceItemBroken (over s ps) root of e old before x → InterfaceItemBroken (over s qs) root of e old before x
interface_item_breaks s ps qs root of e old before (InterfaceItem.use_statement u) h b = along (λ i. use_breaks_agree s ps qs root sides.Export old u h i e) b
interface_item_breaks s ps qs root of e old before (InterfaceItem.interface_export x) h b = b
interface_item_breaks s ps qs root of e old before (InterfaceItem.ty d) h b = b

pub interface_breaks : (s : Context) (ps qs : Packages) (root : Scope) (name : Option (List ℕ)) (n : ℕ) (items : List InterfaceItem) (e : Error) → Agree ps qs (interface_mentions s.own items)
    → InterfaceBroken (over s ps) root name n items e → InterfaceBroken (over s qs) root name n items e
interface_breaks s ps qs root name n items e h b =
    fails_agree (HasInterfaceItem (over s ps) root) (HasInterfaceItem (over s qs) root) (InterfaceItemBroken (over s ps) root (of_interface name) e) (InterfaceItemBroken (over s qs) root (of_interface name) e)
    (interface_item_mentions s.own) ps qs (interface_item_agrees s ps qs root) (interface_item_breaks s ps qs root (of_interface name) e) (empty_body n) items h b

-- ---- worlds

extern_type_breaks : (s : Context) (ps qs : Packages) (root scope : Scope) (n : ℕ) (x : ExternType) (e : Error) → Agree ps qs (extern_type_mentions s.own x) → ExternTypeBroken (over s ps) root scope n x e → ExternTypeBroken (over s qs) root scope n x e
extern_type_breaks s ps qs root scope n (ExternType.ident x) e h b = b
extern_type_breaks s ps qs root scope n (ExternType.func x) e h b = b
extern_type_breaks s ps qs root scope n (ExternType.interface x) e h b = interface_breaks s ps qs root None n x.items e h b

extern_breaks : (s : Context) (ps qs : Packages) (root : Scope) (of : Owner) (side : ExternKind) (old : Body) (x : WorldItemPath) (e : Error) → Agree ps qs (extern_mentions s.own x)
    → ExternBroken (over s ps) root of side old x e → ExternBroken (over s qs) root of side old x e
extern_breaks s ps qs root of side old (WorldItemPath.named x) e h (inl b) = inl b
extern_breaks s ps qs root of side old (WorldItemPath.named x) e h (inr b) = inr (b.0, extern_type_breaks s ps qs root old.scope old.resources x.ty e h b.1)
extern_breaks s ps qs root of side old (WorldItemPath.path p) e h b =
    along (λ i. path_breaks_agree s ps qs root p h i e ⊎ ((k : Meaning) × path_agrees s ps qs root p h i k × InstanceBroken of side old k p.string p.span e)) b
extern_breaks s ps qs root of side old (WorldItemPath.ident x) e h b = b

world_item_breaks : (s : Context) (ps qs : Packages) (root : Scope) (of : Owner) (e : Error) (old : Body) (before : List WorldItem) (x : WorldItem) → Agree ps qs (world_item_mentions s.own x)
    → WorldItemBroken (over s ps) root of e old before x → WorldItemBroken (over s qs) root of e old before x
world_item_breaks s ps qs root of e old before (WorldItem.use_statement u) h b = along (λ i. use_breaks_agree s ps qs root sides.Import old u h i e) b
world_item_breaks s ps qs root of e old before (WorldItem.world_import x) h b = extern_breaks s ps qs root of sides.Import old x.path e h b
world_item_breaks s ps qs root of e old before (WorldItem.world_export x) h b = extern_breaks s ps qs root of sides.Export old x.path e h b
world_item_breaks s ps qs root of e old before (WorldItem.world_include x) h b = b
world_item_breaks s ps qs root of e old before (WorldItem.ty d) h b = b

include_breaks : (s : Context) (ps qs : Packages) (root : Scope) (world : List ℕ) (e : Error) (old : Body) (before : List WorldInclude) (x : WorldInclude) → Agree ps qs (include_mentions s.own x)
    → IncludeBroken (over s ps) root world e old before x → IncludeBroken (over s qs) root world e old before x
include_breaks s ps qs root world e old before x h b =
    along (λ i. Fails HasEntry (IsSecondEntry e) [] x.items
    ⊎ ((entries : Entries) × Steps HasEntry [] x.items entries
    × (world_ref_breaks_agree s ps qs root x.world h i e
    ⊎ ((k : Meaning) × world_ref_agrees s ps qs root x.world h i k
    × (IsNoWorld k x.world e
    ⊎ (IsA is_world_form k × TakingBroken x world entries (entry_of k) old e)))))) b

world_breaks : (s : Context) (ps qs : Packages) (root : Scope) (name : List ℕ) (n : ℕ) (items : List WorldItem) (e : Error) → Agree ps qs (flat_map (world_item_mentions s.own) items)
    → WorldBroken (over s ps) root name n items e → WorldBroken (over s qs) root name n items e
world_breaks s ps qs root name n items e h (inl b) =
    inl (fails_agree (HasWorldItem (over s ps) root) (HasWorldItem (over s qs) root) (WorldItemBroken (over s ps) root (of_world name) e) (WorldItemBroken (over s qs) root (of_world name) e)
    (world_item_mentions s.own) ps qs (world_item_agrees s ps qs root) (world_item_breaks s ps qs root (of_world name) e) (empty_body n) items h b)
world_breaks s ps qs root name n items e h (inr (mid, leads, b)) = inr (
  mid,
  along (λ i. steps_agree (HasWorldItem (over s ps) root) (HasWorldItem (over s qs) root) (world_item_mentions s.own) ps qs (world_item_agrees s ps qs root) (empty_body n) items h i mid) leads,
  fails_agree (HasInclude (over s ps) root) (HasInclude (over s qs) root) (IncludeBroken (over s ps) root name e) (IncludeBroken (over s qs) root name e) (include_mentions s.own) ps qs (include_agrees s ps qs root)
      (include_breaks s ps qs root name e) mid (includes_of items) (includes_agree s.own ps qs items h) b,
)

-- ---- type statements

kind_breaks : (s : Context) (ps qs : Packages) (old : Composition) (x : TypeStatement) (e : Error) → Agree ps qs (type_mentions s.own x) → KindBroken (over s ps) old x e → KindBroken (over s qs) old x e
kind_breaks s ps qs old (TypeStatement.interface d) e h b = interface_breaks s ps qs (root_scope old) (Some d.id.string) old.resources d.items e h b
kind_breaks s ps qs old (TypeStatement.world d) e h b = world_breaks s ps qs (root_scope old) d.id.string old.resources d.items e h b
kind_breaks s ps qs old (TypeStatement.ty d) e h b = b

pub declaration_breaks : (s : Context) (ps qs : Packages) (old : Composition) (places : Places) (x : TypeStatement) (e : Error) → Agree ps qs (type_mentions s.own x)
    → DeclarationBroken (over s ps) old places x e → DeclarationBroken (over s qs) old places x e
declaration_breaks s ps qs old places x e h (inl b) = inl (kind_breaks s ps qs old x e h b)
declaration_breaks s ps qs old places x e h (inr (m, n, k, b)) = inr (m, n, along (λ i. declared_agrees s ps qs old x h i m n) k, b)
