-- One import, or one export, that was tested.
use Rattle.wac_resolution_statements.proofs.Common.{◌≡◌, ◌∙◌, ℕ, List, [], ◌∷◌, Option, Some, None, Bool, true, false, cond, inl, inr, sym, ap, subst, option_map, bytes_eq, Span, Reason, ItemKind, Meaning, Named, look_up, promoted_is, word_is, package_path_of, Parts, means, entry_means, Numbering, IsOneToOne, Error, import_not_in_target, missing_target_export, target_mismatch, kind_in, kind_means, Rules}
use Rattle.wac_graph_types.specs.declared.kind.ExternKind.TheVariants as externs
use Rattle.wac_graph_types.specs.Kind.{promoted}
use Rattle.wac_graph_types.specs.Shape as shapes
use Rattle.wac_graph_types.specs.Words as words
use Rattle.wac_resolution_rules.specs.Find.{names_of}
use Rattle.wac_resolution_rules.specs.Target.{allowed as allowed_by}
use Rattle.wac_resolution_statements.specs.declared.target.Target.{Target}
use Rattle.wac_resolution_statements.specs.Imported.{of_node, of_kind}
use Rattle.wac_resolution_statements.specs.Testing.{Testing, testing, Allowed, Denied, Met, Unmet}

module _ (g : Parts) (rules : Rules) (target : Target) where
  abbrev t : Testing
  t = testing g rules target

  abbrev Allows : List ℕ → Option ItemKind → Type 0
  Allows name o = (numbering : Numbering) → option_map (means numbering g) o ≡ allowed_by (entry_means numbering g target.world.0) name

  -- what rules say of two kinds
  abbrev Says : ItemKind → ItemKind → Option Reason → Type 0
  Says a b r = (numbering : Numbering) → IsOneToOne numbering → rules.passes (means numbering g a) (means numbering g b) ≡ r

  pub import_allowed : (name : List ℕ) (k wanted : ItemKind) → Allows name (Some wanted) → Says (promoted wanted) k None → Allowed t (of_kind g (name, k))
  import_allowed name k wanted law ok numbering context one =
      (means numbering g wanted, sym (law numbering), ap (λ (m : Meaning). rules.passes m (means numbering g k)) (promoted_is (entry_means numbering g) wanted) ∙ ok numbering one)

  pub import_missing : (name : List ℕ) (k : ItemKind) (span : Option Span) (e : Error) → Allows name None → e ≡ import_not_in_target name (package_path_of target.path.now).string span → Denied t (of_kind g (name, k)) span e
  import_missing name k span e law is numbering context one = inl (sym (law numbering), is)

  pub import_mismatched : (name : List ℕ) (k wanted : ItemKind) (span : Option Span) (r : Reason) (e : Error) → Allows name (Some wanted) → Says (promoted wanted) k (Some r)
      → e ≡ target_mismatch externs.Import name (package_path_of target.path.now).string r span → Denied t (of_kind g (name, k)) span e
  import_mismatched name k wanted span r e law says is numbering context one =
      inr (means numbering g wanted, r, sym (law numbering), ap (λ (m : Meaning). rules.passes m (means numbering g k)) (promoted_is (entry_means numbering g) wanted) ∙ says numbering one, is)

  -- by the node that is imported
  pub node_allowed : (name : List ℕ) (n : ℕ) (k : ItemKind) → kind_in g.nodes n ≡ Some k → Allowed t (of_kind g (name, k)) → Allowed t (of_node g (name, n))
  node_allowed name n k is h numbering context one =
      let a = h numbering context one in
      (a.0, a.1, ap (rules.passes (shapes.promoted a.0)) (kind_means numbering g n k is) ∙ a.2)

  pub node_denied : (name : List ℕ) (n : ℕ) (k : ItemKind) (span : Option Span) (e : Error) → kind_in g.nodes n ≡ Some k → Denied t (of_kind g (name, k)) span e → Denied t (of_node g (name, n)) span e
  node_denied name n k span e is h numbering context one = elim (h numbering context one) [
    | inl a ↦ inl a
    | inr b ↦ inr (b.0, b.1, b.2, ap (rules.passes (shapes.promoted b.0)) (kind_means numbering g n k is) ∙ b.3, b.4)
  ]

  pub node_fails : (name : List ℕ) (n : ℕ) (k : ItemKind) (span place : Option Span) (e : Error) → kind_in g.nodes n ≡ Some k → span ≡ place → Denied t (of_kind g (name, k)) span e → Denied t (of_node g (name, n)) place e
  node_fails name n k span place e is same d = subst (λ (o : Option Span). Denied t (of_node g (name, n)) o e) same (node_denied name n k span e is d)

  -- ---- exports

  pub export_met : (name : List ℕ) (k exported : ItemKind) (n : ℕ) → look_up name g.exports ≡ Some n → kind_in g.nodes n ≡ Some exported → Says exported (promoted k) None → Met t (of_kind g (name, k))
  export_met name k exported n at is ok numbering context declared one = (
    n,
    at,
    ap (λ (m : Meaning). rules.passes m (shapes.promoted (means numbering g k))) (kind_means numbering g n exported is)
        ∙ ap (rules.passes (means numbering g exported)) (promoted_is (entry_means numbering g) k) ∙ ok numbering one,
  )

  pub export_missing : (name : List ℕ) (k : ItemKind) (places : Named Span) (e : Error) → look_up name g.exports ≡ None
      → e ≡ missing_target_export name (package_path_of target.path.now).string (words.described k) (package_path_of target.path.now).span → Unmet t places (of_kind g (name, k)) e
  export_missing name k places e none is numbering context declared one =
      inl (none, is ∙ ap (λ (w : List ℕ). missing_target_export name (package_path_of target.path.now).string w (package_path_of target.path.now).span) (sym (word_is (entry_means numbering g) k)))

  -- a name of both lists is found in both
  same_found : {X Y : Type 0} (name : List ℕ) (xs : Named X) (ys : Named Y) (y : Y) → names_of xs ≡ names_of ys → look_up name ys ≡ Some y → (x : X) × (look_up name xs ≡ Some x)
  same_found name xs [] y same is = absurd (cc)
  same_found name [] (b ∷ ys) y same is = absurd (cc)
  same_found {X} {Y} name (a ∷ xs) (b ∷ ys) y same is =
      let first : a.0 ≡ b.0 = cc in
      let rest : names_of xs ≡ names_of ys = cc in
      go (bytes_eq name b.0) (ap (bytes_eq name) first) (same_found name xs ys y rest) is
    where
      go : (b' : Bool) → bytes_eq name a.0 ≡ b' → (look_up name ys ≡ Some y → (x : X) × (look_up name xs ≡ Some x)) → cond b' (Some b.1) (look_up name ys) ≡ Some y → (x : X) × (look_up name (a ∷ xs) ≡ Some x)
      go true e later at = (a.1, ap (λ (c : Bool). cond c (Some a.1) (look_up name xs)) e)
      go false e later at = (let r = later at in (r.0, ap (λ (c : Bool). cond c (Some a.1) (look_up name xs)) e ∙ r.1))

  pub export_mismatched : (name : List ℕ) (k exported : ItemKind) (n : ℕ) (places : Named Span) (r : Reason) (e : Error) → names_of places ≡ names_of g.exports → look_up name g.exports ≡ Some n → kind_in g.nodes n ≡ Some exported
      → Says exported (promoted k) (Some r) → e ≡ target_mismatch externs.Export name (package_path_of target.path.now).string r (look_up name places) → Unmet t places (of_kind g (name, k)) e
  export_mismatched name k exported n places r e placed at is says error_is numbering context declared one =
      let span = same_found name places g.exports n placed at in
      inr (
        n,
        r,
        span.0,
        at,
        ap (λ (m : Meaning). rules.passes m (shapes.promoted (means numbering g k))) (kind_means numbering g n exported is)
            ∙ ap (rules.passes (means numbering g exported)) (promoted_is (entry_means numbering g) k) ∙ says numbering one,
        span.1,
        error_is ∙ ap (target_mismatch externs.Export name (package_path_of target.path.now).string r) span.1,
      )
