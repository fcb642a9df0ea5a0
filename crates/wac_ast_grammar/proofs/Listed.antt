-- What is asked of a tree is asked of all its leaves.
use Rattle.wac_ast_grammar.proofs.Common.{◌↔◌, List, [], ◌∷◌, ◌++◌, Option, Some, None, AllByRecursion, flat_map}
use Rattle.wac_ast_grammar.specs.Tree.{Document}
use Rattle.wac_ast_grammar.specs.Walk.{walk_document}
use Rattle.wac_ast_grammar.specs.Leaves.{IfThere, Leaf, changed, holds_with_spans, of_leaves, leaves, docs_leaf, of_option, unchanged}
use Rattle.wac_ast_grammar.proofs.Linked.{Link, link_document}

module _ (Q : Leaf → Type 0) where
  abbrev pub Each : List Leaf → Type 0
  Each ls = AllByRecursion Q ls

  pub both : (a b : List Leaf) → Each a → Each b → Each (a ++ b)
  both [] b h k = k
  both (x ∷ a) b h k = (h.0, both a b h.1 k)

  pub first : (a b : List Leaf) → Each (a ++ b) → Each a
  first [] b h = tt
  first (x ∷ a) b h = (h.0, first a b h.1)

  pub second : (a b : List Leaf) → Each (a ++ b) → Each b
  second [] b h = h
  second (x ∷ a) b h = second a b h.1

  pub each_listed : {A : Type 0} (v : A → A) (w : A → List Leaf) (u : A → Type 0) (c : A → A) → ((x : A) → u x ↔ Each (w x)) → (xs : List A) → AllByRecursion u xs ↔ Each (flat_map w xs)
  each_listed v w u c e [] = (λ h. tt, λ h. tt)
  each_listed v w u c e (x ∷ xs) =
      (λ h. both (w x) (flat_map w xs) ((e x).0 h.0) ((each_listed v w u c e xs).0 h.1), λ h. ((e x).1 (first (w x) (flat_map w xs) h), (each_listed v w u c e xs).1 (second (w x) (flat_map w xs) h)))

  pub perhaps_listed : {A : Type 0} (v : A → A) (w : A → List Leaf) (u : A → Type 0) (c : A → A) → ((x : A) → u x ↔ Each (w x)) → (x : Option A) → IfThere u x ↔ Each (of_option w x)
  perhaps_listed v w u c e None = (λ h. tt, λ h. tt)
  perhaps_listed v w u c e (Some x) = e x

  -- ALL LEAVES of a tree are as asked exactly where the tree is
  abbrev pub listed : Link {0, 0, 1, 0} (changed unchanged) leaves (holds_with_spans (of_leaves Q) (λ s. Q (Leaf.span s))) unchanged
  listed =
      record {
        R = λ x v w u. u ↔ Each w;
        ident = λ x. (λ h. (h, tt), λ h. h.0);
        string = λ x. (λ h. (h, tt), λ h. h.0);
        name = λ x. (λ h. (h, tt), λ h. h.0);
        path = λ x. (λ h. (h, tt), λ h. h.0);
        each = each_listed;
        perhaps = perhaps_listed;
        filled = λ e r. (λ h. r.0 h.0, λ h. (r.1 h, tt));
        spanned = λ {w = w} r s. (λ h. both w (Leaf.span s ∷ []) (r.0 h.0) (h.1, tt), λ h. (r.1 (first w (Leaf.span s ∷ []) h), (second w (Leaf.span s ∷ []) h).0));
        none = λ x. (λ h. tt, λ h. tt);
        one = λ r. r;
        two = λ {w0 = w0} {w1 = w1} r s. (λ h. both w0 w1 (r.0 h.0) (s.0 h.1), λ h. (r.1 (first w0 w1 h), s.1 (second w0 w1 h)));
        three = λ {w0 = w0} {w1 = w1} {w2 = w2} r s t. (
          λ h. both w0 (w1 ++ w2) (r.0 h.0) (both w1 w2 (s.0 h.1) (t.0 h.2)),
          λ h. (r.1 (first w0 (w1 ++ w2) h), s.1 (first w1 w2 (second w0 (w1 ++ w2) h)), t.1 (second w1 w2 (second w0 (w1 ++ w2) h))),
        );
        four = λ {w0 = w0} {w1 = w1} {w2 = w2} {w3 = w3} r s t q. (
          λ h. both w0 (w1 ++ (w2 ++ w3)) (r.0 h.0) (both w1 (w2 ++ w3) (s.0 h.1) (both w2 w3 (t.0 h.2) (q.0 h.3))),
          λ h. (r.1 (first w0 (w1 ++ (w2 ++ w3)) h), s.1 (first w1 (w2 ++ w3) (second w0 (w1 ++ (w2 ++ w3)) h)), t.1 (first w2 w3 (second w1 (w2 ++ w3) (second w0 (w1 ++ (w2 ++ w3)) h))), q.1 (second w2 w3 (second w1 (w2 ++ w3) (second w0 (w1 ++ (w2 ++ w3)) h)))),
        );
      }

  pub document_listed : (x : Document) → walk_document (holds_with_spans (of_leaves Q) (λ s. Q (Leaf.span s))) (λ ds. Q (Leaf.docs ds)) x ↔ Each (walk_document leaves docs_leaf x)
  document_listed x =
      link_document (changed unchanged) leaves (holds_with_spans (of_leaves Q) (λ s. Q (Leaf.span s))) unchanged listed (λ ds. ds) (λ ds. ds) docs_leaf (λ ds. Q (Leaf.docs ds)) (λ ds. (λ h. (h, tt), λ h. h.0)) x
