-- A bare tree is made of the bare tree without docs and of the docs of its holders, in order: each holder takes the next.
use Rattle.wac_printer_layout.proofs.Common.{◌≡◌, ℕ, List, [], ◌∷◌, ◌++◌, map, Option, Some, None, refl, sym, ap, ◌∙◌, option_map, flat_map, Span, Doc, Document, Walk, walk_document, Leaf, Change, changed, leaves, docs_leaf, of_option, unchanged}
use Rattle.wac_ast_grammar.proofs.Linked.{Link, link_document}
use Rattle.wac_printer_layout.specs.Bare.{Keep, no_docs, bare, bare_document, bare_leaves}
use Rattle.wac_printer_layout.specs.TreeLines.{bare_tree, docs_among, docs_in}

-- the docs of holders
abbrev pub Holders : Type 0
Holders = List (List Doc)

-- what is made of the docs to come, and those that are left
abbrev pub Of : Type 0 → Type 0
Of A = Holders → A × Holders

abbrev pub give : {A : Type 0} → A → Of A
give x later = (x, later)

abbrev pub next : {A B : Type 0} → Of A → (A → Of B) → Of B
next v f docs = f (v docs).0 (v docs).1

abbrev pub each_next : {A : Type 0} → (A → Of A) → List A → Of (List A)
each_next v [] = give []
each_next v (x ∷ xs) = next (v x) (λ a. next (each_next v xs) (λ others. give (a ∷ others)))

abbrev pub perhaps_next : {A : Type 0} → (A → Of A) → Option A → Of (Option A)
perhaps_next v None = give None
perhaps_next v (Some x) = next (v x) (λ a. give (Some a))

abbrev pub filling : Walk {0}
filling =
    record {
      Of = Of;
      ident = give;
      string = give;
      name = give;
      path = give;
      each = each_next;
      perhaps = perhaps_next;
      filled = λ b v. v;
      spanned = λ v s. next v (λ m. give (m s));
      none = give;
      one = λ m v. next v (λ a. give (m a));
      two = λ m v0 v1. next v0 (λ a. next v1 (λ b. give (m a b)));
      three = λ m v0 v1 v2. next v0 (λ a. next v1 (λ b. next v2 (λ c. give (m a b c))));
      four = λ m v0 v1 v2 v3. next v0 (λ a. next v1 (λ b. next v2 (λ c. next v3 (λ d. give (m a b c d)))));
    }

abbrev pub take_next : List Doc → Of (List Doc)
take_next docs [] = ([], [])
take_next docs (first ∷ later) = (first, later)

-- the tree with these docs
abbrev pub fill : Document → Holders → Document
fill x docs = (walk_document filling take_next x docs).0

-- the docs of leaves, before others
module _ (keep : Keep) where
  abbrev before : List Leaf → Holders → Holders
  before [] later = later
  before (Leaf.docs ds ∷ ls) later = keep ds ∷ before ls later
  before (Leaf.ident x ∷ ls) later = before ls later
  before (Leaf.string x ∷ ls) later = before ls later
  before (Leaf.name x ∷ ls) later = before ls later
  before (Leaf.path x ∷ ls) later = before ls later
  before (Leaf.span x ∷ ls) later = before ls later

  before_append : (a b : List Leaf) (later : Holders) → before (a ++ b) later ≡ before a (before b later)
  before_append [] b later = refl
  before_append (Leaf.docs ds ∷ a) b later = ap (λ docs. keep ds ∷ docs) (before_append a b later)
  before_append (Leaf.ident x ∷ a) b later = before_append a b later
  before_append (Leaf.string x ∷ a) b later = before_append a b later
  before_append (Leaf.name x ∷ a) b later = before_append a b later
  before_append (Leaf.path x ∷ a) b later = before_append a b later
  before_append (Leaf.span x ∷ a) b later = before_append a b later

  before_is : (ls : List Leaf) → before ls [] ≡ map keep (flat_map docs_among ls)
  before_is [] = refl
  before_is (Leaf.docs ds ∷ ls) = ap (λ docs. keep ds ∷ docs) (before_is ls)
  before_is (Leaf.ident x ∷ ls) = before_is ls
  before_is (Leaf.string x ∷ ls) = before_is ls
  before_is (Leaf.name x ∷ ls) = before_is ls
  before_is (Leaf.path x ∷ ls) = before_is ls
  before_is (Leaf.span x ∷ ls) = before_is ls

  -- a part takes the docs of its leaves
  abbrev Takes : {A : Type 0} → Of A → A → List Leaf → Type 0
  Takes v w ls = (later : Holders) → v (before ls later) ≡ (w, later)

  takes_next : {A B : Type 0} (v : Of A) (w : A) (a : List Leaf) (f : A → Of B) (z : B) (b : List Leaf) → Takes v w a → Takes (f w) z b → Takes (next v f) z (a ++ b)
  takes_next v w a f z b r s later = ap (next v f) (before_append a b later) ∙ ap (λ p. f p.0 p.1) (r (before b later)) ∙ s later

  takes_last : {A B : Type 0} (v : Of A) (w : A) (a : List Leaf) (m : A → B) → Takes v w a → Takes (next v (λ x. give (m x))) (m w) a
  takes_last v w a m r later = ap (λ p. (m p.0, p.1)) (r later)

  takes_each : {A : Type 0} (v : A → Of A) (w : A → A) (u : A → List Leaf) (c : A → A) → ((x : A) → Takes (v (c x)) (w x) (u x)) → (xs : List A) → Takes (each_next v (map c xs)) (map w xs) (flat_map u xs)
  takes_each v w u c e [] = λ later. refl
  takes_each v w u c e (x ∷ xs) =
      takes_next (v (c x)) (w x) (u x) (λ a. next (each_next v (map c xs)) (λ others. give (a ∷ others))) (w x ∷ map w xs) (flat_map u xs) (e x)
      (takes_last (each_next v (map c xs)) (map w xs) (flat_map u xs) (λ others. w x ∷ others) (takes_each v w u c e xs))

  takes_perhaps : {A : Type 0} (v : A → Of A) (w : A → A) (u : A → List Leaf) (c : A → A) → ((x : A) → Takes (v (c x)) (w x) (u x)) → (x : Option A) → Takes (perhaps_next v (option_map c x)) (option_map w x) (of_option u x)
  takes_perhaps v w u c e None = λ later. refl
  takes_perhaps v w u c e (Some x) = takes_last (v (c x)) (w x) (u x) Some (e x)

  takes_span : {A : Type 0} (v : Of (Span → A)) (w : Span → A) (a : List Leaf) (s t : Span) → Takes v w a → Takes (next v (λ m. give (m s))) (w s) (a ++ (Leaf.span t ∷ []))
  takes_span v w a s t r later = ap (next v (λ m. give (m s))) (before_append a (Leaf.span t ∷ []) later) ∙ takes_last v w a (λ m. m s) r later

  abbrev takes : (f : Change) → Link {0, 0, 0, 0} filling (changed f) leaves f
  takes f =
      record {
        R = λ x v w u. Takes v w u;
        ident = λ x later. refl;
        string = λ x later. refl;
        name = λ x later. refl;
        path = λ x later. refl;
        none = λ x later. refl;
        each = takes_each;
        perhaps = takes_perhaps;
        filled = λ e r. r;
        spanned = λ {v = v} {w = w} {u = u} r s. takes_span v w u (f.span s) s r;
        one = λ {m = m} {v0 = v0} {w0 = w0} {u0 = u0} r. takes_last v0 w0 u0 m r;
        two = λ {m = m} {v0 = v0} {w0 = w0} {u0 = u0} {v1 = v1} {w1 = w1} {u1 = u1} r s.
            takes_next v0 w0 u0 (λ a. next v1 (λ b. give (m a b))) (m w0 w1) u1 r (takes_last v1 w1 u1 (m w0) s);
        three = λ {m = m} {v0 = v0} {w0 = w0} {u0 = u0} {v1 = v1} {w1 = w1} {u1 = u1} {v2 = v2} {w2 = w2} {u2 = u2} r s t.
            takes_next v0 w0 u0 (λ a. next v1 (λ b. next v2 (λ c. give (m a b c)))) (m w0 w1 w2) (u1 ++ u2) r
            (takes_next v1 w1 u1 (λ b. next v2 (λ c. give (m w0 b c))) (m w0 w1 w2) u2 s (takes_last v2 w2 u2 (m w0 w1) t));
        four = λ {m = m} {v0 = v0} {w0 = w0} {u0 = u0} {v1 = v1} {w1 = w1} {u1 = u1} {v2 = v2} {w2 = w2} {u2 = u2} {v3 = v3} {w3 = w3} {u3 = u3} r s t q.
            takes_next v0 w0 u0 (λ a. next v1 (λ b. next v2 (λ c. next v3 (λ d. give (m a b c d))))) (m w0 w1 w2 w3) (u1 ++ (u2 ++ u3)) r
            (takes_next v1 w1 u1 (λ b. next v2 (λ c. next v3 (λ d. give (m w0 b c d)))) (m w0 w1 w2 w3) (u2 ++ u3) s
            (takes_next v2 w2 u2 (λ c. next v3 (λ d. give (m w0 w1 c d))) (m w0 w1 w2 w3) u3 t (takes_last v3 w3 u3 (m w0 w1 w2) q)));
      }

  -- a bare tree, filled with what is kept of its docs
  pub filled_again : (source : List ℕ) (x : Document) → fill (bare_tree source x) (map keep (docs_in x)) ≡ bare_document keep source x
  filled_again source x =
      let ls = walk_document leaves docs_leaf x in
      ap (λ docs. fill (bare_tree source x) docs) (sym (before_is ls))
      ∙ ap (λ p. p.0) (link_document filling (bare source) leaves (bare_leaves source) (takes (bare_leaves source)) no_docs take_next keep docs_leaf (λ ds later. refl) x [])

-- ---- the docs of a changed tree

module _ (keep : Keep) where
  docs_append : (a b : List Leaf) → flat_map docs_among (a ++ b) ≡ flat_map docs_among a ++ flat_map docs_among b
  docs_append [] b = refl
  docs_append (Leaf.docs ds ∷ a) b = ap (λ docs. ds ∷ docs) (docs_append a b)
  docs_append (Leaf.ident x ∷ a) b = docs_append a b
  docs_append (Leaf.string x ∷ a) b = docs_append a b
  docs_append (Leaf.name x ∷ a) b = docs_append a b
  docs_append (Leaf.path x ∷ a) b = docs_append a b
  docs_append (Leaf.span x ∷ a) b = docs_append a b

  map_append : (a b : Holders) → map keep (a ++ b) ≡ map keep a ++ map keep b
  map_append [] b = refl
  map_append (ds ∷ a) b = ap (λ docs. keep ds ∷ docs) (map_append a b)

  -- the docs of these leaves are what is kept of those
  abbrev Kept : List Leaf → List Leaf → Type 0
  Kept now was = flat_map docs_among now ≡ map keep (flat_map docs_among was)

  kept_both : (a b c d : List Leaf) → Kept a b → Kept c d → Kept (a ++ c) (b ++ d)
  kept_both a b c d r s = docs_append a c ∙ (λ i. r i ++ s i) ∙ sym (map_append (flat_map docs_among b) (flat_map docs_among d)) ∙ ap (map keep) (sym (docs_append b d))

  kept_each : {A : Type 0} (v w : A → List Leaf) (u c : A → A) → ((x : A) → Kept (v (c x)) (w x)) → (xs : List A) → Kept (flat_map v (map c xs)) (flat_map w xs)
  kept_each v w u c e [] = refl
  kept_each v w u c e (x ∷ xs) = kept_both (v (c x)) (w x) (flat_map v (map c xs)) (flat_map w xs) (e x) (kept_each v w u c e xs)

  kept_perhaps : {A : Type 0} (v w : A → List Leaf) (u c : A → A) → ((x : A) → Kept (v (c x)) (w x)) → (x : Option A) → Kept (of_option v (option_map c x)) (of_option w x)
  kept_perhaps v w u c e None = refl
  kept_perhaps v w u c e (Some x) = e x

  abbrev kept : (f : Change) → Link {0, 0, 0, 0} leaves leaves (changed unchanged) f
  kept f =
      record {
        R = λ x v w u. Kept v w;
        ident = λ x. refl;
        string = λ x. refl;
        name = λ x. refl;
        path = λ x. refl;
        none = λ x. refl;
        each = kept_each;
        perhaps = kept_perhaps;
        filled = λ e r. r;
        spanned = λ {v = v} {w = w} r s. kept_both v w (Leaf.span (f.span s) ∷ []) (Leaf.span s ∷ []) r refl;
        one = λ r. r;
        two = λ {v0 = v0} {w0 = w0} {v1 = v1} {w1 = w1} r s. kept_both v0 w0 v1 w1 r s;
        three = λ {v0 = v0} {w0 = w0} {v1 = v1} {w1 = w1} {v2 = v2} {w2 = w2} r s t. kept_both v0 w0 (v1 ++ v2) (w1 ++ w2) r (kept_both v1 w1 v2 w2 s t);
        four = λ {v0 = v0} {w0 = w0} {v1 = v1} {w1 = w1} {v2 = v2} {w2 = w2} {v3 = v3} {w3 = w3} r s t q.
            kept_both v0 w0 (v1 ++ (v2 ++ v3)) (w1 ++ (w2 ++ w3)) r (kept_both v1 w1 (v2 ++ v3) (w2 ++ w3) s (kept_both v2 w2 v3 w3 t q));
      }

  pub docs_of_changed : (f : Change) (x : Document) → docs_in (walk_document (changed f) keep x) ≡ map keep (docs_in x)
  docs_of_changed f x = link_document leaves leaves (changed unchanged) f (kept f) keep docs_leaf docs_leaf (λ ds. ds) (λ ds. refl) x
