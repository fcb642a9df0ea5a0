-- The laws of changes and of what is asked of leaves, each from the law of walks.
use Rattle.wac_ast_grammar.proofs.Common.{◌≡◌, List, [], ◌∷◌, map, Option, Some, None, Bool, refl, sym, ap, ◌∙◌, option_map, AllByRecursion, Span, Doc}
use Rattle.wac_ast_grammar.specs.Tree.{Ident, String, PackageName, PackagePath, Document}
use Rattle.wac_ast_grammar.specs.Walk.{walk_document}
use Rattle.wac_ast_grammar.specs.Leaves.{IfThere, Change, Asked, changed, holds, holds_with_spans, after, unchanged, asked_after}
use Rattle.wac_ast_grammar.proofs.Linked.{Link, link_document}

-- ---- lists and options

pub each_composed : {A : Type 0} (v w u c : A → A) → ((x : A) → v (c x) ≡ w x) → (xs : List A) → map v (map c xs) ≡ map w xs
each_composed v w u c e [] = refl
each_composed v w u c e (x ∷ xs) = λ i. e x i ∷ each_composed v w u c e xs i

pub perhaps_composed : {A : Type 0} (v w u c : A → A) → ((x : A) → v (c x) ≡ w x) → (x : Option A) → option_map v (option_map c x) ≡ option_map w x
perhaps_composed v w u c e None = refl
perhaps_composed v w u c e (Some x) = ap Some (e x)

pub each_agreeing : {A : Type 0} (v w : A → A) (u : A → Type 0) (c : A → A) → ((x : A) → u x → v (c x) ≡ w x) → (xs : List A) → AllByRecursion u xs → map v (map c xs) ≡ map w xs
each_agreeing v w u c e [] p = refl
each_agreeing v w u c e (x ∷ xs) p = λ i. e x p.0 i ∷ each_agreeing v w u c e xs p.1 i

pub perhaps_agreeing : {A : Type 0} (v w : A → A) (u : A → Type 0) (c : A → A) → ((x : A) → u x → v (c x) ≡ w x) → (x : Option A) → IfThere u x → option_map v (option_map c x) ≡ option_map w x
perhaps_agreeing v w u c e None p = refl
perhaps_agreeing v w u c e (Some x) p = ap Some (e x p)

pub each_fixed : {A : Type 0} (v w : A → A) (u : A → Type 0) (c : A → A) → ((x : A) → u x → w x ≡ x) → (xs : List A) → AllByRecursion u xs → map w xs ≡ xs
each_fixed v w u c e [] p = refl
each_fixed v w u c e (x ∷ xs) p = λ i. e x p.0 i ∷ each_fixed v w u c e xs p.1 i

pub perhaps_fixed : {A : Type 0} (v w : A → A) (u : A → Type 0) (c : A → A) → ((x : A) → u x → w x ≡ x) → (x : Option A) → IfThere u x → option_map w x ≡ x
perhaps_fixed v w u c e None p = refl
perhaps_fixed v w u c e (Some x) p = ap Some (e x p)

pub each_same : {A : Type 0} (v w u c : A → A) → ((x : A) → w x ≡ x) → (xs : List A) → map w xs ≡ xs
each_same v w u c e [] = refl
each_same v w u c e (x ∷ xs) = λ i. e x i ∷ each_same v w u c e xs i

pub perhaps_same : {A : Type 0} (v w u c : A → A) → ((x : A) → w x ≡ x) → (x : Option A) → option_map w x ≡ x
perhaps_same v w u c e None = refl
perhaps_same v w u c e (Some x) = ap Some (e x)

pub each_asked : {A : Type 0} (v w : A → Type 0) (u c : A → A) → ((x : A) → v (c x) ≡ w x) → (xs : List A) → AllByRecursion v (map c xs) ≡ AllByRecursion w xs
each_asked v w u c e [] = refl
each_asked v w u c e (x ∷ xs) = λ i. e x i × each_asked v w u c e xs i

pub perhaps_asked : {A : Type 0} (v w : A → Type 0) (u c : A → A) → ((x : A) → v (c x) ≡ w x) → (x : Option A) → IfThere v (option_map c x) ≡ IfThere w x
perhaps_asked v w u c e None = refl
perhaps_asked v w u c e (Some x) = e x

pub each_implied : {A : Type 0} (v : A → A) (w u : A → Type 0) (c : A → A) → ((x : A) → u x → w x) → (xs : List A) → AllByRecursion u xs → AllByRecursion w xs
each_implied v w u c e [] p = tt
each_implied v w u c e (x ∷ xs) p = (e x p.0, each_implied v w u c e xs p.1)

pub perhaps_implied : {A : Type 0} (v : A → A) (w u : A → Type 0) (c : A → A) → ((x : A) → u x → w x) → (x : Option A) → IfThere u x → IfThere w x
perhaps_implied v w u c e None p = tt
perhaps_implied v w u c e (Some x) p = e x p

-- ---- the laws

-- f after g is h at each leaf
abbrev pub agree : Change → Change → Change → Asked
agree f g h =
    record {
      ident = λ x. f.ident (g.ident x) ≡ h.ident x;
      string = λ x. f.string (g.string x) ≡ h.string x;
      name = λ x. f.name (g.name x) ≡ h.name x;
      path = λ x. f.path (g.path x) ≡ h.path x;
      filled = λ b. Unit {0};
    }

-- f after g is h at any leaf
pub record Agree (f g h : Change) : Type 0 where
  pub ident : (x : Ident) → f.ident (g.ident x) ≡ h.ident x
  pub string : (x : String) → f.string (g.string x) ≡ h.string x
  pub name : (x : PackageName) → f.name (g.name x) ≡ h.name x
  pub path : (x : PackagePath) → f.path (g.path x) ≡ h.path x
  pub span : (x : Span) → f.span (g.span x) ≡ h.span x

-- CHANGES COMPOSE: where f after g is h, the tree that g and then f changed is the one that h changed
abbrev pub composed : (f g h : Change) → Agree f g h → Link {0, 0, 0, 0} (changed f) (changed h) (changed unchanged) g
composed f g h e =
    record {
      R = λ x u v p. u ≡ v;
      ident = e.ident;
      string = e.string;
      name = e.name;
      path = e.path;
      none = λ x. refl;
      each = each_composed;
      perhaps = perhaps_composed;
      spanned = λ r s. λ i. r i (e.span s i);
      filled = λ e r. r;
      one = λ {m = m} r. λ i. m (r i);
      two = λ {m = m} r s. λ i. m (r i) (s i);
      three = λ {m = m} r s t. λ i. m (r i) (s i) (t i);
      four = λ {m = m} r s t w. λ i. m (r i) (s i) (t i) (w i);
    }

-- CHANGES COMPOSE, leaf by leaf: where f after g is h at each leaf of the tree
abbrev pub agreeing : (f g h : Change) → ((s : Span) → f.span (g.span s) ≡ h.span s) → Link {0, 0, 1, 0} (changed f) (changed h) (holds (agree f g h)) g
agreeing f g h spans =
    record {
      R = λ x u v p. p → u ≡ v;
      ident = λ x e. e;
      string = λ x e. e;
      name = λ x e. e;
      path = λ x e. e;
      none = λ x e. refl;
      each = each_agreeing;
      perhaps = perhaps_agreeing;
      spanned = λ r s p. λ i. r p i (spans s i);
      filled = λ e r p. r p.0;
      one = λ {m = m} r e. λ i. m (r e i);
      two = λ {m = m} r s e. λ i. m (r e.0 i) (s e.1 i);
      three = λ {m = m} r s t e. λ i. m (r e.0 i) (s e.1 i) (t e.2 i);
      four = λ {m = m} r s t w e. λ i. m (r e.0 i) (s e.1 i) (t e.2 i) (w e.3 i);
    }

-- A CHANGE THAT LEAVES EACH LEAF of the tree as it is gives the same tree
abbrev pub fixing : (f : Change) → ((s : Span) → f.span s ≡ s) → Link {0, 0, 1, 0} (changed unchanged) (changed f) (holds (agree unchanged f unchanged)) unchanged
fixing f spans =
    record {
      R = λ x u v p. p → v ≡ x;
      ident = λ x e. e;
      string = λ x e. e;
      name = λ x e. e;
      path = λ x e. e;
      none = λ x e. refl;
      each = each_fixed;
      perhaps = perhaps_fixed;
      spanned = λ r s p. λ i. r p i (spans s i);
      filled = λ e r p. r p.0;
      one = λ {m = m} r e. λ i. m (r e i);
      two = λ {m = m} r s e. λ i. m (r e.0 i) (s e.1 i);
      three = λ {m = m} r s t e. λ i. m (r e.0 i) (s e.1 i) (t e.2 i);
      four = λ {m = m} r s t w e. λ i. m (r e.0 i) (s e.1 i) (t e.2 i) (w e.3 i);
    }

abbrev pub same : Link {0, 0, 0, 0} (changed unchanged) (changed unchanged) (changed unchanged) unchanged
same =
    record {
      R = λ x u v p. v ≡ x;
      ident = λ x. refl;
      string = λ x. refl;
      name = λ x. refl;
      path = λ x. refl;
      none = λ x. refl;
      each = each_same;
      perhaps = perhaps_same;
      spanned = λ r s. λ i. r i s;
      filled = λ e r. r;
      one = λ {m = m} r. λ i. m (r i);
      two = λ {m = m} r s. λ i. m (r i) (s i);
      three = λ {m = m} r s t. λ i. m (r i) (s i) (t i);
      four = λ {m = m} r s t w. λ i. m (r i) (s i) (t i) (w i);
    }

-- WHAT IS ASKED OF A CHANGED TREE is asked of the tree's leaves, changed
abbrev pub asked_of_changed : (P : Asked) (g : Change) → Link {1, 1, 0, 1} (holds P) (holds (asked_after P g)) (changed unchanged) g
asked_of_changed P g =
    record {
      R = λ x u v p. u ≡ v;
      ident = λ x. refl;
      string = λ x. refl;
      name = λ x. refl;
      path = λ x. refl;
      none = λ x. refl;
      each = each_asked;
      perhaps = perhaps_asked;
      spanned = λ r s. r;
      filled = λ e r. λ i. r i × P.filled (e i);
      one = λ r. r;
      two = λ r s. λ i. r i × s i;
      three = λ r s t. λ i. r i × s i × t i;
      four = λ r s t w. λ i. r i × s i × t i × w i;
    }

-- what is asked of a leaf gives what else is asked of it
pub record Gives (P Q : Asked) : Type 0 where
  pub ident : (x : Ident) → P.ident x → Q.ident x
  pub string : (x : String) → P.string x → Q.string x
  pub name : (x : PackageName) → P.name x → Q.name x
  pub path : (x : PackagePath) → P.path x → Q.path x
  pub filled : (b : Bool) → P.filled b → Q.filled b

-- WHAT FOLLOWS AT EACH LEAF follows of the tree
abbrev pub implied : (P Q : Asked) → Gives P Q → Link {0, 1, 1, 0} (changed unchanged) (holds Q) (holds P) unchanged
implied P Q e =
    record {
      R = λ x u q p. p → q;
      ident = e.ident;
      string = e.string;
      name = e.name;
      path = e.path;
      none = λ x p. tt;
      each = each_implied;
      perhaps = perhaps_implied;
      spanned = λ r s. r;
      filled = λ {is = is} c r p. (r p.0, e.filled is p.1);
      one = λ r p. r p;
      two = λ r s p. (r p.0, s p.1);
      three = λ r s t p. (r p.0, s p.1, t p.2);
      four = λ r s t w p. (r p.0, s p.1, t p.2, w p.3);
    }

-- WHAT HOLDS WITH SPANS holds
abbrev pub spans_aside : (P : Asked) (S : Span → Type 0) → Link {0, 1, 1, 0} (changed unchanged) (holds P) (holds_with_spans P S) unchanged
spans_aside P S =
    record {
      R = λ x u q p. p → q;
      ident = λ x h. h;
      string = λ x h. h;
      name = λ x h. h;
      path = λ x h. h;
      none = λ x p. tt;
      each = each_implied;
      perhaps = perhaps_implied;
      spanned = λ r s p. r p.0;
      filled = λ c r p. (r p.0, p.1);
      one = λ r p. r p;
      two = λ r s p. (r p.0, s p.1);
      three = λ r s t p. (r p.0, s p.1, t p.2);
      four = λ r s t w p. (r p.0, s p.1, t p.2, w p.3);
    }

-- WHAT HOLDS, and of any span
abbrev pub any_spans : (P : Asked) (S : Span → Type 0) → ((s : Span) → S s) → Link {0, 1, 1, 0} (changed unchanged) (holds_with_spans P S) (holds P) unchanged
any_spans P S any =
    record {
      R = λ x u q p. p → q;
      ident = λ x h. h;
      string = λ x h. h;
      name = λ x h. h;
      path = λ x h. h;
      none = λ x p. tt;
      each = each_implied;
      perhaps = perhaps_implied;
      spanned = λ r s p. (r p, any s);
      filled = λ c r p. (r p.0, p.1);
      one = λ r p. r p;
      two = λ r s p. (r p.0, s p.1);
      three = λ r s t p. (r p.0, s p.1, t p.2);
      four = λ r s t w p. (r p.0, s p.1, t p.2, w p.3);
    }

-- ---- of documents: what is made of docs comes beside what is made of the other leaves

abbrev Docs : Type 0
Docs = List Doc → List Doc

pub document_composed : (f g h : Change) (df dg dh : Docs) → Agree f g h → ((ds : List Doc) → df (dg ds) ≡ dh ds) → (x : Document) → walk_document (changed f) df (walk_document (changed g) dg x) ≡ walk_document (changed h) dh x
document_composed f g h df dg dh e d x = link_document (changed f) (changed h) (changed unchanged) g (composed f g h e) dg df dh (λ ds. ds) d x

pub document_after : (f g : Change) (df dg : Docs) (x : Document) → walk_document (changed f) df (walk_document (changed g) dg x) ≡ walk_document (changed (after f g)) (λ ds. df (dg ds)) x
document_after f g df dg x =
    document_composed f g (after f g) df dg (λ ds. df (dg ds)) (record { ident = λ x. refl; string = λ x. refl; name = λ x. refl; path = λ x. refl; span = λ x. refl }) (λ ds. refl) x

pub document_agreeing : (f g h : Change) → ((s : Span) → f.span (g.span s) ≡ h.span s) → (df dg dh : Docs) (x : Document) → walk_document (holds (agree f g h)) (λ ds. df (dg ds) ≡ dh ds) x → walk_document (changed f) df (walk_document (changed g) dg x) ≡ walk_document (changed h) dh x
document_agreeing f g h spans df dg dh x p = link_document (changed f) (changed h) (holds (agree f g h)) g (agreeing f g h spans) dg df dh (λ ds. df (dg ds) ≡ dh ds) (λ ds e. e) x p

pub document_same : (x : Document) → walk_document (changed unchanged) (λ ds. ds) x ≡ x
document_same x = link_document (changed unchanged) (changed unchanged) (changed unchanged) unchanged same (λ ds. ds) (λ ds. ds) (λ ds. ds) (λ ds. ds) (λ ds. refl) x

pub document_fixed : (f : Change) → ((s : Span) → f.span s ≡ s) → (df : Docs) (x : Document) → walk_document (holds (agree unchanged f unchanged)) (λ ds. df ds ≡ ds) x → walk_document (changed f) df x ≡ x
document_fixed f spans df x p =
    link_document (changed unchanged) (changed f) (holds (agree unchanged f unchanged)) unchanged (fixing f spans) (λ ds. ds) (λ ds. ds) df (λ ds. df ds ≡ ds) (λ ds e. e) x p

-- TWO CHANGES that agree on all leaves of a tree give the same tree
pub document_alike : (f h : Change) → ((s : Span) → f.span s ≡ h.span s) → (df dh : Docs) (x : Document) → walk_document (holds (agree f unchanged h)) (λ ds. df ds ≡ dh ds) x → walk_document (changed f) df x ≡ walk_document (changed h) dh x
document_alike f h spans df dh x p = sym (ap (walk_document (changed f) df) (document_same x)) ∙ document_agreeing f unchanged h spans df (λ ds. ds) dh x p

pub document_asked : (P : Asked) (D : List Doc → Type 0) (g : Change) (dg : Docs) (x : Document) → walk_document (holds P) D (walk_document (changed g) dg x) ≡ walk_document (holds (asked_after P g)) (λ ds. D (dg ds)) x
document_asked P D g dg x = link_document (holds P) (holds (asked_after P g)) (changed unchanged) g (asked_of_changed P g) dg D (λ ds. D (dg ds)) (λ ds. ds) (λ ds. refl) x

pub document_implied : (P Q : Asked) (D E : List Doc → Type 0) → Gives P Q → ((ds : List Doc) → D ds → E ds) → (x : Document) → walk_document (holds P) D x → walk_document (holds Q) E x
document_implied P Q D E e d x p = link_document (changed unchanged) (holds Q) (holds P) unchanged (implied P Q e) (λ ds. ds) (λ ds. ds) E D d x p

pub document_spans_aside : (P : Asked) (S : Span → Type 0) (D : List Doc → Type 0) (x : Document) → walk_document (holds_with_spans P S) D x → walk_document (holds P) D x
document_spans_aside P S D x p = link_document (changed unchanged) (holds P) (holds_with_spans P S) unchanged (spans_aside P S) (λ ds. ds) (λ ds. ds) D D (λ ds h. h) x p

pub document_any_spans : (P : Asked) (S : Span → Type 0) → ((s : Span) → S s) → (D : List Doc → Type 0) (x : Document) → walk_document (holds P) D x → walk_document (holds_with_spans P S) D x
document_any_spans P S any D x p = link_document (changed unchanged) (holds_with_spans P S) (holds P) unchanged (any_spans P S any) (λ ds. ds) (λ ds. ds) D D (λ ds h. h) x p
