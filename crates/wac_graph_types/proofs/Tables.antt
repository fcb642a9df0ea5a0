-- A table stays one as entries are added that name older ones.
use Rattle.wac_graph_types.proofs.Common.{◌≡◌, ◌<◌, ℕ, zero, suc, Option, Some, None, List, [], ◌∷◌, ◌++◌, length, length-append, subst, arith, slice_get, option_map, IfSome, slice_get_within}
use Rattle.wac_graph_types.specs.declared.kind.ItemKind.{ItemKind}
use Rattle.wac_graph_types.specs.declared.kind.Sort.{Sort}
use Rattle.wac_graph_types.specs.declared.entry.Entry.{Entry}
use Rattle.wac_graph_types.specs.Kind.{named_by, sort_named}
use Rattle.wac_graph_types.specs.Entry.{Slot, children, sort_of}
use Rattle.wac_graph_types.specs.Meaning.{EachKind, EachFrom, NamesBefore}
use Rattle.wac_graph_types.specs.Table.{IsOfSort, Names, IsTable, EachEntryNamed}
use Rattle.wac_graph_types.proofs.Meanings.{is_earlier_more, names_before_more}
use Rattle.wac_graph_types.proofs.Rows.{earlier_from}

sort_kept : (es fs : List Entry) (i : ℕ) (s : Sort) → option_map sort_of (slice_get es i) ≡ Some s → option_map sort_of (slice_get (es ++ fs) i) ≡ Some s
sort_kept [] fs i s h = absurd (cc)
sort_kept (e ∷ es) fs zero s h = h
sort_kept (e ∷ es) fs (suc i) s h = sort_kept es fs i s h

of_sort_kept : (es fs : List Entry) (k : ItemKind) → IsOfSort es k → IsOfSort (es ++ fs) k
of_sort_kept es fs k h = go (named_by k) h
  where
    go : (x : Option ℕ) → IfSome x (λ i. option_map sort_of (slice_get es i) ≡ Some (sort_named k)) → IfSome x (λ i. option_map sort_of (slice_get (es ++ fs) i) ≡ Some (sort_named k))
    go None h = tt
    go (Some i) h = sort_kept es fs i (sort_named k) h

-- a kind of the table is one of the grown table
pub names_kept : (es fs : List Entry) (k : ItemKind) → Names es k → Names (es ++ fs) k
names_kept es fs k h = (names_before_more (length es) (length (es ++ fs)) k (omega (arith, length-append es fs)) h.0, of_sort_kept es fs k h.1)

pub each_implies : (P Q : ItemKind → Type 0) → ((k : ItemKind) → P k → Q k) → (cs : List (Slot × Option ItemKind)) → EachKind P cs → EachKind Q cs
each_implies P Q f [] h = tt
each_implies P Q f (c ∷ cs) h = (one c.1 h.0, each_implies P Q f cs h.1)
  where
    one : (x : Option ItemKind) → IfSome x P → IfSome x Q
    one None h = tt
    one (Some k) h = f k h

each_from_implies : {X : Type 0} (P Q : X → Type 0) → ((x : X) → P x → Q x) → (n : ℕ) (xs : List X) → EachFrom (λ _ x. P x) n xs → EachFrom (λ _ x. Q x) n xs
each_from_implies P Q f n [] h = tt
each_from_implies P Q f n (x ∷ xs) h = (f x h.0, each_from_implies P Q f (suc n) xs h.1)

each_from_more : {X : Type 0} (P : X → Type 0) (n : ℕ) (xs : List X) (x : X) → EachFrom (λ _ y. P y) n xs → P x → EachFrom (λ _ y. P y) n (xs ++ x ∷ [])
each_from_more P n [] x h here = (here, tt)
each_from_more P n (y ∷ xs) x h here = (h.0, each_from_more P (suc n) xs x h.1 here)

pub table_more : (es : List Entry) (e : Entry) → IsTable es → EachKind (Names es) (children e) → IsTable (es ++ e ∷ [])
table_more es e table here = (
  is_earlier_more es e table.0 (each_implies (Names es) (NamesBefore (length es)) (λ k n. n.0) (children e) here),
  each_from_more (λ x. EachKind (IsOfSort (es ++ e ∷ [])) (children x)) 0 es e
      (each_from_implies (λ x. EachKind (IsOfSort es) (children x)) (λ x. EachKind (IsOfSort (es ++ e ∷ [])) (children x)) (λ x. each_implies (IsOfSort es) (IsOfSort (es ++ e ∷ [])) (of_sort_kept es (e ∷ [])) (children x)) 0 es table.1)
      (each_implies (Names es) (IsOfSort (es ++ e ∷ [])) (λ k n. of_sort_kept es (e ∷ []) k n.1) (children e) here),
)

each_from_at : {X : Type 0} (P : X → Type 0) (n : ℕ) (xs : List X) (i : ℕ) (x : X) → EachFrom (λ _ y. P y) n xs → slice_get xs i ≡ Some x → P x
each_from_at P n [] i x h is = absurd (cc)
each_from_at P n (y ∷ xs) zero x h is = let same : y ≡ x = cc in subst P same h.0
each_from_at P n (y ∷ xs) (suc i) x h is = each_from_at P (suc n) xs i x h.1 is

each_both : (P Q : ItemKind → Type 0) (cs : List (Slot × Option ItemKind)) → EachKind P cs → EachKind Q cs → EachKind (λ k. P k × Q k) cs
each_both P Q [] p q = tt
each_both P Q (c ∷ cs) p q = (one c.1 p.0 q.0, each_both P Q cs p.1 q.1)
  where
    one : (x : Option ItemKind) → IfSome x P → IfSome x Q → IfSome x (λ k. P k × Q k)
    one None p q = tt
    one (Some k) p q = (p, q)

-- the kinds in an entry name entries before it, of their sort
pub entry_names : (es : List Entry) (i : ℕ) (e : Entry) → IsTable es → slice_get es i ≡ Some e → EachKind (λ k. NamesBefore i k × IsOfSort es k) (children e)
entry_names es i e table is = each_both (NamesBefore i) (IsOfSort es) (children e) (earlier_from 0 i es i e (omega arith) table.0 is) (each_from_at (λ x. EachKind (IsOfSort es) (children x)) 0 es i e table.1 is)

-- the kinds in an entry name entries of the table
pub each_entry_named : (es : List Entry) → IsTable es → EachEntryNamed es
each_entry_named es table i e is = each_implies (λ k. NamesBefore i k × IsOfSort es k) (Names es) more (children e) (entry_names es i e table is)
  where
    more : (k : ItemKind) → NamesBefore i k × IsOfSort es k → Names es k
    more k h = (names_before_more i (length es) k (let w : i < length es = slice_get_within es i e is in omega arith) h.0, h.1)
