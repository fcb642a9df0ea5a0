-- A copied table means what it meant, under the origins of its new numbers.
use Rattle.wac_graph.proofs.Common.{◌≡◌, ◌+◌, ◌<◌, ℕ, zero, suc, List, [], ◌∷◌, ◌++◌, length, refl, sym, ◌∙◌, ap, arith, length-append, Option, Some, None, subst, ◌⊎◌, inl, inr, IfSome, option_map, ItemKind, Entry, Form, form, named_by, sort_named, Slot, children, Label, plain, kind, dangling, label, Meaning, node, done, look, of_kind, of_child, row, over, meanings_from, meaning, NamesBefore, ChildrenBefore, EarlierFrom, IsEarlier}
use Rattle.std.proofs.lemmas.List.{get_or_append_left}
use Rattle.std.proofs.Math.Seq.{get_or-append_seam}
use Rattle.wac_graph_types.specs.declared.kind.ItemKind.TheVariants as kinds
use Rattle.wac_graph_types.specs.declared.kind.«Type».TheVariants as types
use Rattle.wac_graph_types.specs.declared.kind.ValueType.TheVariants as values
use Rattle.wac_graph_types.specs.Meaning.{named, meaning_at}
use Rattle.wac_graph.specs.Moved.{moved, moved_children}
use Rattle.wac_graph.specs.Copied.{AreCopies, IsGrownBy, MeansTheSame}
use Rattle.wac_graph_types.proofs.Meanings.{split, meanings_length}

-- a moved kind has its form and sort, and names the moved number
pub record Moves (n : ℕ) (k m : ItemKind) : Type 0 where
  pub forms : form m ≡ form k
  pub sorts : sort_named m ≡ sort_named k
  pub ids : named_by m ≡ option_map (λ i. n + i) (named_by k)

pub moves : (n : ℕ) (k : ItemKind) → Moves n k (moved n k)
moves n (kinds.Ty (types.Resource id)) = record { forms = refl; sorts = refl; ids = refl }
moves n (kinds.Ty (types.Func id)) = record { forms = refl; sorts = refl; ids = refl }
moves n (kinds.Ty (types.Value (values.Primitive p))) = record { forms = refl; sorts = refl; ids = refl }
moves n (kinds.Ty (types.Value (values.Borrow id))) = record { forms = refl; sorts = refl; ids = refl }
moves n (kinds.Ty (types.Value (values.Own id))) = record { forms = refl; sorts = refl; ids = refl }
moves n (kinds.Ty (types.Value (values.Defined id))) = record { forms = refl; sorts = refl; ids = refl }
moves n (kinds.Ty (types.Interface id)) = record { forms = refl; sorts = refl; ids = refl }
moves n (kinds.Ty (types.World id)) = record { forms = refl; sorts = refl; ids = refl }
moves n (kinds.Ty (types.Module id)) = record { forms = refl; sorts = refl; ids = refl }
moves n (kinds.Func id) = record { forms = refl; sorts = refl; ids = refl }
moves n (kinds.Instance id) = record { forms = refl; sorts = refl; ids = refl }
moves n (kinds.Component id) = record { forms = refl; sorts = refl; ids = refl }
moves n (kinds.Module id) = record { forms = refl; sorts = refl; ids = refl }
moves n (kinds.Value (values.Primitive p)) = record { forms = refl; sorts = refl; ids = refl }
moves n (kinds.Value (values.Borrow id)) = record { forms = refl; sorts = refl; ids = refl }
moves n (kinds.Value (values.Own id)) = record { forms = refl; sorts = refl; ids = refl }
moves n (kinds.Value (values.Defined id)) = record { forms = refl; sorts = refl; ids = refl }

named_moved : (f g : ℕ → Meaning) (n m : ℕ) → ((k : ℕ) → k < m → f (n + k) ≡ g k) → (x : Option ℕ) → IfSome x (λ i. i < m) → named f (option_map (λ i. n + i) x) ≡ named g x
named_moved f g n m same None h = refl
named_moved f g n m same (Some i) h = rw (same i h)

pub kind_moved : (f g : ℕ → Meaning) (n m : ℕ) → ((k : ℕ) → k < m → f (n + k) ≡ g k) → (k : ItemKind) → NamesBefore m k → of_kind f (moved n k) ≡ of_kind g k
kind_moved f g n m same k h =
    let e = moves n k in
    ap (λ (x : Form). node (plain (kind x)) (named f (named_by (moved n k)))) e.forms
    ∙ ap (λ (x : Option ℕ). node (plain (kind (form k))) (named f x)) e.ids
    ∙ ap (node (plain (kind (form k)))) (named_moved f g n m same (named_by k) h)

row_moved : (f g : ℕ → Meaning) (n m : ℕ) → ((k : ℕ) → k < m → f (n + k) ≡ g k) → (cs : List (Slot × Option ItemKind)) → ChildrenBefore m cs → row f (moved_children n cs) ≡ row g cs
row_moved f g n m same [] h = refl
row_moved f g n m same (c ∷ cs) h = (let one = child c.1 h.0 in let rest = row_moved f g n m same cs h.1 in cc)
  where
    child : (x : Option ItemKind) → IfSome x (NamesBefore m) → of_child f (option_map (moved n) x) ≡ of_child g x
    child None h = refl
    child (Some k) h = kind_moved f g n m same k h

below_or_at : (k m : ℕ) → k < suc m → (k < m) ⊎ (k ≡ m)
below_or_at zero zero h = inr refl
below_or_at zero (suc m) h = inl (omega arith)
below_or_at (suc k) zero h = absurd (omega arith)
below_or_at (suc k) (suc m) h = elim (below_or_at k m (omega arith)) [ inl b ↦ inl (omega arith) | inr e ↦ inr (ap suc e) ]

copied_from : (o : ℕ → ℕ) (n : ℕ) (es ds : List Entry) (ms ns : List Meaning) → AreCopies n es ds → length ms ≡ n + length ns → EarlierFrom (length ns) es
    → ((k : ℕ) → k < length ns → look ms (n + k) ≡ look ns k)
    → (i : ℕ) → i < length ns + length es → look (meanings_from o ms ds) (n + i) ≡ look (meanings_from (λ k. o (n + k)) ns es) i
copied_from o n [] [] ms ns c len h same i within = same i (omega arith)
copied_from o n [] (d ∷ ds) ms ns c len h same i within = absurd c
copied_from o n (e ∷ es) [] ms ns c len h same i within = absurd c
copied_from o n (e ∷ es) (d ∷ ds) ms ns c len h same i within =
    let p : ℕ → ℕ = λ k. o (n + k) in
    let new : over o ms d ≡ over p ns e
    = ap (λ (l : Label). node l (row (look ms) (children d))) (c.0.labels (o (length ms)) ∙ ap (λ (x : ℕ). label (o x) e) len)
    ∙ ap (λ (cs : List (Slot × Option ItemKind)). node (label (p (length ns)) e) (row (look ms) cs)) c.0.kinds
    ∙ ap (node (label (p (length ns)) e)) (row_moved (look ms) (look ns) n (length ns) same (children e) h.0) in
    let lm : length (ms ++ over o ms d ∷ []) ≡ n + length (ns ++ over p ns e ∷ []) = omega (arith, length-append ms (over o ms d ∷ []), length-append ns (over p ns e ∷ [])) in
    let ln : suc (length ns) ≡ length (ns ++ over p ns e ∷ []) = omega (arith, length-append ns (over p ns e ∷ [])) in
    copied_from o n es ds (ms ++ over o ms d ∷ []) (ns ++ over p ns e ∷ []) c.1 lm (subst (λ (m : ℕ). EarlierFrom m es) ln h.1)
    (λ k w. elim (below_or_at k (length ns) (omega arith)) [
      | inl below ↦ get_or_append_left ms (over o ms d ∷ []) (node (plain dangling) done) (n + k) (omega arith) ∙ same k below ∙ sym (get_or_append_left ns (over p ns e ∷ []) (node (plain dangling) done) k below)
      | inr at ↦
          subst (λ (x : ℕ). look (ms ++ over o ms d ∷ []) (n + x) ≡ look (ns ++ over p ns e ∷ []) x) (sym at)
          (subst (λ (x : ℕ). look (ms ++ over o ms d ∷ []) x ≡ look (ns ++ over p ns e ∷ []) (length ns)) len
          (get_or-append_seam ms (over o ms d) [] (node (plain dangling) done) ∙ new ∙ sym (get_or-append_seam ns (over p ns e) [] (node (plain dangling) done))))
    ])
    i (omega arith)

-- the copies after a table mean what the entries meant by themselves
pub copies_mean : (o : ℕ → ℕ) (ts es ds : List Entry) → IsEarlier es → AreCopies (length ts) es ds
    → (i : ℕ) → i < length es → meaning_at o (ts ++ ds) (length ts + i) ≡ meaning_at (λ k. o (length ts + k)) es i
unfolding meaning_at
copies_mean o ts es ds h c i within =
    ap (λ ms. look ms (length ts + i)) (split o ts ds [])
    ∙ copied_from o (length ts) es ds (meanings_from o [] ts) [] c (omega (arith, meanings_length o ts [])) h (λ k w. absurd (omega arith)) i (omega arith)

-- so does each kind
pub grown_means : (old es new : List Entry) → IsEarlier es → IsGrownBy old es new → MeansTheSame old es new
grown_means old es new earlier g = λ o k names.
    subst (λ (l : List Entry). meaning o l (moved (length old) k) ≡ meaning (λ i. o (length old + i)) es k) (sym g.1)
    (kind_moved (meaning_at o (old ++ g.0)) (meaning_at (λ i. o (length old + i)) es) (length old) (length es)
    (λ i within. copies_mean o old es g.0 earlier g.2 i within) k names)
