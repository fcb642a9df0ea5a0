-- A table grows copy by copy.
use Rattle.wac_graph.proofs.Common.{◌≡◌, ◌∙◌, ◌+◌, ◌<◌, ℕ, zero, suc, Option, Some, None, List, [], ◌∷◌, ◌++◌, refl, sym, ap, subst, take, length, length-append, append_assoc, append-nil, arith, slice_get, option_map, IfSome, ItemKind, Entry, named_by, sort_named, Slot, children, sort_of, NamesBefore, EachKind, IsOfSort, Names, IsTable}
use Rattle.wac_graph_types.specs.declared.kind.Sort.{Sort}
use Rattle.wac_graph_types.proofs.Tables.{table_more, entry_names}
use Rattle.wac_graph.specs.Moved.{moved, moved_children}
use Rattle.wac_graph.specs.Copied.{IsCopy, AreCopies, IsGrown, IsGrownBy}
use Rattle.wac_graph.proofs.Copies.{moves}

copies_more : (n k : ℕ) (xs ds : List Entry) (e d : Entry) → AreCopies n (take k xs) ds → slice_get xs k ≡ Some e → IsCopy n e d → AreCopies n (take (suc k) xs) (ds ++ d ∷ [])
copies_more n k [] ds e d h is copy = absurd (cc)
copies_more n zero (x ∷ xs) [] e d h is copy = let same : x ≡ e = cc in (subst (λ (y : Entry). IsCopy n y d) (sym same) copy, tt)
copies_more n zero (x ∷ xs) (f ∷ ds) e d h is copy = absurd h
copies_more n (suc k) (x ∷ xs) [] e d h is copy = absurd h
copies_more n (suc k) (x ∷ xs) (f ∷ ds) e d h is copy = (h.0, copies_more n k xs ds e d h.1 is copy)

grown_more : (old now next : List Entry) (k : ℕ) (xs : List Entry) (e d : Entry) → IsGrownBy old (take k xs) now → slice_get xs k ≡ Some e → IsCopy (length old) e d → next ≡ now ++ d ∷ [] → IsGrownBy old (take (k + 1) xs) next
grown_more old now next k xs e d h is copy new =
    let at : suc k ≡ k + 1 = omega arith in
    let assoc : (old ++ h.0) ++ d ∷ [] ≡ old ++ (h.0 ++ d ∷ []) = simp append_assoc in (
      h.0 ++ d ∷ [],
      new ∙ ap (λ (l : List Entry). l ++ d ∷ []) h.1 ∙ assoc,
      subst (λ (m : ℕ). AreCopies (length old) (take m xs) (h.0 ++ d ∷ [])) at (copies_more (length old) k xs h.0 e d h.2 is copy),
    )

pub copies_length : (n : ℕ) (es ds : List Entry) → AreCopies n es ds → length ds ≡ length es
copies_length n [] [] h = refl
copies_length n [] (d ∷ ds) h = absurd h
copies_length n (e ∷ es) [] h = absurd h
copies_length n (e ∷ es) (d ∷ ds) h = ap suc (copies_length n es ds h.1)

taken_length : (k : ℕ) (es : List Entry) → k < length es → length (take k es) ≡ k
taken_length zero [] h = absurd (omega arith)
taken_length zero (e ∷ es) h = refl
taken_length (suc k) [] h = absurd (omega arith)
taken_length (suc k) (e ∷ es) h = ap suc (taken_length k es (omega arith))

after : (old ds : List Entry) (i : ℕ) → slice_get (old ++ ds) (length old + i) ≡ slice_get ds i
after [] ds i = (let e : 0 + i ≡ i = omega arith in ap (slice_get ds) e)
after (x ∷ old) ds i = (let e : length (x ∷ old) + i ≡ suc (length old + i) = omega arith in ap (slice_get ((x ∷ old) ++ ds)) e ∙ after old ds i)

sort_of_copy : (n i : ℕ) (es ds : List Entry) (s : Sort) → AreCopies n es ds → option_map sort_of (slice_get es i) ≡ Some s → option_map sort_of (slice_get ds i) ≡ Some s
sort_of_copy n i [] ds s h is = absurd (cc)
sort_of_copy n i (e ∷ es) [] s h is = absurd h
sort_of_copy n zero (e ∷ es) (d ∷ ds) s h is = ap Some h.0.sorts ∙ is
sort_of_copy n (suc i) (e ∷ es) (d ∷ ds) s h is = sort_of_copy n i es ds s h.1 is

-- what a copied kind names is in the grown table
pub copy_named : (old es now : List Entry) (k : ItemKind) → IsGrownBy old es now → Names es k → Names now (moved (length old) k)
copy_named old es now k g names =
    let e = moves (length old) k in
    let p = by_id (named_by k) names.0 names.1 in (
      subst (λ (x : Option ℕ). IfSome x (λ i. i < length now)) (sym e.ids) p.0,
      subst (λ (t : Sort). IfSome (named_by (moved (length old) k)) (λ i. option_map sort_of (slice_get now i) ≡ Some t)) (sym e.sorts)
          (subst (λ (x : Option ℕ). IfSome x (λ i. option_map sort_of (slice_get now i) ≡ Some (sort_named k))) (sym e.ids) p.1),
    )
  where
    by_id : (x : Option ℕ) → IfSome x (λ i. i < length es) → IfSome x (λ i. option_map sort_of (slice_get es i) ≡ Some (sort_named k))
        → IfSome (option_map (λ i. length old + i) x) (λ i. i < length now) × IfSome (option_map (λ i. length old + i) x) (λ i. option_map sort_of (slice_get now i) ≡ Some (sort_named k))
    by_id None b s = (tt, tt)
    by_id (Some i) b s =
        let len : length now ≡ length old + length es = ap length g.1 ∙ length-append old g.0 ∙ ap (λ (x : ℕ). length old + x) (copies_length (length old) es g.0 g.2) in (
          omega arith,
          subst (λ (l : List Entry). option_map sort_of (slice_get l (length old + i)) ≡ Some (sort_named k)) (sym g.1) (ap (option_map sort_of) (after old g.0 i) ∙ sort_of_copy (length old) i es g.0 (sort_named k) g.2 s),
        )

get_taken : (k i : ℕ) (es : List Entry) → i < k → slice_get (take k es) i ≡ slice_get es i
get_taken zero i es h = absurd (omega arith)
get_taken (suc k) i [] h = refl
get_taken (suc k) zero (e ∷ es) h = refl
get_taken (suc k) (suc i) (e ∷ es) h = get_taken k i es (omega arith)

-- what names one of the first k entries names one of these alone
taken_names : (k : ℕ) (es : List Entry) (m : ItemKind) → k < length es → NamesBefore k m → IsOfSort es m → Names (take k es) m
taken_names k es m within before sort = go (named_by m) before sort
  where
    go : (x : Option ℕ) → IfSome x (λ i. i < k) → IfSome x (λ i. option_map sort_of (slice_get es i) ≡ Some (sort_named m))
        → IfSome x (λ i. i < length (take k es)) × IfSome x (λ i. option_map sort_of (slice_get (take k es) i) ≡ Some (sort_named m))
    go None b s = (tt, tt)
    go (Some i) b s = (omega (arith, taken_length k es within), ap (option_map sort_of) (get_taken k i es b) ∙ s)

copied_names : (old es now : List Entry) (k : ℕ) → k < length es → IsGrownBy old (take k es) now → (cs : List (Slot × Option ItemKind)) → EachKind (λ m. NamesBefore k m × IsOfSort es m) cs → EachKind (Names now) (moved_children (length old) cs)
copied_names old es now k within g [] h = tt
copied_names old es now k within g (c ∷ cs) h = (one c.1 h.0, copied_names old es now k within g cs h.1)
  where
    one : (x : Option ItemKind) → IfSome x (λ m. NamesBefore k m × IsOfSort es m) → IfSome (option_map (moved (length old)) x) (Names now)
    one None h = tt
    one (Some m) h = copy_named old (take k es) now m g (taken_names k es m within h.0 h.1)

-- the first k entries were copied after a table
pub record Growing (old es now : List Entry) (k : ℕ) : Type 0 where
  pub copies : IsGrownBy old (take k es) now
  pub table : IsTable now

pub growing_start : (old es : List Entry) → IsTable old → Growing old es old 0
growing_start old [] table = record { copies = ([], simp append-nil, tt); table = table }
growing_start old (e ∷ es) table = record { copies = ([], simp append-nil, tt); table = table }

pub growing_step : (old es now next : List Entry) (k : ℕ) (e d : Entry) → IsTable es → slice_get es k ≡ Some e → k < length es → IsCopy (length old) e d → next ≡ now ++ d ∷ [] → Growing old es now k → Growing old es next (k + 1)
growing_step old es now next k e d table is within copy new g = record {
  copies = grown_more old now next k es e d g.copies is copy new;
  table = subst IsTable (sym new) (table_more now d g.table (subst (EachKind (Names now)) (sym copy.kinds) (copied_names old es now k within g.copies (children e) (entry_names es k e table is))));
}

taken_all : (es : List Entry) → take (length es) es ≡ es
taken_all [] = refl
taken_all (e ∷ es) = ap (λ (l : List Entry). e ∷ l) (taken_all es)

pub growing_end : (old es now : List Entry) (k : ℕ) → length es ≡ k → Growing old es now k → IsGrownBy old es now
growing_end old es now k len g = subst (λ (l : List Entry). IsGrownBy old l now) (ap (λ (m : ℕ). take m es) (sym len) ∙ taken_all es) g.copies

pub growing_more : (old es now : List Entry) (k : ℕ) → Growing old es now k → IsGrown old now
growing_more old es now k g = (g.copies.0, g.copies.1)
