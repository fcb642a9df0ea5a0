-- Under a one-to-one numbering resources have different origins.
use Rattle.wac_graph.proofs.Common.{◌≡◌, ◌∙◌, ◌+◌, ◌-◌, ◌<◌, ◌≤◌, ℕ, zero, suc, List, [], ◌∷◌, Option, Some, None, Bool, true, false, ◌⊎◌, inl, inr, ◌&&◌, cond, refl, sym, ap, subst, take, arith, slice_get, nat_le, nat_lt, nat_tests, Entry, IsResource}
use Rattle.wac_graph_types.specs.declared.entry.Entry.TheVariants as entries
use Rattle.wac_graph_types.specs.Meaning as meanings
use Rattle.wac_graph.specs.Graph.{Parts}
use Rattle.wac_graph.specs.Package.{HeldPackage}
use Rattle.wac_graph.specs.Origin.{Origin, Numbering, IsOneToOne, declared, copied}
use Rattle.wac_graph.specs.Means.{copied_at, own_from, own_resources, origin_in, or_declared, resources_in, OriginsApart}
use Rattle.wac_graph.specs.Sound.{Differ, IsSound}

pub record CopiedFrom (ps : List HeldPackage) (i : ℕ) (o : Origin) : Type 0 where
  pub place : ℕ
  pub from : HeldPackage
  pub held : slice_get ps place ≡ Some from
  pub after : from.first ≤ i
  pub is : o ≡ copied from.key (i - from.first)

copied_from : (ps : List HeldPackage) (i : ℕ) (o : Origin) → copied_at ps i ≡ Some o → CopiedFrom ps i o
unfolding copied_at
copied_from [] i o h = absurd (cc)
copied_from (p ∷ ps) i o h = go (copied_from ps i o) (nat_le p.first i) (nat_lt i (p.first + p.size)) refl h
  where
    below : nat_le p.first i ≡ true → p.first ≤ i
    below h = grind (arith, nat_tests)

    go : (copied_at ps i ≡ Some o → CopiedFrom ps i o) → (a b : Bool) → nat_le p.first i ≡ a → cond (a && b) (Some (copied p.key (i - p.first))) (copied_at ps i) ≡ Some o → CopiedFrom (p ∷ ps) i o
    go later true true e h = record { place = 0; from = p; held = refl; after = below e; is = cc }
    go later true false e h = (let r = later h in record { place = suc r.place; from = r.from; held = r.held; after = r.after; is = r.is })
    go later false b e h = (let r = later h in record { place = suc r.place; from = r.from; held = r.held; after = r.after; is = r.is })

resource_counts : (e : Entry) → IsResource e → resources_in e ≡ 1
resource_counts (entries.Defined d) h = absurd h
resource_counts (entries.Resource r) h = refl
resource_counts (entries.Func f) h = absurd h
resource_counts (entries.Interface i) h = absurd h
resource_counts (entries.World w) h = absurd h

-- a resource of the composition's own is counted
own_grows : (ps : List HeldPackage) (n : ℕ) (es : List Entry) (i j : ℕ) (d : Entry) → i < j → slice_get es i ≡ Some d → IsResource d → copied_at ps (n + i) ≡ None → own_from ps n (take i es) < own_from ps n (take j es)
unfolding own_from
own_grows ps n [] i j d lt is res out = absurd (cc)
own_grows ps n (e ∷ es) i zero d lt is res out = absurd (omega arith)
own_grows ps n (e ∷ es) zero (suc j) d lt is res out =
    let at : n + 0 ≡ n = omega arith in
    let here : copied_at ps n ≡ None = subst (λ (m : ℕ). copied_at ps m ≡ None) at out in
    let same : e ≡ d = cc in
    let one : own_resources (copied_at ps n) e ≡ 1 = ap (λ (o : Option Origin). own_resources o e) here ∙ ap resources_in same ∙ resource_counts d res in
    omega (arith, one)
own_grows ps n (e ∷ es) (suc i) (suc j) d lt is res out =
    let at : n + suc i ≡ suc n + i = omega arith in
    let later : own_from ps (suc n) (take i es) < own_from ps (suc n) (take j es) = own_grows ps (suc n) es i j d (omega arith) is res (subst (λ (m : ℕ). copied_at ps m ≡ None) at out) in
    omega (arith, later)

-- under a one-to-one numbering no two resources of the table have one origin
in_table_apart : (ps : List HeldPackage) (es : List Entry) (numbering : Numbering) → IsOneToOne numbering → Differ (λ (p : HeldPackage). p.key) ps → meanings.IsOneToOne es (λ n. numbering (origin_in ps es n))
unfolding origin_in
in_table_apart ps es numbering one apart i j d e at_i at_j res_i res_j same = go (copied_at ps i) (copied_at ps j) refl refl (one (or_declared (copied_at ps i) (own_from ps 0 (take i es))) (or_declared (copied_at ps j) (own_from ps 0 (take j es))) same)
  where
    zero_plus : (k : ℕ) → 0 + k ≡ k
    zero_plus k = omega arith

    counted : (k m : ℕ) (x : Entry) → slice_get es k ≡ Some x → IsResource x → copied_at ps k ≡ None → k < m → own_from ps 0 (take k es) < own_from ps 0 (take m es)
    counted k m x at res out lt = own_grows ps 0 es k m x lt at res (subst (λ (z : ℕ). copied_at ps z ≡ None) (sym (zero_plus k)) out)

    go : (a b : Option Origin) → copied_at ps i ≡ a → copied_at ps j ≡ b → or_declared a (own_from ps 0 (take i es)) ≡ or_declared b (own_from ps 0 (take j es)) → i ≡ j
    go None None x y eq =
        let counts : own_from ps 0 (take i es) ≡ own_from ps 0 (take j es) = cc in
        elim (either i j) [
          | inl lt ↦ absurd (let h = counted i j d at_i res_i x lt in omega (arith, h, counts))
          | inr (inl gt) ↦ absurd (let h = counted j i e at_j res_j y gt in omega (arith, h, counts))
          | inr (inr eq) ↦ eq
        ]
      where
        either : (a b : ℕ) → (a < b) ⊎ (b < a) ⊎ (a ≡ b)
        either a b = grind arith
    go None (Some o) x y eq = (let r = copied_from ps j o y in let no : declared (own_from ps 0 (take i es)) ≡ copied r.from.key (j - r.from.first) = eq ∙ r.is in absurd (cc))
    go (Some o) None x y eq = (let r = copied_from ps i o x in let no : copied r.from.key (i - r.from.first) ≡ declared (own_from ps 0 (take j es)) = sym r.is ∙ eq in absurd (cc))
    go (Some o) (Some u) x y eq =
        let r = copied_from ps i o x in
        let q = copied_from ps j u y in
        let all : copied r.from.key (i - r.from.first) ≡ copied q.from.key (j - q.from.first) = sym r.is ∙ eq ∙ q.is in
        let keys : r.from.key ≡ q.from.key = cc in
        let numbers : i - r.from.first ≡ j - q.from.first = cc in
        let place : r.place ≡ q.place = apart r.place q.place r.from q.from r.held q.held keys in
        let held : slice_get ps q.place ≡ Some r.from = subst (λ (m : ℕ). slice_get ps m ≡ Some r.from) place r.held in
        let from : Some r.from ≡ Some q.from = sym held ∙ q.held in
        let first : r.from.first ≡ q.from.first = (let h : r.from ≡ q.from = cc in ap (λ (p : HeldPackage). p.first) h) in
        let low : r.from.first ≤ i = r.after in
        let high : q.from.first ≤ j = q.after in
        omega arith

pub origins_apart : (g : Parts) → IsSound g → OriginsApart g
origins_apart g sound numbering one = in_table_apart g.packages g.types numbering one sound.keys
