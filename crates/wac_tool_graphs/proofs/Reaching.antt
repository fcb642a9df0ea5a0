-- Pairs that are alike one level deep, over pairs that are alike too, mean the same.
use Rattle.wac_tool_graphs.proofs.Common.{eq-or-lt_of_le, inl, inr, ◌≡◌, ◌+◌, ◌<◌, ◌≤◌, ℕ, zero, suc, List, [], ◌∷◌, true, false, Option, Some, None, length, refl, sym, ap, ◌∙◌, subst, arith, slice_get, slice_get_within, IfSome, IsTrue, Meaning, node, plain, dangling, done, named, label, row, of_child, children, entry_over, meaning_at, Entry, ItemKind, Slot, IsEarlier, IsOneToOne, ChildrenBefore, NamesBefore}
use Rattle.wac_graph_types.specs.Kind.{form, named_by}
use Rattle.wac_graph_types.specs.Label.{kind}
use Rattle.wac_graph_types.proofs.Meanings.{meaning_at_entry}
use Rattle.wac_graph_types.proofs.Rows.{earlier_from}
use Rattle.wac_tool_graphs.specs.Pairs.{Agree, AreAlikeOver, Keeps, Reduces}
use Rattle.wac_tool_graphs.proofs.Agreeing.{agree_at, agree_each, agree_before}

-- ---- rows over meanings that are the same of earlier entries

named_agree : (f g : ℕ → Meaning) (n : ℕ) → ((k : ℕ) → k < n → f k ≡ g k) → (x : Option ℕ) → IfSome x (λ i. i < n) → named f x ≡ named g x
named_agree f g n same None h = refl
named_agree f g n same (Some i) h = ap (λ m. named (λ _. m) (Some i)) (same i h)

child_agree : (f g : ℕ → Meaning) (n : ℕ) → ((k : ℕ) → k < n → f k ≡ g k) → (x : Option ItemKind) → IfSome x (NamesBefore n) → of_child f x ≡ of_child g x
child_agree f g n same None h = refl
child_agree f g n same (Some k) h = ap (node (plain (kind (form k)))) (named_agree f g n same (named_by k) h)

row_agree : (f g : ℕ → Meaning) (n : ℕ) → ((k : ℕ) → k < n → f k ≡ g k) → (cs : List (Slot × Option ItemKind)) → ChildrenBefore n cs → row f cs ≡ row g cs
row_agree f g n same [] h = refl
row_agree f g n same (c ∷ cs) h = let one = child_agree f g n same c.1 h.0 in let rest = row_agree f g n same cs h.1 in cc

some_within : {X : Type 0} (xs : List X) (n : ℕ) → n < length xs → (x : X) × (slice_get xs n ≡ Some x)
some_within [] n h = absurd (omega arith)
some_within (x ∷ xs) zero h = (x, refl)
some_within (x ∷ xs) (suc n) h = some_within xs n (omega arith)

module _ (o : ℕ → ℕ) (es : List Entry) where
  over_entry : (ℕ → Meaning) → ℕ → Option Entry → Meaning
  over_entry means n None = node (plain dangling) done
  over_entry means n (Some e) = entry_over means (o n) e

  -- the meanings of entries, to a depth
  upto : ℕ → ℕ → Meaning
  upto zero n = node (plain dangling) done
  upto (suc depth) n = over_entry (upto depth) n (slice_get es n)

  upto_entry : (depth n : ℕ) (e : Entry) → slice_get es n ≡ Some e → upto (suc depth) n ≡ entry_over (upto depth) (o n) e
  unfolding upto over_entry
  upto_entry depth n e is = ap (over_entry (upto depth) n) is

  -- a depth above an entry's number is all of its meaning
  upto_meaning : IsEarlier es → (depth n : ℕ) → n < depth → n < length es → upto depth n ≡ meaning_at o es n
  upto_meaning earlier zero n deep within = absurd (omega arith)
  upto_meaning earlier (suc depth) n deep within =
      let e = some_within es n within in
      upto_entry depth n e.0 e.1
      ∙ ap (node (label (o n) e.0)) (row_agree (upto depth) (meaning_at o es) n
      (λ k before. upto_meaning earlier depth k (omega arith) (omega arith)) (children e.0) (earlier_from 0 n es n e.0 (omega arith) earlier e.1))
      ∙ sym (meaning_at_entry o es n e.0 earlier e.1)

  -- each pair lies in the table, and is alike over the pairs
  pub record IsClosed (ps : List (ℕ × ℕ)) : Type 0 where
    pub within : (k : ℕ) (p : ℕ × ℕ) → slice_get ps k ≡ Some p → (p.0 < length es) × (p.1 < length es)
    pub alike : (means : ℕ → Meaning) → Agree means ps → (k : ℕ) (p : ℕ × ℕ) → slice_get ps k ≡ Some p → AreAlikeOver o es p.0 p.1 means

  upto_agrees : (ps : List (ℕ × ℕ)) → IsClosed ps → (depth : ℕ) → Agree (upto depth) ps
  unfolding upto
  upto_agrees ps closed zero = agree_each (upto zero) ps (λ k p is. refl)
  upto_agrees ps closed (suc depth) = agree_each (upto (suc depth)) ps (λ k p is.
      let d = some_within es p.0 (closed.within k p is).0 in
      let e = some_within es p.1 (closed.within k p is).1 in
      upto_entry depth p.0 d.0 d.1
      ∙ closed.alike (upto depth) (upto_agrees ps closed depth) k p is d.0 e.0 d.1 e.1
      ∙ sym (upto_entry depth p.1 e.0 e.1))

  pub closed_agree : IsEarlier es → (ps : List (ℕ × ℕ)) → IsClosed ps → Agree (meaning_at o es) ps
  closed_agree earlier ps closed = agree_each (meaning_at o es) ps (λ k p is.
      let within = closed.within k p is in
      sym (upto_meaning earlier (length es) p.0 within.0 within.0)
      ∙ agree_at (upto (length es)) ps k p (upto_agrees ps closed (length es)) is
      ∙ upto_meaning earlier (length es) p.1 within.1 within.1)

  -- two entries that mean the same are alike over the meanings of the table
  pub alike_over : IsEarlier es → (i j : ℕ) → meaning_at o es i ≡ meaning_at o es j → AreAlikeOver o es i j (meaning_at o es)
  alike_over earlier i j same d e isd ise = sym (meaning_at_entry o es i d earlier isd) ∙ same ∙ meaning_at_entry o es j e earlier ise

-- ---- the pairs that were gone through

-- what the first k pairs need was added
pub record ClosesSoFar (es : List Entry) (k : ℕ) (old new : List (ℕ × ℕ)) : Type 0 where
  pub keeps : Keeps old new
  pub reached : k ≤ length new
  pub needed : (o : ℕ → ℕ) → IsOneToOne es o → Agree (meaning_at o es) old → Agree (meaning_at o es) new
  pub within : (n : ℕ) (p : ℕ × ℕ) → n < k → slice_get new n ≡ Some p → (p.0 < length es) × (p.1 < length es)
  pub alike : (o : ℕ → ℕ) → IsOneToOne es o → (means : ℕ → Meaning) → Agree means new → (n : ℕ) (p : ℕ × ℕ) → n < k → slice_get new n ≡ Some p → AreAlikeOver o es p.0 p.1 means

-- what is at a place of the old pairs
kept_back : (old new : List (ℕ × ℕ)) (n : ℕ) (p : ℕ × ℕ) → Keeps old new → n < length old → slice_get new n ≡ Some p → slice_get old n ≡ Some p
kept_back old new n p keeps within is =
    let q = some_within old n within in
    let at : slice_get new n ≡ Some q.0 = keeps n q.0 q.1 in
    let here : slice_get old n ≡ Some q.0 = q.1 in
    cc

none_past : {X : Type 0} (xs : List X) (k : ℕ) → slice_get xs k ≡ None → length xs ≤ k
none_past [] k is = omega arith
none_past (x ∷ xs) zero is = absurd (cc)
none_past (x ∷ xs) (suc k) is = (let rest = none_past xs k is in omega arith)

-- what holds of the pairs before place k, and of the one there
up_to : (P : ℕ × ℕ → Type 0) (ps : List (ℕ × ℕ)) (k : ℕ) (q : ℕ × ℕ) → slice_get ps k ≡ Some q → P q
    → ((n : ℕ) (p : ℕ × ℕ) → n < k → slice_get ps n ≡ Some p → P p) → (n : ℕ) (p : ℕ × ℕ) → n < k + 1 → slice_get ps n ≡ Some p → P p
up_to P ps k q here last before n p below is = elim (let le : n ≤ k = omega arith in eq-or-lt_of_le le) [ inl same ↦ (let e : q ≡ p = cc in subst P e last) | inr less ↦ before n p less is ]

one_to_one : (es : List Entry) → IsOneToOne es (λ n. n)
one_to_one es i j d e isd ise rd re h = h

module _ (es : List Entry) (earlier : IsEarlier es) where
  pub start : (old : List (ℕ × ℕ)) → ClosesSoFar es 0 old old
  start old = record {
    keeps = λ k p is. is;
    reached = omega arith;
    needed = λ o one h. h;
    within = λ n p below is. absurd (omega arith);
    alike = λ o one means h n p below is. absurd (omega arith);
  }

  pub step : (k i j : ℕ) (old mid new : List (ℕ × ℕ)) → slice_get mid k ≡ Some (i, j) → (i < length es) × (j < length es)
      → ((o : ℕ → ℕ) → IsOneToOne es o → Reduces (AreAlikeOver o es i j) true mid new) → ClosesSoFar es k old mid → ClosesSoFar es (k + 1) old new
  step k i j old mid new is both r so_far =
      let keeps : Keeps mid new = (r (λ n. n) (one_to_one es)).keeps in
      let inside : k < length mid = slice_get_within mid k (i, j) is in
      let still : k < length new = slice_get_within new k (i, j) (keeps k (i, j) is) in
      record {
        keeps = λ n p at. keeps n p (so_far.keeps n p at);
        reached = omega arith;
        needed = λ o one h.
            let before = so_far.needed o one h in
            ((r o one).needed (meaning_at o es) before (alike_over o es earlier i j (agree_at (meaning_at o es) mid k (i, j) before is))).1;
        within = λ n p below at. up_to (λ (q : ℕ × ℕ). (q.0 < length es) × (q.1 < length es)) mid k (i, j) is both so_far.within n p below (kept_back mid new n p keeps (omega arith) at);
        alike = λ o one means h n p below at. up_to (λ (q : ℕ × ℕ). AreAlikeOver o es q.0 q.1 means) mid k (i, j) is ((r o one).enough means refl h)
            (so_far.alike o one means (agree_before means mid new keeps h)) n p below (kept_back mid new n p keeps (omega arith) at);
      }

  pub end : (k : ℕ) (old new : List (ℕ × ℕ)) → slice_get new k ≡ None → ClosesSoFar es k old new → (o : ℕ → ℕ) → IsOneToOne es o
      → (IsTrue true → Agree (meaning_at o es) old) × (Agree (meaning_at o es) old → IsTrue true)
  end k old new none so_far o one =
      let closed : IsClosed o es new = record {
        within = λ n p is. so_far.within n p (below n p is) is;
        alike = λ means h n p is. so_far.alike o one means h n p (below n p is) is;
      } in
      (λ yes. agree_before (meaning_at o es) old new so_far.keeps (closed_agree o es earlier new closed), λ h. refl)
    where
      below : (n : ℕ) (p : ℕ × ℕ) → slice_get new n ≡ Some p → n < k
      below n p is = (let inside = slice_get_within new n p is in let past = none_past new k none in omega arith)

  pub refute : (k i j : ℕ) (old mid new : List (ℕ × ℕ)) → slice_get mid k ≡ Some (i, j)
      → ((o : ℕ → ℕ) → IsOneToOne es o → Reduces (AreAlikeOver o es i j) false mid new) → ClosesSoFar es k old mid → (o : ℕ → ℕ) → IsOneToOne es o
      → (IsTrue false → Agree (meaning_at o es) old) × (Agree (meaning_at o es) old → IsTrue false)
  refute k i j old mid new is r so_far o one = (
    λ no. absurd (cc),
    λ h.
        let before = so_far.needed o one h in
        ((r o one).needed (meaning_at o es) before (alike_over o es earlier i j (agree_at (meaning_at o es) mid k (i, j) before is))).0,
  )
