-- The parts of two entries, compared place by place.
use Rattle.wac_tool_graphs.proofs.Common.{◌≡◌, ◌≢◌, ◌+◌, ℕ, zero, suc, List, [], ◌∷◌, true, false, Option, Some, length, refl, slice_get, Meaning, of_child, row, ItemKind, Slot}
use Rattle.wac_graph_types.proofs.Rows.{RestDecides, rest_decides_start, rest_decides_step, rest_decides_end, lengths_differ}
use Rattle.wac_tool_graphs.specs.Pairs.{Agree, Keeps, Reduces}
use Rattle.wac_tool_graphs.proofs.Agreeing.{agree_before, denied}

-- equal rows are equal at each place
row_at : (means : ℕ → Meaning) (cs ds : List (Slot × Option ItemKind)) (k : ℕ) (c d : Slot × Option ItemKind) → row means cs ≡ row means ds
    → slice_get cs k ≡ Some c → slice_get ds k ≡ Some d → (c.0 ≡ d.0) × (of_child means c.1 ≡ of_child means d.1)
row_at means [] ds k c d same isc isd = absurd (cc)
row_at means (x ∷ cs) [] k c d same isc isd = absurd (cc)
row_at means (x ∷ cs) (y ∷ ds) zero c d same isc isd =
    let ec : x ≡ c = cc in
    let ed : y ≡ d = cc in
    (cc, cc)
row_at means (x ∷ cs) (y ∷ ds) (suc k) c d same isc isd = row_at means cs ds k c d (cc) isc isd

-- what the first k parts of two entries need was added
pub record ReducesSoFar (cs ds : List (Slot × Option ItemKind)) (k : ℕ) (old new : List (ℕ × ℕ)) : Type 0 where
  pub keeps : Keeps old new
  pub needed : (means : ℕ → Meaning) → Agree means old → row means cs ≡ row means ds → Agree means new
  pub enough : (means : ℕ → Meaning) → Agree means new → RestDecides means cs ds k

module _ (cs ds : List (Slot × Option ItemKind)) where
  abbrev pub Same : (ℕ → Meaning) → Type 0
  Same means = row means cs ≡ row means ds

  pub start : (old : List (ℕ × ℕ)) → ReducesSoFar cs ds 0 old old
  start old = record {
    keeps = λ k p is. is;
    needed = λ means h same. h;
    enough = λ means h. rest_decides_start means cs ds;
  }

  pub step : (k : ℕ) (c d : Slot × Option ItemKind) (old mid new : List (ℕ × ℕ)) → slice_get cs k ≡ Some c → slice_get ds k ≡ Some d → c.0 ≡ d.0
      → Reduces (λ means. of_child means c.1 ≡ of_child means d.1) true mid new → ReducesSoFar cs ds k old mid → ReducesSoFar cs ds (k + 1) old new
  step k c d old mid new isc isd slot r so_far = record {
    keeps = λ n p is. r.keeps n p (so_far.keeps n p is);
    needed = λ means h same. (r.needed means (so_far.needed means h same) (row_at means cs ds k c d same isc isd).1).1;
    enough = λ means h. rest_decides_step means cs ds k c d isc isd slot (r.enough means refl h) (so_far.enough means (agree_before means mid new r.keeps h));
  }

  pub end : (k : ℕ) (old new : List (ℕ × ℕ)) → length cs ≡ k → length ds ≡ k → ReducesSoFar cs ds k old new → Reduces Same true old new
  end k old new lc ld so_far = record {
    keeps = so_far.keeps;
    needed = λ means h same. (refl, so_far.needed means h same);
    enough = λ means yes h. rest_decides_end means cs ds k lc ld (so_far.enough means h);
  }

  pub slots_deny : (k : ℕ) (c d : Slot × Option ItemKind) (old mid : List (ℕ × ℕ)) → slice_get cs k ≡ Some c → slice_get ds k ≡ Some d → c.0 ≢ d.0
      → ReducesSoFar cs ds k old mid → Reduces Same false old mid
  slots_deny k c d old mid isc isd differ so_far = denied Same old mid so_far.keeps (λ means h same. differ (row_at means cs ds k c d same isc isd).0)

  pub kinds_deny : (k : ℕ) (c d : Slot × Option ItemKind) (old mid new : List (ℕ × ℕ)) → slice_get cs k ≡ Some c → slice_get ds k ≡ Some d
      → Reduces (λ means. of_child means c.1 ≡ of_child means d.1) false mid new → ReducesSoFar cs ds k old mid → Reduces Same false old new
  kinds_deny k c d old mid new isc isd r so_far = denied Same old new (λ n p is. r.keeps n p (so_far.keeps n p is)) (λ means h same.
      let no = (r.needed means (so_far.needed means h same) (row_at means cs ds k c d same isc isd).1).0 in cc)

  pub lengths_deny : (old : List (ℕ × ℕ)) → length cs ≢ length ds → Reduces Same false old old
  lengths_deny old differ = denied Same old old (λ k p is. is) (λ means h same. differ (lengths_differ means cs ds same))
