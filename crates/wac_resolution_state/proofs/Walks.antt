-- Later segments, in order.
use Rattle.wac_resolution_state.proofs.Common.{◌≡◌, ◌∙◌, ◌⊎◌, inl, inr, ◌<◌, ◌≤◌, ◌+◌, ℕ, List, [], ◌∷◌, ◌++◌, Some, None, take, drop, length, get_or, refl, sym, ap, subst, arith, slice_get, drop_more, drop_all, take_more, take_all, length-drop, length-map, get_or-map, slice_get-get_or, slice_get_cases, Span, ItemKind, export_of, Names, Parts, means, Numbering, last_of, IsMember, steps_on}
use Rattle.wac_resolution_state.specs.declared.members.Missing.{Missing}
use Rattle.wac_resolution_state.specs.Segments.{Spans, texts, MembersLead, Misses}

-- what is left of a list after n elements begins with the element of number n
pub at_drop : {X : Type 0} (xs : List X) (n : ℕ) (x : X) (ys : List X) → x ∷ ys ≡ drop n xs → (n < length xs) × (get_or xs n x ≡ x) × (ys ≡ drop (n + 1) xs)
at_drop {X} xs n x ys h = go (slice_get_cases xs n).1
  where
    go : ((y : X) × (n < length xs) × (slice_get xs n ≡ Some y) × (get_or xs n y ≡ y)) ⊎ ((length xs ≤ n) × (slice_get xs n ≡ None)) → (n < length xs) × (get_or xs n x ≡ x) × (ys ≡ drop (n + 1) xs)
    go (inl p) = let e : get_or xs n x ∷ drop (n + 1) xs ≡ x ∷ ys = sym (drop_more xs n x p.1) ∙ sym h in (p.1, cc, cc)
    go (inr p) = let e : [] ≡ x ∷ ys = sym (drop_all n xs p.0) ∙ sym h in absurd (cc)

pub past_drop : {X : Type 0} (xs : List X) (n : ℕ) → [] ≡ drop n xs → length xs ≤ n
past_drop xs n h = let e : 0 ≡ length (drop n xs) = ap length h in omega (arith, length-drop n xs)

last_after : (first : List ℕ) (xs : List (List ℕ)) (x : List ℕ) → last_of first (xs ++ x ∷ []) ≡ x
last_after first [] x = refl
last_after first (y ∷ xs) x = last_after y xs x

-- so many of the segments after the first one resolve to a kind; the others are left
pub record Walks (g : Parts) (first : List ℕ) (from : ItemKind) (all left : Spans) (before : ℕ) (last : List ℕ) (kind : ItemKind) : Type 0 where
  pub leads : MembersLead g from (take before (texts all)) kind
  pub latest : last ≡ last_of first (take before (texts all))
  pub others : left ≡ drop before all

pub walk_starts : (g : Parts) (first : List ℕ) (from : ItemKind) (all : Spans) → Names g.types from → Walks g first from all all 0 first from
walk_starts g first from all named = record { leads = record { named = named; go = λ numbering. refl }; latest = refl; others = refl }

module _ (g : Parts) (first : List ℕ) (from : ItemKind) (all left later : Spans) (before : ℕ) (last : List ℕ) (kind : ItemKind) (segment : List ℕ) (span : Span)
    (more : left ≡ (segment, span) ∷ later) (w : Walks g first from all left before last kind) where
  here : (before < length all) × (get_or all before (segment, span) ≡ (segment, span)) × (later ≡ drop (before + 1) all)
  here = at_drop all before (segment, span) later (sym more ∙ w.others)

  within : before < length (texts all)
  within = subst (λ (n : ℕ). before < n) (sym (length-map all (λ s. s.0))) here.0

  text : get_or (texts all) before segment ≡ segment
  text = get_or-map (λ s. s.0) all before (segment, span) segment here.0 ∙ ap (λ (s : List ℕ × Span). s.0) here.1

  pub counts : before < length all
  counts = here.0

  pub walk_on : (export : ItemKind) → Names g.types export → ((numbering : Numbering) → export_of (means numbering g kind) segment ≡ Some (means numbering g export))
      → Walks g first from all later (before + 1) segment export
  walk_on export named is = record {
    leads = record {
      named = named;
      go = λ numbering. steps_on IsMember (means numbering g from) (texts all) before segment (means numbering g kind) (means numbering g export) within (w.leads.go numbering)
          (subst (λ (s : List ℕ). export_of (means numbering g kind) s ≡ Some (means numbering g export)) (sym text) (is numbering));
    };
    latest = sym (ap (last_of first) (take_more (texts all) before segment within) ∙ last_after first (take before (texts all)) (get_or (texts all) before segment) ∙ text);
    others = here.2;
  }

  pub stands : slice_get all before ≡ Some (segment, span)
  stands = slice_get-get_or all before (segment, span) here.0 ∙ ap Some here.1

-- the next segment is not exported
pub walk_misses : (g : Parts) (first : List ℕ) (from : ItemKind) (all left later : Spans) (m : Missing) → left ≡ (m.segment.now, m.span) ∷ later → Walks g first from all left m.before m.last.now m.kind
    → ((numbering : Numbering) → export_of (means numbering g m.kind) m.segment.now ≡ None) → Misses g first from all m
walk_misses g first from all left later m more w none = record {
  leads = w.leads;
  last = w.latest;
  stands = stands g first from all left later m.before m.last.now m.kind m.segment.now m.span more w;
  none = none;
}

-- no segment is left
pub walk_ends : (g : Parts) (first : List ℕ) (from : ItemKind) (all left : Spans) (before : ℕ) (last : List ℕ) (kind : ItemKind) → left ≡ [] → Walks g first from all left before last kind → MembersLead g from (texts all) kind
walk_ends g first from all left before last kind ends w =
    let past : length all ≤ before = past_drop all before (sym ends ∙ w.others) in
    subst (λ (l : List (List ℕ)). MembersLead g from l kind) (take_all before (texts all) (omega (arith, length-map all (λ s. s.0)))) w.leads
