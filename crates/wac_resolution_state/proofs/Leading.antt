-- What segments resolve to, and where they break.
use Rattle.wac_resolution_state.proofs.Common.{◌≡◌, ◌∙◌, inl, inr, ◌<◌, ℕ, suc, List, [], ◌∷◌, Some, None, take, length, get_or, refl, sym, ap, subst, arith, slice_get, string_bytes, String, Result, IfOk, Global, join_with_byte, slice_split, length-map, length-take, get_or-map, slice_get_within, get_or_from_slice_get, Span, ItemKind, Meaning, Named, Scope, look_up, described, after, located, segment_spans, PackagePath, Parts, means, Numbering, Error, package_missing_export, package_path_missing_export, last_of, StandsAt, IsNoExport, IsNoPackageExport, OwnPathBroken, ForeignPathBroken, IsUndefined, segments_of, IsMember, LeadsFrom, fails_at}
use Rattle.wac_resolution_state.specs.Named.{scope_of, KindIs}
use Rattle.wac_resolution_state.proofs.Scopes.{kind_fresh}
use Rattle.wac_graph_types.specs.Steps.{Fails}
use Rattle.wac_ast_grammar.specs.Version.{is_slash}
use Rattle.wac_resolution_state.specs.declared.members.Missing.{Missing}
use Rattle.wac_resolution_state.specs.Segments.{Spans, texts, SegmentsLead, MembersLead, Misses}

texts_located : (offset : ℕ) (parts : List (List ℕ)) → texts (located offset parts) ≡ parts
texts_located offset [] = refl
texts_located offset (part ∷ others) = ap (λ (l : List (List ℕ)). part ∷ l) (texts_located (after (after offset (length part)) 1) others)

pub texts_of : (p : PackagePath) → texts (segment_spans p) ≡ segments_of p
texts_of p = texts_located (after (after p.span.offset (length p.name)) 1) (slice_split is_slash p.segments)

module _ (p : PackagePath) (first : List ℕ) (at : Span) (rest : Spans) (split : segment_spans p ≡ (first, at) ∷ rest) where
  pub segments_split : segments_of p ≡ first ∷ texts rest
  segments_split = sym (texts_of p) ∙ ap texts split

  pub first_stands : StandsAt p 0 first at
  first_stands = ap (λ (l : Spans). slice_get l 0) split

  later_stands : (n : ℕ) (names : List (List ℕ)) (x : List ℕ × Span) → length names ≡ n → slice_get rest n ≡ Some x → slice_get (segment_spans p) (suc (length names)) ≡ Some x
  later_stands n names x count is = ap (λ (l : Spans). slice_get l (suc (length names))) split ∙ ap (slice_get rest) count ∙ is

  -- ---- what they resolve to

  pub segments_lead : (g : Parts) (ks : Named ItemKind) (k to : ItemKind) → KindIs ks (record { string = first; span = at }) k → MembersLead g k (texts rest) to → SegmentsLead g ks p to
  segments_lead g ks k to found lead = record {
    named = lead.named;
    is = λ numbering. subst (λ (l : List (List ℕ)). LeadsFrom (scope_of numbering g ks) l (means numbering g to)) (sym segments_split)
        (means numbering g k, found.is numbering g, lead.go numbering);
  }

  -- ---- their texts

  pub first_joined : {E : Type 0} (n : ℕ) (r : Result (String Global) E) → IfOk r (λ s. string_bytes s ≡ join_with_byte 47 (first ∷ take n (texts rest)))
      → IfOk r (λ s. string_bytes s ≡ join_with_byte 47 (take (suc n) (segments_of p)))
  first_joined n r h = subst (λ (l : List (List ℕ)). IfOk r (λ s. string_bytes s ≡ join_with_byte 47 (take (suc n) l))) (sym segments_split) h

  -- ---- where they break

  module _ (g : Parts) (from : ItemKind) (m : Missing) (h : Misses g first from rest m) where
    within : m.before < length (texts rest)
    within = subst (λ (n : ℕ). m.before < n) (sym (length-map rest (λ s. s.0))) (slice_get_within rest m.before (m.segment.now, m.span) h.stands)

    text : get_or (texts rest) m.before m.segment.now ≡ m.segment.now
    text = get_or-map (λ s. s.0) rest m.before (m.segment.now, m.span) m.segment.now (slice_get_within rest m.before (m.segment.now, m.span) h.stands)
        ∙ ap (λ (s : List ℕ × Span). s.0) (get_or_from_slice_get rest m.before (m.segment.now, m.span) (m.segment.now, m.span) h.stands)

    taken : length (take m.before (texts rest)) ≡ m.before
    taken = let l : m.before < length (texts rest) = within in omega (arith, length-take m.before (texts rest))

    pub missing_stands : StandsAt p (suc (length (take m.before (texts rest)))) m.segment.now m.span
    missing_stands = later_stands m.before (take m.before (texts rest)) (m.segment.now, m.span) taken h.stands

    misses_fail : (broken : Meaning → List (List ℕ) → List ℕ → Type 0) (numbering : Numbering) → broken (means numbering g m.kind) (take m.before (texts rest)) m.segment.now → Fails IsMember broken (means numbering g from) (texts rest)
    misses_fail broken numbering b =
        fails_at IsMember broken (means numbering g from) (texts rest) m.before m.segment.now (means numbering g m.kind) within (h.leads.go numbering)
        (subst (λ (s : List ℕ). broken (means numbering g m.kind) (take m.before (texts rest)) s) (sym text) b)

    pub own_misses : (ks : Named ItemKind) (e : Error) → KindIs ks (record { string = first; span = at }) from → ((numbering : Numbering) (g : Parts) → e ≡ package_path_missing_export m.last.now (described (means numbering g m.kind)) m.segment.now m.span)
        → (numbering : Numbering) → OwnPathBroken (scope_of numbering g ks) p (segments_of p) e
    own_misses ks e found is numbering =
        let error_is : e ≡ package_path_missing_export (last_of first (take m.before (texts rest))) (described (means numbering g m.kind)) m.segment.now m.span
        = is numbering g ∙ ap (λ (l : List ℕ). package_path_missing_export l (described (means numbering g m.kind)) m.segment.now m.span) h.last in
        subst (λ (l : List (List ℕ)). OwnPathBroken (scope_of numbering g ks) p l e) (sym segments_split)
        (inr (
          means numbering g from,
          found.is numbering g,
          misses_fail (IsNoExport p first e) numbering (m.span, h.none numbering, missing_stands, error_is),
        ))

    pub foreign_misses : (ks : Named ItemKind) (e : Error) (before : List ℕ) → KindIs ks (record { string = first; span = at }) from → before ≡ join_with_byte 47 (take (suc m.before) (segments_of p))
        → ((numbering : Numbering) (g : Parts) → e ≡ package_missing_export (Some (described (means numbering g m.kind))) before p.name m.segment.now m.span)
        → (numbering : Numbering) → ForeignPathBroken (scope_of numbering g ks) p (segments_of p) e
    foreign_misses ks e before found joined is numbering =
        let path : before ≡ join_with_byte 47 (first ∷ take m.before (texts rest)) = joined ∙ ap (λ (l : List (List ℕ)). join_with_byte 47 (take (suc m.before) l)) segments_split in
        let error_is : e ≡ package_missing_export (Some (described (means numbering g m.kind))) (join_with_byte 47 (first ∷ take m.before (texts rest))) p.name m.segment.now m.span
        = is numbering g ∙ ap (λ (l : List ℕ). package_missing_export (Some (described (means numbering g m.kind))) l p.name m.segment.now m.span) path in
        subst (λ (l : List (List ℕ)). ForeignPathBroken (scope_of numbering g ks) p l e) (sym segments_split)
        (inr (
          means numbering g from,
          found.is numbering g,
          misses_fail (IsNoPackageExport p first e) numbering (m.span, h.none numbering, missing_stands, error_is),
        ))

  pub own_undefined : (scope : Scope) (e : Error) → IsUndefined scope (record { string = first; span = at }) e → OwnPathBroken scope p (segments_of p) e
  own_undefined scope e h = subst (λ (l : List (List ℕ)). OwnPathBroken scope p l e) (sym segments_split) (inl (at, h.0, first_stands, h.1))

  pub foreign_undefined : (g : Parts) (ks : Named ItemKind) (e : Error) → (look_up first ks ≡ None) × (e ≡ package_missing_export None [] p.name first at)
      → (numbering : Numbering) → ForeignPathBroken (scope_of numbering g ks) p (segments_of p) e
  foreign_undefined g ks e h numbering = subst (λ (l : List (List ℕ)). ForeignPathBroken (scope_of numbering g ks) p l e) (sym segments_split) (inl (at, kind_fresh numbering g ks first h.0, first_stands, h.1))
