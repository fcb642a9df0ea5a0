-- Reading a pattern byte by byte finds the texts of the pattern, and no others.
use Rattle.wac_lexer.proofs.Common.{◌≡◌, ℕ, true, cond, List, [], ◌∷◌, ◌++◌, sym, refl, ap, ◌∙◌, subst, inl, inr, ⊎_elim, ◌&&◌, nat_le, concat, AllByRecursion, and_parts, or_cases, and_from, or_left, or_right, false≢true, cases_Bool}
use Rattle.wac_lexer.specs.Pattern.{Pattern, Matches, may_stop, followed_by, either, after, matches}
use Rattle.wac_lexer.specs.Pattern.Pattern.{Nothing, Empty, Range, Then, Or, Many}

-- `either` and `followed_by` mean `Or` and `Then`
either_made : (p q : Pattern) (t : List ℕ) → Matches (Or p q) t → Matches (either p q) t
either_made Nothing q t (inl h) = absurd h
either_made Nothing q t (inr h) = h
either_made p Nothing t (inl h) = h
either_made p Nothing t (inr h) = absurd h
either_made p q t h = h

either_meant : (p q : Pattern) (t : List ℕ) → Matches (either p q) t → Matches (Or p q) t
either_meant Nothing q t h = inr h
either_meant p Nothing t h = inl h
either_meant p q t h = h

followed_made : (p q : Pattern) (t : List ℕ) → Matches (Then p q) t → Matches (followed_by p q) t
followed_made Nothing q t h = absurd h.3
followed_made Empty q t h = subst (Matches q) (sym (h.2 ∙ ap (λ f. f ++ h.1) h.3)) h.4
followed_made p q t h = h

followed_meant : (p q : Pattern) (t : List ℕ) → Matches (followed_by p q) t → Matches (Then p q) t
followed_meant Nothing q t h = absurd h
followed_meant Empty q t h = ([], t, refl, refl, h)
followed_meant p q t h = h

-- two lists that make up the empty one are empty
nil_parts : (xs ys : List ℕ) → [] ≡ xs ++ ys → (xs ≡ []) × (ys ≡ [])
nil_parts [] ys e = (refl, sym e)
nil_parts (x ∷ xs) ys e = absurd cc

-- the empty text
stops_made : (p : Pattern) → Matches p [] → may_stop p ≡ true
stops_made Nothing h = absurd h
stops_made Empty h = refl
stops_made (Range first last) h = let e : [] ≡ h.0 ∷ [] = h.1 in cc
stops_made (Then p q) h =
    let e = nil_parts h.0 h.1 h.2 in
    and_from (may_stop p) (may_stop q) (stops_made p (subst (Matches p) e.0 h.3)) (stops_made q (subst (Matches q) e.1 h.4))
stops_made (Or p q) (inl h) = or_left (may_stop p) (may_stop q) (stops_made p h)
stops_made (Or p q) (inr h) = or_right (may_stop p) (may_stop q) (stops_made q h)
stops_made (Many p) h = refl

stops_meant : (p : Pattern) → may_stop p ≡ true → Matches p []
stops_meant Nothing e = absurd (false≢true e)
stops_meant Empty e = refl
stops_meant (Range first last) e = absurd (false≢true e)
stops_meant (Then p q) e =
    let b = and_parts (may_stop p) (may_stop q) e in
    ([], [], refl, stops_meant p b.0, stops_meant q b.1)
stops_meant (Or p q) e =
    ⊎_elim (λ h. inl (stops_meant p h)) (λ h. inr (stops_meant q h)) (or_cases (may_stop p) (may_stop q) e)
stops_meant (Many p) e = ([], refl, tt)

-- of parts that make up a text with a first byte, the first part that isn't empty begins with it
many_parts : (p : Pattern) (b : ℕ) (t : List ℕ) (parts : List (List ℕ)) → b ∷ t ≡ concat parts → AllByRecursion (Matches p) parts
    → (xs : List ℕ) × (ys : List ℕ) × (t ≡ xs ++ ys) × Matches p (b ∷ xs) × Matches (Many p) ys
many_parts p b t [] e h = absurd cc
many_parts p b t ([] ∷ parts) e h = many_parts p b t parts e h.1
many_parts p b t ((x ∷ xs) ∷ parts) e h =
    let same : b ≡ x = cc in
    let rest : t ≡ xs ++ concat parts = cc in
    (xs, concat parts, rest, subst (λ c. Matches p (c ∷ xs)) (sym same) h.0, (parts, refl, h.1))

after_made : (b : ℕ) (p : Pattern) (t : List ℕ) → Matches p (b ∷ t) → Matches (after b p) t
after_made b Nothing t h = absurd h
after_made b Empty t h = let e : b ∷ t ≡ [] = h in absurd cc
after_made b (Range first last) t h =
    let e : b ∷ t ≡ h.0 ∷ [] = h.1 in
    let same : b ≡ h.0 = cc in
    let end : t ≡ [] = cc in
    let test : (nat_le first b && nat_le b last) ≡ true = subst (λ c. (nat_le first c && nat_le c last) ≡ true) (sym same) h.2 in
    subst (λ v. Matches (cond v Empty Nothing) t) (sym test) end
after_made b (Then p q) t ([], rest, e, m, n) =
    let begins : Matches q (b ∷ t) = subst (Matches q) (sym e) n in
    either_made (followed_by (after b p) q) (cond (may_stop p) (after b q) Nothing) t
    (inr (subst (λ v. Matches (cond v (after b q) Nothing) t) (sym (stops_made p m)) (after_made b q t begins)))
after_made b (Then p q) t (x ∷ xs, rest, e, m, n) =
    let same : b ≡ x = cc in
    let splits : t ≡ xs ++ rest = cc in
    either_made (followed_by (after b p) q) (cond (may_stop p) (after b q) Nothing) t
    (inl (followed_made (after b p) q t (xs, rest, splits, after_made b p xs (subst (λ c. Matches p (c ∷ xs)) (sym same) m), n)))
after_made b (Or p q) t (inl h) = either_made (after b p) (after b q) t (inl (after_made b p t h))
after_made b (Or p q) t (inr h) = either_made (after b p) (after b q) t (inr (after_made b q t h))
after_made b (Many p) t h =
    let m = many_parts p b t h.0 h.1 h.2 in
    followed_made (after b p) (Many p) t (m.0, m.1, m.2, after_made b p m.0 m.3, m.4)

after_meant : (b : ℕ) (p : Pattern) (t : List ℕ) → Matches (after b p) t → Matches p (b ∷ t)
after_meant b Nothing t h = absurd h
after_meant b Empty t h = absurd h
after_meant b (Range first last) t h =
    ⊎_elim
    (λ e. let end : t ≡ [] = subst (λ v. Matches (cond v Empty Nothing) t) e h in (b, ap (λ x. b ∷ x) end, e))
    (λ e. absurd (subst (λ v. Matches (cond v Empty Nothing) t) e h))
    (cases_Bool (nat_le first b && nat_le b last))
after_meant b (Then p q) t h =
    ⊎_elim
    (λ m. let n = followed_meant (after b p) q t m in (b ∷ n.0, n.1, ap (λ x. b ∷ x) n.2, after_meant b p n.0 n.3, n.4))
    (λ m. ⊎_elim
    (λ e. ([], b ∷ t, refl, stops_meant p e, after_meant b q t (subst (λ v. Matches (cond v (after b q) Nothing) t) e m)))
    (λ e. absurd (subst (λ v. Matches (cond v (after b q) Nothing) t) e m))
    (cases_Bool (may_stop p)))
    (either_meant (followed_by (after b p) q) (cond (may_stop p) (after b q) Nothing) t h)
after_meant b (Or p q) t h =
    ⊎_elim (λ m. inl (after_meant b p t m)) (λ m. inr (after_meant b q t m)) (either_meant (after b p) (after b q) t h)
after_meant b (Many p) t h =
    let n = followed_meant (after b p) (Many p) t h in
    ((b ∷ n.0) ∷ n.4.0, ap (λ x. b ∷ x) (n.2 ∙ ap (λ y. n.0 ++ y) n.4.1), (after_meant b p n.0 n.3, n.4.2))

pub matches_made : (p : Pattern) (t : List ℕ) → Matches p t → matches p t ≡ true
matches_made p [] h = stops_made p h
matches_made p (b ∷ t) h = matches_made (after b p) t (after_made b p t h)

pub matches_meant : (p : Pattern) (t : List ℕ) → matches p t ≡ true → Matches p t
matches_meant p [] e = stops_meant p e
matches_meant p (b ∷ t) e = after_meant b p t (matches_meant (after b p) t e)
