-- Where resources come from, as a graph grows.
use Rattle.wac_graph.proofs.Common.{◌≡◌, ◌∙◌, ◌<◌, ◌≤◌, ◌+◌, ◌-◌, ℕ, zero, suc, Option, Some, None, List, [], ◌∷◌, ◌++◌, length, take, refl, sym, ap, arith, Bool, true, false, cond, ◌&&◌, append-nil, slice_get, nat_le, nat_lt, option_map, AllByRecursion, lt-ltb, le-ltb, nat_tests, ItemKind, Entry, children, node, of_kind, row, meaning, meaning_at, NamesBefore, ChildrenBefore, EachKind, kind_exports, look_up, export_of, Names, export_found, PackageParts}
use Rattle.wac_graph.specs.Moved.{moved}
use Rattle.wac_graph.specs.Copied.{IsGrown, IsGrownBy, MeansTheSame}
use Rattle.wac_graph.proofs.Growing.{copies_length}
use Rattle.wac_graph_types.specs.Entry.{label}
use Rattle.wac_graph_types.proofs.Meanings.{grown_under, meaning_at_entry, added}
use Rattle.wac_graph.specs.Package.{Key, HeldPackage, IsHeld, moved_package}
use Rattle.wac_graph.specs.Graph.{Parts, with_entry, with_package}
use Rattle.wac_graph.specs.Sound.{EachAt, IsSound}
use Rattle.wac_graph.specs.Origin.{Origin, Numbering, declared, copied}
use Rattle.wac_graph.specs.Means.{copied_at, own_from, own_resources, resources_in, or_declared, origin_in, declared_count, origin_at, entry_means_in, entry_means, means, KeepsKinds, MeansAdded, EntriesMean, CopiesMean}

-- packages that end before a number
pub Within : ℕ → List HeldPackage → Type 0
Within n ps = AllByRecursion (λ (p : HeldPackage). p.first + p.size ≤ n) ps

pub held_within : (es : List Entry) (ps : List HeldPackage) → EachAt (λ _ p. IsHeld es p) ps → Within (length es) ps
unfolding Within
held_within es [] h = tt
held_within es (p ∷ ps) h = ((h 0 p refl).of_range, held_within es ps (λ i q is. h (suc i) q is))

-- what lies after all packages wasn't copied
outside : (ps : List HeldPackage) (n i : ℕ) → Within n ps → n ≤ i → copied_at ps i ≡ None
unfolding copied_at Within
outside [] n i h le = refl
outside (p ∷ ps) n i h le =
    let late : nat_lt i (p.first + p.size) ≡ false = le-ltb i (p.first + p.size) (omega (arith, h.0)) in
    go (outside ps n i h.1 le) (nat_le p.first i) (nat_lt i (p.first + p.size)) late
  where
    go : copied_at ps i ≡ None → (a b : Bool) → b ≡ false → cond (a && b) (Some (copied p.key (i - p.first))) (copied_at ps i) ≡ None
    go later true true e = absurd (cc)
    go later true false e = later
    go later false b e = later

own_append : (ps : List HeldPackage) (n : ℕ) (es fs : List Entry) → own_from ps n (es ++ fs) ≡ own_from ps n es + own_from ps (n + length es) fs
unfolding own_from
own_append ps n [] fs = (let at : n + 0 ≡ n = omega arith in ap (λ (m : ℕ). own_from ps m fs) (sym at) ∙ omega arith)
own_append ps n (e ∷ es) fs =
    let at : suc n + length es ≡ n + length (e ∷ es) = omega arith in
    let rest : own_from ps (suc n) (es ++ fs) ≡ own_from ps (suc n) es + own_from ps (n + length (e ∷ es)) fs = own_append ps (suc n) es fs ∙ ap (λ (m : ℕ). own_from ps (suc n) es + own_from ps m fs) at in
    omega (arith, rest)

-- one more entry, which wasn't copied
own_added : (ps : List HeldPackage) (es : List Entry) (e : Entry) → Within (length es) ps → own_from ps 0 (es ++ e ∷ []) ≡ own_from ps 0 es + resources_in e
unfolding own_from
own_added ps es e h =
    let out : copied_at ps (0 + length es) ≡ None = outside ps (length es) (0 + length es) h (omega arith) in
    let last : own_resources (copied_at ps (0 + length es)) e ≡ resources_in e = ap (λ (o : Option Origin). own_resources o e) out in
    own_append ps 0 es (e ∷ []) ∙ omega (arith, last)

taken_front : {X : Type 0} (xs ys : List X) → take (length xs) (xs ++ ys) ≡ xs
taken_front [] ys = refl
taken_front {X} (x ∷ xs) ys = ap (λ (l : List X). x ∷ l) (taken_front xs ys)

taken_within : {X : Type 0} (xs ys : List X) (i : ℕ) → i ≤ length xs → take i (xs ++ ys) ≡ take i xs
taken_within xs ys zero h = refl
taken_within [] ys (suc i) h = absurd (omega arith)
taken_within {X} (x ∷ xs) ys (suc i) h = ap (λ (l : List X). x ∷ l) (taken_within xs ys i (omega arith))

pub origin_kept : (ps : List HeldPackage) (es fs : List Entry) (i : ℕ) → i < length es → origin_in ps (es ++ fs) i ≡ origin_in ps es i
unfolding origin_in
origin_kept ps es fs i h = ap (λ (l : List Entry). or_declared (copied_at ps i) (own_from ps 0 l)) (taken_within es fs i (omega arith))

origin_added : (ps : List HeldPackage) (es : List Entry) (e : Entry) → Within (length es) ps → origin_in ps (es ++ e ∷ []) (length es) ≡ declared (own_from ps 0 es)
unfolding origin_in
origin_added ps es e h =
    ap (λ (o : Option Origin). or_declared o (own_from ps 0 (take (length es) (es ++ e ∷ [])))) (outside ps (length es) (length es) h (omega arith))
    ∙ ap (λ (l : List Entry). declared (own_from ps 0 l)) (taken_front es (e ∷ []))

pub keeps_more : (ps : List HeldPackage) (es fs : List Entry) (numbering : Origin → ℕ) (k : ItemKind) → NamesBefore (length es) k → of_kind (entry_means_in numbering ps (es ++ fs)) k ≡ of_kind (entry_means_in numbering ps es) k
unfolding entry_means_in
keeps_more ps es fs numbering k h = grown_under (λ n. numbering (origin_in ps es n)) (λ n. numbering (origin_in ps (es ++ fs) n)) es fs k (λ i w. ap numbering (origin_kept ps es fs i w)) h

pub keeps_entry : (old new : Parts) (e : Entry) → new ≡ with_entry old e → KeepsKinds old new
keeps_entry old new e is numbering k h = ap (λ (g : Parts). means numbering g k) is ∙ keeps_more old.packages old.types (e ∷ []) numbering k h

pub keeps_unchanged : (old new : Parts) → new ≡ old → KeepsKinds old new
keeps_unchanged old new is numbering k h = ap (λ (g : Parts). means numbering g k) is

earlier_children : (es : List Entry) (e : Entry) → EachKind (Names es) (children e) → ChildrenBefore (length es) (children e)
earlier_children es e h = go (children e) h
  where
    go : (cs : List (Rattle.wac_graph_types.specs.Entry.Slot × Option ItemKind)) → EachKind (Names es) cs → ChildrenBefore (length es) cs
    go [] h = tt
    go (c ∷ cs) h = (one c.1 h.0, go cs h.1)
      where
        one : (x : Option ItemKind) → Rattle.std.specs.Prelude.IfSome x (Names es) → Rattle.std.specs.Prelude.IfSome x (NamesBefore (length es))
        one None w = tt
        one (Some k) w = w.0

pub means_added : (old new : Parts) (e : Entry) → IsSound old → EachKind (Names old.types) (children e) → new ≡ with_entry old e → MeansAdded old new e
unfolding entry_means_in
means_added old new e sound here is numbering =
    let es : List Entry = old.types in
    let ps : List HeldPackage = old.packages in
    let o : ℕ → ℕ = λ n. numbering (origin_in ps es n) in
    let p : ℕ → ℕ = λ n. numbering (origin_in ps (es ++ e ∷ []) n) in
    ap (λ (g : Parts). entry_means numbering g (length es)) is
    ∙ added o p es e (λ i w. ap numbering (origin_kept ps es (e ∷ []) i w)) sound.table.0 (earlier_children es e here)
    ∙ ap (λ (x : Origin). node (label (numbering x) e) (row (meaning_at o es) (children e))) (origin_added ps es e (held_within es ps sound.packages))

pub count_added : (old new : Parts) (e : Entry) → IsSound old → new ≡ with_entry old e → declared_count new ≡ declared_count old + resources_in e
count_added old new e sound is = ap (λ (g : Parts). declared_count g) is ∙ own_added old.packages old.types e (held_within old.types old.packages sound.packages)

pub entries_mean : (g : Parts) → IsSound g → EntriesMean g
unfolding entry_means_in
entries_mean g sound numbering i e is = meaning_at_entry (λ n. numbering (origin_in g.packages g.types n)) g.types i e sound.table.0 is

-- one more package

copied_append : (ps : List HeldPackage) (q : HeldPackage) (i : ℕ) → i < q.first → copied_at (ps ++ q ∷ []) i ≡ copied_at ps i
unfolding copied_at
copied_append [] q i h = alone (nat_le q.first i) (nat_lt i (q.first + q.size)) (not_from q.first i h)
  where
    not_from : (a b : ℕ) → b < a → nat_le a b ≡ false
    not_from a b h = grind (arith, nat_tests)

    alone : (a b : Bool) → a ≡ false → cond (a && b) (Some (copied q.key (i - q.first))) None ≡ None
    alone true b e = absurd (cc)
    alone false b e = refl
copied_append (p ∷ ps) q i h = ap (cond (nat_le p.first i && nat_lt i (p.first + p.size)) (Some (copied p.key (i - p.first)))) (copied_append ps q i h)

own_same : (ps : List HeldPackage) (q : HeldPackage) (n : ℕ) (es : List Entry) → n + length es ≤ q.first → own_from (ps ++ q ∷ []) n es ≡ own_from ps n es
unfolding own_from
own_same ps q n [] h = refl
own_same ps q n (e ∷ es) h =
    let here : own_resources (copied_at (ps ++ q ∷ []) n) e ≡ own_resources (copied_at ps n) e = ap (λ (o : Option Origin). own_resources o e) (copied_append ps q n (omega arith)) in
    let rest : own_from (ps ++ q ∷ []) (suc n) es ≡ own_from ps (suc n) es = own_same ps q (suc n) es (omega arith) in
    cc

-- what lies in a package after all others was copied from it
copied_in : (ps : List HeldPackage) (q : HeldPackage) (j : ℕ) → Within q.first ps → j < q.size → copied_at (ps ++ q ∷ []) (q.first + j) ≡ Some (copied q.key j)
unfolding copied_at Within
copied_in [] q j h w =
    let low : nat_le q.first (q.first + j) ≡ true = grind (arith, nat_tests) in
    let high : nat_lt (q.first + j) (q.first + q.size) ≡ true = lt-ltb (q.first + j) (q.first + q.size) (omega arith) in
    let at : (q.first + j) - q.first ≡ j = omega arith in
    rw (low, high, at) refl
copied_in (p ∷ ps) q j h w =
    let late : nat_lt (q.first + j) (p.first + p.size) ≡ false = le-ltb (q.first + j) (p.first + p.size) (omega (arith, h.0)) in
    go (copied_in ps q j h.1 w) (nat_le p.first (q.first + j)) (nat_lt (q.first + j) (p.first + p.size)) late
  where
    go : copied_at (ps ++ q ∷ []) (q.first + j) ≡ Some (copied q.key j) → (a b : Bool) → b ≡ false → cond (a && b) (Some (copied p.key ((q.first + j) - p.first))) (copied_at (ps ++ q ∷ []) (q.first + j)) ≡ Some (copied q.key j)
    go later true true e = absurd (cc)
    go later true false e = later
    go later false b e = later

own_copied : (ps : List HeldPackage) (q : HeldPackage) (n : ℕ) (ds : List Entry) → Within q.first ps → q.first ≤ n → n + length ds ≤ q.first + q.size → own_from (ps ++ q ∷ []) n ds ≡ 0
unfolding own_from
own_copied ps q n [] h low high = refl
own_copied ps q n (d ∷ ds) h low high =
    let at : q.first + (n - q.first) ≡ n = omega arith in
    let inside : copied_at (ps ++ q ∷ []) (q.first + (n - q.first)) ≡ Some (copied q.key (n - q.first)) = copied_in ps q (n - q.first) h (omega arith) in
    let here : own_resources (copied_at (ps ++ q ∷ []) n) d ≡ 0 = ap (λ (m : ℕ). own_resources (copied_at (ps ++ q ∷ []) m) d) (sym at) ∙ ap (λ (o : Option Origin). own_resources o d) inside in
    omega (arith, here, own_copied ps q (suc n) ds h (omega arith) (omega arith))

take_short : (i : ℕ) (es : List Entry) → length (take i es) ≤ length es
take_short zero es = omega arith
take_short (suc i) [] = omega arith
take_short (suc i) (e ∷ es) = omega (arith, take_short i es)

origin_before : (ps : List HeldPackage) (q : HeldPackage) (es ds : List Entry) (i : ℕ) → q.first ≡ length es → i < length es → origin_in (ps ++ q ∷ []) (es ++ ds) i ≡ origin_in ps es i
unfolding origin_in
origin_before ps q es ds i first h =
    ap (λ (o : Option Origin). or_declared o (own_from (ps ++ q ∷ []) 0 (take i (es ++ ds)))) (copied_append ps q i (omega arith))
    ∙ ap (λ (l : List Entry). or_declared (copied_at ps i) (own_from (ps ++ q ∷ []) 0 l)) (taken_within es ds i (omega arith))
    ∙ ap (or_declared (copied_at ps i)) (own_same ps q 0 (take i es) (omega (arith, take_short i es)))

origin_copied : (ps : List HeldPackage) (q : HeldPackage) (es : List Entry) (j : ℕ) → Within q.first ps → j < q.size → origin_in (ps ++ q ∷ []) es (q.first + j) ≡ copied q.key j
unfolding origin_in
origin_copied ps q es j h w = ap (λ (o : Option Origin). or_declared o (own_from (ps ++ q ∷ []) 0 (take (q.first + j) es))) (copied_in ps q j h w)

pub keeps_package : (old new : Parts) (key : Key) (p : PackageParts) → IsGrown old.types new.types → new ≡ with_package old key p new.types → KeepsKinds old new
unfolding entry_means_in
keeps_package old new key p grown is numbering k h =
    let q : HeldPackage = moved_package (length old.types) key p in
    ap (λ (g : Parts). means numbering g k) is
    ∙ ap (λ (l : List Entry). meaning (λ n. numbering (origin_in (old.packages ++ q ∷ []) l n)) l k) grown.1
    ∙ grown_under (λ n. numbering (origin_in old.packages old.types n)) (λ n. numbering (origin_in (old.packages ++ q ∷ []) (old.types ++ grown.0) n)) old.types grown.0 k (λ i w. ap numbering (origin_before old.packages q old.types grown.0 i refl w)) h

pub copies_mean : (old new : Parts) (key : Key) (p : PackageParts) → IsSound old → new ≡ with_package old key p new.types → MeansTheSame old.types p.types new.types → CopiesMean old new key p
unfolding entry_means_in
copies_mean old new key p sound is same numbering k h =
    let q : HeldPackage = moved_package (length old.types) key p in
    let o : ℕ → ℕ = λ n. numbering (origin_in (old.packages ++ q ∷ []) new.types n) in
    let nil : p.types ++ [] ≡ p.types = simp append-nil in
    ap (λ (g : Parts). means numbering g (moved (length old.types) k)) is
    ∙ same o k h
    ∙ ap (λ (l : List Entry). meaning (λ i. o (length old.types + i)) l k) (sym nil)
    ∙ grown_under (λ i. numbering (copied key i)) (λ i. o (length old.types + i)) p.types [] k (λ i w. ap numbering (origin_copied old.packages q new.types i (held_within old.types old.packages sound.packages) w)) h

pub count_package : (old new : Parts) (key : Key) (p : PackageParts) → IsSound old → IsGrownBy old.types p.types new.types → new ≡ with_package old key p new.types → declared_count new ≡ declared_count old
count_package old new key p sound grown is =
    let q : HeldPackage = moved_package (length old.types) key p in
    let within : Within q.first old.packages = held_within old.types old.packages sound.packages in
    let more : own_from (old.packages ++ q ∷ []) 0 (old.types ++ grown.0) ≡ own_from (old.packages ++ q ∷ []) 0 old.types + own_from (old.packages ++ q ∷ []) (0 + length old.types) grown.0 = own_append (old.packages ++ q ∷ []) 0 old.types grown.0 in
    let front : own_from (old.packages ++ q ∷ []) 0 old.types ≡ own_from old.packages 0 old.types = own_same old.packages q 0 old.types (omega arith) in
    let back : own_from (old.packages ++ q ∷ []) (0 + length old.types) grown.0 ≡ 0 = own_copied old.packages q (0 + length old.types) grown.0 within (omega arith) (omega (arith, copies_length (length old.types) p.types grown.0 grown.2)) in
    ap (λ (g : Parts). declared_count g) is ∙ ap (own_from (old.packages ++ q ∷ []) 0) grown.1 ∙ omega (arith, more, front, back)

-- the table grows, and no package is added
pub keeps_types : (old new : Parts) → IsGrown old.types new.types → new ≡ record old { types = new.types } → KeepsKinds old new
keeps_types old new grown is numbering k h =
    ap (λ (g : Parts). means numbering g k) (is ∙ ap (λ (l : List Entry). record old { types = l }) grown.1) ∙ keeps_more old.packages old.types grown.0 numbering k h

-- what the table has under a name is what the kind exports
pub export_means : (numbering : Numbering) (g : Parts) (k : ItemKind) (name : List ℕ) (r : Option ItemKind) → IsSound g → Names g.types k → r ≡ look_up name (kind_exports g.types k)
    → option_map (means numbering g) r ≡ export_of (means numbering g k) name
export_means numbering g k name r sound named is =
    ap (option_map (means numbering g)) is ∙ export_found (λ i. numbering (origin_at g i)) g.types (entry_means numbering g) (entries_mean g sound numbering) k name named

-- a kind's meaning under a numbering is that of the table under the numbers of its origins
pub means_is : (numbering : Numbering) (g : Parts) (k : ItemKind) → means numbering g k ≡ meaning (λ i. numbering (origin_at g i)) g.types k
unfolding entry_means_in
means_is numbering g k = refl
