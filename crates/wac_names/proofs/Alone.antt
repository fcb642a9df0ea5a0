-- Mentions of what was found, and names of it alone.
use Rattle.std.proofs.Common.{◌≡◌, ◌∙◌, ℕ, suc, ◌+◌, ◌<◌, List, [], ◌∷◌, ◌++◌, Option, Some, None, true, map, take, length, get_or, refl, sym, ap, subst, arith, inl, append_assoc}
use Rattle.std.specs.Prelude.{◌⊎◌, All, IfSome, IsSomeAnd, slice_get}
use Rattle.std.specs.List.{cons_option, filter_map}
use Rattle.std.proofs.lemmas.List.{take_more}
use Rattle.std.proofs.lemmas.List.Elements.{All-nil, All-cons, All-head, All-tail}
use Rattle.std.proofs.lemmas.Slice.Eq.{bytes_eq-Decides}
use Rattle.wac_names.specs.declared.found.Found.{Found}
use Rattle.wac_names.specs.declared.names.Mention.{Mention}
use Rattle.wac_names.specs.declared.names.Name.{Name}
use Rattle.wac_names.specs.declared.names.Names.{Names}
use Rattle.wac_names.specs.LookedUp.{IsBoundAt, IsMemberAt, StandsAt, mentions_found, name_found, said}
use Rattle.wac_names.specs.Places.{IsTied, name_in, same_name}

cons_append : {X : Type 0} (o : Option X) (a l : List X) → cons_option o a ++ l ≡ cons_option o (a ++ l)
cons_append None a l = refl
cons_append (Some x) a l = refl

filter_more : {X Y : Type 0} (f : X → Option Y) (xs : List X) (x : X) (l : List Y) → filter_map f (xs ++ x ∷ []) ++ l ≡ filter_map f xs ++ cons_option (f x) l
filter_more f [] x l = cons_append (f x) [] l
filter_more f (y ∷ xs) x l = cons_append (f y) (filter_map f (xs ++ x ∷ [])) l ∙ ap (cons_option (f y)) (filter_more f xs x l) ∙ sym (cons_append (f y) (filter_map f xs) (cons_option (f x) l))

-- what is left after one more mention
pub left : (ms : List Mention) (i : ℕ) (m : Mention) (all rest less : List Found) → all ≡ filter_map said (take i ms) ++ rest → i < length ms → m ≡ get_or ms i m
    → rest ≡ cons_option (said m) less → all ≡ filter_map said (take (i + 1) ms) ++ less
left ms i m all rest less so h e r =
    so ∙ ap (λ l. filter_map said (take i ms) ++ l) r ∙ sym (filter_more said (take i ms) m less)
    ∙ ap (λ l. filter_map said l ++ less) (sym (take_more ms i m h ∙ ap (λ y. take i ms ++ y ∷ []) (sym e)))

-- ---- names of what was found alone

abbrev mention_at : ℕ → Found → Mention
mention_at n f = record { span = f.at; binding = n; bound = Some f.bound }

mentions_more : (n : ℕ) (fs : List Found) (f : Found) → mentions_found n (fs ++ f ∷ []) ≡ mentions_found n fs ++ mention_at (n + length fs) f ∷ []
mentions_more n [] f = ap (λ k. mention_at k f ∷ []) (omega arith)
mentions_more n (g ∷ fs) f =
    let same : (n + 1) + length fs ≡ n + length (g ∷ fs) = omega arith in
    ap (λ l. mention_at n g ∷ l) (mentions_more (n + 1) fs f ∙ ap (λ k. mentions_found (n + 1) fs ++ mention_at k f ∷ []) same)

length_found : (n : ℕ) (fs : List Found) → length (mentions_found n fs) ≡ length fs
length_found n [] = refl
length_found n (f ∷ fs) = ap suc (length_found (n + 1) fs)

-- one more mention
pub one_more : (fs : List Found) (i : ℕ) (f : Found) (ms more : List Mention) (number : ℕ) → ms ≡ mentions_found 0 (take i fs) → i < length fs → f ≡ get_or fs i f
    → number ≡ length ms → more ≡ ms ++ mention_at number f ∷ [] → more ≡ mentions_found 0 (take (i + 1) fs)
one_more fs i f ms more number so h e n m =
    let same : number ≡ length (take i fs) = n ∙ ap length so ∙ length_found 0 (take i fs) in
    let count : number ≡ 0 + length (take i fs) = omega arith in
    m ∙ ap (λ l. l ++ mention_at number f ∷ []) so ∙ ap (λ k. mentions_found 0 (take i fs) ++ mention_at k f ∷ []) count ∙ sym (mentions_more 0 (take i fs) f)
    ∙ ap (mentions_found 0) (sym (take_more fs i f h ∙ ap (λ y. take i fs ++ y ∷ []) (sym e)))

-- the mentions say what was found
pub they_say : (n : ℕ) (fs : List Found) → filter_map said (mentions_found n fs) ≡ fs
they_say n [] = refl
they_say n (f ∷ fs) = ap (λ l. f ∷ l) (they_say (n + 1) fs)

there : (before after : List Name) (x : Name) → slice_get (before ++ x ∷ after) (length before) ≡ Some x
there [] after x = refl
there (y ∷ before) after x = there before after x

-- each has what is asked of its own name
each_own : (P : List Name → Mention → Type 0) (Q : Found → Type 0)
    → ((names : List Name) (n : ℕ) (f : Found) → Q f → slice_get names n ≡ Some (name_found f) → P names (mention_at n f))
    → (before : List Name) (fs : List Found) (n : ℕ) → n ≡ length before → All Q fs → All (P (before ++ map name_found fs)) (mentions_found n fs)
each_own P Q own before [] n e q = All-nil (P (before ++ []))
each_own P Q own before (f ∷ fs) n e q =
    let names = before ++ name_found f ∷ map name_found fs in
    let here : slice_get names n ≡ Some (name_found f) = ap (slice_get names) e ∙ there before (map name_found fs) (name_found f) in
    let count : n + 1 ≡ length (before ++ name_found f ∷ []) = grind (arith, length_pushed before (name_found f)) in
    let rest = each_own P Q own (before ++ name_found f ∷ []) fs (n + 1) count (All-tail Q f fs q) in
    All-cons (P names) (mention_at n f) (mentions_found (n + 1) fs) (own names n f (All-head Q f fs q) here)
    (subst (λ (l : List Name). All (P l) (mentions_found (n + 1) fs)) (append_assoc before (name_found f ∷ []) (map name_found fs)) rest)
  where
    length_pushed : (xs : List Name) (x : Name) → length (xs ++ x ∷ []) ≡ length xs + 1
    length_pushed [] x = refl
    length_pushed (y ∷ xs) x = let shorter : length (xs ++ x ∷ []) ≡ length xs + 1 = length_pushed xs x in omega arith

abbrev Alike : List ℕ → Found → Type 0
Alike source f = same_name source f.at f.bound ≡ true

tied_own : (source : List ℕ) (names : List Name) (n : ℕ) (f : Found) → Alike source f → slice_get names n ≡ Some (name_found f) → IsTied source names (mention_at n f)
tied_own source names n f q e =
    subst (λ (o : Option Name). IsSomeAnd o (λ name. name_in source name.span ≡ name_in source f.at)) (sym e) (sym ((bytes_eq-Decides (name_in source f.at) (name_in source f.bound)).0 q))

pub are_tied : (source : List ℕ) (fs : List Found) → All (Alike source) fs → All (IsTied source (map name_found fs)) (mentions_found 0 fs)
are_tied source fs q = each_own (IsTied source) (Alike source) (tied_own source) [] fs 0 refl q

abbrev Stands : Names → List Name → Mention → Type 0
Stands names bindings m = IfSome m.bound (λ s. IsBoundAt bindings m.binding s ⊎ IsMemberAt names.mentions.items m.binding s)

stands_own : (names : Names) (bindings : List Name) (n : ℕ) (f : Found) → Unit {0} → slice_get bindings n ≡ Some (name_found f) → Stands names bindings (mention_at n f)
stands_own names bindings n f q e = inl (subst (λ (o : Option Name). IsSomeAnd o (λ name. name.span ≡ f.bound)) (sym e) refl)

pub are_standing : (names : Names) (fs : List Found) → names.bindings.items ≡ map name_found fs → All (λ m. IfSome m.bound (StandsAt names m.binding)) (mentions_found 0 fs)
are_standing names fs e =
    subst (λ (ns : List Name). All (Stands names ns) (mentions_found 0 fs)) (sym e) (each_own (Stands names) (λ f. Unit {0}) (stands_own names) [] fs 0 refl (λ k d h. tt))
