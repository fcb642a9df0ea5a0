-- Each argument that is given has a place: where it is written, or where a spread is.
use Rattle.wac_resolution_expressions.proofs.Common.{◌≡◌, ◌∙◌, ℕ, List, [], ◌∷◌, ◌++◌, Option, Some, None, Bool, true, false, cond, ◌⊎◌, inl, inr, refl, sym, ap, subst, fold, is_some, map, slice_get, option_and_then, flat_map, IsSome, AllByRecursion, bytes_eq, Span, Ident, Arguments, argument_name_span, Meaning, Named, look_up, exports_of, Steps, get_kept, all_more, all_implies, argument_place, own_places, spread_places, argument_places, Composition, Node, kind_at, At, at, alias_at, Giving, given_too, name_meant, name_inferred, spread_step, Spreads, spreads_of, Gives, GivesOne, Given, instance_of, node_at, instance_at}
use Rattle.std.proofs.lemmas.Slice.Eq.{bytes_eq-Decides}
use Rattle.wac_ast_grammar.specs.Tree.{InstantiationArgument}
use Rattle.wac_resolution_rules.proofs.ExpressionsAdd.{added, Adds, adds_none, alias_adds, spread_adds, stands_adds}

-- ---- names that are found

abbrev pub IsFound : {X : Type 0} → Named X → List ℕ → Type 0
IsFound all name = IsSome (look_up name all)

pub found_first : {X : Type 0} (xs ys : Named X) (name : List ℕ) → IsFound xs name → IsFound (xs ++ ys) name
found_first [] ys name h = absurd (cc)
found_first {X} (x ∷ xs) ys name h = go (bytes_eq name x.0) (found_first xs ys name) h
  where
    go : (b : Bool) → (IsFound xs name → IsFound (xs ++ ys) name) → IsSome (cond b (Some x.1) (look_up name xs)) → IsSome (cond b (Some x.1) (look_up name (xs ++ ys)))
    go true later is = refl
    go false later is = later is

pub found_later : {X : Type 0} (xs ys : Named X) (name : List ℕ) → IsFound ys name → IsFound (xs ++ ys) name
found_later [] ys name h = h
found_later {X} (x ∷ xs) ys name h = go (bytes_eq name x.0) (found_later xs ys name h)
  where
    go : (b : Bool) → IsFound (xs ++ ys) name → IsSome (cond b (Some x.1) (look_up name (xs ++ ys)))
    go true is = refl
    go false is = is

found_either : {X : Type 0} (xs ys : Named X) (name : List ℕ) → IsFound (xs ++ ys) name → IsFound xs name ⊎ IsFound ys name
found_either [] ys name h = inr h
found_either {X} (x ∷ xs) ys name h = go (bytes_eq name x.0) (found_either xs ys name) h
  where
    go : (b : Bool) → (IsFound (xs ++ ys) name → IsFound xs name ⊎ IsFound ys name) → IsSome (cond b (Some x.1) (look_up name (xs ++ ys))) → IsSome (cond b (Some x.1) (look_up name xs)) ⊎ IsFound ys name
    go true later is = inl refl
    go false later is = later is

same_text : (name : List ℕ) → bytes_eq name name ≡ true
same_text name = (bytes_eq-Decides name name).1 refl

found_alone : {X : Type 0} (name : List ℕ) (x : X) → IsFound ((name, x) ∷ []) name
found_alone {X} name x = ap (λ (b : Bool). is_some (cond b (Some x) None)) (same_text name)

-- what is found in a list is found in one of the same names
found_at : {X Y : Type 0} (xs : Named X) (y : Y) (name : List ℕ) → IsFound xs name → IsFound (map (λ (x : List ℕ × X). (x.0, y)) xs) name
found_at [] y name h = absurd (cc)
found_at {X} {Y} (x ∷ xs) y name h = go (bytes_eq name x.0) (found_at xs y name) h
  where
    go : (b : Bool) → (IsFound xs name → IsFound (map (λ (x : List ℕ × X). (x.0, y)) xs) name) → IsSome (cond b (Some x.1) (look_up name xs)) → IsSome (cond b (Some y) (look_up name (map (λ (x : List ℕ × X). (x.0, y)) xs)))
    go true later is = refl
    go false later is = later is

-- ---- as nodes are added

-- what holds of a name still holds with more nodes
abbrev pub IsKept : (Composition → List ℕ → Type 0) → Type 0
IsKept Q = (c d : Composition) (name : List ℕ) → Adds c d → Q c name → Q d name

kept_by : (Q : Composition → List ℕ → Type 0) → ((c : Composition) (more : List Node) (name : List ℕ) → Q c name → Q (added c more) name) → IsKept Q
kept_by Q h c d name a q = subst (λ (x : Composition). Q x name) (sym a.1) (h c a.0 name q)

argument_kept : (imports : Named Meaning) (a : InstantiationArgument) → IsKept (λ c name. IsFound (argument_place c imports a) name)
argument_kept imports a = kept_by (λ c name. IsFound (argument_place c imports a) name) (go a)
  where
    placed : (x : Ident) (name : List ℕ) (o p : Option Node) → ((n : Node) → o ≡ Some n → p ≡ Some n) → IsFound (elim o as (λ _. Named Span) [ None ↦ [] | Some n ↦ (name_inferred imports x.string n, x.span) ∷ [] ]) name
        → IsFound (elim p as (λ _. Named Span) [ None ↦ [] | Some n ↦ (name_inferred imports x.string n, x.span) ∷ [] ]) name
    placed x name None p to h = absurd (cc)
    placed x name (Some n) p to h = subst (λ (q : Option Node). IsFound (elim q as (λ _. Named Span) [ None ↦ [] | Some n ↦ (name_inferred imports x.string n, x.span) ∷ [] ]) name) (sym (to n refl)) h

    at_node : (c : Composition) (more : List Node) (o : Option ℕ) (n : Node) → option_and_then (node_at c) o ≡ Some n → option_and_then (node_at (added c more)) o ≡ Some n
    at_node c more None n is = absurd (cc)
    at_node c more (Some i) n is = get_kept c.nodes more i n is

    go : (a : InstantiationArgument) (c : Composition) (more : List Node) (name : List ℕ) → IsFound (argument_place c imports a) name → IsFound (argument_place (added c more) imports a) name
    go (InstantiationArgument.fill span) c more name h = h
    go (InstantiationArgument.spread x) c more name h = h
    go (InstantiationArgument.named x e) c more name h = h
    go (InstantiationArgument.inferred x) c more name h =
        placed x name (option_and_then (node_at c) (look_up x.string c.declared)) (option_and_then (node_at (added c more)) (look_up x.string c.declared)) (at_node c more (look_up x.string c.declared)) h

pub own_kept : (imports : Named Meaning) (args : Arguments) → IsKept (λ c name. IsFound (own_places c imports args) name)
own_kept imports Arguments.none c d name a h = h
own_kept imports (Arguments.more x rest) c d name a h =
    elim (found_either (argument_place c imports x) (own_places c imports rest) name h) [
      | inl first ↦ found_first (argument_place d imports x) (own_places d imports rest) name (argument_kept imports x c d name a first)
      | inr later ↦ found_later (argument_place d imports x) (own_places d imports rest) name (own_kept imports rest c d name a later)
    ]

spread_kept : (id : Ident) → IsKept (λ c name. IsFound (spread_places c id) name)
spread_kept id = kept_by (λ c name. IsFound (spread_places c id) name) (λ c more name h. placed name (option_and_then (instance_at c) (look_up id.string c.declared)) (option_and_then (instance_at (added c more)) (look_up id.string c.declared)) (at_instance c more (look_up id.string c.declared)) h)
  where
    placed : (name : List ℕ) (o p : Option Meaning) → ((i : Meaning) → o ≡ Some i → p ≡ Some i) → IsFound (elim o as (λ _. Named Span) [ None ↦ [] | Some i ↦ map (λ (x : List ℕ × Meaning). (x.0, id.span)) (exports_of i) ]) name
        → IsFound (elim p as (λ _. Named Span) [ None ↦ [] | Some i ↦ map (λ (x : List ℕ × Meaning). (x.0, id.span)) (exports_of i) ]) name
    placed name None p to h = absurd (cc)
    placed name (Some i) p to h = subst (λ (q : Option Meaning). IsFound (elim q as (λ _. Named Span) [ None ↦ [] | Some i ↦ map (λ (x : List ℕ × Meaning). (x.0, id.span)) (exports_of i) ]) name) (sym (to i refl)) h

    kind_kept : (c : Composition) (more : List Node) (n : ℕ) (i : Meaning) (o : Option Node) → slice_get c.nodes n ≡ o → instance_of (elim o as (λ _. Meaning) [ None ↦ kind_at [] 0 | Some x ↦ x.kind ]) ≡ Some i → instance_at (added c more) n ≡ Some i
    kind_kept c more n i None at is = absurd (cc)
    kind_kept c more n i (Some x) at is = ap (λ (o : Option Node). instance_of (elim o as (λ _. Meaning) [ None ↦ kind_at [] 0 | Some x ↦ x.kind ])) (get_kept c.nodes more n x at) ∙ is

    at_instance : (c : Composition) (more : List Node) (o : Option ℕ) (i : Meaning) → option_and_then (instance_at c) o ≡ Some i → option_and_then (instance_at (added c more)) o ≡ Some i
    at_instance c more None i is = absurd (cc)
    at_instance c more (Some n) i is = kind_kept c more n i (slice_get c.nodes n) refl is

-- ---- arguments in order

-- this holds of the name of each argument that is given
abbrev pub HoldsOfEach : (Composition → List ℕ → Type 0) → Giving → Type 0
HoldsOfEach Q g = AllByRecursion (λ (a : List ℕ × ℕ). Q g.composition a.0) g.arguments

-- with one more argument
one_more : (Q R : Composition → List ℕ → Type 0) → IsKept Q → (old : Giving) (a : At) (name : List ℕ) → Adds old.composition a.composition → HoldsOfEach Q old → R a.composition name
    → HoldsOfEach (λ c n. Q c n ⊎ R c n) (given_too old name a)
one_more Q R keeps old a name adds each here =
    all_more (λ (x : List ℕ × ℕ). Q a.composition x.0 ⊎ R a.composition x.0) old.arguments (name, a.node)
    (all_implies (λ (x : List ℕ × ℕ). Q old.composition x.0) (λ (x : List ℕ × ℕ). Q a.composition x.0 ⊎ R a.composition x.0) (λ x q. inl (keeps old.composition a.composition x.0 adds q)) old.arguments each) (inr here)

no_more : (Q R : Composition → List ℕ → Type 0) (old new : Giving) → new ≡ old → HoldsOfEach Q old → HoldsOfEach (λ c n. Q c n ⊎ R c n) new
no_more Q R old new is each =
    subst (HoldsOfEach (λ c n. Q c n ⊎ R c n)) (sym is) (all_implies (λ (x : List ℕ × ℕ). Q old.composition x.0) (λ (x : List ℕ × ℕ). Q old.composition x.0 ⊎ R old.composition x.0) (λ x q. inl q) old.arguments each)

one_placed : (s : Given) (imports : Named Meaning) (rest : Arguments) (Q : Composition → List ℕ → Type 0) → IsKept Q → (old : Giving) (x : InstantiationArgument) (new : Giving) → GivesOne s imports rest old x new → HoldsOfEach Q old
    → HoldsOfEach (λ c name. Q c name ⊎ IsFound (argument_place c imports x) name) new
one_placed s imports rest Q keeps old (InstantiationArgument.fill span) new p each = no_more Q (λ c name. IsFound (argument_place c imports (InstantiationArgument.fill span)) name) old new p.1 each
one_placed s imports rest Q keeps old (InstantiationArgument.spread id) new p each = no_more Q (λ c name. IsFound (argument_place c imports (InstantiationArgument.spread id)) name) old new p each
one_placed s imports rest Q keeps old (InstantiationArgument.named x e) new p each =
    let R : Composition → List ℕ → Type 0 = λ c name. IsFound (argument_place c imports (InstantiationArgument.named x e)) name in
    subst (HoldsOfEach (λ c name. Q c name ⊎ R c name)) (sym p.3)
    (one_more Q R keeps old p.0 (name_meant x imports) (stands_adds s old.composition e p.0 p.1) each (found_alone (name_meant x imports) (argument_name_span x)))
one_placed s imports rest Q keeps old (InstantiationArgument.inferred id) new p each =
    let R : Composition → List ℕ → Type 0 = λ c name. IsFound (argument_place c imports (InstantiationArgument.inferred id)) name in
    let name : List ℕ = name_inferred imports id.string p.1 in
    let there : option_and_then (node_at old.composition) (look_up id.string old.composition.declared) ≡ Some p.1 = ap (option_and_then (node_at old.composition)) p.2 ∙ p.3 in
    let here : R old.composition name =
    subst (λ (o : Option Node). IsFound (elim o as (λ _. Named Span) [ None ↦ [] | Some n ↦ (name_inferred imports id.string n, id.span) ∷ [] ]) name) (sym there) (found_alone name id.span) in
    subst (HoldsOfEach (λ c name. Q c name ⊎ R c name)) (sym p.5) (one_more Q R keeps old (at old.composition p.0) name (adds_none old.composition) each here)

pub gives_placed : (s : Given) (imports : Named Meaning) (args : Arguments) (Q : Composition → List ℕ → Type 0) → IsKept Q → (old new : Giving) → Gives s imports old args new → HoldsOfEach Q old
    → HoldsOfEach (λ c name. Q c name ⊎ IsFound (own_places c imports args) name) new
gives_placed s imports Arguments.none Q keeps old new p each = no_more Q (λ c name. IsFound (own_places c imports Arguments.none) name) old new p each
gives_placed s imports (Arguments.more x rest) Q keeps old new p each =
    let R : Composition → List ℕ → Type 0 = λ c name. IsFound (argument_place c imports x) name in
    let both : IsKept (λ c name. Q c name ⊎ R c name) = λ c d name a h. elim h [ inl q ↦ inl (keeps c d name a q) | inr r ↦ inr (argument_kept imports x c d name a r) ] in
    let all = gives_placed s imports rest (λ c name. Q c name ⊎ R c name) both p.0 new p.2 (one_placed s imports rest Q keeps old x p.0 p.1 each) in
    all_implies (λ (y : List ℕ × ℕ). (Q new.composition y.0 ⊎ R new.composition y.0) ⊎ IsFound (own_places new.composition imports rest) y.0) (λ (y : List ℕ × ℕ). Q new.composition y.0 ⊎ IsFound (own_places new.composition imports (Arguments.more x rest)) y.0)
    (λ y h. elim h [
      | inl first ↦ elim first [ inl q ↦ inl q | inr r ↦ inr (found_first (argument_place new.composition imports x) (own_places new.composition imports rest) y.0 r) ]
      | inr later ↦ inr (found_later (argument_place new.composition imports x) (own_places new.composition imports rest) y.0 later)
    ]) new.arguments all

-- ---- spreads

step_placed : (Q : Composition → List ℕ → Type 0) → IsKept Q → (node : ℕ) (exports : Named Meaning) (g : Giving) (x : List ℕ × Meaning) → HoldsOfEach (λ c name. Q c name ⊎ IsFound exports name) g
    → HoldsOfEach (λ c name. Q c name ⊎ IsFound exports name) (spread_step node exports g x)
step_placed Q keeps node exports g x each = given (is_some (look_up x.0 g.arguments))
  where
    both : IsKept (λ c name. Q c name ⊎ IsFound exports name)
    both c d name a h = elim h [ inl q ↦ inl (keeps c d name a q) | inr r ↦ inr r ]

    more : (k : Meaning) → look_up x.0 exports ≡ Some k → Adds g.composition (alias_at (at g.composition node) x.0 k).composition → HoldsOfEach (λ c name. Q c name ⊎ IsFound exports name) (given_too g x.0 (alias_at (at g.composition node) x.0 k))
    more k is adds =
        let a : At = alias_at (at g.composition node) x.0 k in
        all_more (λ (y : List ℕ × ℕ). Q a.composition y.0 ⊎ IsFound exports y.0) g.arguments (x.0, a.node)
        (all_implies (λ (y : List ℕ × ℕ). Q g.composition y.0 ⊎ IsFound exports y.0) (λ (y : List ℕ × ℕ). Q a.composition y.0 ⊎ IsFound exports y.0) (λ y q. both g.composition a.composition y.0 adds q) g.arguments each)
        (inr (ap is_some is))

    exported : (o : Option Meaning) → look_up x.0 exports ≡ o → HoldsOfEach (λ c name. Q c name ⊎ IsFound exports name) (elim o as (λ _. Giving) [ None ↦ g | Some k ↦ given_too g x.0 (alias_at (at g.composition node) x.0 k) ])
    exported None is = each
    exported (Some k) is = more k is (alias_adds g.composition node x.0 k)

    given : (b : Bool) → HoldsOfEach (λ c name. Q c name ⊎ IsFound exports name) (cond b g (elim (look_up x.0 exports) as (λ _. Giving) [ None ↦ g | Some k ↦ given_too g x.0 (alias_at (at g.composition node) x.0 k) ]))
    given true = each
    given false = exported (look_up x.0 exports) refl

fold_placed : (Q : Composition → List ℕ → Type 0) → IsKept Q → (node : ℕ) (exports imports : Named Meaning) (g : Giving) → HoldsOfEach (λ c name. Q c name ⊎ IsFound exports name) g
    → HoldsOfEach (λ c name. Q c name ⊎ IsFound exports name) (fold (spread_step node exports) g imports)
fold_placed Q keeps node exports [] g each = each
fold_placed Q keeps node exports (x ∷ xs) g each = fold_placed Q keeps node exports xs (spread_step node exports g x) (step_placed Q keeps node exports g x each)

spread_placed : (imports : Named Meaning) (Q : Composition → List ℕ → Type 0) → IsKept Q → (old : Giving) (id : Ident) (new : Giving) → Spreads imports old id new → HoldsOfEach Q old
    → HoldsOfEach (λ c name. Q c name ⊎ IsFound (spread_places c id) name) new
spread_placed imports Q keeps old id new p each =
    let exports : Named Meaning = exports_of p.1 in
    let start : HoldsOfEach (λ c name. Q c name ⊎ IsFound exports name) old = no_more Q (λ c name. IsFound exports name) old old refl each in
    let all : HoldsOfEach (λ c name. Q c name ⊎ IsFound exports name) new = subst (HoldsOfEach (λ c name. Q c name ⊎ IsFound exports name)) (sym p.4) (fold_placed Q keeps p.0 exports imports old start) in
    let there : option_and_then (instance_at old.composition) (look_up id.string old.composition.declared) ≡ Some p.1 = ap (option_and_then (instance_at old.composition)) p.2 ∙ p.3 in
    all_implies (λ (y : List ℕ × ℕ). Q new.composition y.0 ⊎ IsFound exports y.0) (λ (y : List ℕ × ℕ). Q new.composition y.0 ⊎ IsFound (spread_places new.composition id) y.0)
    (λ y h. elim h [
      | inl q ↦ inl q
      | inr r ↦ inr (spread_kept id old.composition new.composition y.0 (spread_adds imports old id new p)
          (subst (λ (o : Option Meaning). IsFound (elim o as (λ _. Named Span) [ None ↦ [] | Some i ↦ map (λ (x : List ℕ × Meaning). (x.0, id.span)) (exports_of i) ]) y.0) (sym there) (found_at exports id.span y.0 r)))
    ]) new.arguments all

pub spreads_placed : (imports : Named Meaning) (ids : List Ident) (Q : Composition → List ℕ → Type 0) → IsKept Q → (old new : Giving) → Steps (Spreads imports) old ids new → HoldsOfEach Q old
    → HoldsOfEach (λ c name. Q c name ⊎ IsFound (flat_map (spread_places c) ids) name) new
spreads_placed imports [] Q keeps old new p each = no_more Q (λ c name. IsFound (flat_map (spread_places c) []) name) old new p each
spreads_placed imports (id ∷ ids) Q keeps old new p each =
    let R : Composition → List ℕ → Type 0 = λ c name. IsFound (spread_places c id) name in
    let both : IsKept (λ c name. Q c name ⊎ R c name) = λ c d name a h. elim h [ inl q ↦ inl (keeps c d name a q) | inr r ↦ inr (spread_kept id c d name a r) ] in
    let all = spreads_placed imports ids (λ c name. Q c name ⊎ R c name) both p.0 new p.2 (spread_placed imports Q keeps old id p.0 p.1 each) in
    all_implies (λ (y : List ℕ × ℕ). (Q new.composition y.0 ⊎ R new.composition y.0) ⊎ IsFound (flat_map (spread_places new.composition) ids) y.0) (λ (y : List ℕ × ℕ). Q new.composition y.0 ⊎ IsFound (flat_map (spread_places new.composition) (id ∷ ids)) y.0)
    (λ y h. elim h [
      | inl first ↦ elim first [ inl q ↦ inl q | inr r ↦ inr (found_first (spread_places new.composition id) (flat_map (spread_places new.composition) ids) y.0 r) ]
      | inr later ↦ inr (found_later (spread_places new.composition id) (flat_map (spread_places new.composition) ids) y.0 later)
    ]) new.arguments all

-- ---- all of them

-- of arguments that are given in order each is where it is written
pub each_own : (s : Given) (imports : Named Meaning) (args : Arguments) (c : Composition) (new : Giving) → Gives s imports (record { composition = c; arguments = [] }) args new → HoldsOfEach (λ d name. IsFound (own_places d imports args) name) new
each_own s imports args c new p =
    all_implies (λ (y : List ℕ × ℕ). ⊥ ⊎ IsFound (own_places new.composition imports args) y.0) (λ (y : List ℕ × ℕ). IsFound (own_places new.composition imports args) y.0) (λ y h. elim h [ inl none ↦ absurd none | inr r ↦ r ]) new.arguments
    (gives_placed s imports args (λ d name. ⊥) (λ a b name adds none. none) (record { composition = c; arguments = [] }) new p tt)

-- after spreads each is where it is written, or where a spread is
pub each_somewhere : (imports : Named Meaning) (args : Arguments) (old new : Giving) → Steps (Spreads imports) old (spreads_of args) new → HoldsOfEach (λ d name. IsFound (own_places d imports args) name) old
    → HoldsOfEach (λ d name. IsFound (argument_places d imports args) name) new
each_somewhere imports args old new p each =
    all_implies (λ (y : List ℕ × ℕ). IsFound (own_places new.composition imports args) y.0 ⊎ IsFound (flat_map (spread_places new.composition) (spreads_of args)) y.0) (λ (y : List ℕ × ℕ). IsFound (argument_places new.composition imports args) y.0)
    (λ y h. elim h [
      | inl own ↦ found_first (own_places new.composition imports args) (flat_map (spread_places new.composition) (spreads_of args)) y.0 own
      | inr later ↦ found_later (own_places new.composition imports args) (flat_map (spread_places new.composition) (spreads_of args)) y.0 later
    ]) new.arguments (spreads_placed imports (spreads_of args) (λ d name. IsFound (own_places d imports args) name) (own_kept imports args) old new p each)
