-- Names of an included world, taken in order.
use Rattle.wac_resolution_worlds.proofs.Common.{◌≡◌, ◌∙◌, ℕ, List, [], ◌∷◌, ◌++◌, Option, Some, None, Bool, true, false, refl, sym, ap, subst, append-nil, option_map, map_push, Span, WorldIncludeItem, ItemKind, Meaning, of_kind, Named, look_up, IsFresh, StandsFor, with_named, without_first, items_mean, Steps, Fails, Names, ItemsNamed, Parts, means, entry_means, Numbering, world_include_conflict, Entries, has_colon, Taking, with_missing, name_taken, TakesNamed, Takes, steps_more}
use Rattle.wac_graph_types.specs.declared.kind.ExternKind.{ExternKind}
use Rattle.wac_graph_types.specs.declared.entry.Entry.{Entry}
use Rattle.wac_graph_types.proofs.Shapes.{items_found}
use Rattle.wac_resolution_worlds.specs.Entries.{Renamings, entries_of, AreOf}
use Rattle.wac_resolution_worlds.specs.Taking.{unless_there, taking_of, NameTaken, NamesTaken}
use Rattle.wac_resolution_worlds.proofs.Found.{left_read, left_of}

-- ---- names and their meanings

kind_fresh : (f : ℕ → Meaning) (ks : Named ItemKind) (name : List ℕ) → IsFresh name ks → IsFresh name (items_mean f ks)
kind_fresh f ks name is = items_found f ks name ∙ ap (option_map (of_kind f)) is

kind_stands : (f : ℕ → Meaning) (ks : Named ItemKind) (name : List ℕ) (k : ItemKind) → StandsFor ks name k → StandsFor (items_mean f ks) name (of_kind f k)
kind_stands f ks name k is = items_found f ks name ∙ ap (option_map (of_kind f)) is

one_more_means : (f : ℕ → Meaning) (ks : Named ItemKind) (name : List ℕ) (k : ItemKind) → items_mean f (with_named ks name k) ≡ with_named (items_mean f ks) name (of_kind f k)
one_more_means f ks name k = map_push (λ (e : List ℕ × ItemKind). (e.0, of_kind f e.1)) ks (name, k)

missing_means : (f : ℕ → Meaning) (ks : Named ItemKind) (name : List ℕ) (k : ItemKind) → items_mean f (unless_there ks name k) ≡ with_missing (items_mean f ks) name (of_kind f k)
missing_means f ks name k = go (look_up name ks) refl
  where
    go : (o : Option ItemKind) → look_up name ks ≡ o → items_mean f (elim o [ None ↦ with_named ks name k | Some old ↦ ks ]) ≡ with_missing (items_mean f ks) name (of_kind f k)
    go None is = one_more_means f ks name k ∙ sym (ap (λ (o : Option Meaning). elim o [ None ↦ with_named (items_mean f ks) name (of_kind f k) | Some old ↦ items_mean f ks ]) (kind_fresh f ks name is))
    go (Some old) is = sym (ap (λ (o : Option Meaning). elim o [ None ↦ with_named (items_mean f ks) name (of_kind f k) | Some m ↦ items_mean f ks ]) (kind_stands f ks name old is))

one_more_named : (ts : List Entry) (ks : Named ItemKind) (name : List ℕ) (k : ItemKind) → ItemsNamed ts ks → Names ts k → ItemsNamed ts (with_named ks name k)
one_more_named ts [] name k h here = (here, tt)
one_more_named ts (e ∷ ks) name k h here = (h.0, one_more_named ts ks name k h.1 here)

missing_named : (ts : List Entry) (ks : Named ItemKind) (name : List ℕ) (k : ItemKind) → ItemsNamed ts ks → Names ts k → ItemsNamed ts (unless_there ks name k)
missing_named ts ks name k h here = go (look_up name ks)
  where
    go : (o : Option ItemKind) → ItemsNamed ts (elim o [ None ↦ with_named ks name k | Some old ↦ ks ])
    go None = one_more_named ts ks name k h here
    go (Some old) = h

-- ---- one name

pub kept_taken : (items : List WorldIncludeItem) (es : Renamings) (ks ls : Named ItemKind) (name : List ℕ) (k : ItemKind) → has_colon name ≡ true → AreOf items es → ls ≡ unless_there ks name k → NameTaken items es es ks ls (name, k)
kept_taken items es ks ls name k colon of is = record {
  of_clause = of;
  takes = λ numbering g.
      let f : ℕ → Meaning = entry_means numbering g in
      let there : items_mean f ls ≡ with_missing (items_mean f ks) name (of_kind f k) = ap (items_mean f) is ∙ missing_means f ks name k in
      let same : taking_of numbering g es ls ≡ record { entries = entries_of es; there = with_missing (items_mean f ks) name (of_kind f k) } = ap (λ (l : Named Meaning). taking es l) there in
      subst (λ (b : Bool). TakesNamed b (taking_of numbering g es ks) (name, means numbering g k) (taking_of numbering g es ls)) (sym colon) same;
  named = λ ts h here. subst (ItemsNamed ts) (sym is) (missing_named ts ks name k h here);
}
  where
    taking : Renamings → Named Meaning → Taking
    taking xs l = record { entries = entries_of xs; there = l }

pub renamed_taken : (items : List WorldIncludeItem) (es fs : Renamings) (ks ls : Named ItemKind) (name : List ℕ) (k : ItemKind) → has_colon name ≡ false → AreOf items es → IsFresh (name_taken (entries_of es) name) ks
    → fs ≡ without_first name es → ls ≡ with_named ks (name_taken (entries_of es) name) k → NameTaken items es fs ks ls (name, k)
renamed_taken items es fs ks ls name k colon of fresh left added = record {
  of_clause = subst (AreOf items) (sym left) (left_of items name es of);
  takes = λ numbering g.
      let f : ℕ → Meaning = entry_means numbering g in
      let entries : entries_of fs ≡ without_first name (entries_of es) = ap entries_of left ∙ left_read name es in
      let there : items_mean f ls ≡ with_named (items_mean f ks) (name_taken (entries_of es) name) (of_kind f k) = ap (items_mean f) added ∙ one_more_means f ks (name_taken (entries_of es) name) k in
      let same : taking_of numbering g fs ls ≡ record { entries = without_first name (entries_of es); there = with_named (items_mean f ks) (name_taken (entries_of es) name) (of_kind f k) } = both entries there in
      subst (λ (b : Bool). TakesNamed b (taking_of numbering g es ks) (name, means numbering g k) (taking_of numbering g fs ls)) (sym colon) (kind_fresh f ks (name_taken (entries_of es) name) fresh, same);
  named = λ ts h here. subst (ItemsNamed ts) (sym added) (one_more_named ts ks (name_taken (entries_of es) name) k h here);
}
  where
    taking : Entries → Named Meaning → Taking
    taking xs l = record { entries = xs; there = l }

    both : {xs ys : Entries} {l m : Named Meaning} → xs ≡ ys → l ≡ m → taking xs l ≡ taking ys m
    both p q = cc

-- the name that a name gets is taken
pub conflicts : (numbering : Numbering) (g : Parts) (es : Renamings) (ks : Named ItemKind) (name : List ℕ) (k : ItemKind) → StandsFor ks (name_taken (entries_of es) name) k
    → StandsFor (taking_of numbering g es ks).there (name_taken (taking_of numbering g es ks).entries name) (means numbering g k)
conflicts numbering g es ks name k is = kind_stands (entry_means numbering g) ks (name_taken (entries_of es) name) k is

-- its error, by its parts
pub conflict_told : (side : ExternKind) (name from to text world named : List ℕ) (at span : Span) (help advice : Option (List ℕ)) → name ≡ text → from ≡ world → to ≡ named → at ≡ span → help ≡ advice
    → world_include_conflict side name from to at help ≡ world_include_conflict side text world named span advice
conflict_told side name from to text world named at span help advice p q r s t = cc

-- ---- names in order

-- the names so far were taken, and these are left
pub record TakenTo (items : List WorldIncludeItem) (es fs : Renamings) (ks ls all rest : Named ItemKind) : Type 0 where
  pub done : Named ItemKind
  pub split : all ≡ done ++ rest
  pub taken : NamesTaken items es fs ks ls done

pub no_names : (items : List WorldIncludeItem) (es : Renamings) (ks : Named ItemKind) → AreOf items es → NamesTaken items es es ks ks []
no_names items es ks of = record { of_clause = of; take = λ numbering g. refl; named = λ ts h i. h }

pub none_taken : (items : List WorldIncludeItem) (es : Renamings) (ks all : Named ItemKind) → AreOf items es → TakenTo items es es ks ks all all
none_taken items es ks all of = record { done = []; split = refl; taken = no_names items es ks of }

split_named : (ts : List Entry) (xs ys : Named ItemKind) → ItemsNamed ts (xs ++ ys) → ItemsNamed ts xs × ItemsNamed ts ys
split_named ts [] ys h = (tt, h)
split_named ts (x ∷ xs) ys h = let r = split_named ts xs ys h.1 in ((h.0, r.0), r.1)

append_one : (xs : Named ItemKind) (x : List ℕ × ItemKind) (ys : Named ItemKind) → xs ++ (x ∷ ys) ≡ (xs ++ x ∷ []) ++ ys
append_one [] x ys = refl
append_one (y ∷ xs) x ys = ap (λ (l : Named ItemKind). y ∷ l) (append_one xs x ys)

means_append : (f : ℕ → Meaning) (xs ys : Named ItemKind) → items_mean f (xs ++ ys) ≡ items_mean f xs ++ items_mean f ys
means_append f [] ys = refl
means_append f (x ∷ xs) ys = ap (λ (l : Named Meaning). (x.0, of_kind f x.1) ∷ l) (means_append f xs ys)

pub taken_step : (items : List WorldIncludeItem) (es fs hs : Renamings) (ks ls ms all rest left : Named ItemKind) (x : List ℕ × ItemKind) → rest ≡ x ∷ left → TakenTo items es fs ks ls all rest → NameTaken items fs hs ls ms x → TakenTo items es hs ks ms all left
taken_step items es fs hs ks ls ms all rest left x is p q = record {
  done = p.done ++ x ∷ [];
  split = p.split ∙ ap (λ (l : Named ItemKind). p.done ++ l) is ∙ append_one p.done x left;
  taken = record {
    of_clause = q.of_clause;
    take = λ numbering g.
        let f : ℕ → Meaning = entry_means numbering g in
        subst (λ (l : Named Meaning). Steps Takes (taking_of numbering g es ks) l (taking_of numbering g hs ms)) (sym (map_push (λ (e : List ℕ × ItemKind). (e.0, of_kind f e.1)) p.done x))
        (steps_more Takes (taking_of numbering g es ks) (items_mean f p.done) (x.0, of_kind f x.1) (taking_of numbering g fs ls) (taking_of numbering g hs ms) (p.taken.take numbering g) (q.takes numbering g));
    named = λ ts h i. let r = split_named ts p.done (x ∷ []) i in q.named ts (p.taken.named ts h r.0) r.1.0;
  };
}

pub all_taken : (items : List WorldIncludeItem) (es fs : Renamings) (ks ls all rest : Named ItemKind) → rest ≡ [] → TakenTo items es fs ks ls all rest → NamesTaken items es fs ks ls all
all_taken items es fs ks ls all rest is p =
    let nil : p.done ++ [] ≡ p.done = simp append-nil in
    subst (NamesTaken items es fs ks ls) (sym (p.split ∙ ap (λ (l : Named ItemKind). p.done ++ l) is ∙ nil)) p.taken

pub taken_break : (items : List WorldIncludeItem) (es fs : Renamings) (ks ls all rest left : Named ItemKind) (x : List ℕ × ItemKind) (broken : Taking → List (List ℕ × Meaning) → List ℕ × Meaning → Type 0) (numbering : Numbering) (g : Parts) → rest ≡ x ∷ left → TakenTo items es fs ks ls all rest
    → ((before : List (List ℕ × Meaning)) → broken (taking_of numbering g fs ls) before (x.0, means numbering g x.1)) → Fails Takes broken (taking_of numbering g es ks) (items_mean (entry_means numbering g) all)
taken_break items es fs ks ls all rest left x broken numbering g is p breaks =
    let f : ℕ → Meaning = entry_means numbering g in
    record {
      before = items_mean f p.done;
      failing = (x.0, of_kind f x.1);
      after = items_mean f left;
      split = ap (items_mean f) (p.split ∙ ap (λ (l : Named ItemKind). p.done ++ l) is) ∙ means_append f p.done (x ∷ left);
      reached = taking_of numbering g fs ls;
      leads = p.taken.take numbering g;
      breaks = breaks (items_mean f p.done);
    }
