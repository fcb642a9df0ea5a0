-- What is found among the names of scopes.
use Rattle.std.proofs.Common.{◌≡◌, ◌∙◌, ℕ, List, [], ◌∷◌, ◌++◌, Option, Some, None, is_none, Bool, true, false, cond, refl, sym, ap, map}
use Rattle.std.specs.Borrow.{Bor}
use Rattle.std.specs.Map.{lookup}
use Rattle.std.specs.Str.{bytes_eq}
use Rattle.indexmap.specs.IndexMap.{insert_entry}
use Rattle.wac_lexer.specs.Span.{Span}
use Rattle.wac_graph_types.specs.Scope.{Named, look_up, with_named}
use Rattle.wac_names.specs.LookUps.{with_first}

-- a map's texts and values, in its order
abbrev pub by_text : {X : Type 0} → List (Bor (List ℕ) × X) → Named X
by_text es = map (λ e. (e.0.now, e.1)) es

-- what a map has under a text is found by the text
pub text_found : {X : Type 0} (name : List ℕ) (es : List (Bor (List ℕ) × X)) → lookup (λ k. bytes_eq name k.now) es ≡ look_up name (by_text es)
text_found name [] = refl
text_found {X} name (e ∷ es) = ap (cond (bytes_eq name e.0.now) (Some e.1)) (text_found name es)

abbrev same_text : Bor (List ℕ) → Bor (List ℕ) → Bool
same_text a b = bytes_eq a.now b.now

-- a new text goes last
text_last : {X : Type 0} (k : Bor (List ℕ)) (x : X) (es : List (Bor (List ℕ) × X)) → look_up k.now (by_text es) ≡ None → by_text (insert_entry same_text es k x) ≡ with_named (by_text es) k.now x
text_last k x [] new = refl
text_last {X} k x (e ∷ es) new = go (text_last k x es) (bytes_eq k.now e.0.now) new
  where
    go : (look_up k.now (by_text es) ≡ None → by_text (insert_entry same_text es k x) ≡ with_named (by_text es) k.now x)
        → (b : Bool) → cond b (Some e.1) (look_up k.now (by_text es)) ≡ None
        → by_text (cond b ((e.0, x) ∷ es) (e ∷ insert_entry same_text es k x)) ≡ with_named (by_text (e ∷ es)) k.now x
    go later true h = absurd (cc)
    go later false h = ap (λ (l : Named X). (e.0.now, e.1) ∷ l) (later h)

-- one that is bound stays
pub stays : {X : Type 0} (names : Named X) (name : List ℕ) (x : X) (r : Option X) → r ≡ look_up name names → is_none r ≡ false → names ≡ with_first names name x
stays {X} names name x r is h = go (look_up name names) (ap is_none (sym is) ∙ h)
  where
    go : (o : Option X) → is_none o ≡ false → names ≡ elim o [ None ↦ with_named names name x | Some first ↦ names ]
    go None k = absurd cc
    go (Some s) k = refl

fresh : {X : Type 0} (names : Named X) (name : List ℕ) (x : X) → look_up name names ≡ None → with_first names name x ≡ with_named names name x
fresh {X} names name x h = ap (λ (o : Option X). elim o [ None ↦ with_named names name x | Some first ↦ names ]) h

nothing_there : {X : Type 0} (r : Option X) → is_none r ≡ true → r ≡ None
nothing_there None h = refl
nothing_there (Some s) h = absurd cc

pub added : {X : Type 0} (k : Bor (List ℕ)) (x : X) (es news : List (Bor (List ℕ) × X)) (names : Named X) (r : Option X) → names ≡ by_text es → r ≡ look_up k.now names → is_none r ≡ true
    → news ≡ insert_entry same_text es k x → by_text news ≡ with_first names k.now x
added {X} k x es news names r is found h inserts =
    let absent : look_up k.now names ≡ None = sym found ∙ nothing_there r h in
    ap by_text inserts ∙ text_last k x es (ap (look_up k.now) (sym is) ∙ absent) ∙ ap (λ (l : Named X). with_named l k.now x) (sym is) ∙ sym (fresh names k.now x absent)

-- among two lists of names a name is found in the first, else in the second
pub found_first : (name : List ℕ) (a b : Named Span) (s : Span) → look_up name a ≡ Some s → look_up name (a ++ b) ≡ Some s
found_first name [] b s h = absurd cc
found_first name (e ∷ a) b s h = go (found_first name a b s) (bytes_eq name e.0) h
  where
    go : (look_up name a ≡ Some s → look_up name (a ++ b) ≡ Some s) → (c : Bool) → cond c (Some e.1) (look_up name a) ≡ Some s → cond c (Some e.1) (look_up name (a ++ b)) ≡ Some s
    go later true k = k
    go later false k = later k

pub found_second : (name : List ℕ) (a b : Named Span) → look_up name a ≡ None → look_up name (a ++ b) ≡ look_up name b
found_second name [] b h = refl
found_second name (e ∷ a) b h = go (found_second name a b) (bytes_eq name e.0) h
  where
    go : (look_up name a ≡ None → look_up name (a ++ b) ≡ look_up name b) → (c : Bool) → cond c (Some e.1) (look_up name a) ≡ None → cond c (Some e.1) (look_up name (a ++ b)) ≡ look_up name b
    go later true k = absurd cc
    go later false k = later k
