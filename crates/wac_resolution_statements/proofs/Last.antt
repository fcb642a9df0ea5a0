-- The last of a name.
use Rattle.wac_resolution_statements.proofs.Common.{◌≡◌, ◌∙◌, ℕ, List, [], ◌∷◌, ◌++◌, Option, Some, None, Bool, true, false, cond, refl, sym, ap, reverse, filter_map, flat_map, option_map, option_and_then, slice_get, cons_option, option_or, bytes_eq, reverse-append, ItemKind, InterfaceId, Entry, UsedType, by_name, as_world, Named, look_up, written_id}
use Rattle.std.proofs.lemmas.List.Elements.{filter_map-append}
use Rattle.wac_graph_types.specs.declared.entry.World.{World}
use Rattle.wac_resolution_statements.specs.Used.{interfaces_in, import_uses, used_in, with_id, has_id, last_of}

pub or_assoc : {X : Type 0} (a b c : Option X) → option_or a (option_or b c) ≡ option_or (option_or a b) c
or_assoc None b c = refl
or_assoc (Some x) b c = refl

pub look_up_append : {X : Type 0} (name : List ℕ) (xs ys : Named X) → look_up name (xs ++ ys) ≡ option_or (look_up name xs) (look_up name ys)
look_up_append name [] ys = refl
look_up_append {X} name (a ∷ xs) ys = go (bytes_eq name a.0) (look_up_append name xs ys)
  where
    go : (b : Bool) → look_up name (xs ++ ys) ≡ option_or (look_up name xs) (look_up name ys) → cond b (Some a.1) (look_up name (xs ++ ys)) ≡ option_or (cond b (Some a.1) (look_up name xs)) (look_up name ys)
    go true later = refl
    go false later = later

-- the last among what is read of each
abbrev pub last_in : {X Y : Type 0} → (X → Option (List ℕ × Y)) → List ℕ → List X → Option Y
last_in read name all = look_up name (reverse (filter_map read all))

-- the last of two lists is that of the second, else that of the first
pub last_append : {X Y : Type 0} (read : X → Option (List ℕ × Y)) (name : List ℕ) (xs ys : List X) → last_in read name (xs ++ ys) ≡ option_or (last_in read name ys) (last_in read name xs)
last_append read name xs ys =
    ap (λ l. look_up name (reverse l)) (filter_map-append read xs ys) ∙ ap (look_up name) (reverse-append (filter_map read xs) (filter_map read ys))
    ∙ look_up_append name (reverse (filter_map read ys)) (reverse (filter_map read xs))

pub last_cons : {X Y : Type 0} (read : X → Option (List ℕ × Y)) (name : List ℕ) (a : X) (ys : List X) → last_in read name (a ∷ ys) ≡ option_or (last_in read name ys) (last_in read name (a ∷ []))
last_cons read name a ys = last_append read name (a ∷ []) ys

or_none : {X : Type 0} (a : Option X) → option_or a None ≡ a
or_none None = refl
or_none (Some x) = refl

-- the last of what a world uses, and after it of what its imports use
pub world_last : (es : List Entry) (n : ℕ) (id : List ℕ) (w : World) (a b : Option InterfaceId) → Some w ≡ option_and_then as_world (slice_get es n)
    → a ≡ option_or (last_of es id (interfaces_in (by_name w.uses.entries))) None → b ≡ option_or (last_of es id (flat_map (λ e. import_uses es e.1) (by_name w.imports.entries))) a → b ≡ last_of es id (used_in es n)
world_last es n id w a b is first second =
    let imports : List InterfaceId = flat_map (λ (e : List ℕ × ItemKind). import_uses es e.1) (by_name w.imports.entries) in
    second ∙ ap (option_or (last_of es id imports)) (first ∙ or_none (last_of es id (interfaces_in (by_name w.uses.entries))))
    ∙ sym (last_append (with_id es) id (interfaces_in (by_name w.uses.entries)) imports)
    ∙ go (option_and_then as_world (slice_get es n)) is
  where
    go : (o : Option World) → Some w ≡ o → last_of es id (interfaces_in (by_name w.uses.entries) ++ flat_map (λ (e : List ℕ × ItemKind). import_uses es e.1) (by_name w.imports.entries))
        ≡ last_of es id (interfaces_in (elim o as (λ _. Named UsedType) [ None ↦ [] | Some x ↦ by_name x.uses.entries ]) ++ flat_map (λ (e : List ℕ × ItemKind). import_uses es e.1) (elim o as (λ _. Named ItemKind) [ None ↦ [] | Some x ↦ by_name x.imports.entries ]))
    go None h = absurd (cc)
    go (Some x) h =
        let same : w ≡ x = cc in
        ap (λ (y : World). last_of es id (interfaces_in (by_name y.uses.entries) ++ flat_map (λ (e : List ℕ × ItemKind). import_uses es e.1) (by_name y.imports.entries))) same

-- ---- the loops

-- the last of those that are left, after the last so far, is the last of all
abbrev pub Looking : {X : Type 0} → (X → List InterfaceId) → List Entry → List ℕ → List X → Option InterfaceId → List X → Option InterfaceId → Type 0
Looking ids es id all before rest last = option_or (last_of es id (flat_map ids rest)) last ≡ option_or (last_of es id (flat_map ids all)) before

pub look_further : {X : Type 0} (ids : X → List InterfaceId) (es : List Entry) (id : List ℕ) (all : List X) (before : Option InterfaceId) (rest left : List X) (x : X) (last new : Option InterfaceId)
    → rest ≡ x ∷ left → new ≡ option_or (last_of es id (ids x)) last → Looking ids es id all before rest last → Looking ids es id all before left new
look_further ids es id all before rest left x last new is found h =
    ap (option_or (last_of es id (flat_map ids left))) found
    ∙ or_assoc (last_of es id (flat_map ids left)) (last_of es id (ids x)) last
    ∙ ap (λ o. option_or o last) (sym (last_append (with_id es) id (ids x) (flat_map ids left)))
    ∙ ap (λ l. option_or (last_of es id (flat_map ids l)) last) (sym is)
    ∙ h

pub looked : {X : Type 0} (ids : X → List InterfaceId) (es : List Entry) (id : List ℕ) (all : List X) (before : Option InterfaceId) (rest : List X) (last : Option InterfaceId)
    → rest ≡ [] → Looking ids es id all before rest last → last ≡ option_or (last_of es id (flat_map ids all)) before
looked ids es id all before rest last is h = ap (λ l. option_or (last_of es id (flat_map ids l)) last) (sym is) ∙ h

abbrev pub of_import : List Entry → List ℕ × ItemKind → List InterfaceId
of_import es e = import_uses es e.1

-- each use is one interface
abbrev pub interface_in : List ℕ × UsedType → List InterfaceId
interface_in u = u.1.interface ∷ []

pub each_interface : (uses : Named UsedType) → flat_map interface_in uses ≡ interfaces_in uses
each_interface [] = refl
each_interface (u ∷ uses) = ap (λ (l : List InterfaceId). u.1.interface ∷ l) (each_interface uses)

-- the last of one
pub last_one : (es : List Entry) (id : List ℕ) (i : InterfaceId) → last_of es id (i ∷ []) ≡ cond (has_id es id i) (Some i) None
last_one es id i = go (written_id es i.0)
  where
    go : (o : Option (List ℕ)) → look_up id (reverse (cons_option (option_map {U = List ℕ × InterfaceId} (λ x. (x, i)) o) [])) ≡ cond (elim o as (λ _. Bool) [ None ↦ false | Some other ↦ bytes_eq id other ]) (Some i) None
    go None = refl
    go (Some other) = refl

pub one_found : (es : List Entry) (id : List ℕ) (i : InterfaceId) (last : Option InterfaceId) → has_id es id i ≡ true → Some i ≡ option_or (last_of es id (i ∷ [])) last
one_found es id i last is = sym (ap (λ o. option_or o last) (last_one es id i ∙ ap (λ (b : Bool). cond b (Some i) None) is))

pub one_other : (es : List Entry) (id : List ℕ) (i : InterfaceId) (last : Option InterfaceId) → has_id es id i ≡ false → last ≡ option_or (last_of es id (i ∷ [])) last
one_other es id i last is = sym (ap (λ o. option_or o last) (last_one es id i ∙ ap (λ (b : Bool). cond b (Some i) None) is))

pub ruleset ones_found = (one_found, one_other)
