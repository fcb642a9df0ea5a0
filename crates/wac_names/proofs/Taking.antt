-- Steps that are taken, part after part.
use Rattle.std.proofs.Common.{◌≡◌, ◌∙◌, ℕ, ◌+◌, ◌<◌, ◌≤◌, List, [], ◌∷◌, ◌++◌, flat_map, map, take, length, get_or, sym, ap, subst, append-nil, append_assoc}
use Rattle.std.proofs.lemmas.List.{map-append, take_all, take_more}
use Rattle.std.proofs.lemmas.List.Concat.{flat_map-append}
use Rattle.wac_names.specs.Steps.{Step}
use Rattle.wac_names.specs.Traced.{Takes}

-- no step is taken
pub none : (old : List Step) → Takes old old []
none old = record { is = sym (append-nil old) }

pub same : (old new : List Step) → new ≡ old → Takes old new []
same old new e = record { is = e ∙ sym (append-nil old) }

-- a part after another
pub then : (old mid new p q : List Step) → Takes old mid p → Takes mid new q → Takes old new (p ++ q)
then old mid new p q h k = record { is = k.is ∙ ap (λ l. l ++ q) h.is ∙ append_assoc old p q }

-- ---- elements of a list, in order

flat_more : {X Y : Type 0} (g : X → Y) (f : Y → List Step) (xs : List X) (i : ℕ) (x : X) → i < length xs → x ≡ get_or xs i x
    → flat_map f (map g (take (i + 1) xs)) ≡ flat_map f (map g (take i xs)) ++ f (g x)
flat_more g f xs i x h e =
    ap (λ l. flat_map f (map g l)) (take_more xs i x h ∙ ap (λ y. take i xs ++ y ∷ []) (sym e)) ∙ ap (flat_map f) (map-append g (take i xs) (x ∷ [])) ∙ flat_map-append f (map g (take i xs)) (g x ∷ []) ∙ ap (λ l. flat_map f (map g (take i xs)) ++ l) (append-nil (f (g x)))

pub next : {X Y : Type 0} (g : X → Y) (f : Y → List Step) (xs : List X) (i : ℕ) (x : X) (old mid new : List Step) → i < length xs → x ≡ get_or xs i x
    → Takes old mid (flat_map f (map g (take i xs))) → Takes mid new (f (g x)) → Takes old new (flat_map f (map g (take (i + 1) xs)))
next g f xs i x old mid new h e p q =
    subst (Takes old new) (sym (flat_more g f xs i x h e)) (then old mid new (flat_map f (map g (take i xs))) (f (g x)) p q)

pub all : {X Y : Type 0} (g : X → Y) (f : Y → List Step) (xs : List X) (i : ℕ) (old new : List Step) → length xs ≤ i
    → Takes old new (flat_map f (map g (take i xs))) → Takes old new (flat_map f (map g xs))
all g f xs i old new h p = subst (λ l. Takes old new (flat_map f (map g l))) (take_all i xs h) p
