-- What a kind means, with no table.
use Rattle.std.specs.Prelude.{◌≡◌, ◌≢◌, ℕ, suc, ◌<◌, Option, Some, None, IfSome, List, [], ◌∷◌, ◌++◌, length, slice_get, slice_index_or}
use Rattle.std.specs.List.{AllByRecursion}
use Rattle.wac_graph_types.specs.declared.kind.ItemKind.{ItemKind}
use Rattle.wac_graph_types.specs.declared.entry.Entry.{Entry}
use Rattle.wac_graph_types.specs.declared.entry.Entry.TheVariants as entries
use Rattle.wac_graph_types.specs.Kind.{form, named_by}
use Rattle.wac_graph_types.specs.Entry.{Slot, only, children, label}
use Rattle.wac_graph_types.specs.Label.{Label, plain, kind, absent, dangling}

-- a label over meanings, each in its slot
mutual
  pub data Meaning : Type 0 where
    node : Label → Row → Meaning
    deriving Discrete as Meaning-discrete

  pub data Row : Type 0 where
    done : Row
    more : Slot → Meaning → Row → Row
    deriving Discrete as Row-discrete

-- the meaning of the entry of that number
abbrev pub look : List Meaning → ℕ → Meaning
look ms n = slice_index_or ms n (node (plain dangling) done)

abbrev pub named : (ℕ → Meaning) → Option ℕ → Row
named f None = done
named f (Some n) = more only (f n) done

abbrev pub of_kind : (ℕ → Meaning) → ItemKind → Meaning
of_kind f k = node (plain (kind (form k))) (named f (named_by k))

abbrev pub of_child : (ℕ → Meaning) → Option ItemKind → Meaning
of_child f None = node (plain absent) done
of_child f (Some k) = of_kind f k

abbrev pub row : (ℕ → Meaning) → List (Slot × Option ItemKind) → Row
row f [] = done
row f (c ∷ cs) = more c.0 (of_child f c.1) (row f cs)

-- an entry, over the meanings of the entries before it
abbrev pub over : (ℕ → ℕ) → List Meaning → Entry → Meaning
over origins ms e = node (label (origins (length ms)) e) (row (look ms) (children e))

-- the meanings of the entries, each over those before it
abbrev pub meanings_from : (ℕ → ℕ) → List Meaning → List Entry → List Meaning
meanings_from origins ms [] = ms
meanings_from origins ms (e ∷ es) = meanings_from origins (ms ++ over origins ms e ∷ []) es

unfoldable pub meaning_at : (ℕ → ℕ) → List Entry → ℕ → Meaning
meaning_at origins es n = look (meanings_from origins [] es) n

-- what a kind means under a table and the origins of its resources
abbrev pub meaning : (ℕ → ℕ) → List Entry → ItemKind → Meaning
meaning origins es k = of_kind (meaning_at origins es) k

abbrev pub IsInjective : (ℕ → ℕ) → Type 0
IsInjective f = (i j : ℕ) → f i ≡ f j → i ≡ j

abbrev pub IsResource : Entry → Type 0
IsResource (entries.Resource r) = Unit {0}
IsResource _ = ⊥

-- no two resources of the table have one origin
abbrev pub IsOneToOne : List Entry → (ℕ → ℕ) → Type 0
IsOneToOne es origins = (i j : ℕ) (d e : Entry) → slice_get es i ≡ Some d → slice_get es j ≡ Some e → IsResource d → IsResource e → origins i ≡ origins j → i ≡ j

-- this holds of what the table's entries mean, whichever origins distinguish its resources
abbrev pub UnderOrigins : List Entry → ((ℕ → Meaning) → Type 0) → Type 0
UnderOrigins es P = (origins : ℕ → ℕ) → IsOneToOne es origins → P (meaning_at origins es)

-- of two entries that are both resources the origins differ
abbrev pub Apart : ℕ → ℕ → Entry → Entry → Type 0
Apart p q d e = IsResource d → IsResource e → p ≢ q

-- a kind names an entry before this number, if any
abbrev pub NamesBefore : ℕ → ItemKind → Type 0
NamesBefore n k = IfSome (named_by k) (λ i. i < n)

-- each element, with its number; the first has number n
abbrev pub EachFrom : {X : Type 0} → (ℕ → X → Type 0) → ℕ → List X → Type 0
EachFrom P n [] = Unit {0}
EachFrom P n (x ∷ xs) = P n x × EachFrom P (suc n) xs

-- each kind among these
abbrev pub EachKind : (ItemKind → Type 0) → List (Slot × Option ItemKind) → Type 0
EachKind P cs = AllByRecursion (λ c. IfSome c.1 P) cs

abbrev pub ChildrenBefore : ℕ → List (Slot × Option ItemKind) → Type 0
ChildrenBefore n cs = EachKind (NamesBefore n) cs

-- each entry names earlier ones; the first of them has number n
abbrev pub EarlierFrom : ℕ → List Entry → Type 0
EarlierFrom n es = EachFrom (λ m e. ChildrenBefore m (children e)) n es

abbrev pub IsEarlier : List Entry → Type 0
IsEarlier es = EarlierFrom 0 es

-- two entries mean the same, whatever the origins are
abbrev pub Alike : List Entry → ℕ → ℕ → Type 0
Alike es i j = UnderOrigins es (λ means. means i ≡ means j)
