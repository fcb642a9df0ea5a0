-- The entries of a `with` clause, read in order.
use Rattle.wac_resolution_worlds.proofs.Common.{◌≡◌, ◌∙◌, ◌+◌, ◌<◌, ℕ, List, [], ◌∷◌, ◌++◌, Some, None, Bool, true, false, cond, refl, sym, ap, subst, map, take, length, get_or, Bor, option_map, bytes_eq, take_more, map_push, WorldIncludeItem, Named, look_up, IsFresh, with_named, Steps, Fails, world_include_item_of, Entries, HasEntry, entry_named, steps_on_map, fails_at_map}
use Rattle.std.specs.List.{AllByRecursion}
use Rattle.wac_lexer.proofs.Texts.{bytes_eq_same}
use Rattle.wac_ast_uses.specs.declared.includes.WorldIncludeItem.{WorldIncludeItem as CodeWorldIncludeItem}
use Rattle.wac_resolution_worlds.specs.Entries.{Renamings, entries_of, AreOf, AreAll}
use Rattle.wac_resolution_worlds.proofs.Found.{new_name, entry_found}

-- ---- without where the items lie in memory

abbrev Items : Type 0
Items = Named CodeWorldIncludeItem

abbrev pub after : Renamings → Items
after all = map (λ e. (e.0, e.1.now)) all

abbrev new_text : CodeWorldIncludeItem → List ℕ
new_text x = x.to.string.now

abbrev texts : Items → Entries
texts all = map (λ e. (e.0, new_text e.1)) all

texts_after : (all : Renamings) → entries_of all ≡ texts (after all)
texts_after [] = refl
texts_after (e ∷ all) = ap (λ (l : Entries). (e.0, new_text e.1.now) ∷ l) (texts_after all)

abbrev ItemsOf : List WorldIncludeItem → Items → Type 0
ItemsOf items all = AllByRecursion (λ e. entry_named e.0 items ≡ Some (world_include_item_of e.1)) all

of_after : (items : List WorldIncludeItem) (all : Renamings) → ItemsOf items (after all) → AreOf items all
of_after items [] h = tt
of_after items (e ∷ all) h = (h.0, of_after items all h.1)

-- an item of a clause, by the name that it renames
abbrev pub renaming : CodeWorldIncludeItem → List ℕ × CodeWorldIncludeItem
renaming x = (x.from.string.now, x)

abbrev trees : List CodeWorldIncludeItem → List WorldIncludeItem
trees xs = map world_include_item_of xs

-- ---- one more

-- the entries so far
pub record AreRead (xs : List CodeWorldIncludeItem) (i : ℕ) (all : Renamings) : Type 0 where
  pub steps : Steps HasEntry [] (take i (map world_include_item_of xs)) (entries_of all)
  pub are : after all ≡ map renaming (take i xs)

fresh_entry : (name : List ℕ) (all : Renamings) → IsFresh name all → IsFresh name (entries_of all)
fresh_entry name all is = entry_found name all ∙ ap (option_map new_name) is

one_read : (all new : Renamings) (x : Bor CodeWorldIncludeItem) → IsFresh x.now.from.string.now all → new ≡ with_named all x.now.from.string.now x → HasEntry (entries_of all) (world_include_item_of x.now) (entries_of new)
one_read all new x fresh is = (fresh_entry x.now.from.string.now all fresh, ap entries_of is ∙ map_push (λ (e : List ℕ × Bor CodeWorldIncludeItem). (e.0, new_name e.1)) all (x.now.from.string.now, x))

pub second_entry : (all : Renamings) (name : List ℕ) (x : Bor CodeWorldIncludeItem) → look_up name all ≡ Some x → look_up name (entries_of all) ≡ Some (new_name x)
second_entry all name x is = entry_found name all ∙ ap (option_map new_name) is

pub none_read : (xs : List CodeWorldIncludeItem) (all : Renamings) → all ≡ [] → AreRead xs 0 all
none_read xs all is = record { steps = ap entries_of is; are = ap after is }

pub read_step : (xs : List CodeWorldIncludeItem) (i : ℕ) (x : Bor CodeWorldIncludeItem) (all new : Renamings) → i < length xs → x.now ≡ get_or xs i x.now → IsFresh x.now.from.string.now all → new ≡ with_named all x.now.from.string.now x → AreRead xs i all → AreRead xs (i + 1) new
read_step xs i x all new within at fresh added h = record {
  steps = steps_on_map HasEntry world_include_item_of [] xs i x.now (entries_of all) (entries_of new) within h.steps (subst (λ (y : CodeWorldIncludeItem). HasEntry (entries_of all) (world_include_item_of y) (entries_of new)) at (one_read all new x fresh added));
  are =
      ap after added ∙ map_push (λ (e : List ℕ × Bor CodeWorldIncludeItem). (e.0, e.1.now)) all (x.now.from.string.now, x)
      ∙ ap (λ (l : Items). with_named l x.now.from.string.now x.now) h.are
      ∙ sym (ap (map renaming) (take_more xs i x.now within ∙ ap (λ (y : CodeWorldIncludeItem). take i xs ++ y ∷ []) (sym at)) ∙ map_push renaming (take i xs) x.now);
}

pub read_break : (xs : List CodeWorldIncludeItem) (i : ℕ) (x : CodeWorldIncludeItem) (all : Renamings) (broken : Entries → List WorldIncludeItem → WorldIncludeItem → Type 0) → i < length xs → x ≡ get_or xs i x
    → ((before : List WorldIncludeItem) → broken (entries_of all) before (world_include_item_of x)) → AreRead xs i all → Fails HasEntry broken [] (map world_include_item_of xs)
read_break xs i x all broken within at breaks h =
    let before : List WorldIncludeItem = take i (map world_include_item_of xs) in
    fails_at_map HasEntry broken world_include_item_of [] xs i x (entries_of all) within h.steps (subst (λ (y : CodeWorldIncludeItem). broken (entries_of all) before (world_include_item_of y)) at (breaks before))

-- ---- each is the clause's entry of its name

-- a name that is none of the entries' before it
skipped : (name : List ℕ) (before : List CodeWorldIncludeItem) (rest : List WorldIncludeItem) → IsFresh name (texts (map renaming before)) → entry_named name (trees before ++ rest) ≡ entry_named name rest
skipped name [] rest h = refl
skipped name (x ∷ before) rest h = go (skipped name before rest) (bytes_eq name x.from.string.now) h
  where
    go : (IsFresh name (texts (map renaming before)) → entry_named name (trees before ++ rest) ≡ entry_named name rest) → (b : Bool)
        → cond b (Some (new_text x)) (look_up name (texts (map renaming before))) ≡ None → cond b (Some (world_include_item_of x)) (entry_named name (trees before ++ rest)) ≡ entry_named name rest
    go later true f = absurd (cc)
    go later false f = later f

found_first : (x : CodeWorldIncludeItem) (rest : List WorldIncludeItem) → entry_named x.from.string.now (world_include_item_of x ∷ rest) ≡ Some (world_include_item_of x)
found_first x rest = ap (λ (b : Bool). cond b (Some (world_include_item_of x)) (entry_named x.from.string.now rest)) (bytes_eq_same x.from.string.now)

append_one : (xs : List WorldIncludeItem) (a : WorldIncludeItem) (ys : List WorldIncludeItem) → (xs ++ a ∷ []) ++ ys ≡ xs ++ (a ∷ ys)
append_one [] a ys = refl
append_one (x ∷ xs) a ys = ap (λ (l : List WorldIncludeItem). x ∷ l) (append_one xs a ys)

each_of : (before rest : List CodeWorldIncludeItem) (new : Entries) → Steps HasEntry (texts (map renaming before)) (trees rest) new → ItemsOf (trees before ++ trees rest) (map renaming rest)
each_of before [] new p = tt
each_of before (x ∷ rest) new p =
    let there : List CodeWorldIncludeItem = before ++ x ∷ [] in
    let more : texts (map renaming there) ≡ with_named (texts (map renaming before)) x.from.string.now (new_text x)
    = ap texts (map_push renaming before x) ∙ map_push (λ (e : List ℕ × CodeWorldIncludeItem). (e.0, new_text e.1)) (map renaming before) (renaming x) in
    let all : trees there ++ trees rest ≡ trees before ++ (world_include_item_of x ∷ trees rest)
    = ap (λ (l : List WorldIncludeItem). l ++ trees rest) (map_push world_include_item_of before x) ∙ append_one (trees before) (world_include_item_of x) (trees rest) in (
      skipped x.from.string.now before (world_include_item_of x ∷ trees rest) p.1.0 ∙ found_first x (trees rest),
      subst (λ (l : List WorldIncludeItem). ItemsOf l (map renaming rest)) all
          (each_of there rest new (subst (λ (m : Entries). Steps HasEntry m (trees rest) new) (p.1.1 ∙ sym more) p.2)),
    )

pub all_read : (xs : List CodeWorldIncludeItem) (i : ℕ) (all : Renamings) → take i (map world_include_item_of xs) ≡ map world_include_item_of xs → take i xs ≡ xs → AreRead xs i all → AreAll (map world_include_item_of xs) all
all_read xs i all whole_trees whole h =
    let steps : Steps HasEntry [] (map world_include_item_of xs) (entries_of all) = subst (λ (l : List WorldIncludeItem). Steps HasEntry [] l (entries_of all)) whole_trees h.steps in
    let are : after all ≡ map renaming xs = h.are ∙ ap (map renaming) whole in
    record { once = steps; of_clause = of_after (map world_include_item_of xs) all (subst (ItemsOf (map world_include_item_of xs)) (sym are) (each_of [] xs (entries_of all) steps)) }
