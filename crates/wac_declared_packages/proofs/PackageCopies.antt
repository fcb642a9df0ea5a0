-- Packages by their keys, as they are put into maps.
use Rattle.wac_declared_packages.proofs.Common.{◌≡◌, ◌∙◌, ◌⊎◌, List, [], ◌∷◌, Option, Some, None, Bool, true, false, cond, inl, inr, is_some, refl, sym, ap, subst, PackageParts, Key, key_of, same_key, PackageKey, keys_same, other_key, keyed_found}
use Rattle.std.specs.Map.{lookup}
use Rattle.wac_graph.specs.contracts.package_key.PackageKeyPartialEq.TheImpl as keys
use Rattle.wac_declared_packages.specs.Packages.{IsCopy}
use Rattle.wac_declared_packages.specs.Together.{AreCopiesOf, HasMentioned, IsThere, Puts, Supplies, found, under}

some_where : {X : Type 0} (b : Bool) (x : X) → is_some (cond b (Some x) None) ≡ b
some_where true x = refl
some_where false x = refl

-- a map compares its keys as the keys are compared
keys_compared : (key q : PackageKey) (parts : PackageParts) → (keys.eq-value).it key q ≡ same_key (key_of key) (key_of q)
keys_compared key q parts =
    let one : cond ((keys.eq-value).it key q) (Some parts) None ≡ cond (same_key (key_of key) (key_of q)) (Some parts) None = keyed_found key ((q, parts) ∷ []) in
    sym (some_where ((keys.eq-value).it key q) parts) ∙ ap (λ (o : Option PackageParts). is_some o) one ∙ some_where (same_key (key_of key) (key_of q)) parts

-- what was put into a map
pub puts : (key : PackageKey) (parts : PackageParts) (old new : List (PackageKey × PackageParts))
    → ((q : PackageKey) → lookup (λ k. (keys.eq-value).it q k) new ≡ cond ((keys.eq-value).it key q) (Some parts) (lookup (λ k. (keys.eq-value).it q k) old))
    → Puts (key_of key) parts old new
puts key parts old new updates = λ q. sym (keyed_found q new) ∙ updates q ∙ (λ i. cond (keys_compared key q parts i) (Some parts) (keyed_found q old i))

-- nothing is copied yet
pub copies_none : (made copies : List (PackageKey × PackageParts)) → copies ≡ [] → AreCopiesOf made copies
copies_none made copies is = subst (AreCopiesOf made) (sym is) (λ key copy there. absurd (cc))

copies_at : (made old : List (PackageKey × PackageParts)) (key : PackageKey) (parts copy : PackageParts) (q : PackageKey) (other : PackageParts) (b : Bool)
    → same_key (key_of key) (key_of q) ≡ b → AreCopiesOf made old → found key made ≡ Some parts → IsCopy parts copy
    → cond b (Some copy) (found q old) ≡ Some other → (first : PackageParts) × (found q made ≡ Some first) × IsCopy first other
copies_at made old key parts copy q other true same all there one is =
    let names : key_of key ≡ key_of q = keys_same (key_of key) (key_of q) same in
    let copies : copy ≡ other = cc in
    (parts, subst (λ (k : Key). under k made ≡ Some parts) names there, subst (IsCopy parts) copies one)
copies_at made old key parts copy q other false same all there one is = all q other is

-- one copy more
pub copies_more : (made old new : List (PackageKey × PackageParts)) (key put_key : PackageKey) (parts copy : PackageParts)
    → AreCopiesOf made old → found key made ≡ Some parts → IsCopy parts copy → key_of put_key ≡ key_of key → Puts (key_of put_key) copy old new → AreCopiesOf made new
copies_more made old new key put_key parts copy all there one names put = λ q other is.
    let puts_here : found q new ≡ cond (same_key (key_of key) (key_of q)) (Some copy) (found q old) = put q ∙ ap (λ (k : Key). cond (same_key k (key_of q)) (Some copy) (found q old)) names in
    copies_at made old key parts copy q other (same_key (key_of key) (key_of q)) refl all there one (sym puts_here ∙ is)

-- ---- what is mentioned

still_there : (old : List (PackageKey × PackageParts)) (copy : PackageParts) (q : PackageKey) (b : Bool) → IsThere q old → is_some (cond b (Some copy) (found q old)) ≡ true
still_there old copy q true there = refl
still_there old copy q false there = there

now_there : (old : List (PackageKey × PackageParts)) (key : Key) (copy : PackageParts) (q : PackageKey) (b : Bool) → same_key key (key_of q) ≡ b → key ≡ key_of q
    → is_some (cond b (Some copy) (found q old)) ≡ true
now_there old key copy q true same names = refl
now_there old key copy q false same names = absurd (other_key key (key_of q) same (sym names))

-- a copy was put under the key
pub supplies_copy : (packages old new : List (PackageKey × PackageParts)) (key put_key : PackageKey) (copy : PackageParts) → key_of put_key ≡ key_of key → Puts (key_of put_key) copy old new
    → Supplies key packages old new
supplies_copy packages old new key put_key copy names put = λ q. (
  (λ there. ap (λ (o : Option PackageParts). is_some o) (put q) ∙ still_there old copy q (same_key (key_of put_key) (key_of q)) there),
  (λ same there. ap (λ (o : Option PackageParts). is_some o) (put q) ∙ now_there old (key_of put_key) copy q (same_key (key_of put_key) (key_of q)) refl (names ∙ same)),
)

-- there is no package of the key
pub supplies_none : (packages old : List (PackageKey × PackageParts)) (key : PackageKey) → None ≡ found key packages → Supplies key packages old old
supplies_none packages old key none = λ q. (
  (λ there. there),
  (λ same there. let no : None ≡ found q packages = none ∙ ap (λ (k : Key). under k packages) same in absurd (cc)),
)

-- what was supplied so far, where this is left of what is mentioned
pub record Supplying {X : Type 0} (mentioned rest : List (PackageKey × X)) (packages copies : List (PackageKey × PackageParts)) : Type 0 where
  pub are_copies : AreCopiesOf packages copies
  pub pending : (q : PackageKey) → IsThere q mentioned → IsThere q packages → IsThere q copies ⊎ IsThere q rest

pub supplying_first : {X : Type 0} (mentioned : List (PackageKey × X)) (packages copies : List (PackageKey × PackageParts)) → copies ≡ [] → Supplying mentioned mentioned packages copies
supplying_first mentioned packages copies is = record { are_copies = copies_none packages copies is; pending = λ q named there. inr named }

pub supplying_next : {X : Type 0} (mentioned rest : List (PackageKey × X)) (key : PackageKey) (x : X) (packages old new : List (PackageKey × PackageParts)) → Supplying mentioned ((key, x) ∷ rest) packages old
    → AreCopiesOf packages new → Supplies key packages old new → Supplying mentioned rest packages new
supplying_next {X} mentioned rest key x packages old new so_far copies more = record { are_copies = copies; pending = λ q named there. go q there (so_far.pending q named there) (same_key (key_of q) (key_of key)) refl }
  where
    go : (q : PackageKey) → IsThere q packages → IsThere q old ⊎ IsThere q ((key, x) ∷ rest) → (b : Bool) → same_key (key_of q) (key_of key) ≡ b → IsThere q new ⊎ IsThere q rest
    go q there (inl had) b same = inl ((more q).0 had)
    go q there (inr later) true same = inl ((more q).1 (sym (keys_same (key_of q) (key_of key) same)) there)
    go q there (inr later) false same = inr (ap (λ (b : Bool). is_some (cond b (Some x) (found q rest))) (sym same) ∙ later)

pub supplying_last : {X : Type 0} (mentioned rest : List (PackageKey × X)) (packages copies : List (PackageKey × PackageParts)) → rest ≡ [] → Supplying mentioned rest packages copies
    → HasMentioned mentioned packages copies
supplying_last {X} mentioned rest packages copies is so_far = λ q named there. go q (so_far.pending q named there)
  where
    go : (q : PackageKey) → IsThere q copies ⊎ IsThere q rest → IsThere q copies
    go q (inl had) = had
    go q (inr later) = (let none : is_some (found q rest) ≡ is_some (found {X = X} q []) = ap (λ (l : List (PackageKey × X)). is_some (found q l)) is in absurd (cc))
