-- Keys of packages are told apart by their texts.
use Rattle.wac_resolution.proofs.Common.{◌≡◌, ◌∙◌, List, ℕ, Option, Some, None, Bool, true, false, ◌&&◌, Decides, refl, ap, bytes_eq, bytes_eq-Decides, Key, same_key, same_version}
use Rattle.std.proofs.Common.{sym}
use Rattle.std.proofs.lemmas.Bool.Decides.{same_from_decides}

versions_same : (v w : Option (List ℕ)) → same_version v w ≡ true → v ≡ w
versions_same None None h = refl
versions_same None (Some w) h = absurd cc
versions_same (Some v) None h = absurd cc
versions_same (Some v) (Some w) h = ap Some ((bytes_eq-Decides v w).0 h)

version_itself : (v : Option (List ℕ)) → same_version v v ≡ true
version_itself None = refl
version_itself (Some v) = (bytes_eq-Decides v v).1 refl

both : (a b : Bool) → (a && b) ≡ true → (a ≡ true) × (b ≡ true)
both true true h = (refl, refl)
both true false h = absurd cc
both false b h = absurd cc

pub keys_same : (a b : Key) → same_key a b ≡ true → a ≡ b
keys_same a b h =
    let s = both (bytes_eq a.0 b.0) (same_version a.1 b.1) h in
    let names : a.0 ≡ b.0 = (bytes_eq-Decides a.0 b.0).0 s.0 in
    let versions : a.1 ≡ b.1 = versions_same a.1 b.1 s.1 in
    (λ i. (names i, versions i))

key_itself : (a : Key) → same_key a a ≡ true
key_itself a =
    let names : bytes_eq a.0 a.0 ≡ true = (bytes_eq-Decides a.0 a.0).1 refl in
    let versions : same_version a.1 a.1 ≡ true = version_itself a.1 in
    rw (names, versions) refl

same_by : (a b : Key) → Decides (same_key a b) (a ≡ b)
same_by a b = (keys_same a b, λ e. ap (same_key a) (sym e) ∙ key_itself a)

same_back : (a b : Key) → Decides (same_key b a) (a ≡ b)
same_back a b = (λ h. sym (keys_same b a h), λ e. ap (same_key b) e ∙ key_itself b)

pub key_sym : (a b : Key) → same_key a b ≡ same_key b a
key_sym a b = same_from_decides (same_key a b) (same_key b a) (same_by a b) (same_back a b)
