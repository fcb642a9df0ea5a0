-- Keys are distinguished by their texts, and aliases by number and text.
use Rattle.wac_graph.proofs.Common.{◌≡◌, ◌∙◌, ℕ, List, Option, Some, None, Bool, true, false, ◌&&◌, refl, sym, ap, arith, nat_eq, IsTrue, ◌↔◌, bytes_eq, bytes_eq-Decides, nat_tests}
use Rattle.wac_graph.specs.Package.{Key, same_key, same_version}
use Rattle.wac_graph.specs.Node.{alias, is_alias_of}

text_itself : (t : List ℕ) → bytes_eq t t ≡ true
text_itself t = (bytes_eq-Decides t t).1 refl

number_itself : (n : ℕ) → nat_eq n n ≡ true
number_itself n = grind (arith, nat_tests)

-- an alias is the alias of its export
pub itself : (node : ℕ) (export : List ℕ) → is_alias_of node export (alias node export) ≡ true
itself node export = rw (number_itself node, text_itself export) refl

version_itself : (v : Option (List ℕ)) → same_version v v ≡ true
version_itself None = refl
version_itself (Some v) = text_itself v

versions_same : (v w : Option (List ℕ)) → same_version v w ≡ true → v ≡ w
versions_same None None h = refl
versions_same None (Some w) h = absurd (cc)
versions_same (Some v) None h = absurd (cc)
versions_same (Some v) (Some w) h = ap Some ((bytes_eq-Decides v w).0 h)

both : (a b : Bool) → (a && b) ≡ true → (a ≡ true) × (b ≡ true)
both true true h = (refl, refl)
both true false h = absurd (cc)
both false b h = absurd (cc)

pub key_itself : (a : Key) → same_key a a ≡ true
key_itself a = rw (text_itself a.0, version_itself a.1) refl

pub keys_same : (a b : Key) → same_key a b ≡ true → a ≡ b
keys_same a b h =
    let s = both (bytes_eq a.0 b.0) (same_version a.1 b.1) h in
    let names : a.0 ≡ b.0 = (bytes_eq-Decides a.0 b.0).0 s.0 in
    let versions : a.1 ≡ b.1 = versions_same a.1 b.1 s.1 in
    ap (λ (x : List ℕ). (x, a.1)) names ∙ ap (λ (x : Option (List ℕ)). (b.0, x)) versions

-- keys are the same where they are equal
pub same_key_is : (a b : Key) → IsTrue (same_key a b) ↔ (a ≡ b)
same_key_is a b = (keys_same a b, λ e. ap (same_key a) (sym e) ∙ key_itself a)

pub other_key : (a b : Key) → same_key a b ≡ false → b ≡ a → ⊥
other_key a b h e = (let same : same_key a b ≡ true = ap (same_key a) e ∙ key_itself a in absurd (cc))
