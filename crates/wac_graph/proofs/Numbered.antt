-- Origins can be numbered: no two have one number.
use Rattle.wac_graph.proofs.Common.{◌≡◌, ◌∙◌, ◌<◌, ◌+◌, ℕ, zero, suc, List, [], ◌∷◌, Option, Some, None, refl, ap, arith}
use Rattle.wac_graph.specs.Package.{Key}
use Rattle.wac_graph.specs.Origin.{Origin, declared, copied, IsOneToOne, coded, coded_text, coded_version, numbered}

positive : (a b : ℕ) → 0 < coded a b
unfolding coded
positive zero b = omega arith
positive (suc a) b = omega (arith, positive a b)

first_same : (a b c d : ℕ) → coded a b ≡ coded c d → a ≡ c
unfolding coded
first_same zero b zero d h = refl
first_same zero b (suc c) d h = absurd (omega arith)
first_same (suc a) b zero d h = absurd (omega arith)
first_same (suc a) b (suc c) d h = ap suc (first_same a b c d (omega arith))

second_same : (a b c d : ℕ) → coded a b ≡ coded c d → b ≡ d
unfolding coded
second_same zero b zero d h = omega arith
second_same zero b (suc c) d h = absurd (omega arith)
second_same (suc a) b zero d h = absurd (omega arith)
second_same (suc a) b (suc c) d h = second_same a b c d (omega arith)

texts_same : (s t : List ℕ) → coded_text s ≡ coded_text t → s ≡ t
unfolding coded_text
texts_same [] [] h = refl
texts_same [] (c ∷ t) h = absurd (omega (arith, positive c (coded_text t)))
texts_same (b ∷ s) [] h = absurd (omega (arith, positive b (coded_text s)))
texts_same (b ∷ s) (c ∷ t) h =
    ap (λ (x : ℕ). x ∷ s) (first_same b (coded_text s) c (coded_text t) h) ∙ ap (λ (x : List ℕ). c ∷ x) (texts_same s t (second_same b (coded_text s) c (coded_text t) h))

versions_same : (v w : Option (List ℕ)) → coded_version v ≡ coded_version w → v ≡ w
unfolding coded_version
versions_same None None h = refl
versions_same None (Some w) h = absurd (omega arith)
versions_same (Some v) None h = absurd (omega arith)
versions_same (Some v) (Some w) h = ap Some (texts_same v w (omega arith))

keys_same : (k l : Key) → k.0 ≡ l.0 → k.1 ≡ l.1 → k ≡ l
keys_same k l names versions = ap (λ (x : List ℕ). (x, k.1)) names ∙ ap (λ (x : Option (List ℕ)). (l.0, x)) versions

pub numbered_apart : IsOneToOne numbered
unfolding numbered
numbered_apart (declared m) (declared n) h = ap declared (second_same 0 m 0 n h)
numbered_apart (declared m) (copied l n) h = absurd (let e : 0 ≡ 1 = first_same 0 m 1 (coded (coded_text l.0) (coded (coded_version l.1) n)) h in omega arith)
numbered_apart (copied k m) (declared n) h = absurd (let e : 1 ≡ 0 = first_same 1 (coded (coded_text k.0) (coded (coded_version k.1) m)) 0 n h in omega arith)
numbered_apart (copied k m) (copied l n) h =
    let pairs = second_same 1 (coded (coded_text k.0) (coded (coded_version k.1) m)) 1 (coded (coded_text l.0) (coded (coded_version l.1) n)) h in
    let rests = second_same (coded_text k.0) (coded (coded_version k.1) m) (coded_text l.0) (coded (coded_version l.1) n) pairs in
    let names = texts_same k.0 l.0 (first_same (coded_text k.0) (coded (coded_version k.1) m) (coded_text l.0) (coded (coded_version l.1) n) pairs) in
    let versions = versions_same k.1 l.1 (first_same (coded_version k.1) m (coded_version l.1) n rests) in
    ap (λ (x : Key). copied x m) (keys_same k l names versions) ∙ ap (copied l) (second_same (coded_version k.1) m (coded_version l.1) n rests)
