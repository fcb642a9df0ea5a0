-- Groups of seven bits, read one by one.
use Rattle.std.proofs.Common.{◌≡◌, ℕ, suc, ◌+◌, ◌*◌, ◌%◌, ◌^◌, ◌<◌, ◌≤◌, List, [], ◌∷◌, ◌++◌, length, refl, sym, ap, ◌∙◌, arith, append_assoc}
use Rattle.std.specs.List.{All}
use Rattle.std.specs.Int.Bits.{bit_or, bit_and}
use Rattle.std.proofs.lemmas.List.{length_push}
use Rattle.std.proofs.lemmas.List.Elements.{All-push, All-nil}
use Rattle.std.proofs.lemmas.Nat.{pow-add, or_shifted, or_comm, and_mask, shl_whole}
use Rattle.wac_components_bytes.specs.Leb128.{of_groups, IsGroups}
use Rattle.wac_components_bytes.specs.Reading.{Reads}

-- each group weighs 128 times as much as the one before
pub weight-suc : (k : ℕ) → 2 ^ (7 * suc k) ≡ 128 * 2 ^ (7 * k)
weight-suc k =
    let sum : 7 * suc k ≡ 7 + 7 * k = omega arith in
    ap (λ n. 2 ^ n) sum ∙ pow-add 2 7 (7 * k)

pub of_groups-push : (bs : List ℕ) (b : ℕ) → of_groups (bs ++ b ∷ []) ≡ of_groups bs + b % 128 * 2 ^ (7 * length bs)
of_groups-push [] b = omega arith
of_groups-push (x ∷ bs) b = rw (weight-suc (length bs), of_groups-push bs b) (omega arith)

pub of_groups-below : (bs : List ℕ) → of_groups bs < 2 ^ (7 * length bs)
of_groups-below [] = omega arith
of_groups-below (x ∷ bs) =
    let rest : of_groups bs < 2 ^ (7 * length bs) = of_groups-below bs in
    rw (weight-suc (length bs)) (omega arith)

-- what was read of a number so far: as many groups, each of which another follows
pub record Fronts (place value : ℕ) (before middle : List ℕ) : Type 0 where
  pub front : List ℕ
  pub parts : before ≡ front ++ middle
  pub followed : All (λ b. 128 ≤ b) front
  pub places : length front ≡ place
  pub value_is : of_groups front ≡ value

pub no_groups : (before : List ℕ) → Fronts 0 0 before before
no_groups before = record { front = []; parts = refl; followed = All-nil (λ b. 128 ≤ b); places = refl; value_is = refl }

-- the value stays below the next group's weight
pub below_weight : (place value : ℕ) (before middle : List ℕ) → Fronts place value before middle → value < 2 ^ (7 * place)
below_weight place value before middle fronts =
    let below : of_groups fronts.front < 2 ^ (7 * length fronts.front) = of_groups-below fronts.front in
    rw (fronts.value_is, fronts.places) at below

pub value-push :
    (place value byte new : ℕ) (before middle : List ℕ) → (fronts : Fronts place value before middle)
    → new ≡ value + byte % 128 * 2 ^ (7 * place) → of_groups (fronts.front ++ byte ∷ []) ≡ new
value-push place value byte new before middle fronts is =
    let pushed : of_groups (fronts.front ++ byte ∷ []) ≡ of_groups fronts.front + byte % 128 * 2 ^ (7 * length fronts.front)
    = of_groups-push fronts.front byte in
    let known : of_groups (fronts.front ++ byte ∷ []) ≡ value + byte % 128 * 2 ^ (7 * place)
    = rw (fronts.value_is, fronts.places) at pushed in
    known ∙ sym is

pub parts-push :
    (byte : ℕ) (before front middle after : List ℕ) → before ≡ front ++ middle → middle ≡ byte ∷ after
    → before ≡ (front ++ byte ∷ []) ++ after
parts-push byte before front middle after parts next =
    parts ∙ ap (λ m. front ++ m) next ∙ sym (append_assoc front (byte ∷ []) after)

pub one_more :
    (place value byte new : ℕ) (before middle after : List ℕ)
    → Fronts place value before middle → middle ≡ byte ∷ after → 128 ≤ byte
    → new ≡ value + byte % 128 * 2 ^ (7 * place) → Fronts (place + 1) new before after
one_more place value byte new before middle after fronts next high is = record {
  front = fronts.front ++ byte ∷ [];
  parts = parts-push byte before fronts.front middle after fronts.parts next;
  followed = All-push (λ b. 128 ≤ b) fronts.front byte fronts.followed high;
  places = length_push fronts.front byte ∙ ap (λ n. n + 1) fronts.places;
  value_is = value-push place value byte new before middle fronts is;
}

pub the_last :
    (place value byte new : ℕ) (before middle after : List ℕ)
    → Fronts place value before middle → middle ≡ byte ∷ after → byte < 128 → place < 5
    → new ≡ value + byte % 128 * 2 ^ (7 * place) → Reads before (λ bs. IsGroups bs new byte) after
the_last place value byte new before middle after fronts next low short is = record {
  bytes = fronts.front ++ byte ∷ [];
  parts = parts-push byte before fronts.front middle after fronts.parts next;
  are = record {
    front = fronts.front;
    parts = refl;
    followed = fronts.followed;
    ends = low;
    short = (let pushed : length (fronts.front ++ byte ∷ []) ≡ length fronts.front + 1 = length_push fronts.front byte in
        let places : length fronts.front ≡ place = fronts.places in omega arith);
    value = value-push place value byte new before middle fronts is;
  };
}

-- a group, shifted to its place and added to the lower ones
pub group_or :
    (value byte place : ℕ) → value < 2 ^ (7 * place) → place < 5
    → bit_or value (bit_and byte 127 * 2 ^ (7 * place) % 2 ^ 64) ≡ value + byte % 128 * 2 ^ (7 * place)
group_or value byte place below small =
    let group : bit_and byte 127 ≡ byte % 128 = and_mask byte 7 in
    let low : byte % 128 < 2 ^ 7 = omega arith in
    let whole : (byte % 128) * 2 ^ (7 * place) % 2 ^ 64 ≡ (byte % 128) * 2 ^ (7 * place)
    = shl_whole (byte % 128) 7 (7 * place) 64 low (omega arith) in
    let shifted : bit_or ((byte % 128) * 2 ^ (7 * place)) value ≡ (byte % 128) * 2 ^ (7 * place) + value
    = or_shifted (byte % 128) (7 * place) value below in
    rw (group, whole, or_comm value ((byte % 128) * 2 ^ (7 * place)), shifted) (omega arith)
