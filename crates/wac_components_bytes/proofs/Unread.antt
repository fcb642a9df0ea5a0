-- What is unread, before and after a byte or a name.
use Rattle.std.proofs.Common.{◌≡◌, ℕ, ◌+◌, ◌-◌, ◌<◌, ◌≤◌, List, [], ◌∷◌, ◌++◌, length, take, drop, get_or, refl, sym, ap, subst, ◌∙◌, arith, append_assoc}
use Rattle.std.proofs.lemmas.List.{drop_more, drop-drop, get_or-take, length-take-le, length-drop, take-append-drop, drop-take, take-take}
use Rattle.wac_components_bytes.specs.Leb128.{IsLeb128}
use Rattle.wac_components_bytes.specs.Reading.{Reads, IsName}

-- the byte at a place before the end is what is unread first
pub unread_first :
    (bs : List ℕ) (place end byte : ℕ) → place < end → end ≤ length bs → byte ≡ get_or bs place byte
    → drop place (take end bs) ≡ byte ∷ drop 1 (drop place (take end bs))
unread_first bs place end byte below within is =
    let long : length (take end bs) ≡ end = length-take-le end bs within in
    let inside : place < length (take end bs) = omega arith in
    let split : drop place (take end bs) ≡ get_or (take end bs) place byte ∷ drop (place + 1) (take end bs)
    = drop_more (take end bs) place byte inside in
    let same : get_or (take end bs) place byte ≡ get_or bs place byte = get_or-take end bs place byte below in
    let rest : drop 1 (drop place (take end bs)) ≡ drop (place + 1) (take end bs) = drop-drop 1 place (take end bs) in
    cc (split, same, is, rest)

-- after the first byte is what is unread from the next place on
pub unread_rest :
    (bs : List ℕ) (place end byte : ℕ) → drop place (take end bs) ≡ byte ∷ drop 1 (drop place (take end bs))
    → drop place (take end bs) ≡ byte ∷ drop (place + 1) (take end bs)
unread_rest bs place end byte first =
    let rest : drop 1 (drop place (take end bs)) ≡ drop (place + 1) (take end bs) = drop-drop 1 place (take end bs) in
    cc (first, rest)

pub unread_length : (bs : List ℕ) (place end : ℕ) → end ≤ length bs → length (drop place (take end bs)) ≡ end - place
unread_length bs place end within =
    let long : length (take end bs) ≡ end = length-take-le end bs within in
    length-drop place (take end bs) ∙ ap (λ n. n - place) long

-- so many bytes of what is unread, and what is unread after them
pub unread_split :
    (bs : List ℕ) (place end count : ℕ) → place + count ≤ end → end ≤ length bs
    → drop place (take end bs) ≡ take count (drop place bs) ++ drop (place + count) (take end bs)
unread_split bs place end count below within =
    let joined : take count (drop place (take end bs)) ++ drop count (drop place (take end bs)) ≡ drop place (take end bs)
    = take-append-drop count (drop place (take end bs)) in
    let rest : drop count (drop place (take end bs)) ≡ drop (place + count) (take end bs) = drop-drop count place (take end bs) in
    let whole : place + (end - place) ≡ end = omega arith in
    let cut : drop place (take end bs) ≡ take (end - place) (drop place bs)
    = rw whole at (drop-take place (end - place) bs) in
    let fits : count ≤ end - place = omega arith in
    let shorter : take count (take (end - place) (drop place bs)) ≡ take count (drop place bs)
    = take-take count (end - place) (drop place bs) fits in
    let front : take count (drop place (take end bs)) ≡ take count (drop place bs)
    = ap (λ xs. take count xs) cut ∙ shorter in
    cc (joined, rest, front)

-- a count and as many bytes are a name
pub name_read :
    (bs name before : List ℕ) (place end count : ℕ) → place + count ≤ end → end ≤ length bs → name ≡ take count (drop place bs)
    → Reads before (λ ns. IsLeb128 ns count) (drop place (take end bs))
    → Reads before (λ ns. IsName ns name) (drop (place + count) (take end bs))
name_read bs name before place end count below within is counted =
    let split : drop place (take end bs) ≡ take count (drop place bs) ++ drop (place + count) (take end bs)
    = unread_split bs place end count below within in
    let left : length (drop place bs) ≡ length bs - place = length-drop place bs in
    let enough : count ≤ length (drop place bs) = omega arith in
    let long : length (take count (drop place bs)) ≡ count = length-take-le count (drop place bs) enough in
    let long_name : count ≡ length name = sym (ap length is ∙ long) in
    record {
      bytes = counted.bytes ++ name;
      parts = (let whole : drop place (take end bs) ≡ name ++ drop (place + count) (take end bs) = cc (split, is) in
          counted.parts ∙ ap (λ xs. counted.bytes ++ xs) whole ∙ sym (append_assoc counted.bytes name (drop (place + count) (take end bs))));
      are = record {
        count = counted.bytes;
        counted = (let P : ℕ → Type 0 = λ n. IsLeb128 counted.bytes n in subst P long_name counted.are);
        parts = refl;
      };
    }

-- the same, where work was taken between the count and the name
pub name_after :
    (bs was name before : List ℕ) (place old_place end old_end count : ℕ)
    → (bs ≡ was) × (place ≡ old_place) × (end ≡ old_end)
    → count ≤ old_end - old_place → old_place ≤ old_end → end ≤ length bs → name ≡ take count (drop place bs)
    → Reads before (λ ns. IsLeb128 ns count) (drop old_place (take old_end was))
    → Reads before (λ ns. IsName ns name) (drop (place + count) (take end bs))
name_after bs was name before place old_place end old_end count same fits ordered within is counted =
    let places : place ≡ old_place = same.1 in
    let ends : end ≡ old_end = same.2 in
    let below : place + count ≤ end = omega arith in
    name_read bs name before place end count below within is (rw (same.0, places, ends) counted)
