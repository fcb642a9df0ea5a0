-- What a device of bytes does at a call. It counts its failures: the calls that moved no byte.
use Rattle.std.specs.Prelude.{◌≡◌, ℕ, ◌+◌, ◌≤◌, ◌<◌, List, ◌++◌, length, take, Option, Some, None}
use Rattle.std.specs.Io.KnownBytes.{Appends, Consumes, IsAtEnd, Keeps}

-- a device over a writer or a reader
pub record Device : Type 0 where
  -- the bytes that it has moved, in order
  pub moved : List ℕ
  pub failures : ℕ
  -- where they are known, the bytes that the writer holds, or that the reader has yet to give
  pub known : Option (List ℕ)

-- a sink that keeps its bytes
pub record Kept : Type 0 where
  pub bytes : List ℕ
  pub failures : ℕ

-- the first n bytes of a slice were appended, more than none unless it is empty; or no byte, and one failure more
abbrev pub PutGives : List ℕ → ℕ → List ℕ → Option ℕ → List ℕ → ℕ → Type 0
PutGives old failed put (Some n) new failed' = (n ≤ length put) × (0 < length put → 0 < n) × (new ≡ old ++ take n put) × (failed' ≡ failed)
PutGives old failed put None new failed' = (new ≡ old) × (failed' ≡ failed + 1)

-- A put of these bytes into a sink, by what the sink was given and how often it failed, before and after.
abbrev pub PutsInto : {S : Type 0} → (S → List ℕ) → (S → ℕ) → S → List ℕ → Option ℕ → S → Type 0
PutsInto bytes failures old put result new =
    PutGives (bytes old) (failures old) put result (bytes new) (failures new)

-- the sink took all of these bytes, and did not fail
abbrev pub TookAll : {S : Type 0} → (S → List ℕ) → (S → ℕ) → S → List ℕ → S → Type 0
TookAll bytes failures old put new = (bytes new ≡ bytes old ++ put) × (failures new ≡ failures old)

-- the sink took these bytes up to one of them, and failed once
abbrev pub TookSome : {S : Type 0} → (S → List ℕ) → (S → ℕ) → S → List ℕ → S → Type 0
TookSome bytes failures old put new =
    (n : ℕ) × (n < length put) × (bytes new ≡ bytes old ++ take n put) × (failures new ≡ failures old + 1)

-- the bytes that a writer holds, where they are known, grew by what was put
abbrev pub PutGrows : Option (List ℕ) → List ℕ → Option ℕ → Option (List ℕ) → Type 0
PutGrows old put (Some n) new = Appends old new (take n put)
PutGrows old put None new = Keeps old new

-- the next n bytes are at a slice's start; or no byte was taken, and one failure more
abbrev pub TakeGives : List ℕ → ℕ → List ℕ → Option ℕ → List ℕ → ℕ → Type 0
TakeGives old failed got (Some n) new failed' = (n ≤ length got) × (new ≡ old ++ take n got) × (failed' ≡ failed)
TakeGives old failed got None new failed' = (new ≡ old) × (failed' ≡ failed + 1)

-- A take from a feed to a slice, by what the feed gave and how often it failed, before and after.
abbrev pub TakesFrom : {F : Type 0} → (F → List ℕ) → (F → ℕ) → F → List ℕ → Option ℕ → F → Type 0
TakesFrom taken failures old got result new =
    TakeGives (taken old) (failures old) got result (taken new) (failures new)

-- the bytes left, where they are known, begin with what was taken, and none is taken only at their end or into an empty
-- slice
abbrev pub TakeLeaves : Option (List ℕ) → List ℕ → Option ℕ → Option (List ℕ) → Type 0
TakeLeaves old got (Some n) new = Consumes old new (take n got) × (n ≡ 0 → 0 < length got → IsAtEnd new)
TakeLeaves old got None new = Keeps old new
