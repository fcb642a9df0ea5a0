-- What a sink that passes bytes on in blocks holds.
use Rattle.std.specs.Prelude.{◌≡◌, refl, ℕ, ◌-◌, ◌≤◌, ◌==◌, min, List, [], ◌∷◌, ◌++◌, length, take, drop, codes, Option, Some, None, if◌then◌else◌}

-- a sink of blocks over a sink
pub record Holding : Type 0 where
  -- the bytes that the sink below was given, and those that wait for it
  pub sunk : List ℕ
  pub held : List ℕ
  -- how many more it can hold
  pub room : ℕ
  -- the failures of the sink below
  pub failures : ℕ
  -- what no call changes: how many bytes the sink below was given before, and which borrow it is, where it is one
  pub before : ℕ
  pub borrow : ℕ

-- such a sink over this sink, with no byte held
abbrev pub over : {S : Type 0} → (S → List ℕ) → (S → ℕ) → (S → ℕ) → S → Holding
over bytes failures borrow sink =
    record {
      sunk = bytes sink;
      held = [];
      room = 8192;
      failures = failures sink;
      before = length (bytes sink);
      borrow = borrow sink;
    }

-- The same with a block whose bytes from a start to before an end are held. It has moved these to the sink below.
abbrev pub with_block : List ℕ → ℕ → ℕ → List ℕ → Holding → Holding
with_block block start end moved h =
    record h { held = drop start (take end block); room = 8192 - end; before = h.before - length moved }

-- this sink is the one below, and was given no fewer bytes than before
abbrev pub IsBelow : {S : Type 0} → (S → List ℕ) → (S → ℕ) → (S → ℕ) → S → Holding → Type 0
IsBelow bytes failures borrow sink h =
    (bytes sink ≡ h.sunk) × (failures sink ≡ h.failures) × (borrow sink ≡ h.borrow) × (h.before ≤ length h.sunk)

-- nothing is held any more, so there is room for a whole block, and the sink below did not fail
abbrev pub IsEmptied : Holding → Holding → Type 0
IsEmptied old new = (new.held ≡ []) × (new.room ≡ 8192) × (new.failures ≡ old.failures)

-- What such a sink was given. First comes what no call changes, so that a lender knows this when it is returned.
abbrev pub given : Holding → List ℕ
given h = h.before ∷ (h.borrow ∷ (h.sunk ++ h.held))

-- the sink below is given all that is held
abbrev pub passed_on : Holding → Holding
passed_on h = record h { sunk = h.sunk ++ h.held; held = []; room = 8192 }

-- the same where there is no room, which is so once 8192 bytes were held
abbrev pub with_room : Holding → Holding
with_room h = if h.room == 0 then passed_on h else h

-- the first n bytes of a slice are held too
abbrev pub holding : Holding → ℕ → List ℕ → Holding
holding h n put = record h { held = h.held ++ take n put; room = h.room - n }

-- A put holds what there is room for. While there is some it passes nothing on, and else all that is held; where that
-- fails there is still no room.
abbrev pub PutHolds : Holding → List ℕ → Option ℕ → Holding → Type 0
PutHolds old put (Some n) new = (n ≡ min (length put) (with_room old).room) × (new ≡ holding (with_room old) n put)
PutHolds old put None new = (old.room ≡ 0) × (new.room ≡ 0)

-- examples: "ab" is held, of a block with room for a byte and of one with none
abbrev ab : ℕ → Holding
ab room = record { sunk = []; held = codes "ab"; room = room; failures = 0; before = 0; borrow = 0 }

some_room : holding (with_room (ab 1)) 1 (codes "cd") ≡ record (ab 0) { held = codes "abc" }
some_room = refl

no_room : holding (with_room (ab 0)) 2 (codes "cd") ≡ record (ab 8190) { sunk = codes "ab"; held = codes "cd" }
no_room = refl
