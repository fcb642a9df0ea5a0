-- Mentions between two places.
use Rattle.wac_resolution.proofs.Common.{◌≡◌, ◌≤◌, ◌<◌, ◌+◌, ℕ, List, [], ◌∷◌, ◌++◌, Bool, true, false, cond, filter, ap, arith, Mention, same_key, not, if◌then◌else◌}
use Rattle.wac_resolution.specs.Ascending.{AscendFrom}
use Rattle.wac_resolution.specs.FirstMentions.{first_mentions}

-- they ascend from the first place on, and all begin before the second
abbrev pub Between : ℕ → List Mention → ℕ → Type 0
Between low [] high = low ≤ high
Between low (m ∷ ms) high = (low ≤ m.1.offset) × Between (m.1.offset + 1) ms high

pub lower : (low place : ℕ) (ms : List Mention) (high : ℕ) → low ≤ place → Between place ms high → Between low ms high
lower low place [] high l h = omega (arith, l, h)
lower low place (m ∷ ms) high l h = (omega (arith, l, h.0), h.1)

-- some after others
pub after : (ms ns : List Mention) (low place high : ℕ) → Between low ms place → Between place ns high → Between low (ms ++ ns) high
after [] ns low place high h k = lower low place ns high h k
after (m ∷ ms) ns low place high h k = (h.0, after ms ns (m.1.offset + 1) place high h.1 k)

-- one or none
pub perhaps_one : (none : Bool) (m : Mention) (low high : ℕ) → low ≤ m.1.offset → m.1.offset < high → Between low (if none then [] else (m ∷ [])) high
perhaps_one true m low high l k = omega (arith, l, k)
perhaps_one false m low high l k = (l, omega (arith, k))

pub left_out : (b : Bool) (m : Mention) → b ≡ true → (if b then [] else (m ∷ [])) ≡ []
left_out b m h = ap (λ c. if c then [] else (m ∷ [])) h

pub ascending : (ms : List Mention) (low high : ℕ) → Between low ms high → AscendFrom low ms
ascending [] low high h = tt
ascending (m ∷ ms) low high h = (h.0, ascending ms (m.1.offset + 1) high h.1)

-- ---- some of them

from_lower : (ms : List Mention) (low place : ℕ) → low ≤ place → AscendFrom place ms → AscendFrom low ms
from_lower [] low place l h = tt
from_lower (m ∷ ms) low place l h = (omega (arith, l, h.0), h.1)

filtered : (stays : Mention → Bool) (ms : List Mention) (low : ℕ) → AscendFrom low ms → AscendFrom low (filter stays ms)
filtered stays [] low h = tt
filtered stays (m ∷ ms) low h = go (stays m) (filtered stays ms (m.1.offset + 1) h.1)
  where
    go : (b : Bool) → AscendFrom (m.1.offset + 1) (filter stays ms) → AscendFrom low (cond b (m ∷ filter stays ms) (filter stays ms))
    go true rest = (h.0, rest)
    go false rest = from_lower (filter stays ms) low (m.1.offset + 1) (omega (arith, h.0)) rest

pub first_ones : (ms : List Mention) (low : ℕ) → AscendFrom low ms → AscendFrom low (first_mentions ms)
first_ones [] low h = tt
first_ones (m ∷ ms) low h = (h.0, filtered (λ n. not (same_key m.0 n.0)) (first_mentions ms) (m.1.offset + 1) (first_ones ms (m.1.offset + 1) h.1))
