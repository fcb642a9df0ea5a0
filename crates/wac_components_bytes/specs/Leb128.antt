-- Numbers in LEB128, as WebAssembly has them: seven bits a byte, the lowest first.
use Rattle.std.specs.Prelude.{◌≡◌, ℕ, ◌+◌, ◌*◌, ◌%◌, ◌<◌, ◌≤◌, List, [], ◌∷◌, ◌++◌, length, Option, MatchOption}
use Rattle.std.specs.List.{All}

-- the number whose groups of seven bits these bytes hold, the lowest first
abbrev pub of_groups : List ℕ → ℕ
of_groups [] = 0
of_groups (b ∷ bs) = b % 128 + 128 * of_groups bs

-- at most five bytes that hold the number: each but the last has its highest bit set, to say that another follows
pub record IsGroups (bytes : List ℕ) (number last : ℕ) : Type 0 where
  pub front : List ℕ
  pub parts : bytes ≡ front ++ last ∷ []
  pub followed : All (λ b. 128 ≤ b) front
  pub ends : last < 128
  pub short : length bytes ≤ 5
  pub value : of_groups bytes ≡ number

-- these bytes are a number
pub record IsLeb128 (bytes : List ℕ) (number : ℕ) : Type 0 where
  pub last : ℕ
  pub groups : IsGroups bytes number last

-- these bytes are a signed number: below 0 where the second highest bit of the last byte is set, else an index
pub record IsIndex (bytes : List ℕ) (index : Option ℕ) : Type 0 where
  pub number : ℕ
  pub last : ℕ
  pub groups : IsGroups bytes number last
  pub sign : MatchOption index (64 ≤ last) (λ n. (last < 64) × (n ≡ number))
