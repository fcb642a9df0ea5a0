-- What a reader has read.
use Rattle.std.specs.Prelude.{◌≡◌, ℕ, List, ◌++◌, take, drop, length}
use Rattle.wac_components_bytes.specs.declared.reader.Reader.{Reader}
use Rattle.wac_components_bytes.specs.Leb128.{IsLeb128}

-- the bytes from the reader's place to its end
abbrev pub unread : Reader → List ℕ
unread reader = drop reader.position (take reader.end reader.bytes.now)

-- between the two the reader read such bytes, and no more
pub record Reads (before : List ℕ) (such : List ℕ → Type 0) (after : List ℕ) : Type 0 where
  pub bytes : List ℕ
  pub parts : before ≡ bytes ++ after
  pub are : such bytes

-- a name: its length in bytes, and its bytes
pub record IsName (bytes : List ℕ) (name : List ℕ) : Type 0 where
  pub count : List ℕ
  pub counted : IsLeb128 count (length name)
  pub parts : bytes ≡ count ++ name
