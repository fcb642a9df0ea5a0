-- A text in memory that is read from its start on.
use Rattle.std.specs.Prelude.{ℕ, List}

pub record Reading : Type 0 where
  -- the bytes that were taken, in order, and those that are left
  pub taken : List ℕ
  pub left : List ℕ
