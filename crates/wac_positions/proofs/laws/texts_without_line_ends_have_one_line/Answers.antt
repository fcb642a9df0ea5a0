use Rattle.std.proofs.Common.{ℕ, List, ◌∷◌, ap, length}
use Rattle.wac_positions.proofs.Starts.{none_start}
use Rattle.wac_positions.proofs.laws.texts_without_line_ends_have_one_line.Goals as goal

pub returns : goal.returns
returns c text none = ap (λ (starts : List ℕ). length (0 ∷ starts)) (none_start 0 text none)
