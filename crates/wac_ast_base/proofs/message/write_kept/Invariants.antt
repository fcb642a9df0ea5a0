use Rattle.wac_ast_base.proofs.Common.{◌≡◌, ℕ, List, ◌++◌, drop}
use denote.Text.{Utf8}
use denote.Shadow.{shadow}
use Rattle.std.specs.Fmt.{HasWritten, IsPlainFormatter}
use Rattle.wac_ast_base.specs.Lookahead.{kept_in}
use Rattle.wac_ast_base.specs.Messages.{entries, joined}
use Rattle.wac_ast_base.proofs.Messages.{after}
use Rattle.wac_ast_base.proofs.message.write_kept.Given as goal

abbrev pub invariant-loop-place : goal.invariant-loop-place
invariant-loop-place g l =
    shadow (Utf8 l.separator)
    × (IsPlainFormatter l.initial.f → (done : List ℕ) × HasWritten g.W.Write.write_str_gives l.initial.f done l.f
    × (done ++ after l.separator (entries l.left (kept_in (drop l.place-index l.fn.kept))) ≡ joined (entries l.fn.count (kept_in l.fn.kept))))
