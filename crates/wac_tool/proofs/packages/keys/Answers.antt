use Rattle.wac_tool.proofs.Common.{◌∙◌, ◌++◌, sym, ap, string_bytes, mentions_in}
use Rattle.std.proofs.Common.{append-nil}
use Rattle.wac_tool.specs.Running.{package_lines}
use Rattle.wac_tool.proofs.ItemLines.{lines_go}
use Rattle.wac_tool.proofs.packages.keys.Goals as goal

pub loop-key-preserved : goal.loop-key-preserved
loop-key-preserved c =
    lines_go _ _ _ _ _ _ c.in_ok-push_key.ensures (ap (λ keys. package_lines (mentions_in keys)) c.in-Some.ensures.steps) c.loop-key.invariant

pub returns : goal.returns
returns c =
    let lines = string_bytes c.loop-key.lines in
    sym (append-nil lines) ∙ ap (λ keys. lines ++ package_lines (mentions_in keys)) (sym c.in-None.ensures.steps.0) ∙ c.loop-key.invariant
