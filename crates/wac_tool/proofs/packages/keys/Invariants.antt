use Rattle.wac_tool.proofs.Common.{◌≡◌, ◌++◌, string_bytes, mentions_in}
use Rattle.wac_tool.specs.Running.{package_lines}
use Rattle.wac_tool.proofs.packages.keys.Given as goal

-- the lines so far, and those of the keys that are left, are all lines
abbrev pub invariant-loop-key : goal.invariant-loop-key
invariant-loop-key l = string_bytes l.lines ++ package_lines (mentions_in l.key-iterator) ≡ package_lines (mentions_in l.packages.entries)
