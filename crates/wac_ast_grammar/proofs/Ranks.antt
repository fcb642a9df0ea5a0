-- How deep a symbol's rule begins with symbols, which shows that reading a symbol ends.
use Rattle.std.specs.Prelude.{ℕ, zero, suc, ◌+◌, ◌*◌, List, length, max, cond}
use Rattle.wac_lexer.specs.Item.{Item}
use Rattle.wac_ast_grammar.specs.Grammar.{Sym, Grammar, token, sym, then, either, nothing, to_end, docs, not_empty, more, or_told, rule}
use Rattle.wac_ast_grammar.specs.Reading.{is_empty, depth}

abbrev pub depth_by : (Sym → ℕ) → Grammar → ℕ
depth_by known (token k) = 0
depth_by known (sym s) = suc (known s)
depth_by known (then g h) = cond (is_empty g) (max (depth_by known g) (depth_by known h)) (depth_by known g)
depth_by known (either loud g h) = max (depth_by known g) (depth_by known h)
depth_by known (nothing b) = 0
depth_by known (to_end g) = depth_by known g
depth_by known (docs g) = depth_by known g
depth_by known (not_empty e k g) = depth_by known g
depth_by known (more k s g) = depth_by known g
depth_by known (or_told g k h) = depth_by known g

abbrev pub rank_by : ℕ → Sym → ℕ
rank_by zero s = 0
rank_by (suc n) s = depth_by (rank_by n) (rule s)

-- a symbol's rule begins with symbols of lower rank alone
abbrev pub rank : Sym → ℕ
rank s = rank_by depth s

-- what gets smaller from each symbol to those that its rule begins with, and with each item
abbrev pub measure : Sym → List Item → ℕ
measure s xs = length xs * 5 + rank s
