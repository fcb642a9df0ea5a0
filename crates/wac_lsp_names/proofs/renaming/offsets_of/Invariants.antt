use Rattle.std.proofs.Common.{◌≡◌, ◌∷◌, map, take}
use Rattle.wac_lsp_names.proofs.renaming.offsets_of.Given as goal

abbrev pub invariant-loop-span : goal.invariant-loop-span
invariant-loop-span l = l.all.items ≡ l.found.bound.offset ∷ map (λ s. s.offset) (take l.span-index l.found.used.items)
