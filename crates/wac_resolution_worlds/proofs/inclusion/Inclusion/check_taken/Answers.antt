use Rattle.wac_resolution_worlds.proofs.Common.{◌≡◌, ◌∙◌, ℕ, List, Some, sym, subst, inr, by_name, look_up, means, name_taken, span_taken, help_of_include, world_ref_name}
use Rattle.wac_resolution_worlds.specs.Taking.{tree_of, clause_of}
use Rattle.wac_resolution_worlds.specs.Entries.{entries_of}
use Rattle.wac_resolution_worlds.proofs.Taken.{conflicts, conflict_told}
use Rattle.wac_resolution_worlds.proofs.inclusion.Inclusion.check_taken.Goals as goal

pub returns-in_ok-from_str-in-Some-3-clause-err : goal.returns-in_ok-from_str-in-Some-3-clause-err
returns-in_ok-from_str-in-Some-3-clause-err c = inr (λ numbering g before m.
    let there : look_up (name_taken (entries_of (by_name c.args.entries.now.entries)) c.args.name.now) (by_name c.args.there.now.entries) ≡ Some c.in-Some.field-0
    = subst (λ (x : List ℕ). look_up x (by_name c.args.there.now.entries) ≡ Some c.in-Some.field-0) c.name_taken-taken.ensures (sym c.in-Some.ensures) in
    let self = c.args.self.now in
    let es = by_name c.args.entries.now.entries in (
      means numbering g c.in-Some.field-0,
      c.requires.plain,
      conflicts numbering g es (by_name c.args.there.now.entries) c.args.name.now c.in-Some.field-0 there,
      conflict_told c.args.side _ _ _ (name_taken (entries_of es) c.args.name.now) (world_ref_name (tree_of self).world) self.world.now _ (span_taken (tree_of self) (entries_of es) c.args.name.now) _ (help_of_include (clause_of self))
          (c.in_ok-from_str-in-Some.ensures.ok ∙ c.name_taken-taken.ensures) (c.in_ok-from_str-in-Some-2.ensures.ok ∙ c.name.ensures) c.in_ok-from_str-in-Some-3.ensures.ok c.span_taken.ensures c.help.ensures,
    ))
