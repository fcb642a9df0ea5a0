use Rattle.wac_graph.proofs.Common.{◌≡◌, ◌∙◌, None, List, [], ◌∷◌, ◌++◌, length, sym, ap, subst, Entry, KeepsMeanings}
use Rattle.wac_graph.specs.Copied.{IsGrown, IsGrownBy}
use Rattle.wac_graph.specs.Graph.{Parts, with_package}
use Rattle.wac_graph.specs.Sound.{IsSound}
use Rattle.wac_graph.specs.Package.{Key, HeldPackage, IsHeld, key_of, moved_package, package_keyed}
use Rattle.wac_graph.specs.PackageCopies.{held_under}
use Rattle.wac_graph.proofs.Sound.{sound_grown, sound_package, held_moved, keeps_grown}
use Rattle.wac_graph.proofs.graph.CompositionGraph.append_package.Goals as goal

pub invariant_of-self-in_err-copy_types : goal.invariant_of-self-in_err-copy_types
invariant_of-self-in_err-copy_types c =
    let before : Parts = record { types = c.self.inside.types; packages = c.self.inside.packages; nodes = c.self.inside.nodes.items; imports = c.self.inside.imports; exports = c.self.inside.exports } in
    let more : IsGrown c.self.inside.types c.copy_types.new.types = subst (λ (l : List Entry). IsGrown l c.copy_types.new.types) c.reserve.ensures.same c.in_err-copy_types.ensures.more in
    sound_grown before c.copy_types.new.types more c.in_err-copy_types.ensures.table c.self.invariant

pub returns-in_err-copy_types-clause-keeps : goal.returns-in_err-copy_types-clause-keeps
returns-in_err-copy_types-clause-keeps c =
    let more : IsGrown c.self.inside.types c.copy_types.new.types = subst (λ (l : List Entry). IsGrown l c.copy_types.new.types) c.reserve.ensures.same c.in_err-copy_types.ensures.more in
    subst (λ (g : Parts). KeepsMeanings g.types c.copy_types.new.types) c.self.view_is (keeps_grown c.self.inside.types c.copy_types.new.types more)

pub returns-in_err-copy_types-clause-grown : goal.returns-in_err-copy_types-clause-grown
returns-in_err-copy_types-clause-grown c =
    let more : IsGrown c.self.inside.types c.copy_types.new.types = subst (λ (l : List Entry). IsGrown l c.copy_types.new.types) c.reserve.ensures.same c.in_err-copy_types.ensures.more in
    subst (λ (g : Parts). IsGrown g.types c.copy_types.new.types) c.self.view_is more

pub invariant_of-self-in_err-push : goal.invariant_of-self-in_err-push
invariant_of-self-in_err-push c =
    let before : Parts = record { types = c.self.inside.types; packages = c.self.inside.packages; nodes = c.self.inside.nodes.items; imports = c.self.inside.imports; exports = c.self.inside.exports } in
    let more : IsGrown c.self.inside.types c.copy_types.new.types = subst (λ (l : List Entry). IsGrown l c.copy_types.new.types) c.reserve.ensures.same c.in_ok-copy_types.ensures.more in
    subst (λ (l : List HeldPackage). IsSound (record { types = c.copy_types.new.types; packages = l; nodes = c.self.inside.nodes.items; imports = c.self.inside.imports; exports = c.self.inside.exports })) (sym c.in_err-push.ensures.err)
    (sound_grown before c.copy_types.new.types more c.in_ok-copy_types.ensures.table c.self.invariant)

pub returns-in_err-push-clause-keeps : goal.returns-in_err-push-clause-keeps
returns-in_err-push-clause-keeps c =
    let more : IsGrown c.self.inside.types c.copy_types.new.types = subst (λ (l : List Entry). IsGrown l c.copy_types.new.types) c.reserve.ensures.same c.in_ok-copy_types.ensures.more in
    subst (λ (g : Parts). KeepsMeanings g.types c.copy_types.new.types) c.self.view_is (keeps_grown c.self.inside.types c.copy_types.new.types more)

pub returns-in_err-push-clause-grown : goal.returns-in_err-push-clause-grown
returns-in_err-push-clause-grown c =
    let more : IsGrown c.self.inside.types c.copy_types.new.types = subst (λ (l : List Entry). IsGrown l c.copy_types.new.types) c.reserve.ensures.same c.in_ok-copy_types.ensures.more in
    subst (λ (g : Parts). IsGrown g.types c.copy_types.new.types) c.self.view_is more

pub invariant_of-self-2 : goal.invariant_of-self-2
invariant_of-self-2 c =
    let before : Parts = record { types = c.self.inside.types; packages = c.self.inside.packages; nodes = c.self.inside.nodes.items; imports = c.self.inside.imports; exports = c.self.inside.exports } in
    let key : Key = key_of c.args.key.now in
    let more : IsGrown c.self.inside.types c.copy_types.new.types = subst (λ (l : List Entry). IsGrown l c.copy_types.new.types) c.reserve.ensures.same c.in_ok-copy_types.ensures.more in
    let copies : IsGrownBy c.self.inside.types c.args.package.now.types c.copy_types.new.types
    = subst (λ (l : List Entry). IsGrownBy l c.args.package.now.types c.copy_types.new.types) c.reserve.ensures.same (subst (λ (l : List Entry). IsGrownBy c.reserve.new.self l c.copy_types.new.types) c.types-2.ensures.types c.in_ok-copy_types.ensures.grown) in
    let held : IsHeld c.copy_types.new.types (held_under key c.in_ok-copy.copy)
    = subst (IsHeld c.copy_types.new.types) (sym (c.in_ok-copy.ensures key))
    (subst (λ (l : List Entry). IsHeld c.copy_types.new.types (moved_package (length l) key c.args.package.now)) (sym c.entries-number.ensures)
    (held_moved c.self.inside.types c.copy_types.new.types key c.args.package.now c.types.ensures.facts copies)) in
    let new : package_keyed key before.packages ≡ None = subst (λ (g : Parts). package_keyed key g.packages ≡ None) (sym c.self.view_is) c.requires in
    subst (λ (l : List HeldPackage). IsSound (record { types = c.copy_types.new.types; packages = l; nodes = c.self.inside.nodes.items; imports = c.self.inside.imports; exports = c.self.inside.exports })) (sym c.in_ok-push.ensures.ok)
    (sound_package (record before { types = c.copy_types.new.types }) (held_under key c.in_ok-copy.copy) held new
    (sound_grown before c.copy_types.new.types more c.in_ok-copy_types.ensures.table c.self.invariant))

pub returns-clause-keeps : goal.returns-clause-keeps
returns-clause-keeps c =
    let more : IsGrown c.self.inside.types c.copy_types.new.types = subst (λ (l : List Entry). IsGrown l c.copy_types.new.types) c.reserve.ensures.same c.in_ok-copy_types.ensures.more in
    subst (λ (g : Parts). KeepsMeanings g.types c.copy_types.new.types) c.self.view_is (keeps_grown c.self.inside.types c.copy_types.new.types more)

pub returns-clause-grown : goal.returns-clause-grown
returns-clause-grown c =
    let more : IsGrown c.self.inside.types c.copy_types.new.types = subst (λ (l : List Entry). IsGrown l c.copy_types.new.types) c.reserve.ensures.same c.in_ok-copy_types.ensures.more in
    subst (λ (g : Parts). IsGrown g.types c.copy_types.new.types) c.self.view_is more

pub returns-clause-ok : goal.returns-clause-ok
returns-clause-ok c =
    let before : Parts = record { types = c.self.inside.types; packages = c.self.inside.packages; nodes = c.self.inside.nodes.items; imports = c.self.inside.imports; exports = c.self.inside.exports } in
    let key : Key = key_of c.args.key.now in
    ap (λ (l : List HeldPackage). record before { types = c.copy_types.new.types; packages = l }) c.in_ok-push.ensures.ok
    ∙ ap (λ (h : HeldPackage). record before { types = c.copy_types.new.types; packages = before.packages ++ h ∷ [] }) (c.in_ok-copy.ensures key)
    ∙ ap (λ (l : List Entry). record before { types = c.copy_types.new.types; packages = before.packages ++ moved_package (length l) key c.args.package.now ∷ [] }) c.entries-number.ensures
    ∙ ap (λ (g : Parts). with_package g key c.args.package.now c.copy_types.new.types) c.self.view_is
