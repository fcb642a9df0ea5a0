use Rattle.wac_graph.proofs.Common.{◌≡◌, ◌∙◌, ℕ, List, [], subst, sym, ap, string_bytes, ItemKind, by_name, IsFresh}
use Rattle.wac_graph.specs.Moved.{moved, moved_items, Fits, ItemsFit}
use Rattle.wac_graph.proofs.Copying.{copying_start, copying_fits, copying_new, copying_step, copying_end}
use Rattle.wac_graph.proofs.Views.{map_itself}
use Rattle.wac_graph.proofs.copy.copy_items.Goals as goal

pub loop-name-init : goal.loop-name-init
loop-name-init c =
    let empty : c.in_ok-copy.copy.entries ≡ [] = c.in_ok-copy.ensures.empty in
    rw (empty, c.into_iter-name-iterator.ensures.into_iter_gives, c.iter-name-items.ensures.rest) (copying_start (λ (e : List ℕ × ItemKind). e) (λ e. (e.0, moved c.args.n e.1)) (λ e. Fits c.args.n e.1) c.args.from.now.entries (subst (ItemsFit c.args.n) (sym (map_itself (by_name c.args.from.now.entries))) c.requires) c.len.ensures.unique)

pub moved-requires : goal.moved-requires
moved-requires c = copying_fits (λ (e : List ℕ × ItemKind). e) (λ e. (e.0, moved c.args.n e.1)) (λ e. Fits c.args.n e.1) _ _ _ (by_name c.next.new.self) (string_bytes c.in-Some.name.now, c.in-Some.kind.now) (ap by_name c.in-Some.ensures.steps) c.loop-name.invariant

pub push-requires : goal.push-requires
push-requires c =
    subst (λ (x : List ℕ). IsFresh x (by_name c.loop-name.copy.entries)) (sym c.as_str.ensures.value)
    (copying_new (λ (e : List ℕ × ItemKind). e) (λ e. (e.0, moved c.args.n e.1)) (λ e. Fits c.args.n e.1) _ _ _ (by_name c.next.new.self) (string_bytes c.in-Some.name.now, c.in-Some.kind.now) (ap by_name c.in-Some.ensures.steps) c.loop-name.invariant)

pub loop-name-preserved : goal.loop-name-preserved
loop-name-preserved c =
    copying_step (λ (e : List ℕ × ItemKind). e) (λ e. (e.0, moved c.args.n e.1)) (λ e. Fits c.args.n e.1) _ _ _ (by_name c.next.new.self) (by_name c.push.new.all.entries) (string_bytes c.in-Some.name.now, c.in-Some.kind.now) (c.as_str.result.now, c.moved.result) (ap by_name c.in-Some.ensures.steps) c.loop-name.invariant
    c.in_ok-push.ensures.ok c.as_str.ensures.value
    (let name : c.as_str.result.now ≡ string_bytes c.in-Some.name.now = c.as_str.ensures.value in let kind = c.moved.ensures in cc)

pub returns : goal.returns
returns c =
    sym (map_itself (by_name c.loop-name.copy.entries))
    ∙ copying_end (λ (e : List ℕ × ItemKind). e) (λ e. (e.0, moved c.args.n e.1)) (λ e. Fits c.args.n e.1) (by_name c.args.from.now.entries) (by_name c.loop-name.copy.entries) (by_name c.loop-name.name-iterator) (ap by_name c.in-None.ensures.steps.0) c.loop-name.invariant
    ∙ ap (moved_items c.args.n) (map_itself (by_name c.args.from.now.entries))
