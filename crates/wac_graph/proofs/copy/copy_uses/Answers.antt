use Rattle.wac_graph.proofs.Common.{◌≡◌, ◌∙◌, ℕ, List, [], subst, sym, ap, string_bytes, by_name, IsFresh, EachKind}
use Rattle.wac_graph.specs.Moved.{moved_child, moved_children, Fits, ChildFits}
use Rattle.wac_graph.proofs.Copying.{copying_start, copying_fits, copying_new, copying_step, copying_end}
use Rattle.wac_graph.proofs.Views.{use_child, use_view}
use Rattle.wac_graph.proofs.copy.copy_uses.Goals as goal

pub loop-name-init : goal.loop-name-init
loop-name-init c =
    let empty : c.in_ok-copy.copy.entries ≡ [] = c.in_ok-copy.ensures.empty in
    rw (empty, c.into_iter-name-iterator.ensures.into_iter_gives, c.iter-name-items.ensures.rest) (copying_start use_child (moved_child c.args.n) (ChildFits c.args.n) c.args.from.now.entries (subst (EachKind (Fits c.args.n)) (use_view c.args.from.now.entries) c.requires) c.len.ensures.unique)

pub copy_use-requires : goal.copy_use-requires
copy_use-requires c = copying_fits use_child (moved_child c.args.n) (ChildFits c.args.n) _ _ _ (by_name c.next.new.self) (string_bytes c.in-Some.name.now, c.in-Some.used.now) (ap by_name c.in-Some.ensures.steps) c.loop-name.invariant

pub push-requires : goal.push-requires
push-requires c =
    subst (λ (x : List ℕ). IsFresh x (by_name c.loop-name.copy.entries)) (sym c.as_str.ensures.value)
    (copying_new use_child (moved_child c.args.n) (ChildFits c.args.n) _ _ _ (by_name c.next.new.self) (string_bytes c.in-Some.name.now, c.in-Some.used.now) (ap by_name c.in-Some.ensures.steps) c.loop-name.invariant)

pub loop-name-preserved : goal.loop-name-preserved
loop-name-preserved c =
    copying_step use_child (moved_child c.args.n) (ChildFits c.args.n) _ _ _ (by_name c.next.new.self) (by_name c.push.new.all.entries) (string_bytes c.in-Some.name.now, c.in-Some.used.now) (c.as_str.result.now, c.in_ok-copied.copied) (ap by_name c.in-Some.ensures.steps) c.loop-name.invariant
    c.in_ok-push.ensures.ok c.as_str.ensures.value
    (let name : c.as_str.result.now ≡ string_bytes c.in-Some.name.now = c.as_str.ensures.value in let interface = c.in_ok-copied.ensures.interface in let renamed = c.in_ok-copied.ensures.name in cc)

pub returns : goal.returns
returns c =
    use_view c.loop-name.copy.entries
    ∙ copying_end use_child (moved_child c.args.n) (ChildFits c.args.n) (by_name c.args.from.now.entries) (by_name c.loop-name.copy.entries) (by_name c.loop-name.name-iterator) (ap by_name c.in-None.ensures.steps.0) c.loop-name.invariant
    ∙ ap (moved_children c.args.n) (sym (use_view c.args.from.now.entries))
