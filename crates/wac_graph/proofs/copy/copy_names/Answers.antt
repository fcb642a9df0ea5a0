use Rattle.wac_graph.proofs.Common.{◌≡◌, ℕ, List, [], false, subst, sym, list_any, bytes_eq}
use Rattle.wac_graph.proofs.Copying.{texts, texts_start, texts_new, texts_step, texts_end}
use Rattle.wac_graph.proofs.Views.{same_names}
use Rattle.wac_graph.proofs.copy.copy_names.Goals as goal

pub loop-name-init : goal.loop-name-init
loop-name-init c =
    let empty : c.in_ok-copy.copy.keys ≡ [] = c.in_ok-copy.ensures.empty in
    rw (empty, c.into_iter-name-iterator.ensures.into_iter_gives, c.iter-name-items.ensures.rest) (texts_start c.args.from.now.keys c.len.ensures.unique)

pub push_name-requires : goal.push_name-requires
push_name-requires c =
    subst (λ (x : List ℕ). list_any (bytes_eq x) (texts c.loop-name.copy.keys) ≡ false) (sym c.as_str.ensures.value)
    (texts_new _ _ _ c.next.new.self c.in-Some.name.now c.in-Some.ensures.steps c.loop-name.invariant)

pub loop-name-preserved : goal.loop-name-preserved
loop-name-preserved c = texts_step _ _ _ c.next.new.self c.push_name.new.all.keys c.in-Some.name.now c.in-Some.ensures.steps c.loop-name.invariant (let name = c.as_str.ensures.value in let new = c.in_ok-push_name.ensures.ok in cc)

pub returns : goal.returns
returns c = same_names c.loop-name.copy.keys c.args.from.now.keys (texts_end c.args.from.now.keys c.loop-name.copy.keys c.loop-name.name-iterator c.in-None.ensures.steps.0 c.loop-name.invariant)
