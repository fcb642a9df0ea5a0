use Rattle.std.proofs.Common.{◌≡◌, ◌∙◌, ◌&&◌, ap, refl, rules, false}
use Rattle.wac_lexer.specs.Reading.{left as items_left, slice}
use Rattle.wac_all_errors.specs.Naming.{is_blank_at, same_name}
use Rattle.wac_all_errors.proofs.Declaring.{declared_later, not_here, text_at}
use Rattle.wac_all_errors.proofs.blanking.declared_among.Goals as goal
use Rattle.wac_all_errors.proofs.blanking.declared_among.Goals.{else-is_after-via-then-is_after+else-is_blanked_name, else-is_after-via-else-is_after}

pub loop-item-preserved : goal.loop-item-preserved
loop-item-preserved c =
    let left = c.args.left.now in
    let name = c.args.name.now in
    let after = c.loop-item.is_after in
    let place = c.in-Some.span.offset in
    let text = slice c.loop-item.lexer.source c.in-Some.span in
    let steps = c.in-Some.ensures.steps in
    let none : (after && (is_blank_at left place && same_name text name)) ≡ false =
    elim c.else-is_after.branch [
      | else-is_after-via-then-is_after+else-is_blanked_name w ↦
          let places : w.offset.result ≡ place = first_of (search rules, cc) in
          let words : w.source.result.now ≡ text = first_of (search rules, cc) in
          not_here left name after w.is_blanked_name.result w.offset.result place w.source.result.now text w.if-is_after.true w.is_blanked_name.ensures w.if-is_blanked_name.false places words
      | else-is_after-via-else-is_after w ↦ ap (λ x. x && (is_blank_at left place && same_name text name)) w.if-is_after.false
    ] in
    record {
      can = tt;
      finite = tt;
      found = declared_later left name after (items_left c.loop-item.lexer) (items_left c.next.new.self) c.in-Some.item c.in-Some.span place text steps.gives steps.rest refl
          (text_at c.loop-item.lexer.source (items_left c.loop-item.lexer) c.in-Some.item c.in-Some.span steps.gives steps.text) none c.declares_next-is_after.result c.declares_next-is_after.ensures
          ∙ c.loop-item.invariant.found;
    }
