use Rattle.std.proofs.Common.{◌≡◌, ◌++◌, ◌∙◌, None, ap, arith, rules, subst}
use Rattle.std.proofs.lemmas.Grind.{common_steps}
use Rattle.wac_lexer.specs.Reading.{Slices}
use Rattle.wac_lexer.specs.Span.{span}
use Rattle.wac_recovery.specs.Alone.{alone}
use Rattle.wac_recovery.specs.Attempts.{stand_in}
use Rattle.wac_recovery.specs.Blanked.{blanked}
use Rattle.wac_recovery.specs.Faults.{IsFirstFault}
use Rattle.wac_recovery.proofs.Standing.{before, faultless}
use Rattle.wac_recovery.proofs.alone.fault_after.Goals as goal

pub blanked-requires : goal.blanked-requires
blanked-requires c =
    let same : span 0 c.args.part.offset ≡ c.new.result = cc in
    subst (Slices c.args.source.now) same (before c.args.source.now c.args.part c.utf8.source c.requires)

pub returns-in-Ok-None : goal.returns-in-Ok-None
returns-in-Ok-None c =
    let span_is : c.new.result ≡ span 0 c.args.part.offset = cc in
    let text_is : c.as_str.result.now ≡ stand_in ++ blanked c.new.result c.args.source.now = first_of (cc, first_of (search rules, grind (arith, common_steps))) in
    let same : c.as_str.result.now ≡ alone c.args.source.now c.args.part.offset = text_is ∙ ap (λ s. stand_in ++ blanked s c.args.source.now) span_is in
    let none : c.in-Ok-None.field-0 ≡ None = cc in
    faultless c.args.source.now c.as_str.result.now c.args.part.offset same (subst (IsFirstFault c.as_str.result.now) none c.in-Ok-None.ensures)
