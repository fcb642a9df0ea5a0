use Rattle.wac_tool.proofs.Common.{◌∙◌, inl, sym, ◌≢◌}
use Rattle.std.proofs.lemmas.Slice.Eq.{bytes_eq-Decides}
use Rattle.wac_tool.specs.Running.{printed}
use Rattle.wac_tool.specs.declared.command.Command.TheVariants.{Check}
use Rattle.wac_tool.proofs.NoTree.{refuses}
use Rattle.wac_tool.proofs.NotFormatted.{formatted, unformatted}
use Rattle.wac_tool.proofs.checking.check.Goals as goal

pub returns-in-Err-clause-answers : goal.returns-in-Err-clause-answers
returns-in-Err-clause-answers c =
    λ written. refuses Check c.args.source.now (λ place text h. inl h) c.in-Err.error c.refusal.result written c.requires c.in-Err.ensures.only c.in-Err.ensures.error c.refusal.ensures

pub returns-then-eq-clause-answers : goal.returns-then-eq-clause-answers
returns-then-eq-clause-answers c =
    let found = c.in-Ok.ensures.found in
    let same = (bytes_eq-Decides c.as_str.result.now c.args.source.now).0 (sym c.eq.ensures ∙ c.if-eq.true) in
    λ written. formatted c.args.source.now found.0 written c.requires found.1 (sym same ∙ c.as_str.ensures.value ∙ found.2)

pub returns-clause-answers : goal.returns-clause-answers
returns-clause-answers c =
    let found = c.in-Ok.ensures.found in
    let other : c.args.source.now ≢ printed c.args.source.now found.0 =
    λ e. absurd (cc ((bytes_eq-Decides c.as_str.result.now c.args.source.now).1 (c.as_str.ensures.value ∙ found.2 ∙ sym e), c.eq.ensures, c.if-eq.false)) in
    λ written. unformatted c.args.source.now found.0 c.unformatted.result written c.requires found.1 other c.unformatted.ensures
