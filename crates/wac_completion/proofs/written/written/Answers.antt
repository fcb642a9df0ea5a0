use Rattle.std.proofs.Common.{sym, subst}
use Rattle.std.proofs.lemmas.List.Elements.{All-push}
use Rattle.std.specs.List.{All}
use Rattle.wac_completion.specs.Names.{IsWritten}
use Rattle.wac_completion.proofs.written.written.Goals as goal

pub loop-name-preserved : goal.loop-name-preserved
loop-name-preserved c =
    subst (All (IsWritten c.args.text.now)) (sym c.in_ok-push.ensures.items) (All-push (IsWritten c.args.text.now) c.loop-name.all.items _ c.loop-name.invariant (c.is_written.ensures c.if-not-is_written.false))
