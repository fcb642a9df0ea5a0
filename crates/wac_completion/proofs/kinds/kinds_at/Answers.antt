use Rattle.std.specs.Prelude.{false}
use Rattle.wac_completion.proofs.Starting.{kinds_there, nothing_there}
use Rattle.wac_completion.proofs.kinds.kinds_at.Goals as goal

pub returns-clause-kinds : goal.returns-clause-kinds
returns-clause-kinds c =
    kinds_there c.args.source.now c.args.offset c.word_start.result c.split_at.result.0.now c.split_at-2.result.0.now c.kinds_after.result (λ v. v.items) c.split_at.ensures.front c.word_start.ensures.begins c.split_at-2.ensures.front c.kinds_after.ensures

pub returns-clause-none : goal.returns-clause-none
returns-clause-none c = λ none. absurd (nothing_there c.args.source.now c.args.offset c.is_char_boundary.result c.is_char_boundary.ensures.test c.if-not-is_char_boundary.false none)
