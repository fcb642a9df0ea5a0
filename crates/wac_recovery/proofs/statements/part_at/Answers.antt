use Rattle.std.proofs.Common.{arith, rules}
use Rattle.wac_lexer.specs.Reading.{Slices}
use Rattle.wac_recovery.proofs.Rejecting.{refused_slices}
use Rattle.wac_recovery.proofs.statements.part_at.Goals as goal

pub returns-in-Err-clause-slices : goal.returns-in-Err-clause-slices
returns-in-Err-clause-slices c =
    let h : Slices c.args.source.now c.in-Err.span =
    refused_slices c.args.source.now (c.in-Err.field-0-0, c.in-Err.span) c.utf8.source (c.refused_characters_are_first.ensures c.args.source.now) c.in-Err.ensures.refused in
    first_of (search (rules, h), grind (arith, h))
