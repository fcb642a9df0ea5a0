use Rattle.wac_ast_base.proofs.Common.{rules, ◌++◌}
use Rattle.std.proofs.Output.{has_written_append}
use Rattle.wac_ast_base.specs.Messages.{entry}
use Rattle.wac_ast_base.proofs.Messages.{token_written, place_passed}
use Rattle.wac_ast_base.proofs.message.write_kept.Goals as goal
use Rattle.wac_ast_base.proofs.message.write_kept.Goals.{in-Some+in_ok-write_entry, in_default}

pub loop-place-preserved : goal.loop-place-preserved
loop-place-preserved g c = elim c.match-place.branch [
  | in-Some+in_ok-write_entry w ↦ (
    search rules,
    λ plain.
        let before = c.loop-place.invariant.1 plain in (
          before.0 ++ (c.loop-place.separator.now ++ entry c.loop-place.left w.in-Some.token),
          has_written_append _ _ _ _ _ _ before.1 (search rules),
          rw (w.separator-is, w.left-is, w.saturating_sub-left.ensures) (token_written _ before.0 c.loop-place.separator.now c.loop-place.left _ c.args.kept.now c.loop-place.place-index _ c.loop-place-test.true w.in-Some.is before.2),
        ),
  )
  | in_default w ↦ (
    search rules,
    λ plain.
        let before = c.loop-place.invariant.1 plain in (
          before.0,
          search rules,
          rw (w.separator-is, w.left-is) (place_passed _ before.0 c.loop-place.separator.now c.loop-place.left c.args.kept.now c.loop-place.place-index _ c.loop-place-test.true w.in_default.is before.2),
        ),
  )
]
