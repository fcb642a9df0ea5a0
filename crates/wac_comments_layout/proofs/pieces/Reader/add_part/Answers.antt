use Rattle.wac_comments_layout.proofs.Common.{sym, ap, ◌∙◌, subst, IsCharBoundary}
use Rattle.wac_comments_layout.specs.Kept.{kept_len}
use Rattle.wac_comments_layout.proofs.Trimming.{kept_boundary}
use Rattle.wac_comments_layout.proofs.pieces.Reader.add_part.Goals as goal

pub split_at-requires : goal.split_at-requires
split_at-requires c =
    subst (IsCharBoundary c.args.part.now) (sym (c.kept_len.ensures.len ∙ ap kept_len c.as_bytes-bytes.ensures.value)) (kept_boundary c.args.part.now)
