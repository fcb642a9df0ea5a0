use Rattle.wac_comments_layout.proofs.Common.{◌++◌, ap, ◌∙◌, IsCharBoundary-start, left}
use Rattle.wac_comments_layout.specs.Pieces.{pieces_after}
use Rattle.wac_comments_layout.specs.Texts.{pieces_of}
use Rattle.wac_comments_layout.proofs.pieces.read_items.Goals as goal

pub loop-span-init : goal.loop-span-init
loop-span-init c =
    let source = c.args.source.now in
    record {
      can = tt;
      finite = tt;
      source = c.requires.source;
      boundary = IsCharBoundary-start source c.utf8.source;
      found = ap (λ pieces. pieces_of pieces ++ pieces_after source 0 (left c.args.lexer)) c.in_ok-reader.ensures ∙ ap (pieces_after source 0) c.requires.left;
    }
