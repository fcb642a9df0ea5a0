use Rattle.std.proofs.Common.{◌≡◌, drop}
use Rattle.wac_comments_layout.specs.Texts.{texts_of}
use Rattle.wac_comments.proofs.testing.have_same_texts.Given as goal

abbrev pub invariant-loop-index : goal.invariant-loop-index
invariant-loop-index l = drop l.index (texts_of l.found) ≡ drop l.index (texts_of l.wanted) → texts_of l.found ≡ texts_of l.wanted
