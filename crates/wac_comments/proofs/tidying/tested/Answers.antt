use Rattle.std.proofs.Common.{◌≡◌, ℕ, List, sym, ap, subst, ◌∙◌}
use Rattle.std.specs.List.{AllByRecursion, list_any}
use Rattle.wac_comments_layout.specs.Following.{IsPieceText}
use Rattle.wac_comments_layout.specs.Kept.{is_comment}
use Rattle.wac_comments_layout.specs.Pieces.{texts}
use Rattle.wac_comments_layout.specs.Printing.{printed}
use Rattle.wac_comments_layout.specs.Texts.{texts_of}
use Rattle.wac_comments_layout.proofs.Known.{printed_known}
use Rattle.wac_comments.specs.Comments.{has_comments}
use Rattle.wac_comments.specs.Tidied.{ReadsBackAs}
use Rattle.wac_comments.proofs.Alike.{has_same}
use Rattle.wac_comments.proofs.Read.{are_tokens}
use Rattle.wac_comments.proofs.tidying.tested.Goals as goal
use Rattle.wac_comments.proofs.tidying.tested.Goals.{After-as_slice-wanted}

-- what is wanted is what is printed of the source
wanted_is : (c : After-as_slice-wanted) → texts_of c.as_slice-wanted.result.now ≡ printed (texts c.args.source.now)
wanted_is c = ap texts_of c.as_slice-wanted.ensures.value ∙ c.in_ok-found.ensures.found ∙ ap printed c.requires.pieces

commented : (c : After-as_slice-wanted) → list_any is_comment (texts_of c.as_slice-wanted.result.now) ≡ has_comments c.args.source.now
commented c = ap (list_any is_comment) (wanted_is c) ∙ has_same c.args.source.now

pub returns-then-is_same-clause-kept : goal.returns-then-is_same-clause-kept
returns-then-is_same-clause-kept c =
    let same = sym c.as_str-text.ensures.value ∙ c.is_same.ensures.same c.if-is_same.true in
    ap texts same ∙ sym c.requires.pieces ∙ c.is_same.ensures.printed c.if-is_same.true ∙ wanted_is (goal.at.returns-then-is_same-clause-kept c).After-as_slice-wanted

pub returns-then-is_same-clause-back : goal.returns-then-is_same-clause-back
returns-then-is_same-clause-back c =
    let same = sym c.as_str-text.ensures.value ∙ c.is_same.ensures.same c.if-is_same.true in
    subst (λ (text : List ℕ). ReadsBackAs text c.args.formatted.now) (sym same) c.requires.back

pub returns-then-is_same-clause-plain : goal.returns-then-is_same-clause-plain
returns-then-is_same-clause-plain c = λ none.
    c.in_ok-candidate.ensures.plain (commented (goal.at.returns-then-is_same-clause-plain c).After-as_slice-wanted ∙ none)

pub is_kept-requires-clause-known : goal.is_kept-requires-clause-known
is_kept-requires-clause-known c =
    let source = c.args.source.now in
    let is = wanted_is (goal.at.is_kept-requires-clause-known c).After-as_slice-wanted in
    subst (AllByRecursion IsPieceText) (sym is) (printed_known source (are_tokens source c.requires.back.0 c.requires.back.1))

pub returns-then-kept-clause-kept : goal.returns-then-kept-clause-kept
returns-then-kept-clause-kept c =
    ap texts (sym c.as_str-text.ensures.value) ∙ c.in_ok-kept.ensures.kept c.if-kept.true ∙ wanted_is (goal.at.returns-then-kept-clause-kept c).After-as_slice-wanted

pub returns-then-kept-clause-plain : goal.returns-then-kept-clause-plain
returns-then-kept-clause-plain c = λ none.
    c.in_ok-candidate.ensures.plain (commented (goal.at.returns-then-kept-clause-plain c).After-as_slice-wanted ∙ none)
