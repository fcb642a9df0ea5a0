use Rattle.std.proofs.Common.{◌≡◌, ◌∙◌, Option, Some, ap, subst, sym}
use Rattle.std.specs.Prelude.{IsSomeAnd, option_copied, slice_get}
use Rattle.wac_names.specs.declared.names.Mention.{Mention}
use Rattle.wac_names.specs.LookedUp.{IsMember}
use Rattle.wac_names.proofs.standing.is_member_at.Goals as goal

pub returns-in-Some : goal.returns-in-Some
returns-in-Some c = λ is.
    let there : Some c.in-Some.mention.now ≡ slice_get c.args.mentions.now c.args.at = ap option_copied (sym c.in-Some.is) ∙ c.mention_numbered.ensures in
    (c.args.at, subst (λ (o : Option Mention). IsSomeAnd o (IsMember c.args.number c.args.place)) there (c.is_member.ensures is))
