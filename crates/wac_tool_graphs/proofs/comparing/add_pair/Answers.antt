use Rattle.wac_tool_graphs.proofs.Common.{arith, stands}
use Rattle.wac_tool_graphs.proofs.Forms.{if_ok_leads, pair_reduces}
use Rattle.wac_tool_graphs.proofs.comparing.add_pair.Goals as goal

pub returns-else-first-second-clause-reduces : goal.returns-else-first-second-clause-reduces
returns-else-first-second-clause-reduces c =
    let h = c.in-Some-Some.ensures.lookup in
    let g = c.in-Some-Some.ensures'.lookup in
    let isd = stands c.args.entries.now c.args.first c.in-Some-Some.a.now (omega arith) h.1 in
    let ise = stands c.args.entries.now c.args.second c.in-Some-Some.b.now (omega arith) g.1 in
    if_ok_leads _ _ c.add_entries.result
    (λ same r origins one. pair_reduces origins c.args.entries.now c.args.first c.args.second _ _ same _ _ isd ise
    (r (origins c.args.first) (origins c.args.second) (λ rd re e. c.if-first-second.false (one c.args.first c.args.second _ _ isd ise rd re e))))
    c.add_entries.ensures
