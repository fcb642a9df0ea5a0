use Rattle.wac_lexer.proofs.Common.{rules, arith, length, take, drop, ◌≡◌, ◌+◌, ◌++◌, ◌∙◌, ap, length-take-le}
use Rattle.wac_lexer.proofs.Passing.{written_after, holding_more}
use Rattle.wac_lexer.proofs.device.Blocks.hold.Goals as goal

pub returns-clause-held : goal.returns-clause-held
returns-clause-held g c =
    let i = c.self.inside in
    let n = c.min-n.result in
    let front : c.split_at_mut-free.result.0.now ≡ take i.end i.block = search rules in
    let put : c.copy_from_slice.new.self ≡ take n c.args.part.now = search rules in
    let rest = c.split_at_mut-room.result.1.now in
    let fits : length (take i.end i.block) ≡ i.end = length-take-le i.end i.block (omega arith) in
    let whole : length (take n c.args.part.now) ≡ n = length-take-le n c.args.part.now (omega arith) in
    let held : drop i.start (take (i.end + n) (c.split_at_mut-free.result.0.now ++ (c.copy_from_slice.new.self ++ rest))) ≡ drop i.start (take i.end i.block) ++ take n c.args.part.now =
    ap (λ x. drop i.start (take (i.end + n) (x ++ (c.copy_from_slice.new.self ++ rest)))) front
    ∙ ap (λ x. drop i.start (take (i.end + n) (take i.end i.block ++ (x ++ rest)))) put
    ∙ written_after (take i.end i.block) (take n c.args.part.now) rest i.start i.end n fits whole c.self.invariant.0 in
    holding_more _ _ _ _ _ _ c.self.view_is held (omega arith)
