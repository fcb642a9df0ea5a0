use Rattle.wac_lexer.proofs.Common.{◌≡◌, true, take, drop, sym, ap, ◌∙◌, arith, list_all}
use Rattle.wac_lexer.specs.Characters.{is_plain}
use Rattle.wac_lexer.proofs.Refusals.{blocks_more}
use Rattle.wac_lexer.proofs.characters.plain_blocks.Goals as goal

pub loop-i-preserved : goal.loop-i-preserved
loop-i-preserved c =
    let bytes = c.args.bytes.now in
    let block : list_all is_plain (take 16 (drop c.loop-i.i bytes)) ≡ true =
    ap (λ t. list_all is_plain (take 16 t)) (sym c.split_at.ensures.back) ∙ ap (list_all is_plain) (sym c.split_at-in-loop-i.ensures.front) ∙ sym c.are_plain.ensures ∙ c.if-not-are_plain.false in
    record { within = omega arith; plain = blocks_more bytes c.loop-i.i 16 c.loop-i.invariant.plain block }
