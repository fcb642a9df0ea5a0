use Rattle.wac_tool.proofs.Common.{◌≡◌, ◌++◌, OnOk, string_bytes, subst, sym}
use Rattle.std.proofs.lemmas.Fmt.{decimal_digit}
use Rattle.wac_tool.proofs.listing.push_len.Goals as goal

pub returns-then-len-lt10 : goal.returns-then-len-lt10
returns-then-len-lt10 c =
    subst (λ digits. OnOk c.push_digit.result (string_bytes c.push_digit.new.lines ≡ string_bytes c.args.lines.now ++ digits)) (sym (decimal_digit c.args.len c.if-len-lt10.true)) c.push_digit.ensures
