use lib.Utf8.{encode}
use Rattle.std.proofs.Common.{string_bytes}
use Rattle.wac_calls.proofs.first_errors.line_of.Goals as goal

pub returns : goal.returns
unfolding encode
returns c = (string_bytes c.in_ok-line.line, c.in_ok-push.ensures.bytes)
