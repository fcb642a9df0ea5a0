use Rattle.wac_json_text.proofs.Common.{sym, option_map, package_path_of, printed_at, target_member}
use Rattle.json.specs.Print.{escape_byte}
use Rattle.wac_json_text.specs.Pieces.{members_pieces}
use Rattle.wac_json_text.proofs.document.target.Goals as goal

pub returns-in-Some : goal.returns-in-Some
unfolding escape_byte
returns-in-Some g c = printed_at (λ path. members_pieces (target_member (option_map package_path_of path))) (sym c.in-Some.is) c.variant.ensures

pub returns-in-None : goal.returns-in-None
returns-in-None g c = printed_at (λ path. members_pieces (target_member (option_map package_path_of path))) (sym c.in-None.is) c.blank.ensures
