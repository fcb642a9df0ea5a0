use Rattle.wac_json_text.proofs.Common.{◌∷◌, [], escape, parts_of, parts_text, blank, prints_same}
use Rattle.wac_json_text.specs.Pieces.{version_pieces}
use Rattle.wac_json_text.proofs.Escapes.{version_is}
use Rattle.wac_json_text.proofs.text.version_text.Goals as goal

pub returns : goal.returns
returns g c =
    let p = parts_of c.args.version.now in
    prints_same c.args.out.now c.version_parts.new.out c.version_parts.result (version_pieces p) (blank (escape (parts_text p)) ∷ []) (version_is p c.args.out.now) c.version_parts.ensures
