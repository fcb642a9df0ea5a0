use Rattle.wac_components_bytes.proofs.Groups.{group_or}
use Rattle.wac_components_bytes.proofs.reader.numbers.with_group.Goals as goal

pub returns : goal.returns
returns c = rw c.from.ensures (group_or c.args.value c.args.byte c.args.place c.requires.value c.requires.place)
