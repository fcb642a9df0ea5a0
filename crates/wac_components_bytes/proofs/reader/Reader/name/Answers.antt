use Rattle.wac_components_bytes.proofs.Unread.{name_after}
use Rattle.wac_components_bytes.proofs.reader.Reader.name.Goals as goal

pub returns-clause-ok : goal.returns-clause-ok
returns-clause-ok c =
    name_after _ _ _ _ _ _ _ _ _ (c.in_ok-charge.ensures.bytes, c.in_ok-charge.ensures.place.0, c.in_ok-charge.ensures.place.1) c.if-length-self.false c.number.new.self.ordered c.charge.new.self.within
    c.in_ok-text.ensures.ok c.in_ok-length.ensures.ok
