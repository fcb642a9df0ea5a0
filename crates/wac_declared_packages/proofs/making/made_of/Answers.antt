use Rattle.wac_declared_packages.specs.Together.{now_of}
use Rattle.wac_declared_packages.proofs.Declares.{copies_declared}
use Rattle.wac_declared_packages.proofs.making.made_of.Goals as goal

pub declared-requires-clause-all : goal.declared-requires-clause-all
declared-requires-clause-all c = copies_declared (now_of c.args.sources.now.texts.now) c.args.sources.now.worlds.now.entries c.args.made.now.entries c.in-Ok.packages.entries c.requires.all c.in-Ok.ensures.copies
