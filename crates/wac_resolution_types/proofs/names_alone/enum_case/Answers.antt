use Rattle.wac_resolution_types.proofs.NamesAlone.{name_fresh, name_added}
use Rattle.wac_resolution_types.proofs.names_alone.enum_case.Goals as goal

pub returns-clause-ok : goal.returns-clause-ok
returns-clause-ok c = (name_fresh c.args.case.now.id.string.now c.args.all.now.keys c.in_ok-check_enum_case.ensures.ok, name_added c.args.case.now.id.string.now c.args.all.now.keys c.push_name.new.all.keys c.in_ok-push_name.ensures.ok)
