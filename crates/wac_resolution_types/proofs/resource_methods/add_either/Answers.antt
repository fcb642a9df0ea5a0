use Rattle.wac_resolution_types.proofs.resource_methods.add_either.Goals as goal

pub returns-in-Constructor-clause-err : goal.returns-in-Constructor-clause-err
returns-in-Constructor-clause-err c = rw c.in-Constructor.is c.add_constructor.ensures.err

pub returns-in-Method-clause-err : goal.returns-in-Method-clause-err
returns-in-Method-clause-err c = rw c.in-Method.is c.add_method.ensures.err
