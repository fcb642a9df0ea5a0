use Rattle.wac_resolution_types.proofs.items.item.Goals as goal

pub returns-in-Resource-clause-err : goal.returns-in-Resource-clause-err
returns-in-Resource-clause-err c = rw c.in-Resource.is c.resource.ensures.err

pub returns-in-Variant-clause-err : goal.returns-in-Variant-clause-err
returns-in-Variant-clause-err c = rw c.in-Variant.is c.variant.ensures.err

pub returns-in-Record-clause-err : goal.returns-in-Record-clause-err
returns-in-Record-clause-err c = rw c.in-Record.is c.record.ensures.err

pub returns-in-Flags-clause-err : goal.returns-in-Flags-clause-err
returns-in-Flags-clause-err c = rw c.in-Flags.is c.flags.ensures.err

pub returns-in-Enum-clause-err : goal.returns-in-Enum-clause-err
returns-in-Enum-clause-err c = rw c.in-Enum.is c.enumeration.ensures.err

pub returns-in-Alias-clause-err : goal.returns-in-Alias-clause-err
returns-in-Alias-clause-err c = rw c.in-Alias.is c.alias.ensures.err
