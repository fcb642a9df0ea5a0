use Rattle.wac_graph_types.proofs.Common.{List, subst}
use Rattle.wac_graph_types.specs.declared.entry.Entry.{Entry}
use Rattle.wac_graph_types.specs.Names.{by_name}
use Rattle.wac_graph_types.specs.Package.{IsPackage, FirstFault}
use Rattle.wac_graph_types.proofs.package.Package.new.Goals as goal

pub returns-in-Err-clause-err : goal.returns-in-Err-clause-err
returns-in-Err-clause-err c = subst (λ (es : List Entry). FirstFault c.in-Err.fault (record { types = es; world = c.args.world; instance = c.args.instance; definitions = by_name c.args.definitions.entries })) c.entries.ensures c.in-Err.ensures.err

pub invariant_of-result : goal.invariant_of-result
invariant_of-result c = subst (λ (es : List Entry). IsPackage (record { types = es; world = c.args.world; instance = c.args.instance; definitions = by_name c.args.definitions.entries })) c.entries.ensures c.in-Ok.ensures.ok

pub returns-in-Ok-clause-ok : goal.returns-in-Ok-clause-ok
returns-in-Ok-clause-ok c = subst (λ (es : List Entry). IsPackage (record { types = es; world = c.args.world; instance = c.args.instance; definitions = by_name c.args.definitions.entries })) c.entries.ensures c.in-Ok.ensures.ok
