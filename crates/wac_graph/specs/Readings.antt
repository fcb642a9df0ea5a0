-- What is read of a package.
use Rattle.wac_graph_types.specs.Names.{by_name}
use Rattle.wac_graph.specs.declared.packages.GraphPackage.{GraphPackage}
use Rattle.wac_graph.specs.Package.{HeldPackage, key_of}

abbrev pub held_of : GraphPackage → HeldPackage
held_of p = record { key = key_of p.key.now; first = p.first; size = p.size; world = p.world; instance = p.instance; definitions = by_name p.definitions.now.entries }
