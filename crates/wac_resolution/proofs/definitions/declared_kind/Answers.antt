use Rattle.wac_resolution.proofs.Common.{ap, type_statement_of, type_decl_of, interface_decl_of, world_decl_of, if_reports, items_named}
use Rattle.wac_resolution.proofs.DeclaredKinds.{interface_kind, world_kind, type_kind, interface_breaks, world_breaks, type_breaks}
use Rattle.wac_resolution.proofs.definitions.declared_kind.Goals as goal

pub interface_decl-requires-clause-root : goal.interface_decl-requires-clause-root
interface_decl-requires-clause-root c = items_named c.args.state.now.graph c.args.root.now c.requires.agrees

pub returns-in-Interface-clause-ok : goal.returns-in-Interface-clause-ok
returns-in-Interface-clause-ok c =
    interface_kind c.args.context.now c.args.state.now.graph c.interface_decl.new.state.graph c.args.root.now c.args.statement.now (interface_decl_of c.in-Interface.decl) c.interface_decl.result (ap type_statement_of c.in-Interface.is) c.requires.agrees c.interface_decl.ensures.ok

pub returns-in-Interface-clause-err : goal.returns-in-Interface-clause-err
returns-in-Interface-clause-err c =
    if_reports _ _
    (λ r. interface_breaks c.args.context.now c.args.state.now.graph c.args.root.now c.args.statement.now (interface_decl_of c.in-Interface.decl) r (ap type_statement_of c.in-Interface.is) c.requires.agrees)
    c.interface_decl.result c.interface_decl.ensures.err

pub world_decl-requires-clause-root : goal.world_decl-requires-clause-root
world_decl-requires-clause-root c = items_named c.args.state.now.graph c.args.root.now c.requires.agrees

pub returns-in-World-clause-ok : goal.returns-in-World-clause-ok
returns-in-World-clause-ok c =
    world_kind c.args.context.now c.args.state.now.graph c.world_decl.new.state.graph c.args.root.now c.args.statement.now (world_decl_of c.in-World.decl) c.world_decl.result (ap type_statement_of c.in-World.is) c.requires.agrees c.world_decl.ensures.ok

pub returns-in-World-clause-err : goal.returns-in-World-clause-err
returns-in-World-clause-err c =
    if_reports _ _
    (λ r. world_breaks c.args.context.now c.args.state.now.graph c.args.root.now c.args.statement.now (world_decl_of c.in-World.decl) r (ap type_statement_of c.in-World.is) c.requires.agrees)
    c.world_decl.result c.world_decl.ensures.err

pub type_decl-requires : goal.type_decl-requires
type_decl-requires c = items_named c.args.state.now.graph c.args.root.now c.requires.agrees

pub returns-in-Ty-clause-ok : goal.returns-in-Ty-clause-ok
returns-in-Ty-clause-ok c =
    type_kind c.args.context.now c.args.state.now.graph c.type_decl.new.state.graph c.args.root.now c.args.statement.now (type_decl_of c.in-Ty.decl) c.type_decl.result (ap type_statement_of c.in-Ty.is) c.requires.agrees c.requires.supplied c.type_decl.ensures.ok

pub returns-in-Ty-clause-err : goal.returns-in-Ty-clause-err
returns-in-Ty-clause-err c =
    if_reports _ _
    (λ r. type_breaks c.args.context.now c.args.state.now.graph c.args.root.now c.args.statement.now (type_decl_of c.in-Ty.decl) r (ap type_statement_of c.in-Ty.is) c.requires.agrees)
    c.type_decl.result c.type_decl.ensures.err
