use Rattle.wac_resolution_types.proofs.Common.{sym, ap, ty_of, alone}
use Rattle.wac_ast_types.specs.declared.types.«Type».{«Type»}
use Rattle.wac_resolution_types.proofs.Aliasing.{not_alone}
use Rattle.wac_resolution_types.proofs.aliases.identifier.Goals as goal

pub returns-in-Ident : goal.returns-in-Ident
returns-in-Ident c = sym (ap (λ (x : «Type»). alone (ty_of x)) c.in-Ident.is)

pub returns-in_default : goal.returns-in_default
returns-in_default c = sym (not_alone c.args.ty.now c.in_default.not-Ident)
