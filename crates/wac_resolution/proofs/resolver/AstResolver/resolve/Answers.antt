use Rattle.wac_resolution.proofs.Common.{◌∙◌, rules_of}
use Rattle.wac_resolution.proofs.Resolving.{rejection, resolution}
use Rattle.wac_resolution.proofs.resolver.AstResolver.resolve.Goals as goal

pub returns-in-Ok : goal.returns-in-Ok
returns-in-Ok g c =
    resolution c.args.self c.new.result c.args.packages.entries (rules_of g.R.Rules c.args.rules.now) c.in-Ok.graph c.new-in-Ok.result (c.new.ensures ∙ c.self.view_is) (c.new-in-Ok.ensures.document ∙ c.self.view_is)
    c.new-in-Ok.ensures.graph c.in-Ok.ensures

pub returns-in-Err : goal.returns-in-Err
returns-in-Err g c = rejection c.args.self c.new.result c.args.packages.entries (rules_of g.R.Rules c.args.rules.now) c.in-Err.error (c.new.ensures ∙ c.self.view_is) c.in-Err.ensures
