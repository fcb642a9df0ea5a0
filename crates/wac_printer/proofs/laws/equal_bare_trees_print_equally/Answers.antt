use Rattle.wac_printer.proofs.Common.{ap, text, document_layout}
use Rattle.wac_printer.proofs.laws.equal_bare_trees_print_equally.Goals as goal

pub returns : goal.returns
returns c = λ s t x y space depth fresh e. ap (λ b. text space fresh (document_layout depth b)) e
