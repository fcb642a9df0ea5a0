use Rattle.std.proofs.Common.{rules, arith}
use Rattle.std.proofs.lemmas.Iterator.Search.{all_from_yields_List}
use Rattle.std.proofs.lemmas.Iterator.Splits.{YieldsList-from_str_split}
use borrow.Author.Tests.{tests}
use Rattle.wac_extern_names.specs.Names.{is_word}
use Rattle.wac_extern_names.proofs.words.is_kebab.Goals as goal

pub returns : goal.returns
returns c = all_from_yields_List is_word _ _ _ c.all.ensures.ran
    (YieldsList-from_str_split 45 c.args.text.now (omega arith) c.split.ensures.text c.split.ensures.has_more c.split.ensures.pattern)
    (λ x b q k. search (rules, tests))
