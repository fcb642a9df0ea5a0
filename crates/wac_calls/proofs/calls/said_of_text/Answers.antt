use Rattle.std.proofs.Common.{inr, subst, sym}
use Rattle.wac_calls.specs.Calls.{Says}
use Rattle.wac_calls.specs.Errors.{SaysErrors}
use Rattle.wac_calls.specs.declared.word.Word.{Word}
use Rattle.wac_calls.proofs.calls.said_of_text.Goals as goal

pub returns-in-Wac : goal.returns-in-Wac
returns-in-Wac c = subst (λ (w : Word). Says w c.args.source.now c.commanded.result) (sym c.in-Wac.is) (inr (c.requires, c.commanded.ensures))

pub returns-in-Tidy : goal.returns-in-Tidy
returns-in-Tidy c = subst (λ (w : Word). Says w c.args.source.now c.tidied.result) (sym c.in-Tidy.is) (inr (c.requires, c.tidied.ensures))

pub returns-in-Errors : goal.returns-in-Errors
returns-in-Errors c =
    let says = subst (λ s. SaysErrors s c.first_errors.result) c.as_bytes.ensures.value c.first_errors.ensures in
    subst (λ (w : Word). Says w c.args.source.now c.first_errors.result) (sym c.in-Errors.is) says
