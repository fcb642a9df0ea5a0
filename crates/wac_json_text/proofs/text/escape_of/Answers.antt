use Rattle.wac_json_text.proofs.Common.{sym, ap, ◌∙◌, arith}
use Rattle.json.specs.Print.{escape_byte}
use Rattle.wac_json_text.proofs.Escapes.{coded, is_control}
use Rattle.wac_json_text.proofs.text.escape_of.Goals as goal

pub returns-in-34 : goal.returns-in-34
unfolding escape_byte
returns-in-34 c = ap escape_byte (sym c.in-34.is)

pub returns-in-92 : goal.returns-in-92
unfolding escape_byte
returns-in-92 c = ap escape_byte (sym c.in-92.is)

pub returns-in-10 : goal.returns-in-10
unfolding escape_byte
returns-in-10 c = ap escape_byte (sym c.in-10.is)

pub returns-in-13 : goal.returns-in-13
unfolding escape_byte
returns-in-13 c = ap escape_byte (sym c.in-13.is)

pub returns-in-9 : goal.returns-in-9
unfolding escape_byte
returns-in-9 c = ap escape_byte (sym c.in-9.is)

pub returns-in-8 : goal.returns-in-8
unfolding escape_byte
returns-in-8 c = ap escape_byte (sym c.in-8.is)

pub returns-in-12 : goal.returns-in-12
unfolding escape_byte
returns-in-12 c = ap escape_byte (sym c.in-12.is)

pub code_escape-requires : goal.code_escape-requires
code_escape-requires c = is_control c.args.byte c.requires (λ e. omega (arith, e)) (λ e. omega (arith, e))

pub returns-in_default : goal.returns-in_default
returns-in_default c =
    let b = c.args.byte in
    c.code_escape.ensures
    ∙ coded b (is_control b c.requires (λ e. omega (arith, e)) (λ e. omega (arith, e)))
    (λ e. omega (arith, e)) (λ e. omega (arith, e)) (λ e. omega (arith, e)) (λ e. omega (arith, e)) (λ e. omega (arith, e))
