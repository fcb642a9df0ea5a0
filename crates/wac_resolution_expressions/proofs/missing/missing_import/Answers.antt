use Rattle.wac_resolution_expressions.proofs.Common.{◌≡◌, ◌∙◌, ℕ, List, Some, true, false, sym, ap, is_none, rules, string_bytes, by_name, look_up}
use Rattle.wac_resolution_expressions.proofs.Imports.{first_left, skip_given}
use Rattle.wac_resolution_expressions.proofs.missing.missing_import.Goals as goal

pub returns-then-is_none : goal.returns-then-is_none
returns-then-is_none c f =
    let name : List ℕ = string_bytes c.in-Some.name.now in
    let none : is_none c.find.result ≡ true = search rules in
    let here : is_none (look_up name (by_name c.args.given.now.entries)) ≡ true = ap is_none (sym (c.find.ensures ∙ ap (λ (n : List ℕ). look_up n (by_name c.args.given.now.entries)) c.as_str.ensures.value)) ∙ none in
    ap Some c.as_str-then-is_none.ensures.value
    ∙ first_left (by_name c.args.given.now.entries) (by_name c.args.imports.now.entries) _ (by_name c.next.new.self) (name, c.in-Some.field-0-1.now) (ap by_name c.in-Some.ensures.steps) here c.loop-name.invariant f

pub loop-name-preserved : goal.loop-name-preserved
loop-name-preserved c f =
    let name : List ℕ = string_bytes c.in-Some.name.now in
    let none : is_none c.find.result ≡ false = search rules in
    let here : is_none (look_up name (by_name c.args.given.now.entries)) ≡ false = ap is_none (sym (c.find.ensures ∙ ap (λ (n : List ℕ). look_up n (by_name c.args.given.now.entries)) c.as_str.ensures.value)) ∙ none in
    skip_given (by_name c.args.given.now.entries) (by_name c.args.imports.now.entries) _ (by_name c.next.new.self) (name, c.in-Some.field-0-1.now) (ap by_name c.in-Some.ensures.steps) here c.loop-name.invariant f
