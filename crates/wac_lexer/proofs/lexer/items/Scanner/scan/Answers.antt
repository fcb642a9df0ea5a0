use Rattle.wac_lexer.proofs.Common.{arith, ◌≡◌, ◌+◌, ◌<◌, ◌^◌, [], ◌∷◌, ap, sym, ◌∙◌, subst, drop, Some, IsCharBoundary, IsCharBoundary-from_rest}
use Rattle.wac_lexer.specs.Span.{span, end_of}
use Rattle.wac_lexer.specs.Item.{next_token}
use Rattle.wac_lexer.specs.Items.{first_item, items_from}
use Rattle.wac_lexer.specs.Reading.{Slices}
use Rattle.wac_lexer.proofs.Unfolded.{made, items_none, items_some}
use Rattle.wac_lexer.proofs.lexer.items.Scanner.scan.Goals as goal
use Rattle.wac_lexer.proofs.lexer.items.Scanner.scan.Goals.{After-from_residual, After-new}

-- nothing is found
none : (c : After-from_residual) → items_from c.args.self.now.source.now c.args.place ≡ []
none c =
    let source = c.args.self.now.source.now in
    items_none source c.args.place
    (ap (λ start. first_item (drop start source)) (sym c.start_of-start.ensures.start) ∙ ap first_item (sym c.range_from.ensures.value) ∙ sym c.first_item.ensures.item ∙ c.in_err-found.was)

pub returns-in_err-found-clause-item : goal.returns-in_err-found-clause-item
returns-in_err-found-clause-item c = rw c.from_residual.ensures (record { is = sym (ap next_token (none c)); slices = tt; fits = tt })

-- something is found: a token or a fault
some : (c : After-new) → items_from c.args.self.now.source.now c.args.place ≡ made c.args.self.now.source.now c.args.place (c.in_ok-found.found, c.in_ok-found.len) ∷ items_from c.args.self.now.source.now (end_of c.new.result)
some c =
    let source = c.args.self.now.source.now in
    let place : c.start_of-start.result + c.in_ok-found.len ≡ end_of c.new.result = ap end_of (sym c.new.ensures) in
    items_some source c.args.place (c.in_ok-found.found, c.in_ok-found.len)
    (ap (λ start. first_item (drop start source)) (sym c.start_of-start.ensures.start) ∙ ap first_item (sym c.range_from.ensures.value) ∙ sym c.first_item.ensures.item ∙ c.in_ok-found.was)
    ∙ ap (λ n. made source c.args.place (c.in_ok-found.found, c.in_ok-found.len) ∷ items_from source n) (ap (λ n. n + c.in_ok-found.len) (sym c.start_of-start.ensures.start) ∙ place)

span_is : (c : After-new) → c.new.result ≡ (made c.args.self.now.source.now c.args.place (c.in_ok-found.found, c.in_ok-found.len)).span
span_is c = c.new.ensures ∙ ap (λ n. span n c.in_ok-found.len) c.start_of-start.ensures.start

pub returns-clause-item : goal.returns-clause-item
returns-clause-item c =
    let source = c.args.self.now.source.now in
    let start = c.start_of-start.result in
    let from : IsCharBoundary source start = c.start_of-start.ensures.within in
    let to : IsCharBoundary (drop start source) c.in_ok-found.len = subst (λ text. IsCharBoundary text c.in_ok-found.len) c.range_from.ensures.value c.in_ok-found.ensures.within in
    let slices : Slices source (span start c.in_ok-found.len) = (from, IsCharBoundary-from_rest source start c.in_ok-found.len from.0 to) in
    let fits : end_of c.new.result < 2 ^ 64 = subst (λ s. end_of s < 2 ^ 64) (sym c.new.ensures) (search arith) in
    record {
      is = ap (λ s. Some (c.in_ok-found.found, s)) (span_is c) ∙ sym (ap next_token (some c));
      slices = subst (Slices source) (sym c.new.ensures) slices;
      fits = fits;
    }
