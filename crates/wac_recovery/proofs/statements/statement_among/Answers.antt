use Rattle.std.proofs.Common.{◌≡◌, ◌≤◌, ◌<◌, ◌+◌, ◌-◌, ◌∙◌, sym, ap, subst, length, arith, rules, Some}
use Rattle.wac_lexer.specs.Item.{next_token, after_first_item}
use Rattle.wac_lexer.specs.Reading.{left, Slices}
use Rattle.wac_lexer.specs.Span.{Span, end_of}
use Rattle.wac_recovery.specs.Statements.{after_item, ends, up_to, with_item}
use Rattle.wac_recovery.specs.declared.statements.Begun.{Begun}
use Rattle.wac_recovery.proofs.Stepping.{IsBegun, depth_within, ended_before, ended_slices, found_here, goes_on, still_begun}
use Rattle.wac_recovery.proofs.statements.statement_among.Goals as goal
use Rattle.wac_recovery.proofs.statements.statement_among.Goals.{After-ends}

gives : (c : After-ends) → Some (c.in-Some.item, c.in-Some.span) ≡ next_token (left c.loop-item.lexer)
gives c = c.in-Some.ensures.steps.gives

rest : (c : After-ends) → left c.next.new.self ≡ after_first_item (left c.loop-item.lexer)
rest c = c.in-Some.ensures.steps.rest

same : (c : After-ends) → c.in-Some.span-in-Some-1-own.given.0.0.1 ≡ c.in-Some.span
same c = search rules

starts : (c : After-ends) → c.offset-start.result ≡ c.in-Some.span.offset
starts c = c.offset-start.ensures ∙ ap (λ (s : Span). s.offset) (same c)

lens : (c : After-ends) → c.len.result ≡ c.in-Some.span.len
lens c = c.len.ensures ∙ ap (λ (s : Span). s.len) (same c)

stops : (c : After-ends) → c.offset-start.result + c.len.result ≡ end_of c.in-Some.span
stops c = ap (λ n. n + c.len.result) (starts c) ∙ ap (λ n. c.in-Some.span.offset + n) (lens c)

begins : (c : After-ends) → c.with_item-statement.result ≡ with_item c.loop-item.begun c.in-Some.item c.offset-start.result
begins c = c.with_item-statement.ensures

peeks : (c : After-ends) → c.peek.result ≡ next_token (left c.next.new.self)
peeks c = c.peek.ensures.gives

tests : (c : After-ends) → c.ends.result ≡ ends c.with_item-statement.result c.in-Some.item c.peek.result
tests c = c.ends.ensures

moves : (c : After-ends) → c.loop-item.lexer.place < c.next.new.self.place
moves c =
    let goes = c.in-Some.ensures.goes.on tt in
    let less : length c.next.new.self.source - c.next.new.self.place < length c.loop-item.lexer.source - c.loop-item.lexer.place = goes.2 in
    let same : length c.next.new.self.source ≡ length c.loop-item.lexer.source = ap length c.in-Some.ensures.steps.source in
    omega (arith, less, same)

within : (c : After-ends) → c.next.new.self.place ≤ length c.args.source.now
within c =
    let is : c.next.new.self.place ≡ end_of c.in-Some.span = c.in-Some.ensures.steps.place in
    let le : end_of c.in-Some.span ≤ length c.loop-item.lexer.source = c.in-Some.ensures.steps.slices.1.0 in
    let same : length c.loop-item.lexer.source ≡ length c.args.source.now = ap length c.loop-item.invariant.source in
    omega (arith, is, le, same)

slices : (c : After-ends) → Slices c.args.source.now c.in-Some.span
slices c = subst (λ s. Slices s c.in-Some.span) c.loop-item.invariant.source c.in-Some.ensures.steps.slices

-- where the item ends, the lexer is
stops_there : (c : After-ends) → c.offset-start.result + c.len.result ≡ c.next.new.self.place
stops_there c = stops c ∙ sym c.in-Some.ensures.steps.place

pub after-requires : goal.after-requires
after-requires c =
    let here = (goal.at.after-requires c).After-ends in
    let begun = c.loop-item.begun in
    let within = depth_within c.args.source.now c.loop-item.lexer.place begun c.in-Some.item c.offset-start.result c.loop-item.invariant.begun in
    let same : c.with_item-statement.result.depth ≡ (with_item begun c.in-Some.item c.offset-start.result).depth = ap (λ (b : Begun). b.depth) (begins here) in
    let less = moves here in
    let is = c.in-Some.ensures.steps.place in
    let most = c.in-Some.ensures.steps.fits in
    omega (arith, within, same, less, is, most)

pub returns-then-place-end-clause-slices : goal.returns-then-place-end-clause-slices
returns-then-place-end-clause-slices c =
    let here = (goal.at.returns-then-place-end-clause-slices c).After-ends in
    let is = c.up_to.ensures ∙ ap (λ e. up_to e c.with_item-statement.result) (stops_there here) ∙ ap (up_to c.next.new.self.place) (begins here) in
    subst (Slices c.args.source.now) (sym is)
    (ended_slices c.args.source.now c.loop-item.lexer.place c.next.new.self.place c.loop-item.begun c.in-Some.item c.in-Some.span c.offset-start.result (starts here) c.loop-item.invariant.begun (slices here) (moves here)
    (sym c.in-Some.ensures.steps.place))

pub returns-then-place-end-clause-found : goal.returns-then-place-end-clause-found
returns-then-place-end-clause-found c =
    let here = (goal.at.returns-then-place-end-clause-found c).After-ends in
    ap Some c.up_to.ensures
    ∙ found_here (length c.args.source.now) c.args.place c.loop-item.begun (left c.loop-item.lexer) (left c.next.new.self) c.peek.result c.in-Some.item c.in-Some.span c.offset-start.result
    (c.offset-start.result + c.len.result) c.with_item-statement.result c.ends.result (gives here) (rest here) (starts here) (stops here) (begins here) (peeks here) (tests here) c.if-ends.true
    c.if-place-end.true
    ∙ c.loop-item.invariant.found

pub loop-item-preserved-then-ends : goal.loop-item-preserved-then-ends
loop-item-preserved-then-ends c =
    let here = (goal.at.loop-item-preserved-then-ends c).After-ends in
    record {
      can = tt;
      finite = tt;
      source = c.in-Some.ensures.steps.source ∙ c.loop-item.invariant.source;
      found = ended_before (length c.args.source.now) c.args.place c.loop-item.begun (left c.loop-item.lexer) (left c.next.new.self) c.peek.result c.in-Some.item c.in-Some.span c.offset-start.result
          (c.offset-start.result + c.len.result) c.with_item-statement.result c.ends.result (gives here) (rest here) (starts here) (stops here) (begins here) (peeks here) (tests here) c.if-ends.true
          c.if-place-end.false
          ∙ c.loop-item.invariant.found;
      begun = tt;
      within = within here;
    }

pub loop-item-preserved : goal.loop-item-preserved
loop-item-preserved c =
    let here = (goal.at.loop-item-preserved c).After-ends in
    let begun = still_begun c.args.source.now c.loop-item.lexer.place c.next.new.self.place c.loop-item.begun c.in-Some.item c.in-Some.span c.offset-start.result (starts here)
    c.loop-item.invariant.begun (slices here) (moves here) (sym c.in-Some.ensures.steps.place) in
    record {
      can = tt;
      finite = tt;
      source = c.in-Some.ensures.steps.source ∙ c.loop-item.invariant.source;
      found = goes_on (length c.args.source.now) c.args.place c.loop-item.begun (left c.loop-item.lexer) (left c.next.new.self) c.peek.result c.in-Some.item c.in-Some.span c.offset-start.result
          (c.offset-start.result + c.len.result) c.with_item-statement.result c.ends.result (gives here) (rest here) (starts here) (stops here) (begins here) (peeks here) (tests here) c.if-ends.false
          c.after.result c.after.ensures
          ∙ c.loop-item.invariant.found;
      begun = subst (IsBegun c.args.source.now c.next.new.self.place) (sym (c.after.ensures ∙ ap (λ b. after_item b c.in-Some.item) (begins here))) begun;
      within = within here;
    }
