-- What is below blocks that held nothing.
use Rattle.wac_tool.proofs.Common.{◌≡◌, ℕ, true, List, [], ◌++◌, length, sym, ap, ◌∙◌, subst, arith, length-append, Err, inl, inr, ◌&&◌, nat_eq, nil_from_length, and_parts, eqb-true}
use Rattle.std.proofs.lemmas.List.{append-nil}
use Rattle.wac_lexer.specs.Blocks.{Holding, given}
use Rattle.wac_tool.specs.Front.{is_front, Began}
use Rattle.wac_tool.specs.Blocks.{Fresh, Grown}
use Rattle.wac_tool.specs.Running.{Answers}
use Rattle.wac_tool.specs.declared.command.Command.{Command}
use Rattle.wac_tool.specs.declared.error.RunError.{RunError}
use Rattle.wac_tool.specs.declared.error.RunError.TheVariants.{Refused, Input, Output, Memory, NotUtf8}
use Rattle.wac_tool.proofs.Fronts.{is_front-append, is_front-chain}

-- Nothing was put.
unchanged : (old new : Holding) → Fresh old → Grown new → given new ≡ given old → new.sunk ≡ old.sunk
unchanged old new fresh grown e =
    let before : new.before ≡ old.before = cc in
    let tails : new.sunk ++ new.held ≡ old.sunk ++ old.held = cc in
    let bytes : new.sunk ++ new.held ≡ old.sunk = tails ∙ ap (λ x. old.sunk ++ x) fresh.0 ∙ append-nil old.sunk in
    let none : new.held ≡ [] = nil_from_length new.held (omega (arith, before, fresh.1, grown, ap length bytes, length-append new.sunk new.held)) in
    sym (append-nil new.sunk) ∙ ap (λ x. new.sunk ++ x) (sym none) ∙ bytes

-- the parts of a prefix that was put
parts : (old new : Holding) (text : List ℕ) → Began (given old) (given new) text → (new.before ≡ old.before) × (new.borrow ≡ old.borrow) × (is_front (new.sunk ++ new.held) ((old.sunk ++ old.held) ++ text) ≡ true)
unfolding is_front
parts old new text b =
    let t = and_parts (nat_eq new.before old.before) (nat_eq new.borrow old.borrow && is_front (new.sunk ++ new.held) ((old.sunk ++ old.held) ++ text)) b.0 in
    let s = and_parts (nat_eq new.borrow old.borrow) (is_front (new.sunk ++ new.held) ((old.sunk ++ old.held) ++ text)) t.1 in
    (eqb-true new.before old.before t.0, eqb-true new.borrow old.borrow s.0, s.1)

-- A prefix of a text was put.
begun : (old new : Holding) (text : List ℕ) → Fresh old → Grown new → Began (given old) (given new) text → Began old.sunk new.sunk text
begun old new text fresh grown b =
    let p = parts old new text b in
    let none : old.sunk ++ old.held ≡ old.sunk = ap (λ x. old.sunk ++ x) fresh.0 ∙ append-nil old.sunk in
    let front : is_front (new.sunk ++ new.held) (old.sunk ++ text) ≡ true = subst (λ x. is_front (new.sunk ++ new.held) (x ++ text) ≡ true) none p.2 in
    (is_front-chain new.sunk (new.sunk ++ new.held) (old.sunk ++ text) (is_front-append new.sunk new.held) front, omega (arith, p.0, fresh.1, grown))

-- An error that is right of the blocks is right of the sink below,
pub stopped : (command : Command) (error : RunError) (source : List ℕ) (old new : Holding) → Fresh old → Answers command (Err error) source (given old) (given new) → Grown new → Answers command (Err error) source old.sunk new.sunk
stopped command (Refused place message) source old new fresh a grown = (a.0, a.1, unchanged old new fresh grown a.2)
stopped command NotUtf8 source old new fresh a grown = (a.0, unchanged old new fresh grown a.1)
stopped command Input source old new fresh a grown = unchanged old new fresh grown a
stopped command Output source old new fresh a grown = (a.0, (a.1.0, a.1.1, begun old new a.1.0 fresh grown a.1.2))
stopped command (Memory m) source old new fresh (inl e) grown = inl (unchanged old new fresh grown e)
stopped command (Memory m) source old new fresh (inr i) grown = inr (i.0, i.1, begun old new i.0 fresh grown i.2)

same_borrow : (old new : Holding) → given new ≡ given old → new.borrow ≡ old.borrow
same_borrow old new e = cc

-- and leaves its borrow the same.
pub stopped_same : (command : Command) (error : RunError) (source : List ℕ) (old new : Holding) → Answers command (Err error) source (given old) (given new) → new.borrow ≡ old.borrow
stopped_same command (Refused place message) source old new a = same_borrow old new a.2
stopped_same command NotUtf8 source old new a = same_borrow old new a.1
stopped_same command Input source old new a = same_borrow old new a
stopped_same command Output source old new a = (parts old new a.1.0 a.1.2).1
stopped_same command (Memory m) source old new (inl e) = same_borrow old new e
stopped_same command (Memory m) source old new (inr i) = (parts old new i.0 i.2).1

-- All of a text was put, and some of it may be held.
pub held_on : (old mid new : Holding) (text : List ℕ) → Fresh old → given mid ≡ given old ++ text → given new ≡ given mid → Grown new → Began old.sunk new.sunk text
held_on old mid new text fresh e f grown =
    let before : new.before ≡ old.before = cc in
    let tails : new.sunk ++ new.held ≡ (old.sunk ++ old.held) ++ text = cc in
    let bytes : new.sunk ++ new.held ≡ old.sunk ++ text = tails ∙ ap (λ x. (old.sunk ++ x) ++ text) fresh.0 ∙ ap (λ x. x ++ text) (append-nil old.sunk) in
    (subst (λ x. is_front new.sunk x ≡ true) bytes (is_front-append new.sunk new.held), omega (arith, before, fresh.1, grown))
