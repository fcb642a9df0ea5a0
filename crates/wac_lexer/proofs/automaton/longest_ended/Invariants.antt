use Rattle.wac_lexer.proofs.Common.{◌≡◌, ◌<◌, take}
use Rattle.wac_lexer.specs.Automaton.{state_at, state_count}
use Rattle.wac_lexer.specs.Front.{found_at, longest}
use Rattle.wac_lexer.proofs.States.{Reads}
use Rattle.wac_lexer.proofs.automaton.longest_ended.Given as goal

abbrev pub invariant-loop-i : goal.invariant-loop-i
invariant-loop-i l =
    record {
      within : l.state < state_count;
      reads : Reads (state_at l.state) (take l.i l.bytes);
      found_is : found_at l.len l.last ≡ longest l.bytes l.i;
    }
