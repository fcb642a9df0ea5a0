use Rattle.std.proofs.Common.{rules, arith, of_calls, ◌≡◌, ◌≤◌, ◌+◌, ◌-◌, ◌∙◌, ℕ, List, true, false, ap, subst, slice_index, length, sym}
use Rattle.std.proofs.lemmas.List.Sorted.{IsPartitionedBy-leb, IsPartitionPoint-from_clause}
use Rattle.std.specs.List.Sorted.{IsPartitionPoint, IsPartitionedBy}
use lib.Dec.{leb}
use Rattle.wac_positions.specs.Lines.{line_starts}
use Rattle.wac_positions.specs.Places.{line_at}
use Rattle.wac_positions.proofs.LinesAt.{line_found, line_there, line_begins}
use Rattle.wac_positions.proofs.Starts.{starts_rise}
use Rattle.wac_positions.proofs.lines.Lines.line_at.Goals as goal

found : (c : goal.After-partition_point) → c.partition_point.result ≡ 1 + line_at c.args.self.now c.args.offset
found c =
    let o : ℕ = c.args.offset in
    let r : ℕ = c.partition_point.result in
    let text : List ℕ = c.args.self.now in
    let starts : List ℕ = c.deref.result.now in
    let same : starts ≡ line_starts text = c.deref.ensures.value ∙ c.self.invariant.1 ∙ ap line_starts c.self.view_is in
    let parted : IsPartitionedBy (λ x. leb x o) starts = subst (IsPartitionedBy (λ x. leb x o)) (sym same) (IsPartitionedBy-leb (λ x. x) (line_starts text) o (starts_rise text)) in
    let point : IsPartitionPoint (λ x. leb x o ≡ true) (λ x. leb x o ≡ false) starts r =
    IsPartitionPoint-from_clause (λ x. leb x o) starts r c.partition_point.ensures.partitioned parted (λ a b f k. search (rules, of_calls)) in
    line_found text o r (subst (λ (l : List ℕ). r ≤ length l) same c.partition_point.ensures.bound) (subst (λ (l : List ℕ). IsPartitionPoint (λ x. leb x o ≡ true) (λ x. leb x o ≡ false) l r) same point)

pub overflow_sub-result : goal.overflow_sub-result
overflow_sub-result c = let is = found c in omega arith

pub returns-clause-line : goal.returns-clause-line
returns-clause-line c = let is = found c in omega arith

pub returns-clause-within : goal.returns-clause-within
returns-clause-within c = let is = found c in let there = line_there c.args.self.now c.args.offset in omega arith

pub returns-clause-after : goal.returns-clause-after
returns-clause-after c =
    let is = found c in
    let line : c.partition_point.result - 1 ≡ line_at c.args.self.now c.args.offset = omega arith in
    subst (λ (n : ℕ). slice_index (line_starts c.args.self.now) n ≤ c.args.offset) (sym line) (line_begins c.args.self.now c.args.offset)
