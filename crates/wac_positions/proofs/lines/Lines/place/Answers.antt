use Rattle.std.proofs.Common.{arith, ◌≡◌, ◌∙◌, ◌≤◌, ◌-◌, ℕ, List, inl, inr, ap, sym, subst, take, drop, slice_index, slice_index_or}
use Rattle.std.proofs.lemmas.Bool.{cases_lt}
use Rattle.std.proofs.lemmas.List.{get_or_default}
use Rattle.wac_positions.specs.Lines.{line_starts}
use Rattle.wac_positions.specs.Places.{place_at, IsNearest}
use Rattle.wac_positions.proofs.PlacesAt.{place, place_is, between}
use Rattle.wac_positions.proofs.lines.Lines.place.Goals as goal

nearest : (c : goal.After-units) → IsNearest c.args.self.now c.args.offset c.floor_char_boundary-at.result
nearest c =
    let floor = c.floor_char_boundary-at.ensures in
    subst (λ (t : List ℕ). IsNearest t c.args.offset c.floor_char_boundary-at.result) c.self.view_is (record { before = floor.bound; boundary = floor.boundary; last = floor.nearest })

made : (c : goal.After-units) → place_at c.args.self.now c.args.unit c.floor_char_boundary-at.result ≡ place c.line_at-line.result c.units.result
made c =
    let text : List ℕ = c.args.self.now in
    let at : ℕ = c.floor_char_boundary-at.result in
    let line : ℕ = c.line_at-line.result in
    let start : ℕ = c.index-start.result.now in
    let items : c.self.inside.starts.items ≡ line_starts text = c.self.invariant.1 ∙ ap line_starts c.self.view_is in
    let begins : start ≡ slice_index (line_starts text) line =
    c.index-start.ensures ∙ ap (λ (l : List ℕ). slice_index_or l line start) items ∙ get_or_default (line_starts text) line start 0 c.line_at-line.ensures.within in
    let after : start ≤ at = let le = c.line_at-line.ensures.after in omega arith in
    let front : c.split_at-2.result.1.now ≡ take (at - start) (drop start text) =
    c.split_at-2.ensures.back ∙ ap (drop start) (c.split_at.ensures.front ∙ ap (take at) (c.as_bytes.ensures.value ∙ c.self.view_is)) ∙ between text start at after in
    place_is text c.args.unit at line start c.split_at-2.result.1.now (sym c.line_at-line.ensures.line) begins front ∙ ap (place line) (sym c.units.ensures)

pub returns-clause-nearest : goal.returns-clause-nearest
returns-clause-nearest c = (c.floor_char_boundary-at.result, nearest c, sym (made c))

pub returns-clause-exact : goal.returns-clause-exact
returns-clause-exact c here =
    let near = nearest c in
    let at : ℕ = c.floor_char_boundary-at.result in
    elim (cases_lt at c.args.offset) [
      | inl less ↦ absurd (near.last c.args.offset less (omega arith) here)
      | inr le ↦
          let same : at ≡ c.args.offset = let before = near.before in omega arith in
          sym (subst (λ (o : ℕ). place_at c.args.self.now c.args.unit o ≡ place c.line_at-line.result c.units.result) same (made c))
    ]
