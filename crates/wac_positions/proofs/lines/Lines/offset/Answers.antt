use Rattle.std.proofs.Common.{arith, ◌≡◌, ◌∙◌, ◌+◌, ℕ, List, Some, inl, inr, ap, sym, subst, length}
use Rattle.std.proofs.lemmas.Bool.{cases_lt}
use Rattle.wac_positions.specs.Places.{place_at}
use Rattle.wac_positions.proofs.Columns.{one_column}
use Rattle.wac_positions.proofs.PlacesAt.{AtColumn, place, place_of_offset, column_boundary, denoted}
use Rattle.wac_positions.proofs.lines.Lines.offset.Goals as goal

pub overflow_add-result : goal.overflow_add-result
overflow_add-result c =
    let fits = c.in_ok-start.ensures.fits in
    let lt = c.in-Some.ensures.found.0 in
    omega arith

pub returns-in-Some-clause-found : goal.returns-in-Some-clause-found
returns-in-Some-clause-found c =
    let line = c.in_ok-start.ensures.some in
    let column = c.in-Some.ensures.found in
    let n : ℕ = c.args.place.line in
    let bytes : List ℕ = c.in_ok-start.line.now in (
      column_boundary c.args.self.now n c.in_ok-start.start bytes c.in-Some.at line column.0 column.1.0,
      place_of_offset c.args.self.now c.args.unit n c.in_ok-start.start bytes c.in-Some.at line (let lt = column.0 in omega arith) (λ more. column.0) ∙ ap (place n) column.1.1,
    )

pub returns-in-Some-clause-only : goal.returns-in-Some-clause-only
returns-in-Some-clause-only c at h =
    let line = c.in_ok-start.ensures.some in
    let column = c.in-Some.ensures.found in
    let start : ℕ = c.in_ok-start.start in
    let bytes : List ℕ = c.in_ok-start.line.now in
    let there : AtColumn c.args.self.now c.args.unit start bytes c.args.place.column at = denoted c.args.self.now c.args.unit c.args.place.line start bytes c.args.place.column at line h.0 h.1 in
    let same : c.in-Some.at ≡ there.at = one_column c.args.unit bytes c.args.place.column c.in-Some.at there.at (let lt = column.0 in omega arith) there.fits (λ _. column.1.0) there.leads column.1.1 there.counts in
    ap Some (ap (λ (i : ℕ). start + i) same ∙ sym there.is)

pub returns-in-None-clause-only : goal.returns-in-None-clause-only
returns-in-None-clause-only c at h =
    let line = c.in_ok-start.ensures.some in
    let text : List ℕ = c.args.self.now in
    let bytes : List ℕ = c.in_ok-start.line.now in
    let there : AtColumn text c.args.unit c.in_ok-start.start bytes c.args.place.column at = denoted text c.args.unit c.args.place.line c.in_ok-start.start bytes c.args.place.column at line h.0 h.1 in
    elim (cases_lt there.at (length bytes)) [
      | inl lt ↦ absurd (c.find_column.ensures.none c.in-None.is there.at lt (there.leads lt, there.counts))
      | inr le ↦
          let end : at ≡ length text = there.end (let fits = there.fits in omega arith) in
          c.end.ensures.only (subst (λ (o : ℕ). place_at text c.args.unit o ≡ c.args.place) end h.1) ∙ ap Some (sym end)
    ]
