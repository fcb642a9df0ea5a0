-- The places of the offsets of a line.
use Rattle.std.proofs.Common.{◌≡◌, ◌∙◌, ◌≤◌, ◌<◌, ◌+◌, ◌-◌, ℕ, List, false, sym, arith, subst, length, get_or, take, drop, ap}
use Rattle.std.proofs.lemmas.List.{drop-take, take-take, get_or-take, get_or-drop}
use Rattle.std.specs.Str.{IsCharBoundary}
use Rattle.std.specs.List.{slice_index}
use Rattle.wac_positions.specs.declared.place.ColumnUnit.{ColumnUnit}
use Rattle.wac_positions.specs.declared.place.Place.{Place}
use Rattle.wac_positions.specs.Lines.{line_starts, IsLine}
use Rattle.wac_positions.specs.Places.{is_continuation, units, line_at, column_at, place_at}
use Rattle.wac_positions.proofs.Columns.{leading, is_leading}
use Rattle.wac_positions.proofs.LinesAt.{InLine, line_of_offset, offset_of_line}

abbrev pub place : ℕ → ℕ → Place
place line column = record { line = line; column = column }

-- the place of an offset whose line is known, and where the line begins
pub place_is : (text : List ℕ) (unit : ColumnUnit) (o n start : ℕ) (front : List ℕ) → line_at text o ≡ n → start ≡ slice_index (line_starts text) n → front ≡ take (o - start) (drop start text) → place_at text unit o ≡ record { line = n; column = units unit front }
place_is text unit o n start front line begins is =
    let from : slice_index (line_starts text) (line_at text o) ≡ start = ap (slice_index (line_starts text)) line ∙ sym begins in
    let column : column_at text unit o ≡ units unit front = ap (λ (s : ℕ). units unit (take (o - s) (drop s text))) from ∙ ap (units unit) (sym is) in
    ap (λ (m : ℕ). place m (column_at text unit o)) line ∙ ap (place n) column

-- the bytes between two offsets, cut from either side
pub between : (text : List ℕ) (start o : ℕ) → start ≤ o → drop start (take o text) ≡ take (o - start) (drop start text)
between text start o le = let whole : start + (o - start) ≡ o = omega arith in ap (λ (n : ℕ). drop start (take n text)) (sym whole) ∙ drop-take start (o - start) text

-- the bytes of a line up to one of its offsets are those of the text
pub front_of_line : (text : List ℕ) (n start : ℕ) (bytes : List ℕ) (i : ℕ) → IsLine text n start bytes → i ≤ length bytes → take i bytes ≡ take (start + i - start) (drop start text)
front_of_line text n start bytes i h fits =
    let whole : bytes ≡ take (length bytes) (drop start text) = h.is ∙ drop-take start (length bytes) text in
    let same : start + i - start ≡ i = omega arith in
    ap (take i) whole ∙ take-take i (length bytes) (drop start text) fits ∙ ap (λ (k : ℕ). take k (drop start text)) (sym same)

pub place_of_offset : (text : List ℕ) (unit : ColumnUnit) (n start : ℕ) (bytes : List ℕ) (i : ℕ) → IsLine text n start bytes → i ≤ length bytes → (n + 1 < length (line_starts text) → i < length bytes)
    → place_at text unit (start + i) ≡ record { line = n; column = units unit (take i bytes) }
place_of_offset text unit n start bytes i h fits inside =
    place_is text unit (start + i) n start (take i bytes) (line_of_offset text n start bytes i h fits inside) h.begins.1 (front_of_line text n start bytes i h fits)

-- a byte of a line is one of the text
byte_of_line : (text : List ℕ) (n start : ℕ) (bytes : List ℕ) (i : ℕ) → IsLine text n start bytes → i < length bytes → get_or bytes i 0 ≡ get_or text (start + i) 0
byte_of_line text n start bytes i h lt =
    let whole : bytes ≡ take (length bytes) (drop start text) = h.is ∙ drop-take start (length bytes) text in
    ap (λ (l : List ℕ). get_or l i 0) whole ∙ get_or-take (length bytes) (drop start text) i 0 lt ∙ get_or-drop start text i 0

pub column_boundary : (text : List ℕ) (n start : ℕ) (bytes : List ℕ) (i : ℕ) → IsLine text n start bytes → i < length bytes → is_continuation (get_or bytes i 0) ≡ false → IsCharBoundary text (start + i)
column_boundary text n start bytes i h lt leads =
    let fits = h.fits in
    (omega arith, λ less above. leading (get_or text (start + i) 0) (subst (λ (b : ℕ). is_continuation b ≡ false) (byte_of_line text n start bytes i h lt) leads) above)

pub boundary_column : (text : List ℕ) (n start : ℕ) (bytes : List ℕ) (i : ℕ) → IsLine text n start bytes → i < length bytes → IsCharBoundary text (start + i) → is_continuation (get_or bytes i 0) ≡ false
boundary_column text n start bytes i h lt b =
    let fits = h.fits in
    subst (λ (x : ℕ). is_continuation x ≡ false) (sym (byte_of_line text n start bytes i h lt)) (is_leading (get_or text (start + i) 0) (b.1 (omega arith)))

-- an offset of this place, as one of its line
pub record AtColumn (text : List ℕ) (unit : ColumnUnit) (start : ℕ) (bytes : List ℕ) (column o : ℕ) : Type 0 where
  pub at : ℕ
  pub is : o ≡ start + at
  pub fits : at ≤ length bytes
  pub leads : at < length bytes → is_continuation (get_or bytes at 0) ≡ false
  pub counts : units unit (take at bytes) ≡ column
  pub end : at ≡ length bytes → o ≡ length text

pub denoted : (text : List ℕ) (unit : ColumnUnit) (n start : ℕ) (bytes : List ℕ) (column o : ℕ) → IsLine text n start bytes → IsCharBoundary text o → place_at text unit o ≡ place n column → AtColumn text unit start bytes column o
denoted text unit n start bytes column o h boundary there =
    let found : InLine text n start bytes o = offset_of_line text n start bytes o h (ap (λ (p : Place). p.line) there) boundary.0 in
    let from = found.from in
    let to = found.to in
    let i : ℕ = o - start in
    let is : o ≡ start + i = omega arith in
    let fits : i ≤ length bytes = omega arith in
    let inside : n + 1 < length (line_starts text) → i < length bytes = λ more. let less = found.inside more in omega arith in
    let here : place_at text unit (start + i) ≡ place n column = subst (λ (x : ℕ). place_at text unit x ≡ place n column) is there in
    record {
      at = i;
      is = is;
      fits = fits;
      leads = λ lt. boundary_column text n start bytes i h lt (subst (IsCharBoundary text) is boundary);
      counts = ap (λ (p : Place). p.column) (sym (place_of_offset text unit n start bytes i h fits inside) ∙ here);
      end = λ e. found.end (omega arith);
    }
