-- The states of the walk over a text, as the code has them. Shapes and Tokens define what a token is, without them.
use Rattle.std.specs.Prelude.{ℕ, ◌&&◌, ◌||◌, nat_le, nat_eq, if◌then◌else◌, List, [], ◌∷◌, slice_index_or, Option, Some, None}
use Rattle.wac_lexer.specs.Ascii.{at_sign, capital_a, capital_z, close_brace, close_bracket, close_parenthesis, colon, comma, digit_nine, digit_zero, equals_sign, full_stop, greater_than_sign, hyphen, less_than_sign, open_brace, open_bracket, open_parenthesis, percent_sign, plus_sign, quotation_mark, semicolon, slash, small_a, small_z, underscore}
use Rattle.wac_lexer.specs.declared.shape.Shape.{Shape}
use Rattle.wac_lexer.specs.declared.shape.Shape.TheVariants as shapes

-- what a byte is to a state
pub data Class : Type 0 where
  Lower : Class
  Upper : Class
  Digit : Class
  Percent : Class
  Dash : Class
  Plus : Class
  Colon : Class
  Slash : Class
  At : Class
  Dot : Class
  Quote : Class
  CloseAngle : Class
  OtherSymbol : Class
  Other : Class

-- what a version text belongs to
pub data Package : Type 0 where
  Name : Package
  Path : Package

-- which identifier of a text is read
pub data Part : Type 0 where
  First : Part
  Later : Package → Part

-- what may follow the bytes that were read
pub data State : Type 0 where
  Start : State
  -- a word must follow: `%` or `-` was read
  Joined : Part → State
  -- in a word of small letters
  Small : Part → State
  -- in a word of capital letters
  Capital : Part → State
  -- an identifier must follow `:` in a name or `/` in a path
  After : Package → State
  -- the first digit of a version must follow
  Version : Package → State
  -- in the first number of a version
  Digits : Package → State
  -- after a point of a version
  Point : Package → State
  -- in a later part of a version
  Tail : Package → State
  -- in a string
  Inside : State
  -- after a string
  Closed : State
  Minus : State
  OneDot : State
  TwoDots : State
  -- after a whole symbol, which nothing continues
  Ended : State
  -- no text of any shape begins so
  Dead : State

abbrev pub class_of : ℕ → Class
class_of b =
    if nat_le small_a b && nat_le b small_z then Lower
    else (if nat_le capital_a b && nat_le b capital_z then Upper
    else (if nat_le digit_zero b && nat_le b digit_nine then Digit
    else (if nat_eq b percent_sign then Percent
    else (if nat_eq b hyphen then Dash
    else (if nat_eq b plus_sign then Plus
    else (if nat_eq b colon then Colon
    else (if nat_eq b slash then Slash
    else (if nat_eq b at_sign then At
    else (if nat_eq b full_stop then Dot
    else (if nat_eq b quotation_mark then Quote
    else (if nat_eq b greater_than_sign then CloseAngle
    else (if nat_eq b semicolon || (nat_eq b open_brace || (nat_eq b close_brace || (nat_eq b equals_sign || (nat_eq b open_parenthesis || (nat_eq b close_parenthesis || (nat_eq b less_than_sign || (nat_eq b underscore || (nat_eq b open_bracket || (nat_eq b close_bracket || (nat_eq b comma)))))))))) then OtherSymbol
    else Other))))))))))))

abbrev pub after_word_of : Part → Class → State
after_word_of part Dash = Joined part
after_word_of First Colon = After Name
after_word_of (Later Name) Colon = After Name
after_word_of (Later kind) Slash = After Path
after_word_of (Later kind) At = Version kind
after_word_of part class = Dead

abbrev pub step_of : State → Class → State
step_of Start Lower = Small First
step_of Start Upper = Capital First
step_of Start Percent = Joined First
step_of Start Quote = Inside
step_of Start Dash = Minus
step_of Start Dot = OneDot
step_of Start Colon = Ended
step_of Start Slash = Ended
step_of Start At = Ended
step_of Start CloseAngle = Ended
step_of Start OtherSymbol = Ended
step_of (Joined part) Lower = Small part
step_of (Joined part) Upper = Capital part
step_of (Small part) Lower = Small part
step_of (Small part) Digit = Small part
step_of (Small part) class = after_word_of part class
step_of (Capital part) Upper = Capital part
step_of (Capital part) Digit = Capital part
step_of (Capital part) class = after_word_of part class
step_of (After kind) Lower = Small (Later kind)
step_of (After kind) Upper = Capital (Later kind)
step_of (After kind) Percent = Joined (Later kind)
step_of (Version kind) Digit = Digits kind
step_of (Digits kind) Digit = Digits kind
step_of (Digits kind) Dot = Point kind
step_of (Point kind) Lower = Tail kind
step_of (Point kind) Upper = Tail kind
step_of (Point kind) Digit = Tail kind
step_of (Point kind) Dash = Tail kind
step_of (Point kind) Plus = Tail kind
step_of (Tail kind) Lower = Tail kind
step_of (Tail kind) Upper = Tail kind
step_of (Tail kind) Digit = Tail kind
step_of (Tail kind) Dash = Tail kind
step_of (Tail kind) Plus = Tail kind
step_of (Tail kind) Dot = Point kind
step_of Inside Quote = Closed
step_of Inside class = Inside
step_of Minus CloseAngle = Ended
step_of OneDot Dot = TwoDots
step_of TwoDots Dot = Ended
step_of state class = Dead

abbrev pub shape_of_package : Package → Shape
shape_of_package Name = shapes.Name
shape_of_package Path = shapes.Path

abbrev pub shape_at : State → Option Shape
shape_at (Small First) = Some shapes.Word
shape_at (Capital First) = Some shapes.Word
shape_at (Small (Later kind)) = Some (shape_of_package kind)
shape_at (Capital (Later kind)) = Some (shape_of_package kind)
shape_at (Digits kind) = Some (shape_of_package kind)
shape_at (Tail kind) = Some (shape_of_package kind)
shape_at Closed = Some shapes.Quoted
shape_at OneDot = Some shapes.Symbol
shape_at Ended = Some shapes.Symbol
shape_at state = None

-- The numbers that the code's tables give to classes and states. A token may end in the first thirteen states alone.
abbrev pub classes : List Class
classes = Lower ∷ Upper ∷ Digit ∷ Percent ∷ Dash ∷ Plus ∷ Colon ∷ Slash ∷ At ∷ Dot ∷ Quote ∷ CloseAngle ∷ OtherSymbol ∷ Other ∷ []

abbrev pub states : List State
states =
    Small First
    ∷ Capital First
    ∷ Small (Later Name)
    ∷ Capital (Later Name)
    ∷ Digits Name
    ∷ Tail Name
    ∷ Small (Later Path)
    ∷ Capital (Later Path)
    ∷ Digits Path
    ∷ Tail Path
    ∷ Closed
    ∷ OneDot
    ∷ Ended
    ∷ Start
    ∷ Joined First
    ∷ Joined (Later Name)
    ∷ Joined (Later Path)
    ∷ After Name
    ∷ After Path
    ∷ Version Name
    ∷ Version Path
    ∷ Point Name
    ∷ Point Path
    ∷ Inside
    ∷ Minus
    ∷ TwoDots
    ∷ Dead
    ∷ []

abbrev pub class_at : ℕ → Class
class_at n = slice_index_or classes n Other

abbrev pub state_at : ℕ → State
state_at n = slice_index_or states n Dead

-- the columns of the table of steps: one for each class, and two that are never read
abbrev pub class_count : ℕ
class_count = 16

-- its rows: one for each state
abbrev pub state_count : ℕ
state_count = 27

-- the rows in which a token may end, which are the first
abbrev pub end_count : ℕ
end_count = 13
