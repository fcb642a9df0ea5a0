-- Which names imports and exports may have.
use Rattle.std.specs.Prelude.{ℕ, List, [], ◌∷◌, length, Bool, false, ◌&&◌, ◌||◌, ◌==◌, not, nat_lt, cond}
use Rattle.std.specs.Char.{is_ascii_digit, is_ascii_lowercase, is_ascii_uppercase}
use Rattle.std.specs.List.{list_all, position_or_len, before_first, after_first, slice_split}
use Rattle.std.specs.Str.{bytes_eq, byte}
use Rattle.semver.specs.Order.{is_numeric}
use Rattle.semver.specs.Grammar.{is_build_identifier, is_pre_identifier, has_leading_zero}
use lib.Chars.{codes}

-- the pieces of a text between these bytes
abbrev pub pieces : ℕ → List ℕ → List (List ℕ)
pieces c text = slice_split (λ b. b == c) text

-- where a text has this byte, a test of what is before and after the first one, else a test of the text
abbrev pub parted : ℕ → (List ℕ → List ℕ → Bool) → (List ℕ → Bool) → List ℕ → Bool
parted c parts whole text = cond (nat_lt (position_or_len (λ b. b == c) text) (length text))
    (parts (before_first (λ b. b == c) text) (after_first (λ b. b == c) text))
    (whole text)

abbrev pub never : List ℕ → Bool
never text = false

-- ---- words

abbrev pub begins : (ℕ → Bool) → List ℕ → Bool
begins test [] = false
begins test (b ∷ rest) = test b

abbrev pub is_lower : ℕ → Bool
is_lower b = is_ascii_lowercase b || is_ascii_digit b

abbrev pub is_upper : ℕ → Bool
is_upper b = is_ascii_uppercase b || is_ascii_digit b

-- a letter, then letters of its case and digits
abbrev pub is_lower_word : List ℕ → Bool
is_lower_word text = begins is_ascii_lowercase text && list_all is_lower text

abbrev pub is_upper_word : List ℕ → Bool
is_upper_word text = begins is_ascii_uppercase text && list_all is_upper text

abbrev pub is_word : List ℕ → Bool
is_word text = is_lower_word text || is_upper_word text

-- words, joined by single hyphens
abbrev pub is_kebab : List ℕ → Bool
is_kebab text = list_all is_word (pieces (byte "-") text)

abbrev pub is_lower_kebab : List ℕ → Bool
is_lower_kebab text = list_all is_lower_word (pieces (byte "-") text)

-- ---- versions of SemVer

-- a number without needless zeros
abbrev pub is_number : List ℕ → Bool
is_number text = nat_lt 0 (length text) && (is_numeric text && not (has_leading_zero text))

-- three numbers
abbrev pub are_last_two : List ℕ → Bool
are_last_two text = parted (byte ".") (λ minor patch. is_number minor && is_number patch) never text

abbrev pub is_core : List ℕ → Bool
is_core text = parted (byte ".") (λ major rest. is_number major && are_last_two rest) never text

abbrev pub is_pre_release : List ℕ → Bool
is_pre_release text = list_all is_pre_identifier (pieces (byte ".") text)

abbrev pub is_build : List ℕ → Bool
is_build text = list_all is_build_identifier (pieces (byte ".") text)

-- three numbers, and a pre-release after a hyphen
abbrev pub is_release : List ℕ → Bool
is_release text = parted (byte "-") (λ core pre. is_core core && is_pre_release pre) is_core text

-- the same, and build metadata after a plus sign
abbrev pub is_version : List ℕ → Bool
is_version text = parted (byte "+") (λ release build. is_release release && is_build build) is_release text

-- ---- names

-- `interface`, or `interface@version`
abbrev pub is_versioned : List ℕ → Bool
is_versioned text = parted (byte "@") (λ interface version. is_kebab interface && is_version version) is_kebab text

-- `package/interface`
abbrev pub is_package_path : List ℕ → Bool
is_package_path text = parted (byte "/") (λ owner interface. is_kebab owner && is_versioned interface) never text

-- `namespace:package/interface`
abbrev pub is_interface_name : List ℕ → Bool
is_interface_name text = parted (byte ":") (λ namespace path. is_lower_kebab namespace && is_package_path path) never text

-- `resource.member`
abbrev pub is_member : List ℕ → Bool
is_member text = parted (byte ".") (λ resource member. is_kebab resource && is_kebab member) never text

-- `[constructor]resource`, `[method]resource.member` or `[static]resource.member`, at its closing bracket
abbrev pub is_of_resource : List ℕ → List ℕ → Bool
is_of_resource mark text =
    (bytes_eq mark (codes "[constructor") && is_kebab text)
    || ((bytes_eq mark (codes "[method") || bytes_eq mark (codes "[static")) && is_member text)

abbrev pub is_function_of_resource : List ℕ → Bool
is_function_of_resource text = parted (byte "]") is_of_resource never text

-- words joined by hyphens, or an interface's name, or that of a function of a resource
abbrev pub is_extern_name : List ℕ → Bool
is_extern_name text = is_kebab text || (is_interface_name text || is_function_of_resource text)
