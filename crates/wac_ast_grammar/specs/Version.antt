-- The parts of a package's text: its name, the segments of a path, and the version after '@'.
use Rattle.std.specs.Prelude.{◌≡◌, ℕ, ◌==◌, nat_lt, List, length, Option, Some, None, Result, Ok, Err, Bool, true, false, if◌then◌else◌, codes, refl}
use Rattle.std.specs.List.{before_first, after_first, position_or_len}
use Rattle.wac_lexer.specs.Ascii.{at_sign, slash}
use Rattle.semver.specs.Parse.{Parts, version_parts, digits_from, scan}

abbrev pub is_at_sign : ℕ → Bool
is_at_sign b = b == at_sign

abbrev pub is_slash : ℕ → Bool
is_slash b = b == slash

-- the text after '@', if there is one
abbrev pub version_text : List ℕ → Option (List ℕ)
version_text text = if nat_lt (position_or_len is_at_sign text) (length text) then Some (after_first is_at_sign text) else None

-- the text before '@'
abbrev pub unversioned : List ℕ → List ℕ
unversioned text = before_first is_at_sign text

-- the name of a path: the text before the first '/'
abbrev pub path_name : List ℕ → List ℕ
path_name text = before_first is_slash text

-- the text after the first '/'
abbrev pub after_slash : List ℕ → List ℕ
after_slash text = after_first is_slash text

-- the segments of a path: the text between the first '/' and '@'
abbrev pub path_segments : List ℕ → List ℕ
path_segments text = after_slash (unversioned text)

abbrev pub is_ok : {A E : Type 0} → Result A E → Bool
is_ok (Ok a) = true
is_ok (Err e) = false

abbrev pub reads : Option (List ℕ) → Bool
reads None = true
reads (Some text) = is_ok (version_parts text)

-- the version text, if there is one, is a semantic version
abbrev pub reads_version : List ℕ → Bool
reads_version text = reads (version_text text)

abbrev pub ok_of : {A E : Type 0} → Result A E → Option A
ok_of (Ok a) = Some a
ok_of (Err e) = None

abbrev pub parts_of_text : Option (List ℕ) → Option Parts
parts_of_text None = None
parts_of_text (Some text) = ok_of (version_parts text)

-- the version of a package's text
abbrev pub version_of : List ℕ → Option Parts
version_of text = parts_of_text (version_text text)

text_1 : version_text (codes "a:b@1.2.3") ≡ Some (codes "1.2.3")
text_1 = refl

text_2 : version_text (codes "a:b/c") ≡ None
text_2 = refl

name_1 : unversioned (codes "a:b@1.2.3") ≡ codes "a:b"
name_1 = refl

name_2 : path_name (codes "a:b/c/d@1.2.3") ≡ codes "a:b"
name_2 = refl

segments_1 : path_segments (codes "a:b/c/d@1.2.3") ≡ codes "c/d"
segments_1 = refl

reads_1 : reads_version (codes "a:b@1.2.3-rc.1") ≡ true
unfolding digits_from scan
reads_1 = refl

reads_2 : reads_version (codes "a:b@1.2") ≡ false
unfolding digits_from scan
reads_2 = refl

reads_3 : reads_version (codes "a:b@01.2.3") ≡ false
unfolding digits_from scan
reads_3 = refl

version_1 : version_of (codes "a:b@1.2.3") ≡ Some (1, 2, 3, codes "", codes "")
unfolding digits_from scan
version_1 = refl
