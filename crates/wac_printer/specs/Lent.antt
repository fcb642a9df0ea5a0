-- The lifetime of trees that are lent.
use Rattle.std.specs.Prelude.{[]}
use denote.Ref.{NamedLft}
use mir.Syntax.{erased}

-- a lifetime that says nothing, at which the codes of a type are those at any other
abbrev pub no_lifetime : NamedLft
no_lifetime = record { mir = erased; lft = [] }
