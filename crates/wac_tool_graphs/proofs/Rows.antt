-- Compositions whose lines are written out.
use Rattle.std.proofs.Common.{◌≡◌, ℕ, List, [], ◌∷◌, refl, Some, None, codes, false}
use Rattle.std.specs.Fmt.{digits}
use Rattle.wac_graph_types.specs.declared.kind.PrimitiveType.TheVariants as primitives
use Rattle.wac_graph_types.specs.Kind.{func, instance, a_value, primitive}
use Rattle.wac_graph_types.specs.Meaning.{Meaning}
use Rattle.wac_graph_types.specs.Shape.{kind_of, bare_kind, func_entry, interface_entry}
use Rattle.wac_resolution_rules.specs.Composition.{Composition, imported, definition, aliased, instantiated, start}
use Rattle.wac_tool_graphs.specs.Lines.{graph_lines}

-- func()
abbrev function : Meaning
function = kind_of func (func_entry false [] [])

abbrev instance_f : Meaning
instance_f = kind_of instance (interface_entry None [] ((codes "f", function) ∷ []))

-- ---- package a:b; import x: interface { f: func(); }; export x.f as g; export x.f as h;

abbrev exports_twice : Composition
exports_twice = record start {
  nodes = record { form = imported (codes "x"); kind = instance_f; name = Some (codes "x"); arguments = [] } ∷ record { form = aliased 0 (codes "f"); kind = function; name = None; arguments = [] } ∷ [];
  exports = (codes "g", 1) ∷ (codes "h", 1) ∷ [];
}

exports_twice_lines : graph_lines exports_twice ≡ codes "0 import x: instance [x]\n1 alias 0 f: function\nexport g = 1\nexport h = 1\n"
unfolding digits
exports_twice_lines = refl

-- ---- package a:b; type t = u32;

abbrev defines : Composition
defines = record start {
  nodes = record { form = definition; kind = bare_kind (a_value (primitive primitives.U32)); name = Some (codes "t"); arguments = [] } ∷ [];
  exports = (codes "t", 0) ∷ [];
}

defines_lines : graph_lines defines ≡ codes "0 definition: value type [t]\nexport t = 0\n"
unfolding digits
defines_lines = refl

-- ---- package a:b; import log: func(); let i = new c:d { log };

abbrev instantiates : (version : List ℕ) → Composition
instantiates version = record start {
  nodes = record { form = imported (codes "log"); kind = function; name = Some (codes "log"); arguments = [] }
      ∷ record { form = instantiated (codes "c:d", None); kind = instance_f; name = Some (codes "i"); arguments = (codes "log", 0) ∷ [] }
      ∷ record { form = instantiated (codes "c:d", Some version); kind = instance_f; name = None; arguments = (codes "log", 0) ∷ (codes "more", 1) ∷ [] } ∷ [];
}

instantiates_lines : graph_lines (instantiates (codes "1.0.0")) ≡ codes "0 import log: function [log]\n1 new c:d: instance [i]\n  log = 0\n2 new c:d@1.0.0: instance\n  log = 0\n  more = 1\n"
unfolding digits
instantiates_lines = refl
