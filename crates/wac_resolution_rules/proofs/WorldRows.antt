-- A world that imports by itself what the world that it includes imports too.
use Rattle.wac_resolution_rules.proofs.Common.{◌≡◌, ℕ, List, [], ◌∷◌, None, refl, codes, map, span, Steps, entry_of, imports_of, exports_of, Numbering, Ident, WorldItem, WorldItemPath, WorldRef, TypeStatement}
use Rattle.wac_resolution_rules.specs.Paths.{Context}
use Rattle.wac_resolution_rules.specs.Composition.{Composition, start, kind_at}
use Rattle.wac_resolution_rules.specs.TypeStatements.{Declares}

-- the document's own package is a:b, and none is given
abbrev context_of : Numbering → Context
context_of numbering = record { numbering = numbering; own = codes "a:b"; version = None; packages = [] }

abbrev ident : List ℕ → ℕ → ℕ → Ident
ident text offset len = record { string = text; span = span offset len }

-- the names that an interface or world of a node imports and exports
abbrev imported_names : Composition → ℕ → List (List ℕ)
imported_names c n = map (λ e. e.0) (imports_of (entry_of (kind_at c.nodes n)))

abbrev exported_names : Composition → ℕ → List (List ℕ)
exported_names c n = map (λ e. e.0) (exports_of (entry_of (kind_at c.nodes n)))

-- package a:b; interface i { } world v { import i; } world w { import i; include v; }
abbrev document : List TypeStatement
document =
    TypeStatement.interface (record { docs = []; id = ident (codes "i") 23 1; items = [] })
    ∷ TypeStatement.world (record {
      docs = [];
      id = ident (codes "v") 35 1;
      items =
          WorldItem.world_import (record { docs = []; path = WorldItemPath.ident (ident (codes "i") 46 1) }) ∷ [];
    })
    ∷ TypeStatement.world (record {
      docs = [];
      id = ident (codes "w") 57 1;
      items =
          WorldItem.world_import (record { docs = []; path = WorldItemPath.ident (ident (codes "i") 68 1) })
          ∷ WorldItem.world_include (record { docs = []; world = WorldRef.ident (ident (codes "v") 79 1); items = [] }) ∷ [];
    })
    ∷ []

pub imports_once : (numbering : Numbering) → (new : Composition) × Steps (Declares (context_of numbering)) start document new × (imported_names new 2 ≡ codes "a:b/i" ∷ [])
imports_once numbering = (
  _,
  (
    _,
    (_, _, (_, (_, refl, refl, refl), refl), (refl, refl, refl)),
    (
      _,
      (_, _, (_, (_, _, (_, (_, refl, (refl, refl, refl)), refl), refl, refl, refl), refl), (refl, refl, refl)),
      (
        _,
        (
          _,
          _,
          (
            _,
            (
              _,
              _,
              (_, (_, refl, (refl, refl, refl)), (_, refl, refl)),
              (_, ([], _, refl, refl, refl, record { imports = _; exports = _; takes_imports = (_, refl, refl); takes_exports = refl; none_left = refl; is = refl }), refl),
              refl,
              refl,
            ),
            refl,
          ),
          (refl, refl, refl),
        ),
        refl,
      ),
    ),
  ),
  refl,
)
