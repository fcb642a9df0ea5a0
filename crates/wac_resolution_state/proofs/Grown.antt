-- What stays as a graph gets more types.
use Rattle.wac_resolution_state.proofs.Common.{◌≡◌, ◌∙◌, List, [], ◌∷◌, Option, Some, None, refl, ap, IfSome, ItemKind, Slot, of_child, EachKind, Named, Names, ItemsNamed, Parts, means, entry_means, Numbering}
use Rattle.wac_resolution_state.specs.Growth.{Grows, GrowsPlainly}
use Rattle.wac_resolution_state.specs.Named.{scope_of}

pub grows_self : (g : Parts) → GrowsPlainly g g
grows_self g = record { grows = record { same = refl; named = λ k h. h; kinds = λ numbering k h. refl }; count = refl }

pub grows_on : (a b c : Parts) → Grows a b → Grows b c → Grows a c
grows_on a b c p q = record {
  same = q.same ∙ ap (λ (g : Parts). record g { types = c.types }) p.same;
  named = λ k h. q.named k (p.named k h);
  kinds = λ numbering k h. q.kinds numbering k (p.named k h) ∙ p.kinds numbering k h;
}

pub plainly_on : (a b c : Parts) → GrowsPlainly a b → GrowsPlainly b c → GrowsPlainly a c
plainly_on a b c p q = record { grows = grows_on a b c p.grows q.grows; count = q.count ∙ p.count }

pub still_named : (old new : Parts) (ks : Named ItemKind) → Grows old new → ItemsNamed old.types ks → ItemsNamed new.types ks
still_named old new [] g h = tt
still_named old new (k ∷ ks) g h = (g.named k.1 h.0, still_named old new ks g h.1)

-- named kinds still mean the same
pub scope_kept : (old new : Parts) (ks : Named ItemKind) (numbering : Numbering) → Grows old new → ItemsNamed old.types ks → scope_of numbering new ks ≡ scope_of numbering old ks
scope_kept old new [] numbering g h = refl
scope_kept old new (k ∷ ks) numbering g h =
    let one : means numbering new k.1 ≡ means numbering old k.1 = g.kinds numbering k.1 h.0 in
    let rest : scope_of numbering new ks ≡ scope_of numbering old ks = scope_kept old new ks numbering g h.1 in
    cc

pub child_kept : (old new : Parts) (x : Option ItemKind) (numbering : Numbering) → Grows old new → IfSome x (Names old.types) → of_child (entry_means numbering new) x ≡ of_child (entry_means numbering old) x
child_kept old new None numbering g h = refl
child_kept old new (Some k) numbering g h = g.kinds numbering k h

pub child_named : (old new : Parts) (x : Option ItemKind) → Grows old new → IfSome x (Names old.types) → IfSome x (Names new.types)
child_named old new None g h = tt
child_named old new (Some k) g h = g.named k h

pub each_still_named : (old new : Parts) (cs : List (Slot × Option ItemKind)) → Grows old new → EachKind (Names old.types) cs → EachKind (Names new.types) cs
each_still_named old new [] g h = tt
each_still_named old new (c ∷ cs) g h = (child_named old new c.1 g h.0, each_still_named old new cs g h.1)
