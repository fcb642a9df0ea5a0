-- The package that is instantiated under a name.
use Rattle.wac_resolution_expressions.proofs.Common.{◌≡◌, ◌∙◌, Some, None, Bool, false, cond, refl, sym, ap, subst, slice_get, option_map, bytes_eq, PackageName, Parts, Key, HeldPackage, IsHeld, contents_in, supplied_packages, package_of, key_named, NodesStand, Context, Loads, packages_in}
use Rattle.wac_graph.specs.declared.node.PackageId.{PackageId}
use Rattle.wac_resolution_expressions.specs.Loaded.{IsInstantiable}
use Rattle.wac_resolution_expressions.proofs.Extending.{expands_extends, composition_same, held_contents}

pub instantiable_is : (s : Context) (old new : Parts) (x : PackageName) (id : PackageId) (held : HeldPackage) → bytes_eq x.name s.own.now ≡ false → NodesStand old → Loads (packages_in s) old new (key_named x) id.0
    → slice_get new.packages id.0 ≡ Some held → IsHeld new.types held → IsInstantiable s old new x (record { id = id; world = held.world })
instantiable_is s old new x id held other stand l found there = record {
  extends = expands_extends (packages_in s) old new l.grows stand l.supplied l.count;
  composition = composition_same old new l.grows stand l.count;
  held = held;
  loaded = record { found = found; world = refl; named = there.of_world };
  key = key;
  is = λ numbering rules.
      ap (λ (b : Bool). cond b None (package_of (key_named x) (supplied_packages numbering (packages_in s)))) other
      ∙ subst (λ (k : Key). package_of k (supplied_packages numbering (packages_in s)) ≡ Some (contents_in numbering new held)) key (held_contents (packages_in s) new id.0 held l.supplied found numbering);
}
  where
    key : held.key ≡ key_named x
    key = let both : Some held.key ≡ Some (key_named x) = sym (ap (option_map (λ (p : HeldPackage). p.key)) found) ∙ l.keyed in cc
